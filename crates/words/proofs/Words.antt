-- Laws of the common words: how a choice is taken apart, the elements of a list by their indices, and a rule of every byte by one computed test.
-- Assumes nothing.
use Prim.Native.Nat.{ℕ, zero, suc, ◌+◌, ◌<◌}
use native.Mathlib.Nat.{not-suc-le-zero, eq-or-lt_of_le, le_of_suc-le-suc}
use native.Mathlib.Omega.{arith}
use mathlib.Core.Path.{◌≡◌, refl, sym, ap, ◌∙◌, subst}
use mathlib.Core.Bool.{Bool, true, false, not, ◌&&◌, beq}
use mathlib.Core.Logic.{inl, inr}
use mathlib.Core.List.{List, [], ◌∷◌}
use lib.Dec.{T}
use lib.Ieee.Fits.{and_l, and_r}
use lib.ListN.{length, get_or, drop, drop_of_length-le}
use lib.Seq.{drop-cons}
use borrow.Author.Tests.{lt-ltb, le-ltb, le-leb, lt-leb, eq-eqb, ne_eqb}
use Rattle.words.specs.Words.{pick, those, Bytes}

-- what holds of either choice, given its test, holds of the choice
pub ways : {A : Type 0} (P : A → Type 0) (b : Bool) {x y : A} → (b ≡ true → P x) → (b ≡ false → P y) → P (pick b x y)
ways P true h k = h refl
ways P false h k = k refl

-- and what holds of each two choices by one test holds of both
pub ways₂ : {A : Type 0} (P : A → A → Type 0) (b : Bool) {x y x' y' : A} → (b ≡ true → P x x') → (b ≡ false → P y y') → P (pick b x y) (pick b x' y')
ways₂ P true h k = h refl
ways₂ P false h k = k refl

-- n elements from index i on
abbrev pub elements : ℕ → ℕ → List ℕ → List ℕ
elements zero i xs = []
elements (suc n) i xs = get_or xs i 0 ∷ elements n (suc i) xs

pub elements_all : (n i : ℕ) (xs : List ℕ) → length xs ≡ i + n → elements n i xs ≡ drop i xs
elements_all zero i xs e = sym (drop_of_length-le xs {i = i} (omega arith))
elements_all (suc n) i xs e = ap (λ (l : List ℕ). get_or xs i 0 ∷ l) (elements_all n (suc i) xs (omega arith)) ∙ sym (drop-cons xs i 0 (omega arith))

-- each is a byte whose elements are
pub all_bytes : (xs : List ℕ) → ((k : ℕ) → get_or xs k 0 < 256) → Bytes xs
all_bytes [] h = tt
all_bytes (x ∷ xs) h = (h 0, all_bytes xs (λ k. h (suc k)))

-- a test of every number below n
abbrev pub all : (ℕ → Bool) → ℕ → Bool
all f zero = true
all f (suc n) = f n && all f n

-- what the test finds of all holds of each
pub each : (f : ℕ → Bool) (n : ℕ) → T (all f n) → (k : ℕ) → k < n → T (f k)
each f zero t k h = absurd (not-suc-le-zero h)
each f (suc n) t k h =
    elim (eq-or-lt_of_le (le_of_suc-le-suc h)) [
      | inl e ↦ subst (λ (z : ℕ). T (f z)) (sym e) (and_l (f n) (all f n) t)
      | inr l ↦ each f n (and_r (f n) (all f n) t) k l
    ]

-- where no number below n fails a test, all pass it
pub none_failed : (f : ℕ → Bool) (n : ℕ) (xs : List ℕ) → those (λ (k : ℕ). not (f k)) n xs ≡ [] → (xs ≡ []) × T (all f n)
none_failed f zero xs e = (e, tt)
none_failed f (suc n) xs e = go (f n) (none_failed f n (pick (not (f n)) (n ∷ xs) xs) e)
  where
    go : (t : Bool) → (pick (not t) (n ∷ xs) xs ≡ []) × T (all f n) → (xs ≡ []) × T (t && all f n)
    go true below = below
    go false below = let failed : suc (length xs) ≡ 0 = ap length below.0 in absurd (omega arith)

same : (a b : Bool) → T (beq a b) → a ≡ b
same true true t = refl
same true false t = absurd t
same false true t = absurd t
same false false t = refl

-- two tests that agree on every byte are one
pub same_on_bytes : (f g : ℕ → Bool) → T (all (λ (w : ℕ). beq (f w) (g w)) 256) → (w : ℕ) → w < 256 → f w ≡ g w
same_on_bytes f g t w h = same (f w) (g w) (each (λ (k : ℕ). beq (f k) (g k)) 256 t w h)

-- what a test that held or failed says of the function that the model tests by
pub ruleset cases = (lt-ltb, le-ltb, le-leb, lt-leb, eq-eqb, ne_eqb)
