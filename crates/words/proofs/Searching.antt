-- The first of some whose number is sought: what the last arm of a match on the numbers knows leaves none.
-- Assumes nothing.
use Prim.Native.Nat.{ℕ}
use mathlib.Core.Path.{◌≡◌, refl}
use mathlib.Core.List.{List, [], ◌∷◌}
use lib.Dec.{eqb}
use borrow.Author.Tests.{ne_eqb}
use Rattle.words.specs.Words.{pick}

module _ {A B : Type 0} (number : A → ℕ) (known : A → B) (unknown : B) (n : ℕ) where
  -- what is made of the first that has the number, or of none
  abbrev pub search : List A → B
  search [] = unknown
  search (a ∷ rest) = pick (eqb n (number a)) (known a) (search rest)

  -- the number is that of none of them
  abbrev pub NoneOf : Type 0 → List A → Type 0
  NoneOf P [] = P
  NoneOf P (a ∷ rest) = NoneOf (P × (n ≡ number a → ⊥)) rest

  before : (P : Type 0) (rest : List A) → NoneOf P rest → P
  before P [] h = h
  before P (a ∷ rest) h = (before (P × (n ≡ number a → ⊥)) rest h).0

  pub none : (P : Type 0) (rest : List A) → NoneOf P rest → unknown ≡ search rest
  none P [] h = refl
  none P (a ∷ rest) h =
      let Q = P × (n ≡ number a → ⊥) in simp (ne_eqb n (number a) (before Q rest h).1) (none Q rest h)
