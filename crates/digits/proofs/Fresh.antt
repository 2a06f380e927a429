-- Of what a buffer held before bytes were read into it, only its length matters.
-- Assumes nothing.
use Prim.Native.Nat.{ℕ, ◌+◌}
use native.Mathlib.Numerals.{add-one}
use mathlib.Core.Path.{◌≡◌, refl, sym, ap, ◌∙◌}
use mathlib.Core.List.{List, [], ◌∷◌, ◌++◌}
use lib.Dec.{ltb}
use lib.ListN.{length, take, set, length-set}
use lib.Seq.{take-suc-set}
use borrow.Author.Tests.{ltb-true}
use Rattle.std.specs.Prelude.{Option, Some, None, Result}
use Rattle.words.specs.Contract.{Ran}
use Rattle.words.proofs.Words.{ways₂}
use Rattle.lines.specs.Lines.{fore, rest, blank}
use Rattle.digits.specs.Hex.{byte_of, with_byte, read_on}
use Rattle.digits.specs.Claims.{count_of, Fresh}

-- two readings with the same answer and the same bytes
abbrev Alike : Ran (Result ℕ ℕ) → Ran (Result ℕ ℕ) → Type 0
Alike p q = let n = count_of p.answer in (p.answer ≡ q.answer) × (fore p.bytes n ≡ fore q.bytes n)

-- what holds of both whatever a byte is used for, and where there is none
with_each : {A : Type 0} (P : A → A → Type 0) (o : Option ℕ) {f g : ℕ → A} {x y : A} → ((value : ℕ) → P (f value) (g value)) → P x y
    → P (with_byte o f x) (with_byte o g y)
with_each P None h k = k
with_each P (Some value) h k = h value

alike : (xs : List ℕ) (place : ℕ) (b c : List ℕ) (n : ℕ) → length b ≡ length c → take n b ≡ take n c
    → Alike (read_on xs place b n) (read_on xs place c n)
alike [] place b c n l e = (refl, e)
alike (x ∷ []) place b c n l e = ways₂ Alike (blank x) (λ t. (refl, e)) (λ t. (refl, refl))
alike (x ∷ y ∷ xs) place b c n l e =
    ways₂ Alike (blank x) (λ t. alike (y ∷ xs) (place + 1) b c n l e)
    (λ t. with_each Alike (byte_of x y)
    (λ v. rw l
    (ways₂ Alike (ltb n (length c))
    (λ r. let inside = ltb-true n (length c) r in
    alike xs (place + 2) (set b n v) (set c n v) (n + 1) (length-set b n v ∙ l ∙ sym (length-set c n v))
    (rw (add-one n) (take-suc-set b n v (rw l inside) ∙ ap (λ (front : List ℕ). front ++ (v ∷ [])) e ∙ sym (take-suc-set c n v inside)))) (λ r. (refl, refl))))
    (refl, refl))

pub fresh : Fresh
fresh line from buffer other l = alike (rest line from) from buffer other 0 l refl
