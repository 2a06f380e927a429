-- The first row of the code's table that has a name: the row that comes next is it, or the rows behind it decide.
-- Assumes nothing.
use Prim.Native.Nat.{ℕ, suc, ◌+◌, ◌<◌}
use native.Mathlib.Numerals.{add-one}
use mathlib.Core.Path.{◌≡◌, sym, ap, subst, ◌∙◌}
use mathlib.Core.Bool.{Bool, true, false}
use mathlib.Core.List.{List, [], ◌∷◌}
use lib.ListN.{length, drop, get_or}
use lib.Seq.{drop-cons}
use Rattle.std.specs.Prelude.{Option, Some}
use Rattle.words.specs.Words.{pick}
use Rattle.lines.specs.Lines.{same, byte_at}
use Rattle.calls.specs.declared.Verb.{Verb}
use Rattle.calls.specs.declared.Shape.{Shape}
use Rattle.calls.specs.Table.{Named, first}

module _ (w : List ℕ) (rs : List Named) (i : ℕ) (d : Named) {found : Option (Verb × Shape)} {b : Bool} (h : i < length rs)
    (is : first w (drop i rs) ≡ found) (test : b ≡ same w (get_or rs i d).0.now) where
  abbrev next : Named
  next = get_or rs i d

  step : pick (same w next.0.now) (Some (next.1, next.2)) (first w (drop (suc i) rs)) ≡ found
  step = subst (λ (left : List Named). first w left ≡ found) (drop-cons rs i d h) is

  chosen : {c : Bool} → b ≡ c → pick c (Some (next.1, next.2)) (first w (drop (suc i) rs)) ≡ found
  chosen e = ap (λ (t : Bool). pick t (Some (next.1, next.2)) (first w (drop (suc i) rs))) (sym e ∙ test) ∙ step

  pub taken : b ≡ true → Some (next.1, next.2) ≡ found
  taken e = chosen e

  pub passed : b ≡ false → first w (drop (i + 1) rs) ≡ found
  passed e = rw (add-one i) (chosen e)

-- a word by its first letter, where that is no blank
pub headed : (w : List ℕ) {letter : ℕ} → byte_at w 0 ≡ letter → (32 ≡ letter → ⊥) → w ≡ letter ∷ drop 1 w
headed [] e none = absurd (none e)
headed (x ∷ xs) e none = ap (λ (y : ℕ). y ∷ xs) e
