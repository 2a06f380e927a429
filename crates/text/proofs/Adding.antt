-- Parts added one behind the other.
-- Assumes nothing.
use Prim.Native.Nat.{ℕ}
use mathlib.Core.Path.{◌≡◌, ◌∙◌, subst, subst⁻¹}
use mathlib.Core.List.{List, [], ◌∷◌, ◌++◌}
use Rattle.text.specs.Writing.{decimal, number}
use Rattle.text.specs.Adding.{Adds}
use Rattle.text.specs.declared.Text.{Text}
use Rattle.text.proofs.Writing.{joined}

infixr 40 ◌then◌
pub ◌then◌ : {parts more : List (List ℕ)} {old between new : Text} → Adds old parts between → Adds between more new → Adds old (parts ++ more) new
◌then◌ {parts} {more} {old} first rest =
    record {
      same = rest.same ∙ first.same;
      puts = record { is = joined parts more old.bytes.now old.at first.puts.is rest.puts.is };
    }

-- parts of a value that is known to be another
pub by : {A : Type 0} (f : A → List (List ℕ)) {x y : A} {old new : Text} → x ≡ y → Adds old (f y) new → Adds old (f x) new
by f {old = old} {new} e adds = subst⁻¹ (λ z. Adds old (f z) new) e adds

-- a blank, then digits
pub adds_number : (n : ℕ) {old between new : Text} {digits : List ℕ} → Adds old ((32 ∷ []) ∷ []) between → digits ≡ decimal n
    → Adds between (digits ∷ []) new → Adds old (number n) new
adds_number n {between = between} {new} blank is rest =
    blank then subst (λ (l : List ℕ). Adds between (l ∷ []) new) is rest
