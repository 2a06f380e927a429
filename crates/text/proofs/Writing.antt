-- Parts written one behind the other.
-- Assumes nothing.
use Prim.Native.Nat.{ℕ}
use mathlib.Core.Path.{subst}
use mathlib.Core.List.{List, [], ◌∷◌, ◌++◌}
use Rattle.words.specs.Contract.{Is}
use Rattle.text.specs.Writing.{written}

-- parts, then more parts
pub joined : (parts more : List (List ℕ)) (text : List ℕ) (at : ℕ) {next r : ℕ} {between exit : List ℕ} → Is (written text at parts) next between
    → Is (written between next more) r exit → Is (written text at (parts ++ more)) r exit
joined [] more text at {next} {r} {between} {exit} first rest =
    subst (λ (p : ℕ). Is (written text p more) r exit) first.answer
    (subst (λ (t : List ℕ). Is (written t next more) r exit) first.bytes rest)
joined (part ∷ parts) more text at first rest =
    let one = written text at (part ∷ []) in joined parts more one.bytes one.answer first rest
