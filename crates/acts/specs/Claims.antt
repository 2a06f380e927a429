-- What is promised of an inventory: for another number of slots than 1 and 16 it is refused with 4, 3 or 2, in this order, and changes nothing.
-- Assumes nothing.
use Rattle.std.specs.Prelude.{ℕ, ◌≡◌, not, List}
use Rattle.model.specs.declared.Refusal.{Refusal}
use Rattle.model.specs.declared.Refusal.TheVariants.{Invalid, Unready, Busy}
use Rattle.model.specs.declared.Session.{Session}
use Rattle.words.specs.Words.{pick}
use Rattle.model.specs.Session.{busy, is_selected, refuse}
use Rattle.calls.specs.declared.Act.TheVariants.{Inventory}
use Rattle.acts.specs.Acts.{acted}

-- a reply is awaited or a calibration runs, then no protocol is selected, then the number itself
abbrev pub first_of : Session → Refusal
first_of s = pick (busy s) Busy (pick (not (is_selected s.state)) Unready Invalid)

abbrev pub OtherSlots : Type 0
OtherSlots =
    (s : Session) (number : ℕ) (given out : List ℕ) → (number ≡ 1 → ⊥) → (number ≡ 16 → ⊥) → acted s Inventory number given out ≡ refuse s (first_of s) out
