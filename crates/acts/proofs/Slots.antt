-- An inventory for another number of slots than 1 and 16 is refused.
-- Assumes nothing.
use Prim.Native.Nat.{ℕ}
use mathlib.Core.Path.{◌≡◌, refl, sym, ap, ◌∙◌}
use mathlib.Core.Bool.{Bool, true, false, not}
use mathlib.Core.List.{List}
use borrow.Author.Tests.{ne_eqb}
use Rattle.model.specs.declared.Refusal.TheVariants.{Invalid, Unready, Busy}
use Rattle.model.specs.declared.State.{State}
use Rattle.model.specs.declared.State.TheVariants.{PowerUp, Ready, Selected, Waiting, Lost}
use Rattle.model.specs.declared.Session.{Session}
use Rattle.words.specs.Words.{pick}
use Rattle.model.specs.Frames.{send_recv}
use Rattle.model.specs.Session.{busy, unready, is_selected, request, step, refuse}
use Rattle.acts.specs.Acts.{no_request, request_for}
use Rattle.acts.specs.Claims.{OtherSlots}

pub for_none : (n : ℕ) → (n ≡ 1 → ⊥) → (n ≡ 16 → ⊥) → no_request ≡ request_for n
for_none n other others = simp (ne_eqb n 1 other, ne_eqb n 16 others)

-- SendRecv is taken in Selected alone
selected : (state : State) → unready state (send_recv no_request) ≡ not (is_selected state)
selected PowerUp = refl
selected Ready = refl
selected (Selected protocol) = refl
selected (Waiting progress protocol) = refl
selected Lost = refl

in_order : (s : Session) (out : List ℕ) (a b : Bool)
    → pick a (refuse s Busy out) (pick b (refuse s Unready out) (refuse s Invalid out)) ≡ refuse s (pick a Busy (pick b Unready Invalid)) out
in_order s out true b = refl
in_order s out false true = refl
in_order s out false false = refl

pub other_slots : OtherSlots
other_slots s n given out other others =
    ap (λ (xs : List ℕ). step s (request (send_recv xs) out)) (sym (for_none n other others))
    ∙ ap (λ (b : Bool). pick (busy s) (refuse s Busy out) (pick b (refuse s Unready out) (refuse s Invalid out))) (selected s.state)
    ∙ in_order s out (busy s) (not (is_selected s.state))
