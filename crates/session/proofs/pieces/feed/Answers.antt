-- A piece that is not empty, while a reply is awaited.
-- Assumes nothing.
use Rattle.std.proofs.Common.{◌≡◌, ℕ, ◌==◌, length, sym, ap, ◌∙◌, subst, true≢false}
use Rattle.words.specs.Contract.{Ran, Is}
use Rattle.model.specs.declared.State.{State}
use Rattle.model.specs.declared.Outcome.{Outcome}
use Rattle.session.proofs.Calls.{by_state, fed_some, reads}
use Rattle.session.proofs.pieces.feed.Goals as goal

pub returns-in-Waiting : goal.returns-in-Waiting
returns-in-Waiting c =
    let a = c.args in
    let w = c.in-Waiting in
    let some : length a.piece.now ≡ 0 → ⊥ = λ e. true≢false (sym (ap (λ (n : ℕ). n == 0) e) ∙ sym c.if-is_empty.ensures) in
    subst (λ (m : Ran Outcome). Is m c.outcome_of.result c.feed-fed.new.room)
    (ap (λ (z : State). by_state a.s a.room.now z a.piece.now) (sym w.is) ∙ fed_some a.s a.room.now a.piece.now some)
    (reads a.s a.room.now w.progress w.selected a.piece.now c.feed-fed.result some c.outcome_of.ensures c.feed-fed.ensures)
