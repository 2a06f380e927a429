-- No more of the piece is read than is there, and no piece is as long as the answer asks.
-- Assumes nothing.
use Rattle.std.proofs.Common.{ap, arith}
use Rattle.model.specs.declared.Step.TheVariants.{On}
use Rattle.model.specs.declared.Walk.{Walk}
use Rattle.model.proofs.Machine.{used_most}
use Rattle.replies.proofs.reading.feed.Goals as goal

pub answer-requires : goal.answer-requires
answer-requires c =
    let a = c.args in
    omega (arith, ap (λ (v : Walk). v.used) c.walk-walk.ensures, used_most c.form_of.result (On a.progress.phase) a.piece.now)
