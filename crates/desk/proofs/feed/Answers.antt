-- What the piece came to, as text: the answer, what was used and held, then the state.
-- Assumes nothing.
use Rattle.std.proofs.Common.{refl, rules}
use Rattle.words.specs.Contract.{Ran}
use Rattle.model.specs.declared.Outcome.{Outcome}
use Rattle.text.proofs.Adding.{◌then◌}
use Rattle.desk.specs.Desk.{feeding, feed_told}
use Rattle.desk.proofs.Telling.{lent, telling, by_outcome}
use Rattle.desk.proofs.feed.Goals as goal

pub returns : goal.returns
returns c =
    let a = c.args in
    let o = c.feed_on-outcome in
    let model = feeding a.post a.piece.now a.room.now in (
      by_outcome (λ (ran : Ran Outcome). feed_told a.post a.piece.now ran a.text.now) {ran = model} {o = o.result} {buffer = o.new.room} o.ensures
          (telling refl (lent (search rules) (c.put_answer.ensures then c.put_used.ensures then c.put_state.ensures).puts)),
      o.ensures.bytes,
    )
