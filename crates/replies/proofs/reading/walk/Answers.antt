-- Behind a stride, what is left to do is the answer.
-- Assumes nothing.
use Rattle.model.specs.declared.Step.TheVariants.{On}
use Rattle.replies.proofs.Strides.{left_on, left_over}
use Rattle.replies.proofs.reading.walk.Goals as goal

pub loop-rest-preserved : goal.loop-rest-preserved
loop-rest-preserved c =
    let a = c.args in
    let l = c.loop-rest in
    left_on a.form (On a.phase) a.piece.now l.reached l.rest.now c.stride-stride.result _ c.in-len1-up.len_at_least c.in-On.is c.stride-stride.ensures l.invariant

pub returns-in-Over : goal.returns-in-Over
returns-in-Over c =
    let a = c.args in
    let l = c.loop-rest in
    left_over a.form (On a.phase) a.piece.now _ _
    (left_on a.form (On a.phase) a.piece.now l.reached l.rest.now c.stride-stride.result _ c.in-len1-up.len_at_least c.in-Over.is c.stride-stride.ensures l.invariant)
