-- What is left to do is the answer.
-- Assumes nothing.
use Rattle.std.proofs.Common.{length}
use Rattle.model.specs.declared.Step.TheVariants.{On}
use Rattle.replies.proofs.Strides.{Left}
use Rattle.replies.proofs.reading.walk.Given as goal

abbrev pub invariant-loop-rest : goal.invariant-loop-rest
invariant-loop-rest l = Left l.form (On l.fn.phase) l.piece (On l.reached) l.rest

abbrev pub decreases-loop-rest : goal.decreases-loop-rest
decreases-loop-rest l = length l.rest
