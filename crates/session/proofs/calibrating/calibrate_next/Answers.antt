-- What is due next.
-- Assumes nothing.
use Rattle.session.proofs.Calls.{continues}
use Rattle.session.proofs.calibrating.calibrate_next.Goals as goal

pub returns : goal.returns
returns c = continues c.args.s c.args.out.now c.next.ensures c.test.ensures
