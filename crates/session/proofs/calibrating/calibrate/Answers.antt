-- What is due at the start.
-- Assumes nothing.
use Rattle.session.proofs.Calls.{starts}
use Rattle.session.proofs.calibrating.calibrate.Goals as goal

pub returns : goal.returns
returns c = starts c.args.s c.args.out.now c.args.plan c.first.ensures c.test.ensures
