-- What has leave is written, and sent or refused by the writer.
-- Assumes nothing.
use Rattle.model.specs.Frames.{command}
use Rattle.session.proofs.Calls.{asks}
use Rattle.session.proofs.requests.request.Goals as goal

pub returns-in-Ok : goal.returns-in-Ok
returns-in-Ok c =
    asks c.args.s (command c.args.kind c.args.payload.now) c.args.out.now c.leave_for.ensures c.in-Ok.is c.write-written.ensures c.requested.ensures
