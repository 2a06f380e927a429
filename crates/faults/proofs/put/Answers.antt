-- Where it is, then what it is.
-- Assumes nothing.
use Rattle.text.proofs.Adding.{◌then◌}
use Rattle.faults.proofs.put.Goals as goal

pub returns : goal.returns
returns c = c.put_where.ensures then c.put_what.ensures
