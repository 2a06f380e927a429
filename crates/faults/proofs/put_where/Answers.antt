-- The line, the column and what stands about them, one behind the other.
-- Assumes nothing.
use Rattle.text.proofs.Adding.{◌then◌}
use Rattle.faults.proofs.put_where.Goals as goal

pub returns : goal.returns
returns c = c.put_count.ensures then c.put.ensures then c.put_column.ensures then c.put-2.ensures
