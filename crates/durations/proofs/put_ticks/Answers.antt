-- The six numbers are written behind their name.
-- Assumes nothing.
use Rattle.text.proofs.Adding.{◌then◌}
use Rattle.durations.proofs.put_ticks.Goals as goal

pub returns : goal.returns
returns c = c.put.ensures then c.put_numbers.ensures
