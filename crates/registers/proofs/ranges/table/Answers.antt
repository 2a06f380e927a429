-- The table, row by row.
-- Assumes nothing.
use Rattle.std.proofs.Common.{refl}
use Rattle.registers.specs.LookUp.{ranges}
use Rattle.registers.proofs.ranges.table.Goals as goal

pub returns : goal.returns
unfolding ranges
returns c = refl
