-- Of all indexes the table has ARC_B's.
-- Assumes nothing.
use Rattle.std.proofs.Common.{◌∙◌, arith}
use Rattle.registers.proofs.Rule.{index_listed}
use Rattle.registers.proofs.ranges.is_index.Goals as goal

pub returns : goal.returns
returns c = c.is_set.ensures ∙ index_listed c.args.value (omega arith)
