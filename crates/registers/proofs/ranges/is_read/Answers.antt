-- Of all registers the table has two to be read.
-- Assumes nothing.
use Rattle.std.proofs.Common.{◌∙◌, arith}
use Rattle.registers.proofs.Rule.{read_listed}
use Rattle.registers.proofs.ranges.is_read.Goals as goal

pub returns : goal.returns
returns c = c.is_listed.ensures ∙ read_listed c.args.register (omega arith)
