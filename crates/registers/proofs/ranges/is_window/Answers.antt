-- Of all values the table has 50 to 60.
-- Assumes nothing.
use Rattle.std.proofs.Common.{rules, arith}
use Rattle.registers.proofs.Rule.{windowed}
use Rattle.registers.proofs.ranges.is_window.Goals as goal

pub returns : goal.returns
returns c = windowed c.args.value (omega arith) (search rules)
