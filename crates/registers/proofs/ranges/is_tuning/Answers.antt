-- Of all values the table has those of tables 22 and 23.
-- Assumes nothing.
use Rattle.std.proofs.Common.{rules, arith}
use Rattle.registers.proofs.Rule.{tuned}
use Rattle.registers.proofs.ranges.is_tuning.Goals as goal

pub returns : goal.returns
returns c = tuned c.args.value (omega arith) (search rules)
