-- A column that 64 bits can count.
-- Assumes nothing.
use Rattle.std.proofs.Common.{arith}
use Rattle.faults.proofs.Telling.{column_is}
use Rattle.faults.proofs.put_column.Goals as goal

pub returns-then-place-lt18446744073709551615 : goal.returns-then-place-lt18446744073709551615
returns-then-place-lt18446744073709551615 c = column_is c.args.place (omega arith) c.put_number.ensures
