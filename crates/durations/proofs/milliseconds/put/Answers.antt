-- A number, and a point before digits.
-- Assumes nothing.
use Rattle.std.proofs.Common.{arith}
use Rattle.durations.proofs.Digits.{adds_pointed}
use Rattle.durations.proofs.milliseconds.put.Goals as goal

pub returns : goal.returns
returns c =
    adds_pointed c.args.ticks c.fraction-count.result c.fraction-count.new.digits c.fraction-count.ensures (omega (arith, c.fraction-count.auto.digits))
    c.if-count-eq0.false c.front.ensures c.put_number.ensures c.put.ensures c.put-2.ensures
