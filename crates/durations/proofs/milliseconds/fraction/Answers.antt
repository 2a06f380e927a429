-- One digit more leaves all digits as they were.
-- Assumes nothing.
use Rattle.std.proofs.Common.{sym, ◌∙◌, rules}
use Rattle.durations.proofs.Digits.{digit_on}
use Rattle.durations.proofs.milliseconds.fraction.Goals as goal

pub loop-i-preserved : goal.loop-i-preserved
loop-i-preserved c =
    let l = c.loop-i in
    (digit_on _ l.digits (sym l.auto.digits) l.i l.rest c.loop-i-test.true c.if-rest-eq0.false ∙ l.invariant.0, search rules)
