-- The digits written and those to come are all digits.
-- Assumes nothing.
use Rattle.std.proofs.Common.{◌≡◌, ◌<◌, length}
use Rattle.durations.specs.Milliseconds.{fraction}
use Rattle.durations.proofs.Digits.{whole}
use Rattle.durations.proofs.milliseconds.fraction.Given as goal

abbrev pub invariant-loop-i : goal.invariant-loop-i
invariant-loop-i l = (whole (length l.initial.digits) l.digits l.i l.rest ≡ fraction (length l.initial.digits) l.fn.rest) × (l.rest < 32)
