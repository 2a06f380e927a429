-- The value so far, with the digits that are left behind it.
-- Assumes nothing.
use Rattle.std.proofs.Common.{◌≡◌, ◌^◌, ◌<◌, true, drop}
use Rattle.digits.specs.Decimal.{are_decimal, value_on, value_of}
use Rattle.digits.proofs.value_of.Given as goal

abbrev pub invariant-loop-byte : goal.invariant-loop-byte
invariant-loop-byte l =
    let left = drop l.byte-index l.word in
    (value_on l.value left ≡ value_of l.word) × (are_decimal left ≡ true) × (l.value < 10 ^ l.byte-index)
