-- What is left to read decides.
-- Assumes nothing.
use Rattle.std.proofs.Common.{◌≡◌, ◌-◌, ◌≤◌, length}
use Rattle.digits.specs.Hex.{read_on, read_bytes}
use Rattle.digits.proofs.read_bytes.Given as goal

abbrev pub invariant-loop-rest : goal.invariant-loop-rest
invariant-loop-rest l =
    (length l.rest ≤ length l.line) × (read_on l.rest (length l.line - length l.rest) l.bytes l.n ≡ read_bytes l.line l.from l.initial.bytes)

abbrev pub decreases-loop-rest : goal.decreases-loop-rest
decreases-loop-rest l = length l.rest
