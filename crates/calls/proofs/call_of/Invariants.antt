-- What is left of the table decides.
-- Assumes nothing.
use Rattle.std.proofs.Common.{◌≡◌, drop}
use Rattle.calls.specs.Calls.{found, rows}
use Rattle.calls.specs.Table.{first}
use Rattle.calls.proofs.call_of.Given as goal

abbrev pub invariant-loop-name : goal.invariant-loop-name
invariant-loop-name l = first l.word (drop l.name-index l.name-items) ≡ found l.word rows
