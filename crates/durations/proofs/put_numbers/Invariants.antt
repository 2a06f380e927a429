-- What is left to write makes the rest of the text.
-- Assumes nothing.
use Rattle.std.proofs.Common.{◌≡◌, drop}
use Rattle.text.specs.Writing.{written}
use Rattle.durations.specs.Durations.{numbers}
use Rattle.durations.proofs.put_numbers.Given as goal

abbrev pub invariant-loop-n : goal.invariant-loop-n
invariant-loop-n l =
    let text = l.text in
    let start = l.initial.text in
    (text.bytes.ghost_name ≡ start.bytes.ghost_name)
    × (written text.bytes.now text.at (numbers (drop l.n-index l.given)) ≡ written start.bytes.now start.at (numbers l.given))
