-- What is left to write makes the rest of the text.
-- Assumes nothing.
use Rattle.std.proofs.Common.{◌≡◌, drop}
use Rattle.text.specs.Writing.{written}
use Rattle.durations.specs.Milliseconds.{all_milliseconds}
use Rattle.durations.proofs.put_milliseconds.Given as goal

abbrev pub invariant-loop-ticks : goal.invariant-loop-ticks
invariant-loop-ticks l =
    let text = l.text in
    let start = l.initial.text in
    (text.bytes.ghost_name ≡ start.bytes.ghost_name)
    × (written text.bytes.now text.at (all_milliseconds (drop l.ticks-index l.given)) ≡ written start.bytes.now start.at (all_milliseconds l.given))
