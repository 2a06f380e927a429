-- What is left to write makes the rest of the text, and finds room.
-- Assumes nothing.
use Rattle.std.proofs.Common.{◌≡◌, ◌-◌, ◌*◌, ◌≤◌, length, drop}
use Rattle.text.specs.Writing.{written, hexes}
use Rattle.text.proofs.Text.put_bytes.Given as goal

abbrev pub invariant-loop-byte : goal.invariant-loop-byte
invariant-loop-byte l =
    (3 * (length l.fitting - l.byte-index) ≤ length l.text - l.at)
    × (written l.text l.at (hexes (drop l.byte-index l.fitting)) ≡ written l.initial.text l.initial.at (hexes l.fitting))
