-- Long replies, by computation.
-- Assumes nothing.
use mathlib.Core.Path.{refl}
use Rattle.cases.specs.Lengths.{Lengths, Pieces, Rooms, Unmade}

pub lengths : Lengths
lengths = record { told = refl; replies = refl; by_bits = refl; codes = refl; beside = refl }

pub pieces : Pieces
pieces =
    record {
      whole_ones = refl;
      before_the_length = refl;
      behind_the_length = refl;
      behind_one = refl;
      behind_254 = refl;
      begun_so = refl;
      counted_so = refl;
      one_there = refl;
      one_missing = refl;
      cut_in_five = refl;
    }

pub rooms : Rooms
rooms = record { untouched = refl; front = refl; filled = refl; kept = refl; least = refl }

pub unmade : Unmade
unmade = record { last = refl; too_many = refl; counts = refl; results = refl; counted = refl; others = refl; waking = refl }
