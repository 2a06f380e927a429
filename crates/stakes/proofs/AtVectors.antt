-- The worked answers, requests and the dialogue, by computation.
-- Assumes nothing.
use mathlib.Core.Path.{refl}
use Rattle.crc.specs.Crc.{crc_of}
use Rattle.stakes.specs.Vectors.{Answers, Refusals, Requests, Heard}

answers : Answers
unfolding crc_of
answers = record { printed = refl; printed_lr = refl; printed_dual = refl; in_place = refl; put = refl; uid_written = refl }

refusals : Refusals
unfolding crc_of
refusals =
    record {
      other_lengths = refl;
      wrong_crc = refl;
      crc_exchanged = refl;
      statuses = refl;
      wrong_status = refl;
      length_first = refl;
      crc_before_status = refl;
    }

requests : Requests
requests = record { one_slot = refl; sixteen_slots = refl; too_short = refl }

heard : Heard
unfolding crc_of
heard = record { waiting = refl; since = refl; in_front = refl; stake_read = (refl, refl) }
