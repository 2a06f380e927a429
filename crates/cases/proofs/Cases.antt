-- The worked cases, by computation.
-- Assumes nothing.
use native.Mathlib.Omega.{arith}
use mathlib.Core.Path.{refl}
use lib.Ieee.{round, of_bits, of_int}
use Rattle.model.specs.Times.{t_l, t_ref, t_inactive, t_to, t_osc, t_dac, milliseconds}
use Rattle.cases.specs.Starred.{Starred}
use Rattle.cases.specs.Replies.{Codes, Good-replies, Bad-replies, Pieces, Places}
use Rattle.cases.specs.Sessions.{Changes, Requests, Feeds, Calibrations, Selecting, Pulses, Given}
use Rattle.cases.specs.Published.{Frames, Read, Refused, Transfers, Outputs, Received, Prescalers, Waits, Numbers, Values, Reported, Mild, Told}
use Rattle.cases.specs.Copying.{Widest, Wider, Bits, Parts, Copies, Lays, Joined}

pub starred : Starred
unfolding t_l t_ref t_inactive t_to t_osc t_dac milliseconds round of_bits of_int
starred =
    record {
      calibration_frame = λ level. refl;
      calibration_ticks = λ level. refl;
      calibration_times = λ level. refl;
      calibration_told = refl;
      calibration_waits = refl;
      longest_ticks = refl;
      longest_time = refl;
      longest_wait = refl;
      switch_at_5c = refl;
      tag_only_at_00 = refl;
      timeout_only_at_fc = refl;
      references = refl;
      bands = refl;
      poll_flags = refl;
      awaited_idle = refl;
      awaited_send_recv = refl;
    }

pub frames : Frames
frames = refl

pub taken : Read
taken = refl

pub refused : Refused
refused = refl

pub transfers : Transfers
transfers = refl

pub outputs : Outputs
outputs =
    record {
      past_the_bytes = refl;
      just_enough = refl;
      spi_byte_counts = refl;
      rule_before_room = refl;
      nine_parameters = refl;
      too_much = refl;
      one_to_read = refl;
      none_to_read = refl;
      too_much_to_read = refl;
      most_to_read = refl;
      uart_has_no_reset = refl;
      uart_has_no_poll = refl;
      uart_has_no_read = refl;
    }

pub back : Received
back = refl

pub prescalers : Prescalers
prescalers = refl

pub waits : Waits
unfolding t_l t_ref t_inactive t_to milliseconds round of_int
waits = record { at_a_level = refl; at_most = refl; without_end = refl; no_source = refl; no_times = refl }

pub numbers : Numbers
numbers = refl

pub values : Values
values = refl

pub told : Told
told = record { numbers = refl; values = refl }

pub reported : Reported
reported = refl

pub mild : Mild
mild = refl

pub codes : Codes
codes = refl

pub good : Good-replies
good = refl

pub bad : Bad-replies
bad = refl

pub pieces : Pieces
pieces =
    record {
      nothing = refl;
      short_room = refl;
      whole = refl;
      without_data = refl;
      one = refl;
      two = refl;
      three = refl;
      four = refl;
      late = refl;
      event = refl;
      error = refl;
      full = refl;
      overfull = refl;
      counted_echo = refl;
      strange = refl;
    }

pub places : Places
places = refl

pub changes : Changes
changes = refl

pub requests : Requests
requests = refl

pub fed : Feeds
fed = refl

pub calibrations : Calibrations
calibrations = refl

pub selecting : Selecting
selecting = record { is_selected_case = refl; off = refl; protocol = refl }

pub pulses : Pulses
pulses = record { told = refl; led = refl; interface = refl; before_the_first = refl }

pub given : Given
given = refl

pub widest : Widest
widest = (omega arith, tt)

pub wider : Wider
wider (below, _) = omega (arith, below)

pub bits : Bits
bits = refl

pub parts : Parts
parts = refl

pub copies : Copies
copies = refl

pub lays : Lays
lays = refl

pub joined : Joined
joined = refl
