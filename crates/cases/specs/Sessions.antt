-- Worked sessions of document 01, "The chip as we track it" and "Refusals by number": the state that calls lead to, and the last answer.
-- Assumes nothing.
use Rattle.std.specs.Prelude.{ℕ, ◌≡◌, true, false, List, [], ◌∷◌, ◌++◌, map, replicate, None}
use Rattle.model.specs.declared.Interface.{Interface}
use Rattle.model.specs.declared.Interface.TheVariants.{Uart, Spi}
use Rattle.model.specs.declared.Refusal.TheVariants.{Short, Invalid, Unready, Busy, Malformed, Unawaited, ChipError, LowestTimeout, HighestTag, NoLevel, CalibrationError}
use Rattle.model.specs.declared.Plan.{Plan}
use Rattle.model.specs.declared.State.{State}
use Rattle.model.specs.declared.State.TheVariants.{PowerUp, Ready, Selected, Waiting, Lost}
use Rattle.model.specs.declared.Answer.{Answer}
use Rattle.model.specs.declared.Answer.TheVariants.{Done, Sent, More, Good, Reference, Refused}
use Rattle.model.specs.Frames.{idn, protocol_select, send_recv, idle, echo}
use Rattle.model.specs.Replies.{begun}
use Rattle.model.specs.Session.{made, is_off, protocol_of, is_selected, Call, power_on, pulse, request, reset, poll, read, calibrate, next, feed, unpowered}
use Rattle.model.specs.History.{Event, Reached, run, on, is_sent}
use Rattle.cases.specs.Awaiting.{to_echo, woke}
use Rattle.cases.specs.Starred.{plan, calibrating, room}

-- the calls after a power-on
abbrev pub after : Interface → List Call → Reached
after i calls = run (on unpowered i) calls

abbrev pub states : Interface → List (List Call) → List State
states i = map (λ (calls : List Call). (after i calls).session.state)

-- the answer to the newest call
abbrev pub newest : List Event → Answer
newest [] = Done
newest (e ∷ h) = e.answer

abbrev pub answers : Interface → List (List Call) → List Answer
answers i = map (λ (calls : List Call). newest (after i calls).history)

-- ---- calls that the cases share

abbrev pub selects : ℕ → List Call
selects protocol = request (protocol_select protocol (0x00 ∷ [])) room ∷ []

abbrev pub good : List Call
good = feed (0x00 ∷ 0x00 ∷ []) room ∷ []

abbrev pub error : List Call
error = feed (0x82 ∷ 0x00 ∷ []) room ∷ []

abbrev pub tag : List Call
tag = feed (0x00 ∷ 0x01 ∷ 0x02 ∷ []) room ∷ []

abbrev pub timeout : List Call
timeout = feed (0x00 ∷ 0x01 ∷ 0x01 ∷ []) room ∷ []

abbrev pub sleeps : List Call
sleeps = request (idle (calibrating 0x64)) room ∷ []

-- Selected with a protocol
abbrev pub selected : ℕ → List Call
selected protocol = pulse ∷ selects protocol ++ good

-- a byte that no reply to Echo has
abbrev pub lost : List Call
lost = pulse ∷ request echo room ∷ feed (0x54 ∷ []) room ∷ []

abbrev pub starts : List Call
starts = pulse ∷ calibrate plan room ∷ []

abbrev pub goes_on : List Call
goes_on = next room ∷ []

-- the eighth command, at level 00, is sent
abbrev pub eighth : List Call
eighth = starts ++ tag ++ goes_on ++ timeout ++ goes_on ++ timeout ++ goes_on ++ timeout ++ goes_on ++ timeout ++ goes_on ++ timeout ++ goes_on ++ timeout ++ goes_on

-- ---- states

abbrev pub Changes : Type 0
Changes =
    states Spi (
    [] ∷ (pulse ∷ []) ∷ selected 1 ∷ selected 0 ∷
    -- Idle forgets the selection; its error does not
    (selected 1 ++ sleeps ++ tag) ∷ (selected 1 ++ sleeps ++ error) ∷
    -- ProtocolSelect's error does; those of the others do not
    (selected 1 ++ selects 4 ++ error) ∷ (selected 4 ++ (request (send_recv (0x26 ∷ [])) room ∷ []) ++ error) ∷ (selected 4 ++ (request idn room ∷ []) ++ error) ∷
    -- a pulse changes Power-up alone, and a malformed byte is not forgiven by it
    (selected 3 ++ pulse ∷ []) ∷ lost ∷ (lost ++ pulse ∷ []) ∷
    -- a reset leads to Power-up from everywhere
    (selected 3 ++ reset room ∷ []) ∷ (lost ++ reset room ∷ []) ∷ (starts ++ reset room ∷ []) ∷
    -- poll and read change nothing
    (lost ++ poll room ∷ read 3 room ∷ []) ∷ (selected 2 ++ poll room ∷ read 3 room ∷ []) ∷ [])
    ≡
    PowerUp ∷ Ready ∷ Selected 1 ∷ Ready ∷ Ready ∷ Selected 1 ∷ Ready ∷ Selected 4 ∷ Selected 4 ∷ Selected 3 ∷ Lost ∷ Lost ∷
    PowerUp ∷ PowerUp ∷ PowerUp ∷ Lost ∷ Selected 2 ∷ []

-- ---- answers

abbrev pub Requests : Type 0
Requests =
    answers Uart (
    (request idn room ∷ []) ∷ (pulse ∷ request idn room ∷ []) ∷ (pulse ∷ request idn room ∷ request idn room ∷ []) ∷ (lost ++ request echo room ∷ []) ∷
    -- SendRecv outside Selected; empty with protocol 2 and with protocol 1
    (pulse ∷ request (send_recv []) room ∷ []) ∷ (selected 2 ++ request (send_recv []) room ∷ []) ∷ (selected 1 ++ request (send_recv []) room ∷ []) ∷
    -- 4 before 3 before 2 before 1
    (pulse ∷ request idn room ∷ request (send_recv []) [] ∷ []) ∷ (request (protocol_select 9 []) [] ∷ []) ∷ (pulse ∷ request (protocol_select 9 []) [] ∷ []) ∷
    (pulse ∷ request idn [] ∷ []) ∷
    -- no SPI transfer on UART
    (pulse ∷ reset room ∷ []) ∷ (pulse ∷ poll room ∷ []) ∷ (pulse ∷ read 1 room ∷ []) ∷ [])
    ≡
    Refused Unready ∷ Sent 2 ∷ Refused Busy ∷ Refused Unready ∷ Refused Unready ∷ Refused Invalid ∷ Sent 2 ∷
    Refused Busy ∷ Refused Unready ∷ Refused Invalid ∷ Refused Short ∷ Refused Invalid ∷ Refused Invalid ∷ Refused Invalid ∷ []

abbrev pub Feeds : Type 0
Feeds =
    answers Uart (
    -- what nobody asked for; an empty piece
    good ∷ (pulse ∷ good) ∷ (lost ++ good) ∷ (feed [] [] ∷ []) ∷
    -- a room of 527 bytes, a good reply, the chip's error, a reply cut in two, a byte that no reply has
    (pulse ∷ request idn room ∷ feed (0x00 ∷ []) (replicate 527 0x00) ∷ []) ∷ selected 1 ∷ (pulse ∷ selects 1 ++ error) ∷
    (pulse ∷ selects 1 ++ feed (0x82 ∷ []) room ∷ []) ∷ (pulse ∷ selects 1 ++ feed (0x82 ∷ []) room ∷ feed (0x00 ∷ []) room ∷ []) ∷ lost ∷ [])
    ≡
    Refused Unawaited ∷ Refused Unawaited ∷ Refused Unawaited ∷ More ∷ Refused Short ∷ Good ∷ Refused (ChipError 0x82) ∷
    More ∷ Refused (ChipError 0x82) ∷ Refused Malformed ∷ []

-- the caller's prescaler
abbrev pub prescaled : ℕ → Plan
prescaled p =
    record {
      prescaler = p;
      enter = plan.enter;
      wake = plan.wake;
      leave = plan.leave;
      period = plan.period;
      osc = plan.osc;
      dac = plan.dac;
      swing = plan.swing;
    }

abbrev pub Calibrations : Type 0
Calibrations =
    answers Spi (
    -- 4, 3, 2, 1
    (starts ++ calibrate (prescaled 4) [] ∷ []) ∷ (calibrate (prescaled 4) [] ∷ []) ∷ (pulse ∷ calibrate (prescaled 4) [] ∷ []) ∷ (pulse ∷ calibrate (prescaled 3) [] ∷ []) ∷
    -- the next command before the answer, after it, without a room, without a calibration, and once a reset ended it
    (starts ++ goes_on) ∷ (starts ++ tag ++ goes_on) ∷ (starts ++ tag ++ next [] ∷ []) ∷ (pulse ∷ goes_on) ∷ (starts ++ tag ++ reset room ∷ pulse ∷ goes_on) ∷
    -- no request while it runs; a request once it ended
    (starts ++ tag ++ request idn room ∷ []) ∷ (starts ++ timeout ++ request idn room ∷ []) ∷
    -- how it ends
    (starts ++ tag) ∷ (starts ++ timeout) ∷ (starts ++ tag ++ goes_on ++ tag) ∷ (starts ++ tag ++ goes_on ++ error) ∷ (starts ++ tag ++ goes_on ++ feed (0x01 ∷ []) room ∷ []) ∷
    (eighth ++ tag) ∷ (eighth ++ timeout) ∷ (eighth ++ error) ∷ [])
    ≡
    Refused Busy ∷ Refused Unready ∷ Refused Invalid ∷ Refused Short ∷
    Refused Busy ∷ Sent 17 ∷ Refused Short ∷ Refused Busy ∷ Refused Busy ∷
    Refused Busy ∷ Sent 3 ∷
    woke 0x02 ∷ Refused (LowestTimeout 1) ∷ Refused (HighestTag 2) ∷ Refused (CalibrationError 0x82 2) ∷ Refused Malformed ∷
    Reference 0x00 8 ∷ Refused (NoLevel 8) ∷ Refused (CalibrationError 0x82 8) ∷ []

-- ---- states

-- Selected is the one state with a protocol; Power-up and Lost take no request
pub record Selecting : Type 0 where
  pub is_selected_case : map is_selected (PowerUp ∷ Ready ∷ Selected 1 ∷ Waiting (begun to_echo) 1 ∷ Lost ∷ []) ≡ false ∷ false ∷ true ∷ false ∷ false ∷ []
  pub off : map is_off (PowerUp ∷ Ready ∷ Selected 1 ∷ Waiting (begun to_echo) 1 ∷ Lost ∷ []) ≡ true ∷ false ∷ false ∷ false ∷ true ∷ []
  pub protocol : map protocol_of (PowerUp ∷ Ready ∷ Selected 3 ∷ Waiting (begun to_echo) 3 ∷ Lost ∷ []) ≡ 0 ∷ 0 ∷ 3 ∷ 0 ∷ 0 ∷ []

-- power-on and a pulse are taken everywhere; the pulse leads from Power-up to Ready and changes nothing else
pub record Pulses : Type 0 where
  pub told : answers Uart ([] ∷ (pulse ∷ []) ∷ (lost ++ pulse ∷ []) ∷ (selected 2 ++ power_on Spi ∷ []) ∷ []) ≡ Done ∷ Done ∷ Done ∷ Done ∷ []
  pub led :
      states Uart ((pulse ∷ []) ∷ (pulse ∷ pulse ∷ []) ∷ (selected 2 ++ pulse ∷ []) ∷ (lost ++ pulse ∷ []) ∷ (pulse ∷ request echo room ∷ pulse ∷ []) ∷ []) ≡
      Ready ∷ Ready ∷ Selected 2 ∷ Lost ∷ Waiting (begun to_echo) 0 ∷ []
  -- the interface stays until the next power-on
  pub interface :
      map (λ (calls : List Call). (after Spi calls).session.interface) ((pulse ∷ []) ∷ selected 2 ∷ lost ∷ (selected 2 ++ reset room ∷ []) ∷ (selected 2 ++ power_on Uart ∷ []) ∷ []) ≡
      Spi ∷ Spi ∷ Spi ∷ Spi ∷ Uart ∷ []
  pub before_the_first : unpowered ≡ made Uart Lost None

-- ---- histories

-- the one answer that says that bytes were given out
abbrev pub Given : Type 0
Given = map is_sent (Done ∷ Sent 2 ∷ More ∷ Good ∷ woke 0x02 ∷ Reference 0x5C 8 ∷ Refused Busy ∷ []) ≡ false ∷ true ∷ false ∷ false ∷ false ∷ false ∷ false ∷ []
