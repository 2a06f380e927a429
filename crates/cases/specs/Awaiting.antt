-- Names that the cases share: bytes that all differ, what registers are given, the commands whose replies are awaited, answers and verdicts, and a frame read back as its command.
-- Assumes nothing.
use Rattle.std.specs.Prelude.{ℕ, zero, suc, ◌%◌, Bool, true, false, List, [], ◌∷◌, eqb, Err, Ok, Result}
use Rattle.model.specs.declared.Settings.{Settings}
use Rattle.words.specs.declared.Part.{Part}
use Rattle.model.specs.declared.Awaited.{Awaited}
use Rattle.model.specs.declared.Wake.{Wake}
use Rattle.model.specs.declared.Wake.TheVariants.{Timeout, Tag, IrqIn, SpiSs}
use Rattle.model.specs.declared.End.{End}
use Rattle.model.specs.declared.Verdict.{Verdict}
use Rattle.model.specs.declared.Answer.{Answer}
use Rattle.words.specs.Words.{pick}
use Rattle.model.specs.Refusals.{number_of, values_of}
use Rattle.model.specs.Frames.{Command, idn, protocol_select, send_recv, idle, rd_reg, wr_reg, echo, read_command}
use Rattle.model.specs.Frames.{command_of as named_by}
use Rattle.model.specs.Session.{awaited_of}
use Rattle.model.specs.declared.Frame.{Frame}
use Rattle.model.specs.declared.Refusal.{Refusal}

-- so many bytes from one on, no two of 256 alike
abbrev pub ascending : ℕ → ℕ → List ℕ
ascending from zero = []
ascending from (suc n) = from % 256 ∷ ascending (suc from) n

-- ---- what WrReg is given

-- the index is set to ARC_B, with the flag
abbrev pub index : ℕ → List ℕ
index flag = 0x68 ∷ flag ∷ 0x01 ∷ []

-- ARC_B is written
abbrev pub tuning : ℕ → ℕ → List ℕ
tuning flag value = 0x68 ∷ flag ∷ 0x01 ∷ value ∷ []

-- the timer window is written
abbrev pub window : ℕ → ℕ → List ℕ
window flag value = 0x3A ∷ flag ∷ value ∷ 0x04 ∷ []

-- ---- awaited commands

-- Active to Hibernate, woken by the sources given
abbrev pub sleeping : ℕ → Settings
sleeping source =
    record {
      source = source;
      enter = record { first = 0x04; second = 0x00 };
      wake = record { first = 0x04; second = 0x00 };
      leave = record { first = 0x18; second = 0x00 };
      period = 0;
      osc = 0;
      dac = 0;
      low = 0;
      high = 0;
      swing = 0;
      sleep = 0;
    }

abbrev pub to_idn : Awaited
to_idn = awaited_of idn

abbrev pub to_select : ℕ → Awaited
to_select protocol = awaited_of (protocol_select protocol (0x05 ∷ []))

abbrev pub to_send : Awaited
to_send = awaited_of (send_recv (0x26 ∷ []))

abbrev pub to_idle : ℕ → Awaited
to_idle source = awaited_of (idle (sleeping source))

abbrev pub to_read : ℕ → Awaited
to_read register = awaited_of (rd_reg register)

abbrev pub to_write : List ℕ → Awaited
to_write xs = awaited_of (wr_reg xs)

abbrev pub to_echo : Awaited
to_echo = awaited_of echo

-- ---- how a reply ends, as the reply table says it

abbrev pub good : Verdict
good = Verdict.Ended End.Good

abbrev pub failed : ℕ → Verdict
failed code = Verdict.Ended (End.Error code)

-- by the byte at a place of the reply
abbrev pub wrong : ℕ → ℕ → Verdict
wrong place byte = Verdict.Ended (End.Malformed place byte)

-- what woke the chip, by the event: 01 timeout, 02 tag, 08 IRQ_IN, and 10 SPI_SS
abbrev pub wake_by : ℕ → Wake
wake_by event = pick (eqb event 0x10) SpiSs (pick (eqb event 0x08) IrqIn (pick (eqb event 0x02) Tag Timeout))

abbrev pub waking : ℕ → Verdict
waking event = Verdict.Ended (End.Woken (wake_by event))

-- as a session answers it, and a calibration that goes on
abbrev pub woke : ℕ → Answer
woke event = Answer.Woken (wake_by event)

-- ---- answers and verdicts

-- a refusal's number and its values, a reference and the number of commands behind a 0, nothing of another answer
abbrev pub told_by : Answer → List ℕ
told_by Answer.Done = []
told_by (Answer.Sent n) = []
told_by Answer.More = []
told_by Answer.Good = []
told_by (Answer.Woken wake) = []
told_by (Answer.Reference reference commands) = 0 ∷ reference ∷ commands ∷ []
told_by (Answer.Refused k) = number_of k ∷ values_of k

abbrev pub is_wrong : End → Bool
is_wrong End.Good = false
is_wrong (End.Woken wake) = false
is_wrong (End.Error code) = false
is_wrong (End.Malformed place byte) = true

abbrev pub is_malformed : Verdict → Bool
is_malformed Verdict.More = false
is_malformed (Verdict.Ended e) = is_wrong e
is_malformed Verdict.NoRoom = false

-- ---- the command reader

abbrev pub command_by : List ℕ → Result Frame Refusal → List Command
command_by xs (Ok f) = named_by xs f ∷ []
command_by xs (Err k) = []

-- the one command that bytes are read as, or none
abbrev pub command_of : List ℕ → List Command
command_of xs = command_by xs (read_command xs)

abbrev pub start_and_count : Part → List ℕ
start_and_count p = p.start ∷ p.count ∷ []

abbrev pub part_by : Result Frame Refusal → List ℕ
part_by (Ok f) = start_and_count f.payload
part_by (Err k) = []

-- where the data stand in a frame, and how many they are
abbrev pub part_of : List ℕ → List ℕ
part_of xs = part_by (read_command xs)
