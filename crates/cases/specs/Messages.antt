-- Document 003, chapters 3 and 4, and document 02, P1: the messages that the chapters print, written and read, and what is malformed beside them.
-- Assumes nothing.
use Rattle.std.specs.Prelude.{ℕ, suc, ◌+◌, ◌-◌, ◌*◌, ◌/◌, ◌≡◌, Bool, true, false, List, [], ◌∷◌, ◌++◌, map, eqb, length, take, drop, replicate, Err, Ok, Result, None, Option, Some}
use Rattle.model.specs.declared.Kind.{Kind}
use Rattle.model.specs.declared.Refusal.{Refusal}
use Rattle.model.specs.declared.Refusal.TheVariants.{Short, Invalid}
use Rattle.model.specs.declared.Wake.TheVariants.{Tag}
use Rattle.model.specs.declared.End.{End}
use Rattle.model.specs.declared.Verdict.{Verdict}
use Rattle.model.specs.declared.Message.{Message}
use Rattle.model.specs.declared.Message.TheVariants.{Idn, GetFirmwareVersion, Inventory, GoToTagDetectingState, IsWakeUp, CalibrateTagDetecting}
use Rattle.words.specs.Words.{pick, within, those}
use Rattle.words.specs.Contract.{Ran}
use Rattle.model.specs.Refusals.{Number, none, number, number_of}
use Rattle.model.specs.Frames.{part}
use Rattle.model.specs.Messages.{messages, is_board_error, asking, answering, failing, write_command, write_answer, write_error, is_framed, is_numbered, read_message, awaited_of, by_end, by_verdict, read_answer, command_number, answer_number}
use Rattle.cases.specs.Awaiting.{ascending, to_idn, wrong}
use Rattle.cases.specs.Replies.{codes}
use Rattle.cases.specs.Published.{ran}
use Rattle.model.specs.declared.AnswerError.TheVariants.{BoardError, ChipError}
use Rattle.model.specs.declared.AnswerError.{AnswerError}
use Rattle.words.specs.declared.Part.{Part}

-- ---- words of these cases

-- an output of so many bytes: 90, 91, 92, ..
abbrev pub room : ℕ → List ℕ
room n = ascending 0x90 n

-- another byte at an index
abbrev pub altered : ℕ → ℕ → List ℕ → List ℕ
altered i b xs = take i xs ++ b ∷ drop (suc i) xs

abbrev pub is_taken : Option (Message × Part) → Bool
is_taken (Some (m, p)) = true
is_taken None = false

-- what an answer is read as: 0 good, 1 the MCU's error, 2 the chip's, 5 malformed
abbrev pub sort : Result Part AnswerError → ℕ
sort (Ok p) = 0
sort (Err (BoardError code)) = 1
sort (Err (ChipError code)) = 2
sort (Err AnswerError.Malformed) = 5

abbrev pub is_good : Result Part AnswerError → Bool
is_good r = eqb (sort r) 0

-- the bytes that are found in a command message, and in an answer
abbrev pub data_in : List ℕ → Option (Message × Part) → List ℕ
data_in xs (Some (m, p)) = within xs p
data_in xs None = []

abbrev pub carried_in : List ℕ → Result Part AnswerError → List ℕ
carried_in xs (Ok p) = within xs p
carried_in xs (Err (BoardError code)) = []
carried_in xs (Err (ChipError code)) = []
carried_in xs (Err AnswerError.Malformed) = []

-- the number of a writer's refusal
abbrev pub number_by : Result ℕ Refusal → Number
number_by (Ok n) = none
number_by (Err k) = number (number_of k)

abbrev pub is_sent : Result ℕ Refusal → Bool
is_sent (Ok n) = true
is_sent (Err k) = false

-- ---- the messages as they are printed

-- a command, what its message or its answer carries, and the bytes
pub record Printed : Type 0 where
  pub message : Message
  pub payload : List ℕ
  pub bytes : List ℕ

abbrev pub printed : Message → List ℕ → List ℕ → Printed
printed m xs bytes = record { message = m; payload = xs; bytes = bytes }

abbrev pub commands : List Printed
commands =
    -- 3.1
    printed Idn [] (0x01 ∷ 0x01 ∷ 0x00 ∷ []) ∷
    -- 4.1.1 and table 12
    printed GetFirmwareVersion [] (0x02 ∷ 0xBC ∷ 0x00 ∷ []) ∷
    -- table 19 and 4.4.3
    printed Inventory (0x26 ∷ []) (0x02 ∷ 0xA1 ∷ 0x01 ∷ 0x26 ∷ []) ∷
    -- table 23 and 4.7.3
    printed GoToTagDetectingState (0x6C ∷ 0x74 ∷ []) (0x02 ∷ 0xA3 ∷ 0x02 ∷ 0x6C ∷ 0x74 ∷ []) ∷
    -- table 25 and 4.7.3
    printed IsWakeUp [] (0x02 ∷ 0xA2 ∷ 0x00 ∷ []) ∷
    -- table 27 and 4.7.3
    printed CalibrateTagDetecting [] (0x02 ∷ 0xA4 ∷ 0x00 ∷ []) ∷
    []

-- 'NFC FS2JAST2' and a CRC
abbrev pub name : List ℕ
name = 0x4E ∷ 0x46 ∷ 0x43 ∷ 0x20 ∷ 0x46 ∷ 0x53 ∷ 0x32 ∷ 0x4A ∷ 0x41 ∷ 0x53 ∷ 0x54 ∷ 0x32 ∷ 0x00 ∷ 0x75 ∷ 0xD2 ∷ []

-- DSFID and UID of two tags, and with the third
abbrev pub pair : List ℕ
pair =
    0x00 ∷ 0xEC ∷ 0x19 ∷ 0x56 ∷ 0x3C ∷ 0x17 ∷ 0x22 ∷ 0x02 ∷ 0xE0 ∷ 0x00 ∷ 0x6E ∷ 0x8E ∷ 0x19 ∷ 0x38 ∷ 0x42 ∷ 0x20 ∷ 0x02 ∷ 0xE0 ∷ []

abbrev pub three : List ℕ
three = pair ++ 0x00 ∷ 0x31 ∷ 0x25 ∷ 0x56 ∷ 0x3C ∷ 0x17 ∷ 0x22 ∷ 0x02 ∷ 0xE0 ∷ []

abbrev pub answers : List Printed
answers =
    -- 3.1 and table 6
    printed Idn name (0x00 ∷ 0x0F ∷ name) ∷
    -- 4.1.1 and table 13
    printed GetFirmwareVersion (0x02 ∷ 0x00 ∷ 0x02 ∷ []) (0x00 ∷ 0x03 ∷ 0x02 ∷ 0x00 ∷ 0x02 ∷ []) ∷
    -- 4.4.3
    printed Inventory three (0x80 ∷ 0x1C ∷ 0x03 ∷ three) ∷
    -- table 24 and 4.7.3
    printed GoToTagDetectingState [] (0x80 ∷ 0x00 ∷ []) ∷
    -- table 26 and 4.7.3: IRQ_OUT is high, then low
    printed IsWakeUp (0x01 ∷ []) (0x80 ∷ 0x01 ∷ 0x01 ∷ []) ∷
    printed IsWakeUp (0x00 ∷ []) (0x80 ∷ 0x01 ∷ 0x00 ∷ []) ∷
    -- table 30 and 4.7.3
    printed CalibrateTagDetecting (0x6C ∷ 0x74 ∷ []) (0x80 ∷ 0x02 ∷ 0x6C ∷ 0x74 ∷ []) ∷
    []

abbrev pub size : Printed → ℕ
size p = length p.bytes

-- a writer's outcomes with an output of 32 bytes, one as long as the message, and one a byte shorter
abbrev pub outcomes : (Message → List ℕ → List ℕ → Ran (Result ℕ Refusal)) → Printed → List (Ran (Result ℕ Refusal))
outcomes write p = map (write p.message p.payload) (room 32 ∷ room (size p) ∷ room (size p - 1) ∷ [])

-- as they are to be: what stands behind the message stays, and a refusal writes nothing
abbrev pub right : Printed → List (Ran (Result ℕ Refusal))
right p =
    ran (Ok (size p)) (p.bytes ++ ascending (0x90 + size p) (32 - size p)) ∷ ran (Ok (size p)) p.bytes ∷
    ran (Err Short) (room (size p - 1)) ∷ []

pub record AsPrinted : Type 0 where
  pub asked : map (λ (p : Printed). asking p.message p.payload) commands ≡ map (λ (p : Printed). p.bytes) commands
  pub answered : map (λ (p : Printed). answering p.message p.payload) answers ≡ map (λ (p : Printed). p.bytes) answers
  pub commands_written : map (outcomes write_command) commands ≡ map right commands
  pub answers_written : map (outcomes write_answer) answers ≡ map right answers
  -- the data stand behind family, code and count; in an answer behind code and count, and tags behind their number
  pub commands_read :
      map (λ (p : Printed). read_message p.bytes) commands ≡
      Some (Idn, part 3 0) ∷ Some (GetFirmwareVersion, part 3 0) ∷ Some (Inventory, part 3 1) ∷ Some (GoToTagDetectingState, part 3 2) ∷
      Some (IsWakeUp, part 3 0) ∷ Some (CalibrateTagDetecting, part 3 0) ∷ []
  pub answers_read :
      map (λ (p : Printed). read_answer p.message p.bytes) answers ≡
      Ok (part 2 15) ∷ Ok (part 2 3) ∷ Ok (part 3 27) ∷ Ok (part 2 0) ∷
      Ok (part 2 1) ∷ Ok (part 2 1) ∷ Ok (part 2 2) ∷ []
  pub commands_back : map (λ (p : Printed). data_in p.bytes (read_message p.bytes)) commands ≡ map (λ (p : Printed). p.payload) commands
  pub answers_back :
      map (λ (p : Printed). carried_in p.bytes (read_answer p.message p.bytes)) answers ≡ map (λ (p : Printed). p.payload) answers
  -- 3.2.1: the MCU's timeout, to any of the six
  pub timeout : failing 0xFD ≡ 0xFD ∷ 0x00 ∷ []
  pub timeout_written :
      map (write_error 0xFD) (room 4 ∷ room 2 ∷ room 1 ∷ []) ≡
      ran (Ok 2) (0xFD ∷ 0x00 ∷ 0x92 ∷ 0x93 ∷ []) ∷ ran (Ok 2) (0xFD ∷ 0x00 ∷ []) ∷ ran (Err Short) (0x90 ∷ []) ∷ []
  pub timeout_read : map (λ (p : Printed). read_answer p.message (0xFD ∷ 0x00 ∷ [])) commands ≡ replicate 6 (Err (BoardError 0xFD))
  -- these are all
  pub all : messages ≡ map (λ (p : Printed). p.message) commands

-- ---- printed, and none of the six

abbrev pub Others : Type 0
Others =
    map read_message (
    -- table 40: it is SendSPIreset's (tables 14 and 37); GetFirmwareVersion is BC
    (0x02 ∷ 0xBD ∷ 0x00 ∷ []) ∷
    -- table 15 and 4.3.3: anticollision, whose answer is printed as the inventory's is
    (0x02 ∷ 0xA0 ∷ 0x01 ∷ 0x26 ∷ []) ∷
    -- table 31 prints B8 for PulseSPINSS, table 14 has B9
    (0x02 ∷ 0xB8 ∷ 0x00 ∷ []) ∷ (0x02 ∷ 0xB9 ∷ 0x00 ∷ []) ∷
    -- table 34 PulseIRQin, table 42 GetHardwareVersion, table 44 ActivateTagTracking
    (0x02 ∷ 0xBE ∷ 0x00 ∷ []) ∷ (0x02 ∷ 0xB2 ∷ 0x00 ∷ []) ∷ (0x02 ∷ 0xC4 ∷ 0x00 ∷ []) ∷
    -- table 50 CustomReadTagMemory, 4.16 ReadMCUBuffer
    (0x02 ∷ 0xB0 ∷ 0x03 ∷ 0x00 ∷ 0x00 ∷ 0x00 ∷ []) ∷ (0x02 ∷ 0xB1 ∷ 0x01 ∷ 0x00 ∷ []) ∷
    -- 3.2.1: Idle
    (0x01 ∷ 0x07 ∷ 0x0E ∷ 0x08 ∷ 0x01 ∷ 0x00 ∷ 0x38 ∷ 0x00 ∷ 0x18 ∷ 0x00 ∷ 0x00 ∷ 0x60 ∷ 0x00 ∷ 0x00 ∷ 0x00 ∷ 0x00 ∷ 0x00 ∷ []) ∷
    -- 4.7.3: Echo
    (0x01 ∷ 0x55 ∷ []) ∷ [])
    ≡ replicate 11 None

-- tables 17 and 21 give the third tag a digit 0 too many: shown with a whole byte 00 more
abbrev pub misprinted : List ℕ
misprinted = pair ++ 0x00 ∷ 0x00 ∷ 0x31 ∷ 0x25 ∷ 0x56 ∷ 0x3C ∷ 0x17 ∷ 0x22 ∷ 0x02 ∷ 0xE0 ∷ []

-- with the count that is printed, and with one that has the byte
abbrev pub ThirdTag : Type 0
ThirdTag = map (λ (n : ℕ). read_answer Inventory (0x80 ∷ n ∷ 0x03 ∷ misprinted)) (0x1C ∷ 0x1D ∷ []) ≡ replicate 2 (Err AnswerError.Malformed)

-- ---- beside the command messages

-- of each command message, the bytes that may stand at an index
abbrev pub taken_at : ℕ → List (List ℕ)
taken_at i = map (λ (p : Printed). those (λ (b : ℕ). is_taken (read_message (altered i b p.bytes))) 256 []) commands

-- the codes that may stand between a family and count and data
abbrev pub codes_taken : ℕ → List ℕ → List ℕ
codes_taken family rest = those (λ (code : ℕ). is_taken (read_message (family ∷ code ∷ rest))) 256 []

-- none, one, two, three and 14 data bytes behind their count
abbrev pub counted : List (List ℕ)
counted = map (λ (n : ℕ). n ∷ ascending 0x26 n) (0 ∷ 1 ∷ 2 ∷ 3 ∷ 14 ∷ [])

-- one family, one count and the codes of the table, of all 256 each
pub record BesideCommands : Type 0 where
  pub families : taken_at 0 ≡ (0x01 ∷ []) ∷ replicate 5 (0x02 ∷ [])
  pub counts : taken_at 2 ≡ (0x00 ∷ []) ∷ (0x00 ∷ []) ∷ (0x01 ∷ []) ∷ (0x02 ∷ []) ∷ (0x00 ∷ []) ∷ (0x00 ∷ []) ∷ []
  pub chip_codes : map (codes_taken 0x01) counted ≡ (0x01 ∷ []) ∷ [] ∷ [] ∷ [] ∷ [] ∷ []
  pub board_codes_case : map (codes_taken 0x02) counted ≡ (0xA2 ∷ 0xA4 ∷ 0xBC ∷ []) ∷ (0xA1 ∷ []) ∷ (0xA3 ∷ []) ∷ [] ∷ [] ∷ []
  pub exchanged : map read_message ((0x01 ∷ 0xBC ∷ 0x00 ∷ []) ∷ (0x02 ∷ 0x01 ∷ 0x00 ∷ []) ∷ []) ≡ replicate 2 None
  -- request flags, DacDataL and DacDataH are not checked; to the others it is a byte left over
  pub fourths : taken_at 3 ≡ [] ∷ [] ∷ ascending 0 256 ∷ ascending 0 256 ∷ [] ∷ [] ∷ []
  pub fifths : taken_at 4 ≡ [] ∷ [] ∷ [] ∷ ascending 0 256 ∷ [] ∷ [] ∷ []
  -- of a message and seven bytes more, only its own bytes are one
  pub lengths :
      map (λ (p : Printed). those (λ (n : ℕ). is_taken (read_message (take n (p.bytes ++ room 7)))) 11 []) commands ≡
      (3 ∷ []) ∷ (3 ∷ []) ∷ (4 ∷ []) ∷ (5 ∷ []) ∷ (3 ∷ []) ∷ (3 ∷ []) ∷ []
  pub too_few :
      map read_message ([] ∷ (0x01 ∷ []) ∷ (0x02 ∷ []) ∷ (0x01 ∷ 0x01 ∷ []) ∷ (0x01 ∷ 0x00 ∷ []) ∷ (0x02 ∷ 0xBC ∷ []) ∷ (0xBC ∷ 0x00 ∷ []) ∷ []) ≡
      replicate 7 None

-- ---- beside the answers

-- table 8
abbrev pub board_codes : List ℕ
board_codes = 0xF4 ∷ 0xF5 ∷ 0xF7 ∷ 0xF8 ∷ 0xF9 ∷ 0xFA ∷ 0xFD ∷ 0xFE ∷ []

-- to each of the six, the first bytes that make an answer of a sort with 00 behind them
abbrev pub firsts : ℕ → List (List ℕ)
firsts k = map (λ (p : Printed). those (λ (b : ℕ). eqb (sort (read_answer p.message (b ∷ 0x00 ∷ []))) k) 256 []) commands

-- a code alone; 01 behind it, without and with a byte; a byte left over
abbrev pub spoilt : ℕ → List (List ℕ)
spoilt code = (code ∷ []) ∷ (code ∷ 0x01 ∷ []) ∷ (code ∷ 0x01 ∷ 0x00 ∷ []) ∷ (code ∷ 0x00 ∷ 0x00 ∷ []) ∷ []

pub record Errors : Type 0 where
  pub table_8 : those is_board_error 256 [] ≡ board_codes
  -- the MCU's codes to any command, the chip's 13 to its own, 80 to GoToTagDetectingState; the rest is malformed
  pub boards : firsts 1 ≡ replicate 6 board_codes
  pub chips : firsts 2 ≡ codes ∷ replicate 5 []
  pub good : firsts 0 ≡ [] ∷ [] ∷ [] ∷ (0x80 ∷ []) ∷ [] ∷ [] ∷ []
  -- and each is told with its code
  pub told_by_boards :
      map (λ (p : Printed). map (λ (b : ℕ). read_answer p.message (b ∷ 0x00 ∷ [])) board_codes) commands ≡
      replicate 6 (map (λ (b : ℕ). Err (BoardError b)) board_codes)
  pub told_by_chips : map (λ (b : ℕ). read_answer Idn (b ∷ 0x00 ∷ [])) codes ≡ map (λ (b : ℕ). Err (ChipError b)) codes
  -- to any of the six, whatever is wrong behind a code
  pub bad :
      map (λ (p : Printed). map (λ (b : ℕ). map (read_answer p.message) (spoilt b)) (board_codes ++ codes)) commands ≡
      replicate 6 (replicate 21 (replicate 4 (Err AnswerError.Malformed)))
  pub written : map (λ (b : ℕ). write_error b (room 3)) board_codes ≡ map (λ (b : ℕ). ran (Ok 2) (b ∷ 0x00 ∷ 0x92 ∷ [])) board_codes
  -- no other code is written, and that is told before an output that is too short
  pub unwritten : those (λ (b : ℕ). is_sent (write_error b (room 2)).answer) 256 [] ≡ board_codes
  pub order :
      map (λ (b : ℕ). write_error b []) (0xF3 ∷ 0xF4 ∷ 0xF6 ∷ 0xFE ∷ 0xFF ∷ 0x87 ∷ []) ≡
      map (λ (k : Refusal). ran (Err k) []) (Invalid ∷ Short ∷ Invalid ∷ Short ∷ Invalid ∷ Invalid ∷ [])

-- of each answer that is printed, the bytes that may stand at an index
abbrev pub good_at : ℕ → List (List ℕ)
good_at i = map (λ (p : Printed). those (λ (b : ℕ). is_good (read_answer p.message (altered i b p.bytes))) 256 []) answers

-- those of some commands to which bytes are a good answer
abbrev pub takers : List ℕ → List Message → List Message
takers xs [] = []
takers xs (m ∷ ms) = pick (is_good (read_answer m xs)) (m ∷ takers xs ms) (takers xs ms)

pub record BesideAnswers : Type 0 where
  -- one response code and one count, of all 256
  pub responses : good_at 0 ≡ (0x00 ∷ []) ∷ (0x00 ∷ []) ∷ replicate 5 (0x80 ∷ [])
  pub counts : good_at 1 ≡ (0x0F ∷ []) ∷ (0x03 ∷ []) ∷ (0x1C ∷ []) ∷ (0x00 ∷ []) ∷ (0x01 ∷ []) ∷ (0x01 ∷ []) ∷ (0x02 ∷ []) ∷ []
  -- the number of tags, and the level of IRQ_OUT, 00 or 01; the rest is not checked
  pub thirds :
      good_at 2 ≡ ascending 0 256 ∷ ascending 0 256 ∷ (0x03 ∷ []) ∷ [] ∷ (0x00 ∷ 0x01 ∷ []) ∷ (0x00 ∷ 0x01 ∷ []) ∷ ascending 0 256 ∷ []
  -- of an answer and seven bytes more, only its own bytes are one
  pub lengths :
      map (λ (p : Printed). those (λ (n : ℕ). is_good (read_answer p.message (take n (p.bytes ++ room 7)))) 38 []) answers ≡
      (17 ∷ []) ∷ (5 ∷ []) ∷ (30 ∷ []) ∷ (2 ∷ []) ∷ (3 ∷ []) ∷ (3 ∷ []) ∷ (4 ∷ []) ∷ []
  -- count and data of a name agree on 14 and on 16; a byte is left over
  pub names :
      map (read_answer Idn) ((0x00 ∷ 0x0E ∷ ascending 0x31 14) ∷ (0x00 ∷ 0x10 ∷ ascending 0x31 16) ∷ (0x00 ∷ 0x0F ∷ ascending 0x31 16) ∷ []) ≡
      replicate 3 (Err AnswerError.Malformed)
  -- the answer to one command as that to another: 80 01 00 is an inventory of no tags too
  pub each_to_its_own :
      map (λ (p : Printed). takers p.bytes (map (λ (p : Printed). p.message) commands)) answers ≡
      (Idn ∷ []) ∷ (GetFirmwareVersion ∷ []) ∷ (Inventory ∷ []) ∷ (GoToTagDetectingState ∷ []) ∷ (IsWakeUp ∷ []) ∷ (Inventory ∷ IsWakeUp ∷ []) ∷
      (CalibrateTagDetecting ∷ []) ∷ []
  pub nothing : map (λ (p : Printed). read_answer p.message []) commands ≡ replicate 6 (Err AnswerError.Malformed)

-- ---- what is carried

-- how many data bytes a writer takes, of those below 30
abbrev pub sizes : (Message → List ℕ → List ℕ → Ran (Result ℕ Refusal)) → List (List ℕ)
sizes write = map (λ (p : Printed). those (λ (n : ℕ). is_sent (write p.message (ascending 0 n) (room 32)).answer) 30 []) commands

-- the number of data bytes of each command and of each answer, and the two levels of IRQ_OUT
pub record Carried : Type 0 where
  pub by_commands : sizes write_command ≡ (0 ∷ []) ∷ (0 ∷ []) ∷ (1 ∷ []) ∷ (2 ∷ []) ∷ (0 ∷ []) ∷ (0 ∷ []) ∷ []
  pub by_answers : sizes write_answer ≡ (15 ∷ []) ∷ (3 ∷ []) ∷ (0 ∷ 9 ∷ 18 ∷ 27 ∷ []) ∷ (0 ∷ []) ∷ (1 ∷ []) ∷ (2 ∷ []) ∷ []
  pub levels : those (λ (b : ℕ). is_sent (write_answer IsWakeUp (b ∷ []) (room 3)).answer) 256 [] ≡ 0x00 ∷ 0x01 ∷ []

-- ---- inventories

-- k tags: all bytes of up to 28 differ
abbrev pub tags : ℕ → List ℕ
tags k = ascending 0 (9 * k)

-- none, one, three and 28: the count is 1 + 9 times the number
abbrev pub numbers : List ℕ
numbers = 0 ∷ 1 ∷ 3 ∷ 28 ∷ []

abbrev pub inventories : List (List ℕ)
inventories = (0x80 ∷ 0x01 ∷ 0x00 ∷ []) ∷ (0x80 ∷ 0x0A ∷ 0x01 ∷ tags 1) ∷ (0x80 ∷ 0x1C ∷ 0x03 ∷ tags 3) ∷ (0x80 ∷ 0xFD ∷ 0x1C ∷ tags 28) ∷ []

pub record Inventoried : Type 0 where
  pub written : map (λ (k : ℕ). answering Inventory (tags k)) numbers ≡ inventories
  -- what stands behind the tags stays
  pub whole :
      map (λ (k : ℕ). write_answer Inventory (tags k) (room 256)) (0 ∷ 1 ∷ 28 ∷ []) ≡
      ran (Ok 3) (0x80 ∷ 0x01 ∷ 0x00 ∷ ascending 0x93 253) ∷ ran (Ok 12) (0x80 ∷ 0x0A ∷ 0x01 ∷ tags 1 ++ ascending 0x9C 244) ∷
      ran (Ok 255) (0x80 ∷ 0xFD ∷ 0x1C ∷ tags 28 ++ 0x8F ∷ []) ∷ []
  pub read :
      map (read_answer Inventory) inventories ≡ Ok (part 3 0) ∷ Ok (part 3 9) ∷ Ok (part 3 27) ∷ Ok (part 3 252) ∷ []
  pub back : map (λ (xs : List ℕ). carried_in xs (read_answer Inventory xs)) inventories ≡ map tags numbers
  -- 29 tags, and a number of bytes that is none of tags
  pub invalid :
      map (λ (n : ℕ). write_answer Inventory (ascending 0 n) (room 300)) (261 ∷ 1 ∷ 8 ∷ 10 ∷ 251 ∷ 253 ∷ []) ≡
      replicate 6 (ran (Err Invalid) (room 300))
  -- what is not to be written is told before an output that is too short
  pub order :
      map (λ (n : ℕ). write_answer Inventory (ascending 0 n) []) (261 ∷ 8 ∷ 252 ∷ 0 ∷ []) ≡
      map (λ (k : Refusal). ran (Err k) []) (Invalid ∷ Invalid ∷ Short ∷ Short ∷ [])
  -- a count that is 9 times the number; a number that is one less, and one more, than the tags
  pub miscounted :
      map (read_answer Inventory) (
      (0x80 ∷ 0x1B ∷ 0x03 ∷ tags 3) ∷ (0x80 ∷ 0x1B ∷ tags 3) ∷ (0x80 ∷ 0x1C ∷ 0x02 ∷ tags 3) ∷ (0x80 ∷ 0x1C ∷ 0x04 ∷ tags 3) ∷
      (0x80 ∷ 0x00 ∷ 0x00 ∷ []) ∷ (0x80 ∷ 0x01 ∷ 0x01 ∷ []) ∷ (0x80 ∷ 0x0A ∷ 0x00 ∷ tags 1) ∷ [])
      ≡ replicate 7 (Err AnswerError.Malformed)
  -- count and number as the bytes have them: tags are whole, and at most 28
  pub whole_tags :
      those (λ (n : ℕ). is_good (read_answer Inventory (0x80 ∷ suc n ∷ (n / 9) ∷ ascending 0 n))) 275 [] ≡ map (λ (k : ℕ). 9 * k) (ascending 0 29)
  -- 29 tags with what a byte keeps of their count
  pub wrapped : read_answer Inventory (0x80 ∷ 0x06 ∷ 0x1D ∷ tags 29) ≡ Err AnswerError.Malformed

-- ---- numbers

pub record Numbered : Type 0 where
  -- malformed is 5, and nothing else that is read has a number
  pub commands : map command_number (Some (Inventory, part 3 1) ∷ None ∷ []) ≡ none ∷ number 5 ∷ []
  pub answers :
      map answer_number (Ok (part 2 15) ∷ Err (BoardError 0xFD) ∷ Err (ChipError 0x87) ∷ Err AnswerError.Malformed ∷ []) ≡ none ∷ none ∷ none ∷ number 5 ∷ []
  -- what cannot be carried is 2, before an output that is too short, 1
  pub written :
      map (λ (r : Ran (Result ℕ Refusal)). number_by r.answer) (
      write_command Inventory [] [] ∷ write_command Inventory (0x26 ∷ []) (room 3) ∷ write_command Inventory (0x26 ∷ []) (room 4) ∷
      write_answer Inventory (tags 29) [] ∷ write_answer Inventory (tags 28) (room 254) ∷ write_answer Inventory (tags 28) (room 255) ∷
      write_error 0xF6 [] ∷ write_error 0xFD (room 1) ∷ write_error 0xFD (room 2) ∷ [])
      ≡ number 2 ∷ number 1 ∷ none ∷ number 2 ∷ number 1 ∷ none ∷ number 2 ∷ number 1 ∷ none ∷ []

-- ---- small definitions, at values that no message brings them to

pub record SmallParts : Type 0 where
  pub framed :
      map is_framed ([] ∷ (0x00 ∷ []) ∷ (0x80 ∷ 0x00 ∷ []) ∷ (0x80 ∷ 0x01 ∷ []) ∷ (0x80 ∷ 0x01 ∷ 0x05 ∷ []) ∷ (0x80 ∷ 0x01 ∷ 0x05 ∷ 0x06 ∷ []) ∷ []) ≡
      false ∷ false ∷ true ∷ false ∷ true ∷ false ∷ []
  pub numbered : map is_numbered ([] ∷ (0x00 ∷ []) ∷ (0x01 ∷ []) ∷ (0x01 ∷ tags 1) ∷ []) ≡ false ∷ true ∷ false ∷ true ∷ []
  pub awaited : awaited_of Kind.Idn ≡ to_idn
  pub woken : by_end (End.Woken Tag) 3 ≡ Ok (part 2 1)
  pub unended : by_verdict Verdict.More 2 2 ∷ by_verdict Verdict.NoRoom 2 2 ∷ by_verdict (wrong 1 0x0E) 2 2 ∷ [] ≡ replicate 3 (Err AnswerError.Malformed)
