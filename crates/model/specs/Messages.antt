-- Document 003, chapters 3 and 4, and document 02, P1: the messages between a host and the DEMO_CR95HF board.
-- Assumes nothing.
use Rattle.std.specs.Prelude.{ℕ, ◌-◌, ◌*◌, ◌/◌, ◌%◌, ◌≤◌, ◌<◌, ◌≡◌, Bool, true, false, not, ◌&&◌, ◌||◌, ◌↔◌, List, [], ◌∷◌, ◌++◌, ltb, leb, eqb, length, drop, get_or, Err, None, Ok, Option, Result, Some}
use Rattle.model.specs.declared.Refusal.{Refusal}
use Rattle.model.specs.declared.Refusal.TheVariants.{Short, Invalid}
use Rattle.words.specs.declared.Part.{Part}
use Rattle.model.specs.declared.Kind.{Kind}
use Rattle.model.specs.declared.Awaited.{Awaited}
use Rattle.model.specs.declared.End.{End}
use Rattle.model.specs.declared.Verdict.{Verdict}
use Rattle.model.specs.declared.Verdict.TheVariants.{More, Ended, NoRoom}
use Rattle.model.specs.declared.Message.{Message}
use Rattle.model.specs.declared.Message.TheVariants.{Idn, GetFirmwareVersion, Inventory, GoToTagDetectingState, IsWakeUp, CalibrateTagDetecting}
use Rattle.model.specs.declared.Family.{Family}
use Rattle.model.specs.declared.Family.TheVariants.{Chip, Board}
use Rattle.model.specs.declared.Contents.{Contents}
use Rattle.model.specs.declared.Contents.TheVariants.{Bytes, Level, Tags}
use Rattle.model.specs.declared.MessageRow.{MessageRow}
use Rattle.words.specs.Words.{pick, within, over}
use Rattle.words.specs.Words.{Bytes as AllBytes}
use Rattle.words.specs.Contract.{Ran, Is, OneAnswer, OneOutcome}
use Rattle.model.specs.Refusals.{Number, none, number}
use Rattle.model.specs.Checks.{Check, ◌when◌, judged}
use Rattle.model.specs.Frames.{command, framed, frame, part}
use Rattle.model.specs.Frames.{row as commandRow}
use Rattle.model.specs.Replies.{Reply, reply}
use Rattle.model.specs.declared.AnswerError.TheVariants.{BoardError, ChipError}
use Rattle.model.specs.declared.AnswerError.{AnswerError}

-- ---- THE TABLE OF MESSAGES

-- a command of the board's: its code and its number of data bytes; the code of the answer, and what it carries
abbrev pub board : ℕ → ℕ → ℕ → Contents → MessageRow
board code count response contents = record { family = Board; code = code; count = count; response = response; contents = contents }

-- a command of the chip's that has one number of data bytes, as the table of commands has it; the answer is the chip's own good reply, behind 00
abbrev pub chip : Kind → Contents → MessageRow
chip kind contents =
    record {
      family = Chip kind;
      code = (commandRow kind).code;
      count = (commandRow kind).greatest;
      response = 0x00;
      contents = contents;
    }

abbrev pub row : Message → MessageRow
-- 13 bytes of name, 2 bytes of ROM CRC
row Idn = chip Kind.Idn (Bytes 15)
-- three bytes of version
row GetFirmwareVersion = board 0xBC 0 0x00 (Bytes 3)
-- the request flags; the tags
row Inventory = board 0xA1 1 0x80 Tags
-- DacDataL and DacDataH
row GoToTagDetectingState = board 0xA3 2 0x80 (Bytes 0)
-- the level of IRQ_OUT
row IsWakeUp = board 0xA2 0 0x80 Level
-- DacDataL and DacDataH
row CalibrateTagDetecting = board 0xA4 0 0x80 (Bytes 2)

-- all of them
abbrev pub messages : List Message
messages = Idn ∷ GetFirmwareVersion ∷ Inventory ∷ GoToTagDetectingState ∷ IsWakeUp ∷ CalibrateTagDetecting ∷ []

-- the first of some that has a code
abbrev pub found_in : ℕ → List Message → Option Message
found_in code [] = None
found_in code (m ∷ ms) = pick (eqb code (row m).code) (Some m) (found_in code ms)

abbrev pub named : ℕ → Option Message
named code = found_in code messages

-- the first byte: 01 is a chip's command, 02 a board's
abbrev pub family_byte : Family → ℕ
family_byte (Chip kind) = 0x01
family_byte Board = 0x02

-- the error codes that the MCU can return: 003, table 8
abbrev pub is_board_error : ℕ → Bool
is_board_error b = eqb b 0xFE || eqb b 0xFD || (leb 0xF7 b && leb b 0xFA) || eqb b 0xF5 || eqb b 0xF4

-- ---- what is carried

-- so many data bytes, unchecked
abbrev pub takes : Message → List ℕ → Bool
takes m xs = eqb (length xs) (row m).count

-- the bytes of a tag: DSFID, and eight of the UID
abbrev pub tag_size : ℕ
tag_size = 9

abbrev pub most_tags : ℕ
most_tags = 28

-- 00 is low, 01 is high; of tags there are a whole number, none among them
abbrev pub carries : Contents → List ℕ → Bool
carries (Bytes n) xs = eqb (length xs) n
carries Level xs = eqb (length xs) 1 && leb (get_or xs 0 0) 1
carries Tags xs = eqb (length xs % tag_size) 0 && leb (length xs) (tag_size * most_tags)

-- the data of an answer: tags stand behind their number
abbrev pub payload : Contents → List ℕ → List ℕ
payload (Bytes n) xs = xs
payload Level xs = xs
payload Tags xs = length xs / tag_size ∷ xs

-- ---- THE MESSAGES: all are code, count and data, as a frame is

-- a command message has its family before it
abbrev pub asking : Message → List ℕ → List ℕ
asking m xs = family_byte (row m).family ∷ framed (row m).code xs

-- an answer has not
abbrev pub answering : Message → List ℕ → List ℕ
answering m xs = framed (row m).response (payload (row m).contents xs)

-- to any command, with an error code of the MCU's and no data
abbrev pub failing : ℕ → List ℕ
failing code = framed code []

-- ---- the writers

-- 2, 1: what cannot be carried is told before an output that is too short
abbrev pub writing : Bool → List ℕ → List ℕ → List Check
writing fit xs out = Invalid when not fit ∷ Short when ltb (length out) (length xs) ∷ []

-- the bytes stand at the front of the output, which keeps what it held past them
abbrev pub write : Bool → List ℕ → List ℕ → Ran (Result ℕ Refusal)
write fit xs out =
    judged (writing fit xs out) (λ k. record { answer = Err k; bytes = out }) (record { answer = Ok (length xs); bytes = over xs out })

abbrev pub write_command : Message → List ℕ → List ℕ → Ran (Result ℕ Refusal)
write_command m xs out = write (takes m xs) (asking m xs) out

abbrev pub write_answer : Message → List ℕ → List ℕ → Ran (Result ℕ Refusal)
write_answer m xs out = write (carries (row m).contents xs) (answering m xs) out

abbrev pub write_error : ℕ → List ℕ → Ran (Result ℕ Refusal)
write_error code out = write (is_board_error code) (failing code) out

-- ---- the reader of command messages

-- code, count and so many data, and nothing more
abbrev pub is_framed : List ℕ → Bool
is_framed [] = false
is_framed (code ∷ []) = false
is_framed (code ∷ n ∷ xs) = eqb n (length xs)

-- with the family and the data of its row
abbrev pub taken : Option Message → ℕ → List ℕ → Option (Message × Part)
taken None family xs = None
taken (Some m) family xs =
    pick (eqb family (family_byte (row m).family) && takes m xs) (Some (m, part 3 (length xs))) None

abbrev pub read_message : List ℕ → Option (Message × Part)
read_message xs = pick (is_framed (drop 1 xs)) (taken (named (get_or xs 1 0)) (get_or xs 0 0) (drop 3 xs)) None

-- ---- the reader of answers

-- what is carried stands from an index on
abbrev pub carried : Contents → ℕ → List ℕ → Result Part AnswerError
carried c start xs = pick (carries c xs) (Ok (part start (length xs))) (Err AnswerError.Malformed)

-- the number of tags, and the tags
abbrev pub is_numbered : List ℕ → Bool
is_numbered [] = false
is_numbered (k ∷ xs) = eqb k (length xs / tag_size)

-- behind code and count
abbrev pub opened : Contents → List ℕ → Result Part AnswerError
opened (Bytes n) xs = carried (Bytes n) 2 xs
opened Level xs = carried Level 2 xs
opened Tags xs = pick (is_numbered xs) (carried Tags 3 (drop 1 xs)) (Err AnswerError.Malformed)

-- the answer to a command of the board's
abbrev pub read_carried : MessageRow → List ℕ → Result Part AnswerError
read_carried r xs = pick (is_framed xs && eqb (get_or xs 0 0) r.response) (opened r.contents (drop 2 xs)) (Err AnswerError.Malformed)

-- a command of the chip's, as its reply is awaited
abbrev pub awaited_of : Kind → Awaited
awaited_of kind = record { kind = kind; first = 0 }

-- a reply of n bytes that ended so: the data are what follows the second
abbrev pub by_end : End → ℕ → Result Part AnswerError
by_end End.Good n = Ok (part 2 (n - 2))
by_end (End.Woken w) n = Ok (part 2 (n - 2))
by_end (End.Error code) n = Err (ChipError code)
by_end (End.Malformed place b) n = Err AnswerError.Malformed

-- it has to fill the answer
abbrev pub by_verdict : Verdict → ℕ → ℕ → Result Part AnswerError
by_verdict More used n = Err AnswerError.Malformed
by_verdict (Ended e) used n = pick (eqb used n) (by_end e n) (Err AnswerError.Malformed)
by_verdict NoRoom used n = Err AnswerError.Malformed

-- the answer to a command of the chip's: its own reply, as the reply table has it
abbrev pub read_reply : Kind → List ℕ → Result Part AnswerError
read_reply kind xs = by_verdict (reply (awaited_of kind) xs).verdict (reply (awaited_of kind) xs).used (length xs)

abbrev pub read_good : Family → MessageRow → List ℕ → Result Part AnswerError
read_good (Chip kind) r xs = read_reply kind xs
read_good Board r xs = read_carried r xs

-- an error code of the MCU's, and no data
abbrev pub read_error : List ℕ → Result Part AnswerError
read_error xs = pick (is_framed xs && eqb (length xs) 2) (Err (BoardError (get_or xs 0 0))) (Err AnswerError.Malformed)

-- an answer that begins with one of its codes is the MCU's, whatever the command
abbrev pub read_answer : Message → List ℕ → Result Part AnswerError
read_answer m xs = pick (is_board_error (get_or xs 0 0)) (read_error xs) (read_good (row m).family (row m) xs)

-- ---- refusal 5: a message that the chapters do not give

abbrev pub command_number : Option (Message × Part) → Number
command_number (Some (m, p)) = none
command_number None = number 5

abbrev pub answer_number : Result Part AnswerError → Number
answer_number (Ok p) = none
answer_number (Err (BoardError code)) = none
answer_number (Err (ChipError code)) = none
answer_number (Err AnswerError.Malformed) = number 5

-- ---- the contracts

-- a writer may answer r and leave exit in an output that held out
abbrev pub WritesCommand : Message → List ℕ → List ℕ → Result ℕ Refusal → List ℕ → Type 0
WritesCommand m xs out r exit = Is (write_command m xs out) r exit

abbrev pub WritesAnswer : Message → List ℕ → List ℕ → Result ℕ Refusal → List ℕ → Type 0
WritesAnswer m xs out r exit = Is (write_answer m xs out) r exit

abbrev pub WritesError : ℕ → List ℕ → Result ℕ Refusal → List ℕ → Type 0
WritesError code out r exit = Is (write_error code out) r exit

-- a reader may answer r to the bytes xs
abbrev pub ReadsMessage : List ℕ → Option (Message × Part) → Type 0
ReadsMessage xs r = r ≡ read_message xs

abbrev pub ReadsAnswer : Message → List ℕ → Result Part AnswerError → Type 0
ReadsAnswer m xs r = r ≡ read_answer m xs

-- ---- WHAT IS PROMISED

-- a command of the chip's is handed on as the frame that the chip takes
abbrev pub HandsOn : Type 0
HandsOn = (m : Message) (kind : Kind) (xs : List ℕ) → (row m).family ≡ Chip kind → asking m xs ≡ 0x01 ∷ frame (command kind xs)

-- every message is of bytes, where what it carries is: no count is more than a byte holds
pub record OfBytes : Type 0 where
  pub commands : (m : Message) (xs : List ℕ) → takes m xs ≡ true → AllBytes xs → AllBytes (asking m xs)
  pub answers : (m : Message) (xs : List ℕ) → carries (row m).contents xs ≡ true → AllBytes xs → AllBytes (answering m xs)
  pub errors : (code : ℕ) → is_board_error code ≡ true → AllBytes (failing code)

-- the order of a writer is 2, 1; a refusal writes nothing, and output past the message keeps what it held
pub record Orderly (fit : Bool) (xs out : List ℕ) (ran : Ran (Result ℕ Refusal)) : Type 0 where
  pub invalid : (ran.answer ≡ Err Invalid) ↔ (fit ≡ false)
  pub short : (ran.answer ≡ Err Short) ↔ ((fit ≡ true) × (length out < length xs))
  pub sent : fit ≡ true → length xs ≤ length out → ran ≡ record { answer = Ok (length xs); bytes = xs ++ drop (length xs) out }
  pub unwritten : (k : Refusal) → ran.answer ≡ Err k → ran.bytes ≡ out

abbrev pub InOrder : Type 0
InOrder = (fit : Bool) (xs out : List ℕ) → Orderly fit xs out (write fit xs out)

-- a command message is read back as itself
abbrev pub CommandsBack : Type 0
CommandsBack =
    (m : Message) (xs : List ℕ) → takes m xs ≡ true →
    (p : Part) × (read_message (asking m xs) ≡ Some (m, p)) × (within (asking m xs) p ≡ xs)

-- whatever is read is the command message that it names, byte for byte
abbrev pub OnlyCommands : Type 0
OnlyCommands =
    (xs : List ℕ) (m : Message) (p : Part) → read_message xs ≡ Some (m, p) → (takes m (within xs p) ≡ true) × (asking m (within xs p) ≡ xs)

-- all else is malformed
abbrev pub CommandsElse : Type 0
CommandsElse =
    (xs : List ℕ) → ((m : Message) (ys : List ℕ) → takes m ys ≡ true → asking m ys ≡ xs → ⊥) → read_message xs ≡ None

-- an answer is read back as itself: what it carries, or an error code of the MCU's
abbrev pub AnswersBack : Type 0
AnswersBack =
    (m : Message) (xs : List ℕ) → carries (row m).contents xs ≡ true →
    (p : Part) × (read_answer m (answering m xs) ≡ Ok p) × (within (answering m xs) p ≡ xs)

abbrev pub ErrorsBack : Type 0
ErrorsBack = (m : Message) (code : ℕ) → is_board_error code ≡ true → read_answer m (failing code) ≡ Err (BoardError code)

-- and so is the chip's error to a command of its own, by the reply table
abbrev pub ChipErrorsBack : Type 0
ChipErrorsBack =
    (m : Message) (kind : Kind) (code : ℕ) (xs : List ℕ) → (row m).family ≡ Chip kind → Reply (awaited_of kind) xs (End.Error code) []
    → read_answer m xs ≡ Err (ChipError code)

-- the bytes are the answer that is named, byte for byte
abbrev pub IsAnswer : Message → List ℕ → Result Part AnswerError → Type 0
IsAnswer m xs (Ok p) = (carries (row m).contents (within xs p) ≡ true) × (answering m (within xs p) ≡ xs)
IsAnswer m xs (Err (BoardError code)) = (is_board_error code ≡ true) × (failing code ≡ xs)
IsAnswer m xs (Err (ChipError code)) = (kind : Kind) × ((row m).family ≡ Chip kind) × Reply (awaited_of kind) xs (End.Error code) []
IsAnswer m xs (Err AnswerError.Malformed) = ⊥

-- whatever is read is that
abbrev pub OnlyAnswers : Type 0
OnlyAnswers = (m : Message) (xs : List ℕ) → (read_answer m xs ≡ (Err AnswerError.Malformed) → ⊥) → IsAnswer m xs (read_answer m xs)

-- all else is malformed
abbrev pub AnswersElse : Type 0
AnswersElse = (m : Message) (xs : List ℕ) → ((r : Result Part AnswerError) → IsAnswer m xs r → ⊥) → read_answer m xs ≡ Err AnswerError.Malformed

-- any two outcomes that a contract allows coincide
pub record OneMessage : Type 0 where
  pub writes_command : (m : Message) (xs out : List ℕ) → OneOutcome (WritesCommand m xs out)
  pub writes_answer : (m : Message) (xs out : List ℕ) → OneOutcome (WritesAnswer m xs out)
  pub writes_error : (code : ℕ) (out : List ℕ) → OneOutcome (WritesError code out)
  pub reads_message : (xs : List ℕ) → OneAnswer (ReadsMessage xs)
  pub reads_answer : (m : Message) (xs : List ℕ) → OneAnswer (ReadsAnswer m xs)
