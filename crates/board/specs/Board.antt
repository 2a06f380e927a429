-- Calls on the demo board's messages: what each writes to the output that it is lent, and what it answers, as text.
-- Assumes nothing.
use Rattle.std.specs.Prelude.{ℕ, ◌/◌, List, [], ◌∷◌, ◌++◌, eqb, length, Err, None, Ok, Option, Result, Some}
use Rattle.model.specs.declared.Refusal.TheVariants.{Invalid}
use Rattle.model.specs.declared.Message.{Message}
use Rattle.model.specs.declared.Message.TheVariants.{Idn, GetFirmwareVersion, Inventory, GoToTagDetectingState, IsWakeUp, CalibrateTagDetecting}
use Rattle.model.specs.declared.Contents.{Contents}
use Rattle.model.specs.declared.Contents.TheVariants.{Level, Tags}
use Rattle.model.specs.declared.Contents.TheVariants.{Bytes as BytesOf}
use Rattle.words.specs.Words.{pick, within}
use Rattle.words.specs.Contract.{Ran}
use Rattle.model.specs.Messages.{row, named, tag_size, write_command, write_answer, write_error, read_message, read_answer, command_number, answer_number}
use Rattle.lines.specs.Lines.{fore, rest, byte_at}
use Rattle.text.specs.Writing.{word, hex, hexes, number}
use Rattle.calls.specs.declared.Board.{Board}
use Rattle.calls.specs.declared.Board.TheVariants.{Asks, Reads, Answers, Fails, Replies}
use Rattle.calls.specs.Calls.{message_name}
use Rattle.refusals.specs.Refusals.{refusal_text, number_text}
use Rattle.model.specs.declared.AnswerError.TheVariants.{BoardError, ChipError}
use Rattle.model.specs.declared.AnswerError.{AnswerError}
use Rattle.model.specs.declared.Refusal.{Refusal}
use Rattle.words.specs.declared.Part.{Part}

-- ---- what is written

-- an answer to the command that a code is of, by what it carries
abbrev pub answer_to : Option Message → List ℕ → List ℕ → Ran (Result ℕ Refusal)
answer_to None xs out = record { answer = Err Invalid; bytes = out }
answer_to (Some m) xs out = write_answer m xs out

-- of an answer the code of the command comes first; a reader writes nothing
abbrev pub wrote : Board → List ℕ → List ℕ → Ran (Result ℕ Refusal)
wrote (Asks m) given out = write_command m given out
wrote Reads given out = record { answer = Ok 0; bytes = out }
wrote Answers given out = answer_to (named (byte_at given 0)) (rest given 1) out
wrote Fails given out = write_error (byte_at given 0) out
wrote Replies given out = record { answer = Ok 0; bytes = out }

-- the bytes that were written stand at the front of the output
abbrev pub written_text : Result ℕ Refusal → List ℕ → List (List ℕ)
written_text (Ok n) out = word "bytes" ∷ hexes (fore out n)
written_text (Err refusal) out = refusal_text refusal

-- ---- what is read

-- the call that writes a command message
abbrev pub command_text : List ℕ → Option (Message × Part) → List (List ℕ)
command_text given (Some (m, p)) = message_name m ∷ hexes (within given p)
command_text given None = number_text (command_number None)

-- what an answer tells
abbrev pub tells : Message → List ℕ
tells Idn = word "name"
tells GetFirmwareVersion = word "firmware"
tells Inventory = word "inventory"
tells GoToTagDetectingState = word "detecting"
tells IsWakeUp = word "irq-out"
tells CalibrateTagDetecting = word "calibrated"

-- 00 is low
abbrev pub level_text : ℕ → List (List ℕ)
level_text b = pick (eqb b 0) (word " low" ∷ []) (word " high" ∷ [])

-- of tags their number comes first
abbrev pub contents_text : Contents → List ℕ → List (List ℕ)
contents_text (BytesOf n) xs = hexes xs
contents_text Level xs = level_text (byte_at xs 0)
contents_text Tags xs = number (length xs / tag_size) ++ hexes xs

-- an error code, the MCU's or the chip's
abbrev pub error_text : ℕ → List (List ℕ)
error_text code = word "error" ∷ hex code ∷ []

abbrev pub read_text : Message → List ℕ → Result Part AnswerError → List (List ℕ)
read_text m xs (Ok p) = tells m ∷ contents_text (row m).contents (within xs p)
read_text m xs (Err (BoardError code)) = error_text code
read_text m xs (Err (ChipError code)) = error_text code
read_text m xs (Err AnswerError.Malformed) = number_text (answer_number (Err AnswerError.Malformed))

-- the answer to the command that a code is of; no answer is one to another code
abbrev pub reply_text : Option Message → List ℕ → List (List ℕ)
reply_text None xs = number_text (answer_number (Err AnswerError.Malformed))
reply_text (Some m) xs = read_text m xs (read_answer m xs)

-- ---- the answers, over the bytes that were given, and what was written

abbrev pub spoken_text : Board → List ℕ → Ran (Result ℕ Refusal) → List (List ℕ)
spoken_text (Asks m) given ran = written_text ran.answer ran.bytes
spoken_text Reads given ran = command_text given (read_message given)
spoken_text Answers given ran = written_text ran.answer ran.bytes
spoken_text Fails given ran = written_text ran.answer ran.bytes
spoken_text Replies given ran = reply_text (named (byte_at given 0)) (rest given 1)
