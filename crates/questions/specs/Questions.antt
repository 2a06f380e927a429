-- Questions that need no session, and their answers as text.
-- Assumes nothing.
use Rattle.std.specs.Prelude.{ℕ, Bool, true, false, List, [], ◌∷◌, ◌++◌, Err, Ok, Result, Option, Some, None}
use Prim.Native.String.{String}
use Rattle.model.specs.declared.Band.{Band}
use Rattle.model.specs.declared.Flags.{Flags}
use Rattle.model.specs.Frames.{settings, read_command, flags, received}
use Rattle.model.specs.Refusals.{band_number}
use Rattle.model.specs.Calibration.{band}
use Rattle.stakes.specs.declared.Stake.{Stake}
use Rattle.stakes.specs.Stakes.{written, read, number_of}
use Rattle.lines.specs.Lines.{rest, byte_at}
use Rattle.text.specs.Writing.{word, hex, hexes}
use Rattle.calls.specs.declared.Question.{Question}
use Rattle.calls.specs.declared.Question.TheVariants.{Times, Wait, Command, Received}
use Rattle.calls.specs.declared.Question.TheVariants.{Band as BandOf}
use Rattle.calls.specs.declared.Question.TheVariants.{Flags as FlagsOf}
use Rattle.calls.specs.declared.Question.TheVariants.{Stake as StakeOf}
use Rattle.calls.specs.Calls.{kind_name, given_for}
use Rattle.refusals.specs.Refusals.{refused_text, number_text, refusal_text}
use Rattle.durations.specs.Durations.{times_text, wait_text}
use Rattle.model.specs.declared.Frame.{Frame}
use Rattle.model.specs.declared.Refusal.{Refusal}
use Rattle.stakes.specs.declared.Unread.{Unread}

-- a name, and bytes behind it
abbrev pub named : String → List ℕ → List (List ℕ)
named name bytes = word name ∷ hexes bytes

-- ---- the guard band

abbrev pub guard_text : Option Band → List (List ℕ)
guard_text (Some b) = word "band" ∷ hex b.low ∷ hex b.high ∷ []
guard_text None = number_text (band_number None)

-- ---- the call that sends a frame

-- the data stand behind code and length
abbrev pub reading_text : List ℕ → Result Frame Refusal → List (List ℕ)
reading_text part (Ok frame) = kind_name frame.kind ∷ hexes (given_for frame.kind (rest part 2))
reading_text part (Err refusal) = refusal_text refusal

-- ---- what SPI brings back

abbrev pub yes_or_no : Bool → List ℕ
yes_or_no true = word " yes"
yes_or_no false = word " no"

abbrev pub flags_text : Flags → List (List ℕ)
flags_text f = word "read" ∷ yes_or_no f.read ∷ word " send" ∷ yes_or_no f.send ∷ []

-- ---- a stake

abbrev pub stake_text : Stake → List (List ℕ)
stake_text s = named "flags" (s.flags ∷ []) ++ named " dsfid" (s.dsfid ∷ []) ++ named " uid" (written s.uid) ++ named " crc" (s.crc.low ∷ s.crc.high ∷ [])

abbrev pub stake_read_text : Result Stake Unread → List (List ℕ)
stake_read_text (Ok s) = stake_text s
stake_read_text (Err k) = refused_text (number_of k)

-- ---- the answers, over the bytes that were given

abbrev pub question_text : Question → List ℕ → List (List ℕ)
question_text Times given = times_text (settings given)
question_text Wait given = wait_text (settings given)
question_text BandOf given = guard_text (band (byte_at given 0))
question_text Command given = reading_text given (read_command given)
question_text FlagsOf given = flags_text (flags (byte_at given 0))
question_text Received given = named "bytes" (received given)
question_text StakeOf given = stake_read_text (read given)
