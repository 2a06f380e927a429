-- A line that is no call changes nothing; and a line with a word is answered.
-- Assumes nothing.
use Rattle.std.specs.Prelude.{Err, None, Ok, Option, Result, Some}
use Prim.Native.Nat.{ℕ, ◌+◌, ◌≤◌, ◌<◌}
use native.Mathlib.Omega.{arith}
use mathlib.Core.Path.{◌≡◌, refl}
use mathlib.Core.Bool.{Bool, false, ◌&&◌}
use mathlib.Core.List.{List, [], ◌∷◌, ◌++◌}
use lib.Dec.{T, leb, ltb, eqb, leb→le}
use lib.Ieee.Fits.{and_l, and_r}
use lib.ListN.{length}
use lib.Seq.{paste}
use borrow.Author.Tests.{le-leb, lt-leb, le-ltb, lt-ltb, ne_eqb}
use Rattle.std.specs.Prelude.{Result, Ok, Err}
use Rattle.model.specs.declared.Answer.{Answer}
use Rattle.model.specs.declared.Answer.TheVariants.{Done, Sent, More, Good, Woken, Reference, Refused}
use Rattle.model.specs.declared.Band.{Band}
use Rattle.model.specs.declared.Kind.{Kind}
use Rattle.model.specs.declared.Kind.TheVariants.{Idn, ProtocolSelect, SendRecv, Idle, RdReg, WrReg, Echo}
use Rattle.model.specs.declared.Message.{Message}
use Rattle.model.specs.declared.Message.TheVariants.{GetFirmwareVersion, Inventory, GoToTagDetectingState, IsWakeUp, CalibrateTagDetecting}
use Rattle.words.specs.Words.{bit, within}
use Rattle.words.specs.Contract.{Ran}
use Rattle.model.specs.Frames.{settings, settings_allowed, read_command}
use Rattle.model.specs.Calibration.{band}
use Rattle.model.specs.Messages.{row, named, read_message, read_answer}
use Rattle.words.proofs.Words.{ways}
use Rattle.lines.specs.Lines.{fore, rest, byte_at, skipped}
use Rattle.text.specs.Writing.{written, word, hexes}
use Rattle.stakes.specs.Stakes.{read}
use Rattle.calls.specs.declared.Question.{Question}
use Rattle.calls.specs.declared.Question.TheVariants.{Times, Wait, Command, Received}
use Rattle.calls.specs.declared.Question.TheVariants.{Band as BandOf}
use Rattle.calls.specs.declared.Question.TheVariants.{Flags as FlagsOf}
use Rattle.calls.specs.declared.Question.TheVariants.{Stake as StakeOf}
use Rattle.calls.specs.declared.Verb.{Verb}
use Rattle.calls.specs.declared.Verb.TheVariants.{Acts, Feeds, Tells, Speaks, Sets, Helps}
use Rattle.calls.specs.declared.Fault.{Fault}
use Rattle.calls.specs.declared.Fault.TheVariants.{TooLong, Unknown}
use Rattle.calls.specs.declared.Asked.{Asked}
use Rattle.calls.specs.declared.Wrong.{Wrong}
use Rattle.calls.specs.declared.Board.{Board}
use Rattle.calls.specs.declared.Board.TheVariants.{Asks, Reads, Answers, Fails, Replies}
use Rattle.calls.specs.Calls.{kind_name, given_for, message_name}
use Rattle.reading.specs.Asking.{wrong, asked}
use Rattle.faults.specs.Faults.{fault_text}
use Rattle.help.specs.Page.{page}
use Rattle.answers.specs.Answers.{answer_text, used_text}
use Rattle.standing.specs.Standing.{state_text}
use Rattle.questions.specs.Questions.{guard_text, reading_text, stake_read_text, question_text}
use Rattle.board.specs.Board.{written_text, command_text, tells, contents_text, read_text, reply_text, spoken_text}
use Rattle.desk.specs.declared.Post.{Post}
use Rattle.desk.specs.Desk.{Left, Heard, acting, feeding, speaking, obeyed, carried_out, longest}
use Rattle.desk.specs.Claims.{Unmoved, Shortened, Answered}
use Rattle.model.specs.declared.AnswerError.TheVariants.{BoardError, ChipError}
use Rattle.model.specs.declared.AnswerError.{AnswerError}
use Rattle.model.specs.declared.Frame.{Frame}
use Rattle.model.specs.declared.Refusal.{Refusal}
use Rattle.stakes.specs.declared.Stake.{Stake}
use Rattle.stakes.specs.declared.Unread.{Unread}
use Rattle.words.specs.declared.Part.{Part}

pub unmoved : Unmoved
unmoved line number post bytes out room text place fault short some call is =
    let start = skipped line 0 in
    simp (le-ltb longest (length line) short, lt-leb (length line) start some, ne_eqb (byte_at line start) 35 call, is)

-- its hypothesis is met: "tag" is the name of no call
met : (asked (word "tag") []).answer ≡ wrong 0 Unknown
met = refl

pub shortened : Shortened
shortened line number post bytes out room text long = simp (lt-ltb longest (length line) long)

-- ---- what is told begins with a short word

abbrev short : List (List ℕ) → Bool
short [] = false
short (part ∷ parts) = leb 1 (length part) && leb (length part) 80

answer_short : (answer : Answer) (out : List ℕ) (more : List (List ℕ)) → T (short (answer_text answer out ++ more))
answer_short Done out more = tt
answer_short (Sent count) out more = tt
answer_short More out more = tt
answer_short Good out more = tt
answer_short (Woken wake) out more = tt
answer_short (Reference reference commands) out more = tt
answer_short (Refused refusal) out more = tt

guard_short : (guard : Option Band) → T (short (guard_text guard))
guard_short (Some b) = tt
guard_short None = tt

kind_short : (kind : Kind) (more : List (List ℕ)) → T (short (kind_name kind ∷ more))
kind_short Idn more = tt
kind_short ProtocolSelect more = tt
kind_short SendRecv more = tt
kind_short Idle more = tt
kind_short RdReg more = tt
kind_short WrReg more = tt
kind_short Echo more = tt

reading_short : (part : List ℕ) (reading : Result Frame Refusal) → T (short (reading_text part reading))
reading_short part (Ok frame) = kind_short frame.kind (hexes (given_for frame.kind (rest part 2)))
reading_short part (Err refusal) = tt

stake_short : (read : Result Stake Unread) → T (short (stake_read_text read))
stake_short (Ok s) = tt
stake_short (Err k) = tt

question_short : (question : Question) (given : List ℕ) → T (short (question_text question given))
question_short Times given = ways (λ (parts : List (List ℕ)). T (short parts)) (settings_allowed (settings given)) (λ t. tt) (λ t. tt)
question_short Wait given =
    ways (λ (parts : List (List ℕ)). T (short parts)) (settings_allowed (settings given))
    (λ t. ways (λ (parts : List (List ℕ)). T (short parts)) (bit 0 (settings given).source) (λ u. tt) (λ u. tt)) (λ t. tt)
question_short BandOf given = guard_short (band (byte_at given 0))
question_short Command given = reading_short given (read_command given)
question_short FlagsOf given = tt
question_short Received given = tt
question_short StakeOf given = stake_short (read given)

written_short : (told : Result ℕ Refusal) (out : List ℕ) → T (short (written_text told out))
written_short (Ok n) out = tt
written_short (Err refusal) out = tt

-- the name of each message's call, and the word of its answer
message_short : (m : Message) (more : List (List ℕ)) → T (short (message_name m ∷ more)) × T (short (tells m ∷ more))
message_short Message.Idn more = (tt, tt)
message_short GetFirmwareVersion more = (tt, tt)
message_short Inventory more = (tt, tt)
message_short GoToTagDetectingState more = (tt, tt)
message_short IsWakeUp more = (tt, tt)
message_short CalibrateTagDetecting more = (tt, tt)

command_short : (given : List ℕ) (read : Option (Message × Part)) → T (short (command_text given read))
command_short given (Some (m, p)) = (message_short m (hexes (within given p))).0
command_short given None = tt

read_short : (m : Message) (xs : List ℕ) (read : Result Part AnswerError) → T (short (read_text m xs read))
read_short m xs (Ok p) = (message_short m (contents_text (row m).contents (within xs p))).1
read_short m xs (Err (BoardError code)) = tt
read_short m xs (Err (ChipError code)) = tt
read_short m xs (Err AnswerError.Malformed) = tt

reply_short : (found : Option Message) (xs : List ℕ) → T (short (reply_text found xs))
reply_short (Some m) xs = read_short m xs (read_answer m xs)
reply_short None xs = tt

spoken_short : (what : Board) (given : List ℕ) (ran : Ran (Result ℕ Refusal)) → T (short (spoken_text what given ran))
spoken_short (Asks m) given ran = written_short ran.answer ran.bytes
spoken_short Reads given ran = command_short given (read_message given)
spoken_short Answers given ran = written_short ran.answer ran.bytes
spoken_short Fails given ran = written_short ran.answer ran.bytes
spoken_short Replies given ran = reply_short (named (byte_at given 0)) (rest given 1)

-- ---- and what begins with a word that fits is no empty text

grows : (text : List ℕ) (at : ℕ) (parts : List (List ℕ)) → at ≤ (written text at parts).answer
grows text at [] = omega arith
grows text at (part ∷ parts) =
    ways (λ (one : Ran ℕ). at ≤ (written one.bytes one.answer parts).answer) (leb (at + length part) (length text))
    (λ t. omega (arith, grows (paste text at part (length part)) (at + length part) parts)) (λ t. grows text at parts)

begun : (text part : List ℕ) (parts : List (List ℕ)) → 0 < length part → length part ≤ length text → 0 < (written text 0 (part ∷ parts)).answer
begun text part parts some fits = simp (le-leb (0 + length part) (length text) (omega arith)) (omega (arith, grows (paste text 0 part (length part)) (0 + length part) parts))

begun_short : (text : List ℕ) (parts : List (List ℕ)) → T (short parts) → 80 ≤ length text → 0 < (written text 0 parts).answer
begun_short text [] t room = absurd t
begun_short text (part ∷ parts) t room =
    begun text part parts (leb→le 1 (length part) (and_l (leb 1 (length part)) (leb (length part) 80) t))
    (omega (arith, leb→le (length part) 80 (and_r (leb 1 (length part)) (leb (length part) 80) t)))

module _ (post : Post) (out room text : List ℕ) (fits : length page ≤ length text) where
  -- the page is longer than that
  long : 80 ≤ length text
  long = omega (arith, fits)

  abbrev Spoken : Left → Type 0
  Spoken left = 0 < left.done.answer.n

  answer_begun : (answer : Answer) (bytes : List ℕ) (more : List (List ℕ)) → 0 < (written text 0 (answer_text answer bytes ++ more)).answer
  answer_begun answer bytes more = begun_short text (answer_text answer bytes ++ more) (answer_short answer bytes more) long

  by_obeyed : (call : Verb) (number : ℕ) (given : List ℕ) → Spoken (obeyed call post number given out room text)
  by_obeyed (Acts act) number given =
      let ran = acting post act number given out in answer_begun ran.answer.answer ran.bytes (state_text ran.answer.session)
  by_obeyed Feeds number given =
      let ran = feeding post given room in
      let o = ran.answer in answer_begun o.answer [] (used_text o.used o.place given ran.bytes ++ state_text o.session)
  by_obeyed (Tells question) number given = begun_short text (question_text question given) (question_short question given) long
  by_obeyed (Speaks what) number given =
      let ran = speaking post what given out in begun_short text (spoken_text what given ran) (spoken_short what given ran) long
  by_obeyed (Sets buffer) number given = begun text (word "ok") (state_text post.session) (omega arith) (omega arith)
  by_obeyed Helps number given = begun text page [] (omega arith) fits

  by_fault : (number place : ℕ) (fault : Fault) → 0 < (written text 0 (fault_text number place fault)).answer
  by_fault number place fault = begun_short text (fault_text number place fault) tt long

  by_heard : (number : ℕ) (read : Result Asked Wrong) (bytes : List ℕ) → Spoken (carried_out number read bytes post out room text)
  by_heard number (Ok it) bytes = by_obeyed it.call it.number (fore bytes it.count)
  by_heard number (Err it) bytes = by_fault number it.place it.fault

pub answered : Answered
answered line number post bytes out room text word whole fits =
    let read = asked line bytes in
    let start = skipped line 0 in
    let spoken : Heard → Type 0 = λ (heard : Heard). Spoken post out room text fits heard.left in
    ways spoken (ltb longest (length line)) (λ l. by_fault post out room text fits number longest TooLong)
    (λ l. rw (lt-leb (length line) start word)
    (ways spoken (eqb (byte_at line start) 35) (λ e. begun text line [] (omega arith) whole)
    (λ e. by_heard post out room text fits number read.answer read.bytes)))
