-- A line of a script, answered: what is kept from line to line goes in and comes back.
-- Assumes nothing.
use Rattle.std.specs.Prelude.{ℕ, ◌≡◌, List, [], ◌∷◌, ◌++◌, leb, ltb, eqb, length, Result, Ok, Err}
use Rattle.model.specs.declared.Session.{Session}
use Rattle.model.specs.declared.Outcome.{Outcome}
use Rattle.words.specs.Words.{pick}
use Rattle.words.specs.Contract.{Ran, Is, on_front}
use Rattle.model.specs.Session.{feed, step}
use Rattle.lines.specs.Lines.{fore, byte_at, skipped}
use Rattle.text.specs.Writing.{written, word}
use Rattle.calls.specs.declared.Act.{Act}
use Rattle.calls.specs.declared.Board.{Board}
use Rattle.calls.specs.declared.Buffer.{Buffer}
use Rattle.calls.specs.declared.Buffer.TheVariants.{Out, Room}
use Rattle.calls.specs.declared.Verb.{Verb}
use Rattle.calls.specs.declared.Verb.TheVariants.{Acts, Feeds, Tells, Speaks, Sets, Helps}
use Rattle.calls.specs.declared.Fault.{Fault}
use Rattle.calls.specs.declared.Fault.TheVariants.{TooLong}
use Rattle.calls.specs.declared.Asked.{Asked}
use Rattle.calls.specs.declared.Wrong.{Wrong}
use Rattle.reading.specs.Asking.{asked}
use Rattle.faults.specs.Faults.{fault_text}
use Rattle.help.specs.Page.{page}
use Rattle.answers.specs.Answers.{answer_text, used_text}
use Rattle.standing.specs.Standing.{state_text}
use Rattle.questions.specs.Questions.{question_text}
use Rattle.board.specs.Board.{wrote, spoken_text}
use Rattle.acts.specs.Acts.{acted}
use Rattle.desk.specs.declared.Post.{Post}
use Rattle.desk.specs.declared.Done.{Done}
use Rattle.model.specs.declared.Refusal.{Refusal}

-- ---- the post

abbrev pub with_session : Post → Session → Post
with_session post s = record { session = s; out = post.out; room = post.room }

abbrev pub lending : Post → Buffer → ℕ → Post
lending post Out n = record { session = post.session; out = n; room = post.room }
lending post Room n = record { session = post.session; out = post.out; room = n }

-- ---- what a line leaves

-- the post, and parts written to the front of the text
abbrev pub saying : Post → List (List ℕ) → List ℕ → Ran Done
saying post parts text = let ran = written text 0 parts in record { answer = record { post = post; n = ran.answer }; bytes = ran.bytes }

-- that, and the two buffers that are lent from line to line
pub record Left : Type 0 where
  pub done : Ran Done
  pub out : List ℕ
  pub room : List ℕ

-- a line may answer r and leave out', room' and text'
pub record Leaves (left : Left) (r : Done) (out' room' text' : List ℕ) : Type 0 where
  pub done : Is left.done r text'
  pub out : out' ≡ left.out
  pub room : room' ≡ left.room

-- ---- the calls

-- an act, on as much of the output as is lent
abbrev pub acting : Post → Act → ℕ → List ℕ → List ℕ → Ran Outcome
acting post act number given out = on_front post.out out (λ front. acted post.session act number given front)

abbrev pub act_told : Post → Ran Outcome → List ℕ → Ran Done
act_told post ran text =
    let o = ran.answer in
    saying (with_session post o.session) (answer_text o.answer ran.bytes ++ state_text o.session) text

-- a piece, with as much of the reply room as is lent
abbrev pub feeding : Post → List ℕ → List ℕ → Ran Outcome
feeding post piece room = on_front post.room room (λ front. step post.session (feed piece front))

abbrev pub feed_told : Post → List ℕ → Ran Outcome → List ℕ → Ran Done
feed_told post piece ran text =
    let o = ran.answer in
    saying (with_session post o.session)
    (answer_text o.answer [] ++ (used_text o.used o.place piece ran.bytes ++ state_text o.session)) text

abbrev pub set_told : Post → Buffer → ℕ → List ℕ → Ran Done
set_told post buffer n text = saying (lending post buffer n) (word "ok" ∷ state_text post.session) text

-- a call on the board's messages, on as much of the output as is lent
abbrev pub speaking : Post → Board → List ℕ → List ℕ → Ran (Result ℕ Refusal)
speaking post what given out = on_front post.out out (λ front. wrote what given front)

abbrev pub obeyed : Verb → Post → ℕ → List ℕ → List ℕ → List ℕ → List ℕ → Left
obeyed (Acts act) post number given out room text =
    let ran = acting post act number given out in record { done = act_told post ran text; out = ran.bytes; room = room }
obeyed Feeds post number given out room text =
    let ran = feeding post given room in record { done = feed_told post given ran text; out = out; room = ran.bytes }
obeyed (Tells question) post number given out room text =
    record { done = saying post (question_text question given) text; out = out; room = room }
obeyed (Speaks what) post number given out room text =
    let ran = speaking post what given out in record { done = saying post (spoken_text what given ran) text; out = ran.bytes; room = room }
obeyed (Sets buffer) post number given out room text = record { done = set_told post buffer number text; out = out; room = room }
obeyed Helps post number given out room text = record { done = saying post (page ∷ []) text; out = out; room = room }

-- ---- the line, by its number in the script

-- what a line leaves, with the buffer for its bytes
pub record Heard : Type 0 where
  pub left : Left
  pub bytes : List ℕ

pub record Hears (heard : Heard) (r : Done) (bytes' out' room' text' : List ℕ) : Type 0 where
  pub left : Leaves heard.left r out' room' text'
  pub bytes : bytes' ≡ heard.bytes

-- what is wrong at a place of the line
abbrev pub faulted : ℕ → ℕ → Fault → Post → List ℕ → List ℕ → List ℕ → Left
faulted line place fault post out room text = record { done = saying post (fault_text line place fault) text; out = out; room = room }

-- a line that was read as a call, with the buffer that has its bytes
abbrev pub carried_out : ℕ → Result Asked Wrong → List ℕ → Post → List ℕ → List ℕ → List ℕ → Left
carried_out line (Ok asked) bytes post out room text = obeyed asked.call post asked.number (fore bytes asked.count) out room text
carried_out line (Err wrong) bytes post out room text = faulted line wrong.place wrong.fault post out room text

abbrev pub hearing : List ℕ → ℕ → Post → List ℕ → List ℕ → List ℕ → List ℕ → Heard
hearing line number post bytes out room text =
    let read = asked line bytes in
    record { left = carried_out number read.answer read.bytes post out room text; bytes = read.bytes }

-- how many bytes a line has at most
abbrev pub longest : ℕ
longest = 4096

-- a line with no word has no answer, one whose first word begins with # is copied, and any other is a call
abbrev pub answered : List ℕ → ℕ → Post → List ℕ → List ℕ → List ℕ → List ℕ → Heard
answered line number post bytes out room text =
    let start = skipped line 0 in
    pick (ltb longest (length line)) (record { left = faulted number longest TooLong post out room text; bytes = bytes })
    (pick (leb (length line) start)
    (record { left = record { done = record { answer = record { post = post; n = 0 }; bytes = text }; out = out; room = room }; bytes = bytes })
    (pick (eqb (byte_at line start) 35) (record { left = record { done = saying post (line ∷ []) text; out = out; room = room }; bytes = bytes })
    (hearing line number post bytes out room text)))
