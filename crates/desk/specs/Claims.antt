-- What is promised of a line of a script.
-- Assumes nothing.
use Rattle.std.specs.Prelude.{ℕ, ◌≤◌, ◌<◌, ◌≡◌, ◌⊎◌, List, length}
use Rattle.model.specs.declared.Session.{Session}
use Rattle.model.specs.Session.{Call, step}
use Rattle.lines.specs.Lines.{byte_at, skipped}
use Rattle.calls.specs.declared.Fault.{Fault}
use Rattle.calls.specs.declared.Fault.TheVariants.{TooLong}
use Rattle.reading.specs.Asking.{wrong, asked}
use Rattle.faults.specs.Faults.{fault_text}
use Rattle.help.specs.Page.{page}
use Rattle.desk.specs.declared.Post.{Post}
use Rattle.desk.specs.declared.Done.{Done}
use Rattle.desk.specs.Desk.{Heard, Hears, saying, longest, answered}

-- a call of the session leads from s to next
pub record Made (s next : Session) : Type 0 where
  pub call : Call
  pub is : next ≡ (step s call).answer.session

-- the session after a line is the one before it, or what one call makes of it
abbrev pub OneCall : Type 0
OneCall =
    (line : List ℕ) (number : ℕ) (post : Post) (bytes out room text : List ℕ)
    → let next = (answered line number post bytes out room text).left.done.answer.post.session in (next ≡ post.session) ⊎ Made post.session next

-- a line that is no call is told what is wrong with it and where, and changes nothing
abbrev pub Unmoved : Type 0
Unmoved =
    (line : List ℕ) (number : ℕ) (post : Post) (bytes out room text : List ℕ) (place : ℕ) (fault : Fault) → length line ≤ longest
    → skipped line 0 < length line → (byte_at line (skipped line 0) ≡ 35 → ⊥) → (asked line bytes).answer ≡ wrong place fault
    → (answered line number post bytes out room text).left ≡ record { done = saying post (fault_text number place fault) text; out = out; room = room }

-- and so is a line that is too long
abbrev pub Shortened : Type 0
Shortened =
    (line : List ℕ) (number : ℕ) (post : Post) (bytes out room text : List ℕ) → longest < length line
    → (answered line number post bytes out room text).left ≡ record { done = saying post (fault_text number longest TooLong) text; out = out; room = room }

-- a line with a word is answered, where the text has room for the line and for the page
abbrev pub Answered : Type 0
Answered =
    (line : List ℕ) (number : ℕ) (post : Post) (bytes out room text : List ℕ) → skipped line 0 < length line → length line ≤ length text
    → length page ≤ length text → 0 < (answered line number post bytes out room text).left.done.answer.n

-- a line allows one answer, and one content of each buffer
abbrev pub OneLine : Type 0
OneLine =
    (heard : Heard) (r r' : Done) (bytes bytes' out out' room room' text text' : List ℕ) → Hears heard r bytes out room text
    → Hears heard r' bytes' out' room' text' → (r ≡ r') × (bytes ≡ bytes') × (out ≡ out') × (room ≡ room') × (text ≡ text')

-- of what the buffer for the bytes of a line held before, only its length matters
abbrev pub Fresh : Type 0
Fresh =
    (line : List ℕ) (number : ℕ) (post : Post) (bytes other out room text : List ℕ) → length bytes ≡ length other
    → (answered line number post bytes out room text).left ≡ (answered line number post other out room text).left
