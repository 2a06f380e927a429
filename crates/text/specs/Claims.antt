-- What is promised of writing: parts stand one behind the other, and one outcome is allowed.
-- Assumes nothing.
use Rattle.std.specs.Prelude.{ℕ, ◌+◌, ◌≤◌, ◌≡◌, List, ◌++◌, length}
use Rattle.words.specs.Words.{concat}
use Rattle.words.specs.Contract.{Ran, OneOutcome}
use Rattle.lines.specs.Lines.{fore}
use Rattle.text.specs.Writing.{written, Puts}
use Rattle.text.specs.Adding.{Adds}
use Rattle.text.specs.declared.Text.{Text}

-- a text up to the place behind what was written
abbrev pub line : Ran ℕ → List ℕ
line w = fore w.bytes w.answer

-- parts for which a text has room stand in it one behind the other, behind what it had before the place, and the answer is the place behind them
abbrev pub Joined : Type 0
Joined =
    (text : List ℕ) (at : ℕ) (parts : List (List ℕ)) → at + length (concat parts) ≤ length text
    → (line (written text at parts) ≡ fore text at ++ concat parts) × ((written text at parts).answer ≡ at + length (concat parts))

-- writing parts allows one answer, and one content of the text
abbrev pub OneText : Type 0
OneText = (text : List ℕ) (at : ℕ) (parts : List (List ℕ)) → OneOutcome (Puts text at parts)

-- and so does adding them to a text: one place behind them, and one content of its buffer
abbrev pub OneAddition : Type 0
OneAddition =
    (old new new' : Text) (parts : List (List ℕ)) → Adds old parts new → Adds old parts new' → (new.at ≡ new'.at) × (new.bytes.now ≡ new'.bytes.now)
