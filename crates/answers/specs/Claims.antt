-- What is promised of the answers' text: none ends with a blank.
-- Assumes nothing.
use Rattle.std.specs.Prelude.{ℕ, List}
use Rattle.model.specs.declared.Answer.{Answer}
use Rattle.model.specs.declared.Place.{Place}
use Rattle.text.specs.Ending.{EndsFull}
use Rattle.answers.specs.Answers.{answer_text, used_text}

-- no answer and nothing that was used ends with a blank
abbrev pub NoBlankEnd : Type 0
NoBlankEnd =
    ((answer : Answer) (out : List ℕ) → EndsFull (answer_text answer out))
    × ((used : ℕ) (place : Place) (piece room : List ℕ) → EndsFull (used_text used place piece room))
