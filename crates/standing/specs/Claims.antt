-- What is promised of the text of a state: it does not end with a blank.
-- Assumes nothing.
use Rattle.model.specs.declared.Session.{Session}
use Rattle.text.specs.Ending.{EndsFull}
use Rattle.standing.specs.Standing.{state_text}

-- no state ends with a blank
abbrev pub NoBlankEnd : Type 0
NoBlankEnd = (s : Session) → EndsFull (state_text s)
