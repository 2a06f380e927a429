-- What is promised of a refusal's text: refusals are told apart, and none ends with a blank.
-- Assumes nothing.
use Rattle.std.specs.Prelude.{◌≡◌}
use Rattle.model.specs.declared.Refusal.{Refusal}
use Rattle.words.specs.Words.{Bytes, concat}
use Rattle.model.specs.Refusals.{values_of}
use Rattle.refusals.specs.Refusals.{refusal_text}
use Rattle.text.specs.Ending.{EndsFull}

-- two refusals, whose values are bytes, with the same text are the same refusal
abbrev pub RefusalsTold : Type 0
RefusalsTold =
    (refusal other : Refusal) → Bytes (values_of refusal) → Bytes (values_of other) → concat (refusal_text refusal) ≡ concat (refusal_text other)
    → refusal ≡ other

-- no refusal ends with a blank
abbrev pub NoBlankEnd : Type 0
NoBlankEnd = (refusal : Refusal) → EndsFull (refusal_text refusal)
