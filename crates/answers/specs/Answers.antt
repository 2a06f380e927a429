-- What a call of the session answered, as text.
-- Assumes nothing.
use Rattle.std.specs.Prelude.{ℕ, List, [], ◌∷◌, ◌++◌}
use Rattle.model.specs.declared.Answer.{Answer}
use Rattle.model.specs.declared.Answer.TheVariants.{Done, Sent, More, Good, Woken, Reference, Refused}
use Rattle.model.specs.declared.Place.{Place}
use Rattle.model.specs.declared.Place.TheVariants.{Nowhere, Piece, Room}
use Rattle.model.specs.declared.Wake.{Wake}
use Rattle.model.specs.declared.Wake.TheVariants.{Timeout, Tag, IrqIn, SpiSs}
use Rattle.model.specs.Replies.{data_of}
use Rattle.lines.specs.Lines.{fore}
use Rattle.text.specs.Writing.{word, hex, hexes, number}
use Rattle.refusals.specs.Refusals.{commands_text, refusal_text}

-- ---- the answer

-- what woke the chip
abbrev pub wake_name : Wake → List ℕ
wake_name Timeout = word " timeout"
wake_name Tag = word " tag"
wake_name IrqIn = word " irq-in"
wake_name SpiSs = word " spi-ss"

-- the bytes that were sent are at the front of out
abbrev pub answer_text : Answer → List ℕ → List (List ℕ)
answer_text Done out = word "ok" ∷ []
answer_text (Sent count) out = word "sent" ∷ hexes (fore out count)
answer_text More out = word "more" ∷ []
answer_text Good out = word "good" ∷ []
answer_text (Woken wake) out = word "woken" ∷ wake_name wake ∷ []
answer_text (Reference reference commands) out = word "reference" ∷ hex reference ∷ commands_text commands
answer_text (Refused refusal) out = refusal_text refusal

-- ---- what was used of a piece, and the data of a reply

-- bytes behind the name of the buffer that holds them; no bytes, no name
abbrev pub held_text : List ℕ → List ℕ → List (List ℕ)
held_text name [] = []
held_text name (byte ∷ bytes) = name ∷ hexes (byte ∷ bytes)

abbrev pub data_text : Place → List ℕ → List (List ℕ)
data_text Nowhere bytes = []
data_text (Piece start count) bytes = held_text (word " piece") bytes
data_text (Room count) bytes = held_text (word " room") bytes

abbrev pub used_text : ℕ → Place → List ℕ → List ℕ → List (List ℕ)
used_text used place piece room = word " used" ∷ (number used ++ data_text place (data_of piece room place))
