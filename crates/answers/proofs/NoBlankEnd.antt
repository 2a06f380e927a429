-- No text of an answer ends with a blank.
-- Assumes nothing.
use Prim.Native.Nat.{ℕ}
use mathlib.Core.Path.{refl}
use mathlib.Core.List.{List, [], ◌∷◌, ◌++◌}
use Rattle.model.specs.declared.Answer.{Answer}
use Rattle.model.specs.declared.Answer.TheVariants.{Done, Sent, More, Good, Woken, Reference, Refused}
use Rattle.model.specs.declared.Wake.{Wake}
use Rattle.model.specs.declared.Wake.TheVariants.{Timeout, Tag, IrqIn, SpiSs}
use Rattle.model.specs.declared.Place.{Place}
use Rattle.model.specs.declared.Place.TheVariants.{Nowhere, Piece, Room}
use Rattle.model.specs.Replies.{data_of}
use Rattle.lines.specs.Lines.{fore}
use Rattle.text.specs.Writing.{word, hexes, number}
use Rattle.text.specs.Ending.{EndsFull}
use Rattle.text.proofs.Ending.{after, number_ends, bytes_end}
use Rattle.refusals.proofs.NoBlankEnd.{no_blank_end as refusal-ends}
use Rattle.answers.specs.Answers.{wake_name, answer_text, held_text, used_text}
use Rattle.answers.specs.Claims.{NoBlankEnd}

sent_ends : (bytes : List ℕ) → EndsFull (word "sent" ∷ hexes bytes)
sent_ends [] = refl
sent_ends (byte ∷ bytes) = after (word "sent" ∷ []) (hexes (byte ∷ bytes)) (bytes_end byte bytes)

wake_ends : (wake : Wake) → EndsFull (word "woken" ∷ wake_name wake ∷ [])
wake_ends Timeout = refl
wake_ends Tag = refl
wake_ends IrqIn = refl
wake_ends SpiSs = refl

answer_ends : (answer : Answer) (out : List ℕ) → EndsFull (answer_text answer out)
answer_ends Done out = refl
answer_ends (Sent count) out = sent_ends (fore out count)
answer_ends More out = refl
answer_ends Good out = refl
answer_ends (Woken wake) out = wake_ends wake
answer_ends (Reference reference commands) out = number_ends commands
answer_ends (Refused refusal) out = refusal-ends refusal

held_ends : (used : ℕ) (name bytes : List ℕ) → EndsFull (word " used" ∷ (number used ++ held_text name bytes))
held_ends used name [] = after (word " used" ∷ []) (number used) (number_ends used)
held_ends used name (byte ∷ bytes) = after (word " used" ∷ (number used ++ (name ∷ []))) (hexes (byte ∷ bytes)) (bytes_end byte bytes)

used_ends : (used : ℕ) (place : Place) (piece room : List ℕ) → EndsFull (used_text used place piece room)
used_ends used Nowhere piece room = held_ends used [] []
used_ends used (Piece start count) piece room = held_ends used (word " piece") (data_of piece room (Piece start count))
used_ends used (Room count) piece room = held_ends used (word " room") (data_of piece room (Room count))

pub no_blank_end : NoBlankEnd
no_blank_end = (answer_ends, used_ends)
