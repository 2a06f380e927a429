-- Demand 2: a reply that is fed to a session in pieces means what the table says of all its bytes, and of no other.
-- Assumes nothing.
use Rattle.std.specs.Prelude.{ℕ, ◌-◌, ◌≤◌, ◌<◌, ◌≡◌, Bool, true, ◌⊎◌, List, ◌∷◌, ◌++◌, length, take, drop}
use Rattle.model.specs.declared.End.{End}
use Rattle.model.specs.declared.End.TheVariants.{Good, Woken, Error, Malformed}
use Rattle.model.specs.declared.Verdict.{Verdict}
use Rattle.model.specs.declared.Verdict.TheVariants.{More, Ended, NoRoom}
use Rattle.model.specs.declared.Place.{Place}
use Rattle.model.specs.declared.Place.TheVariants.{Nowhere, Piece, Room}
use Rattle.model.specs.declared.Answer.{Answer}
use Rattle.model.specs.declared.Outcome.{Outcome}
use Rattle.words.specs.Words.{pick}
use Rattle.words.specs.Contract.{Ran}
use Rattle.model.specs.Refusals.{number, number_in, values_in}
use Rattle.model.specs.Replies.{least_room, Meaning, reply, data_of}
use Rattle.model.specs.Session.{is_waiting, is_running, feed, step}
use Rattle.model.specs.History.{Reached, Exchange, exchanges}
use Rattle.model.specs.Promises.{After, Reports}

-- ---- what is answered

-- a wake is told as it is, or ends the calibration that runs; an error is 7, or 12 in a calibration, with its code
abbrev pub EndSaid : End → Bool → Answer → Type 0
EndSaid Good running a = a ≡ Answer.Good
EndSaid (Woken w) running a = (a ≡ Answer.Woken w) ⊎ ((running ≡ true) × ((n : ℕ) × Reports a n))
EndSaid (Error code) running a = (number_in a ≡ number (pick running 12 7)) × ((more : List ℕ) × (values_in a ≡ code ∷ more))
EndSaid (Malformed place b) running a = number_in a ≡ number 5

abbrev pub Said : Verdict → Bool → Answer → Type 0
Said More running a = a ≡ Answer.More
Said (Ended e) running a = EndSaid e running a
Said NoRoom running a = ⊥

-- ---- the room

-- the data of the bytes fed so far stand at its front
abbrev pub InFront : List ℕ → List ℕ → Type 0
InFront bytes room = take (length bytes - 2) room ≡ drop 2 bytes

-- where all data lie in the piece just given, the room is untouched; otherwise they are its front, and the rest is as it was
abbrev pub PlacedIn : Place → List ℕ → List ℕ → List ℕ → List ℕ → Type 0
PlacedIn Nowhere payload earlier room exit = exit ≡ room
PlacedIn (Piece start count) payload earlier room exit = (length earlier ≤ 2) × (exit ≡ room)
PlacedIn (Room count) payload earlier room exit = (2 < length earlier) × (count ≡ length payload) × (exit ≡ payload ++ drop count room)

-- while more is to come, the data taken so far stand at the front, and the rest is as it was
abbrev pub RoomAfter : Verdict → Place → List ℕ → List ℕ → List ℕ → List ℕ → List ℕ → Type 0
RoomAfter More place payload earlier piece room exit = exit ≡ drop 2 (earlier ++ piece) ++ drop (length (earlier ++ piece) - 2) room
RoomAfter (Ended e) place payload earlier piece room exit = PlacedIn place payload earlier room exit
RoomAfter NoRoom place payload earlier piece room exit = ⊥

-- ---- a piece behind earlier ones

-- m is what the table says of all the bytes fed since the command
pub record Read (m : Meaning) (running : Bool) (earlier piece room : List ℕ) (o : Ran Outcome) : Type 0 where
  pub said : Said m.verdict running o.answer.answer
  pub handed_out : data_of piece o.bytes o.answer.place ≡ m.payload
  pub left : RoomAfter m.verdict o.answer.place m.payload earlier piece room o.bytes

-- where a reply is awaited, and the room lent holds what the pieces before left there
abbrev pub ReadsPieces : Type 0
ReadsPieces =
    (r : Reached) → After r → is_waiting r.session.state ≡ true → (x : Exchange) (es : List Exchange) → exchanges r.history ≡ x ∷ es →
    (b : ℕ) (bs room : List ℕ) → least_room ≤ length room → InFront x.bytes room →
    Read (reply x.awaited (x.bytes ++ b ∷ bs)) (is_running r.session.calibration) x.bytes (b ∷ bs) room (step r.session (feed (b ∷ bs) room))
