-- What is promised of stakes: which answers are refused, that a stake is its thirteen bytes, and that it is read off what the chip sent.
-- Assumes nothing.
use Rattle.std.specs.Prelude.{ℕ, ◌/◌, ◌%◌, ◌≤◌, ◌<◌, ◌≡◌, true, ◌↔◌, List, ◌∷◌, ◌++◌, eqb, length, get_or, set, take, Ok, Result}
use Rattle.model.specs.declared.Kind.TheVariants.{SendRecv}
use Rattle.model.specs.declared.Answer.{Answer}
use Rattle.model.specs.declared.Outcome.{Outcome}
use Rattle.words.specs.Words.{pick, Bytes}
use Rattle.words.specs.Contract.{Ran, Is, OneAnswer, OneOutcome}
use Rattle.model.specs.Refusals.{number}
use Rattle.model.specs.Replies.{least_room, data_of}
use Rattle.model.specs.Session.{is_waiting, feed, step}
use Rattle.model.specs.History.{Reached, Exchange, exchanges}
use Rattle.model.specs.Promises.{After}
use Rattle.model.specs.Feeding.{InFront}
use Rattle.crc.specs.Crc.{crc_of}
use Rattle.stakes.specs.declared.Stake.{Stake}
use Rattle.stakes.specs.declared.Slots.{Slots}
use Rattle.stakes.specs.Stakes.{together, apart, read, number_in, write}
use Rattle.stakes.specs.declared.Unread.{Unread}

-- ---- refusals 13, 14 and 15

-- the CRC of a stake is that of the ten bytes before it
pub record Closed (s : Stake) : Type 0 where
  pub low : s.crc.low ≡ crc_of (take 10 (together s)) % 256
  pub high : s.crc.high ≡ crc_of (take 10 (together s)) / 256

-- each is given exactly where its condition holds and none before it does
pub record RefusedFor (xs : List ℕ) : Type 0 where
  pub other_length : (number_in (read xs) ≡ number 13) ↔ (length xs ≡ 13 → ⊥)
  pub wrong_crc : (number_in (read xs) ≡ number 14) ↔ ((length xs ≡ 13) × (Closed (apart xs) → ⊥))
  pub wrong_status : (number_in (read xs) ≡ number 15) ↔ ((length xs ≡ 13) × Closed (apart xs) × ((apart xs).status ≡ 0 → ⊥))

abbrev pub Refuses : Type 0
Refuses = (xs : List ℕ) → RefusedFor xs

-- ---- a stake is its thirteen bytes

-- bytes are taken apart to a stake exactly if that, put together, is these bytes again, with the right CRC and the status zero
abbrev pub PutTogether : Type 0
PutTogether = (xs : List ℕ) (s : Stake) → (read xs ≡ Ok s) ↔ ((together s ≡ xs) × Closed s × (s.status ≡ 0))

-- an answer that is taken is refused with any one of its bytes changed: with 15 where that is the status, with 14 otherwise
abbrev pub Notices : Type 0
Notices =
    (xs : List ℕ) (s : Stake) (k b : ℕ) → read xs ≡ Ok s → Bytes xs → k < length xs → b < 256 → (get_or xs k 0 ≡ b → ⊥) →
    number_in (read (set xs k b)) ≡ number (pick (eqb k 12) 15 14)

-- ---- a stake is read off what the chip sent

-- the data that a feed hands out
abbrev pub handed_out : List ℕ → Ran Outcome → List ℕ
handed_out piece o = data_of piece o.bytes o.answer.place

-- a piece is good and its data are read as a stake
abbrev pub Reads : List ℕ → Ran Outcome → Stake → Type 0
Reads piece o s = (o.answer.answer ≡ Answer.Good) × (read (handed_out piece o) ≡ Ok s)

-- what was fed since the command begins with 80, 0D and the stake's thirteen bytes
abbrev pub Begins : List ℕ → Stake → Type 0
Begins fed s = (more : List ℕ) × (fed ≡ 0x80 ∷ 0x0D ∷ (together s ++ more))

-- after any calls since a power-on, where the reply to a SendRecv is awaited and comes in any pieces, with one room for all of them: a feed
-- hands out the data of a stake exactly if the bytes fed since the command begin with that stake, its CRC right and its status zero
abbrev pub ReadOff : Type 0
ReadOff =
    (r : Reached) → After r → is_waiting r.session.state ≡ true → (x : Exchange) (es : List Exchange) → exchanges r.history ≡ x ∷ es →
    x.awaited.kind ≡ SendRecv → (b : ℕ) (bs room : List ℕ) → least_room ≤ length room → InFront x.bytes room → (s : Stake) →
    Reads (b ∷ bs) (step r.session (feed (b ∷ bs) room)) s ↔ (Begins (x.bytes ++ b ∷ bs) s × Closed s × (s.status ≡ 0))

-- ---- any two outcomes that a contract allows coincide

pub record OneEach : Type 0 where
  pub reads : (xs : List ℕ) → OneAnswer (λ (r : Result Stake Unread). r ≡ read xs)
  pub writes : (slots : Slots) (out : List ℕ) → OneOutcome (Is (write slots out))
