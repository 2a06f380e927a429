-- Inventory answers and requests that document 000 prints, and answers beside them, taken or refused.
-- Assumes nothing.
use Rattle.std.specs.Prelude.{ℕ, ◌≡◌, Bool, true, false, List, [], ◌∷◌, ◌++◌, map, take, drop, set, replicate, Err, Ok, Result}
use Rattle.model.specs.declared.Interface.TheVariants.{Uart}
use Rattle.model.specs.declared.Refusal.TheVariants.{Short}
use Rattle.model.specs.declared.Kind.TheVariants.{ProtocolSelect, SendRecv}
use Rattle.words.specs.Words.{those}
use Rattle.words.specs.Contract.{Ran}
use Rattle.model.specs.Refusals.{Number, number}
use Rattle.model.specs.Frames.{protocol_select, send_recv}
use Rattle.model.specs.Replies.{least_room}
use Rattle.model.specs.Session.{unpowered, is_waiting, Call, pulse, feed, step}
use Rattle.model.specs.History.{Reached, on, run, turn, requested, exchange, exchanges}
use Rattle.model.specs.Feeding.{InFront}
use Rattle.stakes.specs.declared.Uid.{Uid}
use Rattle.stakes.specs.declared.Stake.{Stake}
use Rattle.stakes.specs.declared.Slots.TheVariants.{One, Sixteen}
use Rattle.stakes.specs.Stakes.{together, written, read, number_in, request, write}
use Rattle.stakes.specs.Claims.{Reads}
use Rattle.model.specs.declared.Refusal.{Refusal}
use Rattle.stakes.specs.declared.Unread.{Unread}

-- ---- answers

-- table 14: flags 00, DSFID 00, UID E0 02 29 D6 6C 40 E0 CD, CRC 05 79
abbrev pub answer : List ℕ
answer = 0x00 ∷ 0x00 ∷ 0xCD ∷ 0xE0 ∷ 0x40 ∷ 0x6C ∷ 0xD6 ∷ 0x29 ∷ 0x02 ∷ 0xE0 ∷ 0x05 ∷ 0x79 ∷ 0x00 ∷ []

-- D.4.1, LR family and dual family
abbrev pub answer_lr : List ℕ
answer_lr = 0x00 ∷ 0x00 ∷ 0xB7 ∷ 0x10 ∷ 0x01 ∷ 0x28 ∷ 0xB4 ∷ 0x21 ∷ 0x02 ∷ 0xE0 ∷ 0x66 ∷ 0xCC ∷ 0x00 ∷ []

abbrev pub answer_dual : List ℕ
answer_dual = 0x00 ∷ 0xFF ∷ 0x07 ∷ 0x06 ∷ 0x20 ∷ 0x92 ∷ 0x13 ∷ 0x2C ∷ 0x02 ∷ 0xE0 ∷ 0x3D ∷ 0x22 ∷ 0x00 ∷ []

-- no two bytes alike
abbrev pub unlike : List ℕ
unlike = 0x11 ∷ 0x12 ∷ 0x13 ∷ 0x14 ∷ 0x15 ∷ 0x16 ∷ 0x17 ∷ 0x18 ∷ 0x19 ∷ 0x1A ∷ 0x1E ∷ 0x01 ∷ 0x00 ∷ []

abbrev pub uid : ℕ → ℕ → ℕ → ℕ → ℕ → ℕ → ℕ → ℕ → Uid
uid a b c d e f g h = record { first = a; second = b; third = c; fourth = d; fifth = e; sixth = f; seventh = g; eighth = h }

abbrev pub stake : ℕ → ℕ → Uid → ℕ → ℕ → ℕ → Stake
stake flags dsfid u low high status = record { flags = flags; dsfid = dsfid; uid = u; crc = record { low = low; high = high }; status = status }

pub record Answers : Type 0 where
  pub printed : read answer ≡ Ok (stake 0x00 0x00 (uid 0xE0 0x02 0x29 0xD6 0x6C 0x40 0xE0 0xCD) 0x05 0x79 0x00)
  pub printed_lr : read answer_lr ≡ Ok (stake 0x00 0x00 (uid 0xE0 0x02 0x21 0xB4 0x28 0x01 0x10 0xB7) 0x66 0xCC 0x00)
  pub printed_dual : read answer_dual ≡ Ok (stake 0x00 0xFF (uid 0xE0 0x02 0x2C 0x13 0x92 0x20 0x06 0x07) 0x3D 0x22 0x00)
  pub in_place : read unlike ≡ Ok (stake 0x11 0x12 (uid 0x1A 0x19 0x18 0x17 0x16 0x15 0x14 0x13) 0x1E 0x01 0x00)
  pub put : together (stake 0x21 0x22 (uid 0x2A 0x29 0x28 0x27 0x26 0x25 0x24 0x23) 0x2B 0x2C 0x2D)
      ≡ 0x21 ∷ 0x22 ∷ 0x23 ∷ 0x24 ∷ 0x25 ∷ 0x26 ∷ 0x27 ∷ 0x28 ∷ 0x29 ∷ 0x2A ∷ 0x2B ∷ 0x2C ∷ 0x2D ∷ []
  -- as people write it
  pub uid_written : written (uid 0x2A 0x29 0x28 0x27 0x26 0x25 0x24 0x23) ≡ 0x2A ∷ 0x29 ∷ 0x28 ∷ 0x27 ∷ 0x26 ∷ 0x25 ∷ 0x24 ∷ 0x23 ∷ []

-- ---- refusals

abbrev pub is_taken : Result Stake Unread → Bool
is_taken (Ok s) = true
is_taken (Err k) = false

abbrev pub numbers : List (List ℕ) → List Number
numbers = map (λ (xs : List ℕ). number_in (read xs))

-- one byte is another
abbrev pub with_at : ℕ → ℕ → List ℕ
with_at b k = set unlike k b

-- the CRC's bytes exchanged
abbrev pub exchanged : List ℕ
exchanged = set (set unlike 10 0x01) 11 0x1E

pub record Refusals : Type 0 where
  -- no byte; one too few at either end; one too many at either end, the reply's own length byte first
  pub other_lengths :
      numbers ([] ∷ take 12 unlike ∷ drop 1 unlike ∷ (unlike ++ 0x00 ∷ []) ∷ (0x0D ∷ unlike) ∷ []) ≡ replicate 5 (number 13)
  -- any of the first twelve changed
  pub wrong_crc :
      map (λ (k : ℕ). number_in (read (with_at 0x55 k))) (0 ∷ 1 ∷ 2 ∷ 3 ∷ 4 ∷ 5 ∷ 6 ∷ 7 ∷ 8 ∷ 9 ∷ 10 ∷ 11 ∷ []) ≡ replicate 12 (number 14)
  pub crc_exchanged : number_in (read exchanged) ≡ number 14
  -- the statuses that are taken; a CRC error and a collision by table 15 of 000, and a bit that is RFU there
  pub statuses : those (λ (b : ℕ). is_taken (read (with_at b 12))) 256 [] ≡ 0x00 ∷ []
  pub wrong_status : map (λ (b : ℕ). number_in (read (with_at b 12))) (0x01 ∷ 0x02 ∷ 0x80 ∷ []) ≡ replicate 3 (number 15)
  -- where several could be given, the first in the order is
  pub length_first : number_in (read (take 12 (with_at 0x55 4))) ∷ number_in (read (0x02 ∷ with_at 0x02 12)) ∷ [] ≡ replicate 2 (number 13)
  pub crc_before_status : number_in (read (set (with_at 0x02 12) 4 0x55)) ≡ number 14

-- ---- the request

-- an output of some length, no two bytes alike
abbrev pub output : ℕ → List ℕ
output n = take n (0x31 ∷ 0x32 ∷ 0x33 ∷ 0x34 ∷ 0x35 ∷ [])

abbrev pub gives : ℕ → List ℕ → Ran (Result ℕ Refusal)
gives n bytes = record { answer = Ok n; bytes = bytes }

abbrev pub short : List ℕ → Ran (Result ℕ Refusal)
short bytes = record { answer = Err Short; bytes = bytes }

pub record Requests : Type 0 where
  pub one_slot : write One (output 5) ≡ gives 3 (0x26 ∷ 0x01 ∷ 0x00 ∷ 0x34 ∷ 0x35 ∷ [])
  pub sixteen_slots : write Sixteen (output 3) ≡ gives 3 (0x06 ∷ 0x01 ∷ 0x00 ∷ [])
  pub too_short : map (λ (n : ℕ). write One (output n)) (0 ∷ 1 ∷ 2 ∷ []) ≡ short [] ∷ short (0x31 ∷ []) ∷ short (0x31 ∷ 0x32 ∷ []) ∷ []

-- ---- at a session: select, inventory, and the answer in two pieces

abbrev pub room : List ℕ
room = replicate least_room 0xEE

abbrev pub out : List ℕ
out = replicate 20 0xEE

abbrev pub asked : Reached
asked =
    run (on unpowered Uart)
    (pulse ∷ Call.request (protocol_select 0x01 (0x05 ∷ [])) out ∷ feed (0x00 ∷ 0x00 ∷ []) room ∷ Call.request (send_recv (request One)) out ∷ [])

-- 80, 0D and five bytes were fed
abbrev pub begun : Reached
begun = turn asked (feed (0x80 ∷ 0x0D ∷ take 5 answer) room)

-- the room as that feed left it
abbrev pub held : List ℕ
held = (step asked.session (feed (0x80 ∷ 0x0D ∷ take 5 answer) room)).bytes

pub record Heard : Type 0 where
  pub waiting : is_waiting begun.session.state ≡ true
  pub since : exchanges begun.history ≡ exchange requested (record { kind = SendRecv; first = 0x26 }) (0x80 ∷ 0x0D ∷ take 5 answer) 7
      ∷ exchange requested (record { kind = ProtocolSelect; first = 0x01 }) (0x00 ∷ 0x00 ∷ []) 2 ∷ []
  pub in_front : InFront (0x80 ∷ 0x0D ∷ take 5 answer) held
  pub stake_read :
      Reads (drop 5 answer) (step begun.session (feed (drop 5 answer) held)) (stake 0x00 0x00 (uid 0xE0 0x02 0x29 0xD6 0x6C 0x40 0xE0 0xCD) 0x05 0x79 0x00)
