-- Document 02, P5: what a stake answers to an inventory, as the data of a SendRecv reply, and the request that asks for it.
-- Assumes nothing.
use Rattle.std.specs.Prelude.{ℕ, ◌/◌, ◌%◌, Bool, ◌&&◌, List, [], ◌∷◌, eqb, length, take, get_or, Err, Ok, Result}
use Rattle.words.specs.Words.{pick}
use Rattle.words.specs.Contract.{Ran}
use Rattle.model.specs.Refusals.{Number, none, number}
use Rattle.frames.specs.Putting.{put}
use Rattle.stakes.specs.declared.Uid.{Uid}
use Rattle.stakes.specs.declared.Crc.{Crc}
use Rattle.stakes.specs.declared.Stake.{Stake}
use Rattle.stakes.specs.declared.Unread.{Unread}
use Rattle.stakes.specs.declared.Unread.TheVariants.{OtherLength, WrongCrc, WrongStatus}
use Rattle.stakes.specs.declared.Slots.{Slots}
use Rattle.stakes.specs.declared.Slots.TheVariants.{One, Sixteen}
use Rattle.crc.specs.Crc.{crc_of}
use Rattle.model.specs.declared.Refusal.{Refusal}

-- ---- the thirteen bytes

-- flags, DSFID, the eight bytes of the UID, the lowest first, two of the CRC, the low one first, and the status
abbrev pub together : Stake → List ℕ
together s =
    s.flags ∷ s.dsfid ∷
    s.uid.eighth ∷ s.uid.seventh ∷ s.uid.sixth ∷ s.uid.fifth ∷ s.uid.fourth ∷ s.uid.third ∷ s.uid.second ∷ s.uid.first ∷
    s.crc.low ∷ s.crc.high ∷ s.status ∷ []

-- a UID as people write it
abbrev pub written : Uid → List ℕ
written u = u.first ∷ u.second ∷ u.third ∷ u.fourth ∷ u.fifth ∷ u.sixth ∷ u.seventh ∷ u.eighth ∷ []

abbrev pub uid_at : List ℕ → Uid
uid_at xs =
    record {
      first = get_or xs 9 0;
      second = get_or xs 8 0;
      third = get_or xs 7 0;
      fourth = get_or xs 6 0;
      fifth = get_or xs 5 0;
      sixth = get_or xs 4 0;
      seventh = get_or xs 3 0;
      eighth = get_or xs 2 0;
    }

abbrev pub apart : List ℕ → Stake
apart xs =
    record {
      flags = get_or xs 0 0;
      dsfid = get_or xs 1 0;
      uid = uid_at xs;
      crc = record { low = get_or xs 10 0; high = get_or xs 11 0 };
      status = get_or xs 12 0;
    }

-- ---- the reader

-- refused, unless a test holds
abbrev pub unless : Bool → Unread → Result Stake Unread → Result Stake Unread
unless b k otherwise = pick b otherwise (Err k)

-- a CRC is that of bytes
abbrev pub is_of : Crc → List ℕ → Bool
is_of crc bs = eqb crc.low (crc_of bs % 256) && eqb crc.high (crc_of bs / 256)

abbrev pub is_thirteen : List ℕ → Bool
is_thirteen xs = eqb (length xs) 13

-- over the ten bytes before it
abbrev pub is_closed : List ℕ → Bool
is_closed xs = is_of (apart xs).crc (take 10 xs)

abbrev pub is_zero : List ℕ → Bool
is_zero xs = eqb (apart xs).status 0x00

-- not 13 bytes, a wrong CRC, a status that is not zero, tested in that order; flags and DSFID are carried unchecked
abbrev pub read : List ℕ → Result Stake Unread
read xs = unless (is_thirteen xs) OtherLength (unless (is_closed xs) WrongCrc (unless (is_zero xs) WrongStatus (Ok (apart xs))))

-- their numbers
abbrev pub number_of : Unread → ℕ
number_of OtherLength = 13
number_of WrongCrc = 14
number_of WrongStatus = 15

abbrev pub number_in : Result Stake Unread → Number
number_in (Ok s) = none
number_in (Err k) = number (number_of k)

-- ---- the request

-- flags, which tell the number of slots, the command Inventory, and a mask of no bits
abbrev pub request : Slots → List ℕ
request One = 0x26 ∷ 0x01 ∷ 0x00 ∷ []
request Sixteen = 0x06 ∷ 0x01 ∷ 0x00 ∷ []

-- it stands at the front of the output, or that is too short (1)
abbrev pub write : Slots → List ℕ → Ran (Result ℕ Refusal)
write slots out = put (request slots) out
