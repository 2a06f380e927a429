-- Request P3, long replies: the pairs of 000's table 8 and lengths beside them, whole and cut; the least room; records that no call made.
-- Assumes nothing.
use Rattle.std.specs.Prelude.{ℕ, suc, ◌+◌, ◌≡◌, List, [], ◌∷◌, ◌++◌, map, replicate, take, drop}
use Rattle.model.specs.declared.Awaited.{Awaited}
use Rattle.model.specs.declared.Phase.{Phase}
use Rattle.model.specs.declared.Phase.TheVariants.{Counting, Waking, Data}
use Rattle.model.specs.declared.Verdict.{Verdict}
use Rattle.model.specs.declared.Verdict.TheVariants.{More, NoRoom}
use Rattle.model.specs.declared.Place.TheVariants.{Nowhere, Piece, Room}
use Rattle.model.specs.declared.State.TheVariants.{Selected}
use Rattle.model.specs.declared.Answer.TheVariants.{Good}
use Rattle.words.specs.Words.{those}
use Rattle.model.specs.Replies.{is_received, data_length, Meaning, meaning, reply, at, begun, feed}
use Rattle.model.specs.Claims.{feeds}
use Rattle.cases.specs.Awaiting.{ascending, index, to_idn, to_select, to_send, to_idle, to_read, to_write, to_echo, good, wrong}
use Rattle.cases.specs.Sessions.{selected}
use Rattle.cases.specs.Replies.{bad, AllBad, fed}
use Rattle.cases.specs.Replying.{left, waits, lent, sends, whole, cut, room_after, room_at_end}

-- ---- the lengths

-- a result code, the byte behind it, and how many data bytes follow
pub record Length : Type 0 where
  pub code : ℕ
  pub byte : ℕ
  pub number : ℕ

abbrev pub by : ℕ → ℕ → ℕ → Length
by code byte number = record { code = code; byte = byte; number = number }

-- table 8 as it is printed
abbrev pub table8 : List Length
table8 =
    by 0x80 0x00 0 ∷ by 0x80 0x01 1 ∷ by 0x80 0xFF 255 ∷ by 0xA0 0x00 256 ∷ by 0xA0 0x01 257 ∷ by 0xA0 0xFF 511 ∷ by 0xC0 0x00 512 ∷ by 0xC0 0x01 513 ∷ []

-- the greatest
abbrev pub lengths : List Length
lengths = table8 ++ by 0xC0 0x10 528 ∷ []

-- the data, no two of 256 alike; the reply; and the reply with what follows it
abbrev pub carried : Length → List ℕ
carried l = ascending 0x31 l.number

abbrev pub reply_of : Length → List ℕ
reply_of l = l.code ∷ l.byte ∷ carried l

abbrev pub followed : Length → List ℕ
followed l = reply_of l ++ 0x99 ∷ 0x98 ∷ []

-- what each means: all its data
abbrev pub delivered : Length → Meaning
delivered l = meaning good (carried l) (2 + l.number)

pub record Lengths : Type 0 where
  pub told : map (λ (l : Length). data_length l.code l.byte) lengths ≡ map (λ (l : Length). l.number) lengths
  pub replies : map (λ (l : Length). reply to_send (followed l)) lengths ≡ map delivered lengths
  -- of the result code bits 6 and 5 count, and no other
  pub by_bits :
      map (λ (code : ℕ). data_length code 0x07) (0x00 ∷ 0x20 ∷ 0x40 ∷ 0x60 ∷ 0x9F ∷ 0xBF ∷ 0xDF ∷ 0xFF ∷ []) ≡
      7 ∷ 263 ∷ 519 ∷ 775 ∷ 7 ∷ 263 ∷ 519 ∷ 775 ∷ []
  pub codes : those is_received 256 [] ≡ 0x80 ∷ 0xA0 ∷ 0xC0 ∷ []
  -- malformed at the byte that shows it
  pub beside :
      AllBad (
      bad to_send (0x90 ∷ 0x01 ∷ 0x31 ∷ []) 0 ∷ bad to_send (0xB0 ∷ 0x01 ∷ 0x31 ∷ []) 0 ∷ bad to_send (0xD0 ∷ 0x01 ∷ 0x31 ∷ []) 0 ∷
      bad to_send (0xE0 ∷ 0x00 ∷ []) 0 ∷ bad to_send (0xF0 ∷ 0x00 ∷ []) 0 ∷ bad to_send (0xA1 ∷ 0x00 ∷ []) 0 ∷ bad to_send (0x20 ∷ 0x00 ∷ []) 0 ∷
      bad to_send (0xC0 ∷ 0x11 ∷ 0x31 ∷ []) 1 ∷ bad to_send (0xC0 ∷ 0xFF ∷ 0x31 ∷ []) 1 ∷
      -- to another command
      bad to_idn (0xA0 ∷ 0x0F ∷ []) 0 ∷ bad (to_select 1) (0xC0 ∷ 0x00 ∷ []) 0 ∷ bad (to_idle 0x03) (0xA0 ∷ 0x01 ∷ []) 0 ∷
      bad (to_read 0x69) (0xC0 ∷ 0x01 ∷ []) 0 ∷ bad (to_write (index 0x00)) (0xA0 ∷ 0x00 ∷ []) 0 ∷ bad to_echo (0xC0 ∷ 0x10 ∷ []) 0 ∷ [])

-- ---- in pieces

-- whole, or cut behind the first k bytes; lengths of two data bytes and more can be cut inside them
abbrev pub long : List Length
long = drop 2 lengths

pub record Pieces : Type 0 where
  pub whole_ones :
      map (λ (l : Length). whole (selected 4) sends (followed l)) lengths ≡
      left (Selected 4) Good 2 Nowhere ∷ left (Selected 4) Good 3 (Piece 2 1) ∷ left (Selected 4) Good 257 (Piece 2 255) ∷
      left (Selected 4) Good 258 (Piece 2 256) ∷ left (Selected 4) Good 259 (Piece 2 257) ∷ left (Selected 4) Good 513 (Piece 2 511) ∷
      left (Selected 4) Good 514 (Piece 2 512) ∷ left (Selected 4) Good 515 (Piece 2 513) ∷ left (Selected 4) Good 530 (Piece 2 528) ∷ []
  -- before the length byte, and behind it
  pub before_the_length :
      map (λ (l : Length). cut 1 (selected 4) sends (followed l)) lengths ≡
      left (Selected 4) Good 1 Nowhere ∷ map (λ (n : ℕ). left (Selected 4) Good (suc n) (Piece 1 n)) (1 ∷ 255 ∷ 256 ∷ 257 ∷ 511 ∷ 512 ∷ 513 ∷ 528 ∷ [])
  pub behind_the_length :
      map (λ (l : Length). cut 2 (selected 4) sends (followed l)) (drop 1 lengths) ≡
      map (λ (n : ℕ). left (Selected 4) Good n (Piece 0 n)) (1 ∷ 255 ∷ 256 ∷ 257 ∷ 511 ∷ 512 ∷ 513 ∷ 528 ∷ [])
  -- inside the data: behind the first, and 254 and 255 of them
  pub behind_one :
      map (λ (l : Length). cut 3 (selected 4) sends (followed l)) long ≡
      left (Selected 4) Good 254 (Room 255) ∷ left (Selected 4) Good 255 (Room 256) ∷ left (Selected 4) Good 256 (Room 257) ∷
      left (Selected 4) Good 510 (Room 511) ∷ left (Selected 4) Good 511 (Room 512) ∷ left (Selected 4) Good 512 (Room 513) ∷
      left (Selected 4) Good 527 (Room 528) ∷ []
  pub behind_254 :
      map (λ (l : Length). cut 256 (selected 4) sends (followed l)) long ≡
      left (Selected 4) Good 1 (Room 255) ∷ left (Selected 4) Good 2 (Room 256) ∷ left (Selected 4) Good 3 (Room 257) ∷
      left (Selected 4) Good 257 (Room 511) ∷ left (Selected 4) Good 258 (Room 512) ∷ left (Selected 4) Good 259 (Room 513) ∷
      left (Selected 4) Good 274 (Room 528) ∷ []
  -- where the first piece leaves off: after the result code, the length byte, one data byte, and all but one
  pub begun_so :
      map (λ (l : Length). whole (selected 4) sends (take 1 (reply_of l))) (by 0x80 0xFF 255 ∷ by 0xA0 0x01 257 ∷ by 0xC0 0x10 528 ∷ []) ≡
      waits to_send (Counting 0x80) 4 1 ∷ waits to_send (Counting 0xA0) 4 1 ∷ waits to_send (Counting 0xC0) 4 1 ∷ []
  pub counted_so :
      map (λ (l : Length). whole (selected 4) sends (take 2 (reply_of l))) (drop 1 lengths) ≡
      map (λ (n : ℕ). waits to_send (Data 0 n) 4 2) (1 ∷ 255 ∷ 256 ∷ 257 ∷ 511 ∷ 512 ∷ 513 ∷ 528 ∷ [])
  pub one_there :
      map (λ (l : Length). whole (selected 4) sends (take 3 (reply_of l))) long ≡
      map (λ (n : ℕ). waits to_send (Data 1 n) 4 3) (255 ∷ 256 ∷ 257 ∷ 511 ∷ 512 ∷ 513 ∷ 528 ∷ [])
  pub one_missing :
      map (λ (l : Length). whole (selected 4) sends (take (1 + l.number) (reply_of l))) long ≡
      waits to_send (Data 254 255) 4 256 ∷ waits to_send (Data 255 256) 4 257 ∷ waits to_send (Data 256 257) 4 258 ∷ waits to_send (Data 510 511) 4 512 ∷
      waits to_send (Data 511 512) 4 513 ∷ waits to_send (Data 512 513) 4 514 ∷ waits to_send (Data 527 528) 4 529 ∷ []
  -- cut before the length byte, behind it, and twice inside the data, an empty piece among them
  pub cut_in_five :
      map (λ (l : Length).
      let xs = followed l in
      feeds (begun to_send) (take 1 xs ∷ take 1 (drop 1 xs) ∷ take 100 (drop 2 xs) ∷ [] ∷ take 156 (drop 102 xs) ∷ drop 258 xs ∷ []) lent 0) lengths ≡
      map delivered lengths

-- ---- the room

-- after the first k bytes, and after the rest
pub record Rooms : Type 0 where
  pub untouched : map (λ (k : ℕ). room_at_end k (selected 3) sends (followed (by 0xC0 0x10 528))) (0 ∷ 1 ∷ 2 ∷ []) ≡ replicate 3 lent
  pub front :
      map (λ (k : ℕ). room_after k (selected 3) sends (followed (by 0xC0 0x10 528))) (3 ∷ 258 ∷ 529 ∷ []) ≡
      (0x31 ∷ drop 1 lent) ∷ (ascending 0x31 256 ++ drop 256 lent) ∷ (ascending 0x31 527 ++ 0xDD ∷ []) ∷ []
  pub filled : map (λ (k : ℕ). room_at_end k (selected 3) sends (followed (by 0xC0 0x10 528))) (3 ∷ 258 ∷ 529 ∷ []) ≡ replicate 3 (ascending 0x31 528)
  pub kept : room_at_end 258 (selected 3) sends (followed (by 0xA0 0x01 257)) ≡ ascending 0x31 257 ++ replicate 271 0xDD
  -- 528 for every awaited command: the byte is told malformed only where the room is that long
  pub least :
      map (λ (a : Awaited). map (λ (n : ℕ). (feed (begun a) (0x54 ∷ []) (replicate n 0xDD)).answer.verdict) (0 ∷ 255 ∷ 527 ∷ 528 ∷ [])) (
      to_idn ∷ to_select 1 ∷ to_send ∷ to_idle 0x03 ∷ to_read 0x69 ∷ to_write (index 0x00) ∷ to_echo ∷ []) ≡
      replicate 7 (NoRoom ∷ NoRoom ∷ NoRoom ∷ wrong 0 0x54 ∷ [])

-- ---- records that no call made

abbrev pub fed_at : Phase → Verdict
fed_at p = (feed (at to_send p) (0x07 ∷ 0x08 ∷ []) lent).answer.verdict

pub record Unmade : Type 0 where
  -- the last of 528, whose place is the whole room
  pub last :
      feed (at to_send (Data 527 528)) (0x07 ∷ 0x08 ∷ []) (replicate 527 0xDD ++ 0xEE ∷ []) ≡
      fed (replicate 527 0xDD ++ 0x07 ∷ []) (record { verdict = good; used = 1; place = Room 528; progress = begun to_send })
  -- more than a reply has, however long the room: malformed by the byte, nothing written
  pub too_many :
      feed (at to_send (Data 528 529)) (0x07 ∷ []) (replicate 600 0xDD) ≡
      fed (replicate 600 0xDD) (record { verdict = wrong 530 0x07; used = 1; place = Nowhere; progress = begun to_send })
  pub counts :
      map fed_at (Data 0 528 ∷ Data 0 529 ∷ Data 527 529 ∷ Data 255 255 ∷ Data 600 700 ∷ Data 700 600 ∷ Data 0 65535 ∷ Data 65534 65535 ∷ Data 65535 65535 ∷ []) ≡
      More ∷ wrong 2 0x07 ∷ wrong 529 0x07 ∷ wrong 257 0x07 ∷ wrong 602 0x07 ∷ wrong 702 0x07 ∷ wrong 2 0x07 ∷ wrong 65536 0x07 ∷ wrong 65537 0x07 ∷ []
  -- a result code that begins no reply: 1F as 80, 3F as A0, E0 as more than any
  pub results : map fed_at (Counting 0x1F ∷ Counting 0x3F ∷ Counting 0xE0 ∷ Counting 0xFF ∷ []) ≡ More ∷ More ∷ wrong 1 0x07 ∷ wrong 1 0x07 ∷ []
  pub counted :
      map (λ (code : ℕ). (feed (at to_send (Counting code)) (0x07 ∷ 0x08 ∷ []) lent).answer.progress.phase) (0x1F ∷ 0x3F ∷ []) ≡ Data 1 7 ∷ Data 1 263 ∷ []
  -- to another command the result code is not looked at
  pub others :
      map (λ (code : ℕ). (feed (at to_idn (Counting code)) (0x0F ∷ []) lent).answer.progress.phase) (0x00 ∷ 0x80 ∷ 0xC0 ∷ []) ≡ replicate 3 (Data 0 15)
  pub waking : (feed (at (to_idle 0x03) (Counting 0xA0)) (0x01 ∷ []) lent).answer.progress.phase ≡ Waking
