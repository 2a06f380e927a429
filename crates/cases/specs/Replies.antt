-- Replies of the maker's papers and of document 01, what is malformed beside them, and pieces that are cut.
-- Assumes nothing.
use Rattle.std.specs.Prelude.{ℕ, suc, ◌≡◌, List, [], ◌∷◌, ◌++◌, map, replicate, get_or}
use Rattle.model.specs.declared.Awaited.{Awaited}
use Rattle.model.specs.declared.Phase.TheVariants.{Failed, Counting, Waking, Data}
use Rattle.model.specs.declared.Verdict.TheVariants.{More, NoRoom}
use Rattle.model.specs.declared.Place.TheVariants.{Nowhere, Piece, Room}
use Rattle.model.specs.declared.Fed.{Fed}
use Rattle.words.specs.Words.{those}
use Rattle.words.specs.Contract.{Ran}
use Rattle.model.specs.Replies.{is_error, Meaning, meaning, reply, at, begun, feed, data_of}
use Rattle.cases.specs.Awaiting.{index, to_idn, to_select, to_send, to_idle, to_read, to_write, to_echo, good, failed, wrong, waking}

-- ---- the error codes

abbrev pub codes : List ℕ
codes = 0x82 ∷ 0x83 ∷ 0x85 ∷ 0x86 ∷ 0x87 ∷ 0x88 ∷ 0x89 ∷ 0x8A ∷ 0x8B ∷ 0x8C ∷ 0x8D ∷ 0x8E ∷ 0x8F ∷ []

abbrev pub Codes : Type 0
Codes = those is_error 256 [] ≡ codes

-- ---- the table

-- 'NFC FS2JAST4' and a CRC, as 000 prints them
abbrev pub name : List ℕ
name = 0x4E ∷ 0x46 ∷ 0x43 ∷ 0x20 ∷ 0x46 ∷ 0x53 ∷ 0x32 ∷ 0x4A ∷ 0x41 ∷ 0x53 ∷ 0x54 ∷ 0x34 ∷ 0x00 ∷ 0x2A ∷ 0xCE ∷ []

abbrev pub Good-replies : Type 0
Good-replies =
    reply to_idn (0x00 ∷ 0x0F ∷ name) ∷ reply (to_select 1) (0x00 ∷ 0x00 ∷ []) ∷ reply to_send (0x80 ∷ 0x00 ∷ []) ∷
    reply to_send (0x80 ∷ 0x05 ∷ 0x44 ∷ 0x00 ∷ 0x28 ∷ 0x00 ∷ 0x55 ∷ []) ∷ reply (to_idle 0x03) (0x00 ∷ 0x01 ∷ 0x01 ∷ []) ∷
    reply (to_idle 0x03) (0x00 ∷ 0x01 ∷ 0x02 ∷ []) ∷ reply (to_idle 0x08) (0x00 ∷ 0x01 ∷ 0x08 ∷ []) ∷ reply (to_idle 0xD0) (0x00 ∷ 0x01 ∷ 0x10 ∷ []) ∷
    -- bytes after the last are not looked at
    reply to_echo (0x55 ∷ 0x55 ∷ []) ∷ reply (to_idle 0x03) (0x82 ∷ 0x00 ∷ 0x99 ∷ []) ∷ reply to_idn (0x8F ∷ 0x00 ∷ []) ∷ []
    ≡ meaning good name 17 ∷ meaning good [] 2 ∷ meaning good [] 2 ∷
    meaning good (0x44 ∷ 0x00 ∷ 0x28 ∷ 0x00 ∷ 0x55 ∷ []) 7 ∷ meaning (waking 0x01) (0x01 ∷ []) 3 ∷
    meaning (waking 0x02) (0x02 ∷ []) 3 ∷ meaning (waking 0x08) (0x08 ∷ []) 3 ∷ meaning (waking 0x10) (0x10 ∷ []) 3 ∷
    meaning good [] 1 ∷ meaning (failed 0x82) [] 2 ∷ meaning (failed 0x8F) [] 2 ∷ []

-- bytes that are malformed at a place
pub record Bad : Type 0 where
  pub to : Awaited
  pub bytes : List ℕ
  pub place : ℕ

abbrev pub bad : Awaited → List ℕ → ℕ → Bad
bad a xs i = record { to = a; bytes = xs; place = i }

-- malformed there, by the byte that stands there, and taken through it
abbrev pub malformed : List ℕ → ℕ → Meaning
malformed xs i = meaning (wrong i (get_or xs i 0)) [] (suc i)

abbrev pub AllBad : List Bad → Type 0
AllBad bads = map (λ (b : Bad). reply b.to b.bytes) bads ≡ map (λ (b : Bad). malformed b.bytes b.place) bads

abbrev pub Bad-replies : Type 0
Bad-replies =
    AllBad (
    bad to_idn (0x55 ∷ []) 0 ∷ bad (to_select 1) (0x80 ∷ 0x00 ∷ []) 0 ∷ bad to_send (0x00 ∷ 0x00 ∷ []) 0 ∷ bad to_send (0x90 ∷ 0x00 ∷ []) 0 ∷
    bad to_send (0x84 ∷ 0x00 ∷ []) 0 ∷ bad to_echo (0x82 ∷ 0x00 ∷ []) 0 ∷ bad to_echo (0x00 ∷ []) 0 ∷
    -- without a source no event can come
    bad (to_idle 0xC0) (0x00 ∷ 0x01 ∷ 0x01 ∷ []) 0 ∷
    bad to_idn (0x00 ∷ 0x0E ∷ []) 1 ∷ bad (to_select 1) (0x00 ∷ 0x01 ∷ []) 1 ∷ bad (to_idle 0x03) (0x00 ∷ 0x02 ∷ []) 1 ∷
    bad to_send (0x8D ∷ 0x01 ∷ []) 1 ∷ bad to_idn (0x82 ∷ 0x82 ∷ []) 1 ∷
    bad (to_idle 0x03) (0x00 ∷ 0x01 ∷ 0x08 ∷ []) 2 ∷ bad (to_idle 0x01) (0x00 ∷ 0x01 ∷ 0x02 ∷ []) 2 ∷ bad (to_idle 0x1B) (0x00 ∷ 0x01 ∷ 0x03 ∷ []) 2 ∷
    bad (to_idle 0x1B) (0x00 ∷ 0x01 ∷ 0x04 ∷ []) 2 ∷ [])

-- ---- pieces

abbrev pub room : List ℕ
room = replicate 528 0

-- the same room with some bytes at its front
abbrev pub holding : ℕ → List ℕ → List ℕ
holding n xs = xs ++ replicate n 0

abbrev pub fed : List ℕ → Fed → Ran Fed
fed xs r = record { answer = r; bytes = xs }

pub record Pieces : Type 0 where
  pub nothing : feed (begun to_send) [] [] ≡ fed [] (record { verdict = More; used = 0; place = Nowhere; progress = begun to_send })
  pub short_room :
      feed (begun to_echo) (0x55 ∷ []) (replicate 527 0) ≡ fed (replicate 527 0) (record { verdict = NoRoom; used = 0; place = Nowhere; progress = begun to_echo })
  pub whole :
      feed (begun to_send) (0x80 ∷ 0x02 ∷ 0x55 ∷ 0x66 ∷ 0x99 ∷ []) room ≡
      fed room (record { verdict = good; used = 4; place = Piece 2 2; progress = begun to_send })
  pub without_data :
      feed (begun to_send) (0x80 ∷ 0x00 ∷ []) room ≡ fed room (record { verdict = good; used = 2; place = Nowhere; progress = begun to_send })
  pub one :
      feed (begun to_send) (0x80 ∷ []) room ≡ fed room (record { verdict = More; used = 1; place = Nowhere; progress = at to_send (Counting 0x80) })
  pub two :
      feed (at to_send (Counting 0x80)) (0x03 ∷ 0x55 ∷ []) room ≡
      fed (holding 527 (0x55 ∷ [])) (record { verdict = More; used = 2; place = Nowhere; progress = at to_send (Data 1 3) })
  pub three :
      feed (at to_send (Data 1 3)) (0x66 ∷ []) (holding 527 (0x55 ∷ [])) ≡
      fed (holding 526 (0x55 ∷ 0x66 ∷ [])) (record { verdict = More; used = 1; place = Nowhere; progress = at to_send (Data 2 3) })
  pub four :
      feed (at to_send (Data 2 3)) (0x77 ∷ 0x99 ∷ []) (holding 526 (0x55 ∷ 0x66 ∷ [])) ≡
      fed (holding 525 (0x55 ∷ 0x66 ∷ 0x77 ∷ [])) (record { verdict = good; used = 1; place = Room 3; progress = begun to_send })
  -- all data in the piece just given
  pub late : feed (at to_send (Data 0 1)) (0x55 ∷ []) room ≡ fed room (record { verdict = good; used = 1; place = Piece 0 1; progress = begun to_send })
  pub event :
      feed (at (to_idle 0x02) Waking) (0x02 ∷ []) room ≡ fed room (record { verdict = waking 0x02; used = 1; place = Piece 0 1; progress = begun (to_idle 0x02) })
  pub error :
      feed (at to_idn (Failed 0x83)) (0x00 ∷ []) room ≡ fed room (record { verdict = failed 0x83; used = 1; place = Nowhere; progress = begun to_idn })
  -- records that no call made
  pub full : feed (at to_send (Data 3 3)) (0x07 ∷ []) room ≡ fed room (record { verdict = wrong 5 0x07; used = 1; place = Nowhere; progress = begun to_send })
  pub overfull :
      feed (at to_send (Data 4 3)) (0x07 ∷ 0x01 ∷ []) room ≡ fed room (record { verdict = wrong 6 0x07; used = 1; place = Nowhere; progress = begun to_send })
  pub counted_echo :
      feed (at to_echo (Counting 0x00)) (0x00 ∷ 0x01 ∷ []) room ≡ fed room (record { verdict = wrong 1 0x00; used = 1; place = Nowhere; progress = begun to_echo })
  pub strange :
      map (λ (a : Awaited). (feed (at a Waking) (0x01 ∷ []) room).answer.verdict) (
      to_idn ∷ to_select 1 ∷ to_send ∷ to_read 0x69 ∷ to_write (index 0x00) ∷ to_echo ∷ []) ≡ replicate 6 (wrong 2 0x01)

-- ---- places

-- a part of the piece or of the room, up to its end and past it

abbrev pub Places : Type 0
Places =
    map (data_of (1 ∷ 2 ∷ 3 ∷ 4 ∷ []) (7 ∷ 8 ∷ 9 ∷ [])) (
    Nowhere ∷ Piece 1 2 ∷ Piece 0 4 ∷ Piece 2 2 ∷ Piece 3 1 ∷ Piece 4 0 ∷ Piece 2 3 ∷ Piece 3 2 ∷ Piece 0 5 ∷ Piece 5 0 ∷ Piece 4 1 ∷
    Room 2 ∷ Room 3 ∷ Room 0 ∷ Room 4 ∷ [])
    ≡ [] ∷ (2 ∷ 3 ∷ []) ∷ (1 ∷ 2 ∷ 3 ∷ 4 ∷ []) ∷ (3 ∷ 4 ∷ []) ∷ (4 ∷ []) ∷ [] ∷ [] ∷ [] ∷ [] ∷ [] ∷ [] ∷
    (7 ∷ 8 ∷ []) ∷ (7 ∷ 8 ∷ 9 ∷ []) ∷ [] ∷ [] ∷ []
