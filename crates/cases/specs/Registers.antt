-- Document 02, P2, by 000's sections 5.7 and 5.8: the values that registers are given, frames and replies as printed, and the sequence of 5.8.1.
-- Assumes nothing.
use Rattle.std.specs.Prelude.{ℕ, ◌≡◌, true, List, [], ◌∷◌, ◌++◌, map, take, replicate, Err, None}
use Rattle.model.specs.declared.Interface.TheVariants.{Spi, Uart}
use Rattle.model.specs.declared.Kind.{Kind}
use Rattle.model.specs.declared.Kind.TheVariants.{Idle, RdReg, WrReg}
use Rattle.model.specs.declared.Awaited.{Awaited}
use Rattle.model.specs.declared.Refusal.TheVariants.{Short, Invalid, Unready, Busy}
use Rattle.model.specs.declared.Phase.TheVariants.{Begun, Failed, Counting, Data}
use Rattle.model.specs.declared.Verdict.TheVariants.{More}
use Rattle.model.specs.declared.Place.TheVariants.{Nowhere, Piece}
use Rattle.model.specs.declared.State.TheVariants.{PowerUp, Ready, Selected, Waiting}
use Rattle.model.specs.declared.Session.{Session}
use Rattle.model.specs.declared.Answer.{Answer}
use Rattle.model.specs.declared.Answer.TheVariants.{Refused}
use Rattle.words.specs.Words.{those}
use Rattle.model.specs.Frames.{Command, row, permits, allowed, command, protocol_select, rd_reg, wr_reg, read_command}
use Rattle.model.specs.Replies.{meaning, reply, at, begun, feed as fedWith, data_of}
use Rattle.model.specs.Calibration.{search, searching}
use Rattle.model.specs.Session.{made, Call, pulse, request, feed, step}
use Rattle.model.specs.History.{requested, exchange, exchanges}
use Rattle.cases.specs.Awaiting.{index, tuning, window, to_select, to_idle, to_read, to_write, good, failed, woke}
use Rattle.cases.specs.Framing.{FramedSo}
use Rattle.cases.specs.Starred.{room}
use Rattle.cases.specs.Published.{is_taken}
use Rattle.cases.specs.Replies.{bad, AllBad, fed}
use Rattle.cases.specs.Sessions.{after, selected}
use Rattle.cases.specs.Planned.{planned}
use Rattle.cases.specs.Replying.{Left, left, left_by, fault, waits, lent}
use Rattle.cases.specs.Messages.{altered}

-- ---- the values

-- each modulation index of table 22 with each gain of table 23
abbrev pub tunings : List ℕ
tunings =
    0x10 ∷ 0x11 ∷ 0x13 ∷ 0x17 ∷ 0x1F ∷
    0x20 ∷ 0x21 ∷ 0x23 ∷ 0x27 ∷ 0x2F ∷
    0x30 ∷ 0x31 ∷ 0x33 ∷ 0x37 ∷ 0x3F ∷
    0x40 ∷ 0x41 ∷ 0x43 ∷ 0x47 ∷ 0x4F ∷
    0x50 ∷ 0x51 ∷ 0x53 ∷ 0x57 ∷ 0x5F ∷
    0x60 ∷ 0x61 ∷ 0x63 ∷ 0x67 ∷ 0x6F ∷
    0xD0 ∷ 0xD1 ∷ 0xD3 ∷ 0xD7 ∷ 0xDF ∷ []

-- 5.8.2: from 50 to 60
abbrev pub windows : List ℕ
windows =
    0x50 ∷ 0x51 ∷ 0x52 ∷ 0x53 ∷ 0x54 ∷ 0x55 ∷ 0x56 ∷ 0x57 ∷ 0x58 ∷ 0x59 ∷ 0x5A ∷ 0x5B ∷ 0x5C ∷ 0x5D ∷ 0x5E ∷ 0x5F ∷ 0x60 ∷ []

pub record Values : Type 0 where
  -- of all 256, with either flag
  pub of_tuning : map (λ (flag : ℕ). those (λ (v : ℕ). allowed (wr_reg (tuning flag v))) 256 []) (0x00 ∷ 0x01 ∷ []) ≡ tunings ∷ tunings ∷ []
  pub of_window : map (λ (flag : ℕ). those (λ (v : ℕ). allowed (wr_reg (window flag v))) 256 []) (0x00 ∷ 0x01 ∷ []) ≡ windows ∷ windows ∷ []
  -- table 24: what ARC_B holds after ProtocolSelect, and what is recommended
  pub tuned_by_default : map (λ (v : ℕ). allowed (wr_reg (tuning 0x01 v))) (0xDF ∷ 0x2F ∷ 0x5F ∷ 0x53 ∷ 0xD3 ∷ []) ≡ replicate 5 true
  pub tuned_as_recommended : map (λ (v : ℕ). allowed (wr_reg (tuning 0x01 v))) (0xD1 ∷ 0xD3 ∷ 0x20 ∷ 0x50 ∷ 0xD0 ∷ []) ≡ replicate 5 true
  -- the default window, and the two that are recommended
  pub window_as_recommended : map (λ (v : ℕ). allowed (wr_reg (window 0x00 v))) (0x52 ∷ 0x56 ∷ 0x58 ∷ []) ≡ replicate 3 true

-- how many data bytes, of those given
abbrev pub counts : Kind → List ℕ → List ℕ
counts k xs = those (λ (n : ℕ). permits k (take n xs)) 6 []

pub record Lengths : Type 0 where
  -- tables 20, 21 and 25: 03, and 03 or 04
  pub in_tables : map (λ (k : Kind). (row k).least ∷ (row k).greatest ∷ []) (RdReg ∷ WrReg ∷ []) ≡ (3 ∷ 3 ∷ []) ∷ (3 ∷ 4 ∷ []) ∷ []
  pub of_reads : map (counts RdReg) ((0x62 ∷ 0x01 ∷ 0x00 ∷ 0x00 ∷ 0x00 ∷ []) ∷ (0x69 ∷ 0x01 ∷ 0x00 ∷ 0x00 ∷ 0x00 ∷ []) ∷ []) ≡ (3 ∷ []) ∷ (3 ∷ []) ∷ []
  -- without and with a value, without one that is in no table; a window is confirmed, and its 01 is no index
  pub of_writes :
      map (counts WrReg) (
      (0x68 ∷ 0x00 ∷ 0x01 ∷ 0x13 ∷ 0x00 ∷ []) ∷ (0x68 ∷ 0x01 ∷ 0x01 ∷ 0x12 ∷ 0x00 ∷ []) ∷ (0x3A ∷ 0x00 ∷ 0x50 ∷ 0x04 ∷ 0x04 ∷ []) ∷
      (0x3A ∷ 0x01 ∷ 0x01 ∷ 0x04 ∷ []) ∷ []) ≡
      (3 ∷ 4 ∷ []) ∷ (3 ∷ []) ∷ (4 ∷ []) ∷ [] ∷ []

-- ---- frames

abbrev pub commands : List Command
commands =
    -- table 20
    rd_reg 0x69 ∷ rd_reg 0x62 ∷
    -- table 21 and 5.8.1
    wr_reg (tuning 0x01 0x13) ∷ wr_reg (index 0x00) ∷ wr_reg (tuning 0x01 0x23) ∷
    -- table 25, and appendix D
    wr_reg (window 0x00 0x58) ∷ wr_reg (window 0x00 0x5A) ∷
    wr_reg (tuning 0x01 0xD1) ∷ wr_reg (tuning 0x01 0xDF) ∷ wr_reg (tuning 0x01 0x30) ∷ wr_reg (tuning 0x01 0x50) ∷
    -- the other flag
    wr_reg (index 0x01) ∷ wr_reg (tuning 0x00 0x67) ∷ wr_reg (window 0x01 0x60) ∷ []

abbrev pub frames : List (List ℕ)
frames =
    (0x08 ∷ 0x03 ∷ 0x69 ∷ 0x01 ∷ 0x00 ∷ []) ∷
    (0x08 ∷ 0x03 ∷ 0x62 ∷ 0x01 ∷ 0x00 ∷ []) ∷
    (0x09 ∷ 0x04 ∷ 0x68 ∷ 0x01 ∷ 0x01 ∷ 0x13 ∷ []) ∷
    (0x09 ∷ 0x03 ∷ 0x68 ∷ 0x00 ∷ 0x01 ∷ []) ∷
    (0x09 ∷ 0x04 ∷ 0x68 ∷ 0x01 ∷ 0x01 ∷ 0x23 ∷ []) ∷
    (0x09 ∷ 0x04 ∷ 0x3A ∷ 0x00 ∷ 0x58 ∷ 0x04 ∷ []) ∷
    (0x09 ∷ 0x04 ∷ 0x3A ∷ 0x00 ∷ 0x5A ∷ 0x04 ∷ []) ∷
    (0x09 ∷ 0x04 ∷ 0x68 ∷ 0x01 ∷ 0x01 ∷ 0xD1 ∷ []) ∷
    (0x09 ∷ 0x04 ∷ 0x68 ∷ 0x01 ∷ 0x01 ∷ 0xDF ∷ []) ∷
    (0x09 ∷ 0x04 ∷ 0x68 ∷ 0x01 ∷ 0x01 ∷ 0x30 ∷ []) ∷
    (0x09 ∷ 0x04 ∷ 0x68 ∷ 0x01 ∷ 0x01 ∷ 0x50 ∷ []) ∷
    (0x09 ∷ 0x03 ∷ 0x68 ∷ 0x01 ∷ 0x01 ∷ []) ∷
    (0x09 ∷ 0x04 ∷ 0x68 ∷ 0x00 ∷ 0x01 ∷ 0x67 ∷ []) ∷
    (0x09 ∷ 0x04 ∷ 0x3A ∷ 0x01 ∷ 0x60 ∷ 0x04 ∷ []) ∷
    []

-- data stand behind code and length
abbrev pub Framed : Type 0
Framed =
    FramedSo commands frames
    ((2 ∷ 3 ∷ []) ∷ (2 ∷ 3 ∷ []) ∷ (2 ∷ 4 ∷ []) ∷ (2 ∷ 3 ∷ []) ∷ (2 ∷ 4 ∷ []) ∷ (2 ∷ 4 ∷ []) ∷ (2 ∷ 4 ∷ []) ∷ (2 ∷ 4 ∷ []) ∷ (2 ∷ 4 ∷ []) ∷ (2 ∷ 4 ∷ []) ∷
    (2 ∷ 4 ∷ []) ∷ (2 ∷ 3 ∷ []) ∷ (2 ∷ 4 ∷ []) ∷ (2 ∷ 4 ∷ []) ∷ [])

-- the bytes with which a frame is taken, of all 256 at an index
abbrev pub open_at : List ℕ → ℕ → List ℕ
open_at xs i = those (λ (b : ℕ). is_taken (read_command (altered i b xs))) 256 []

-- 04, which sends anything to a tag, is the one other code that stands before the data of a register
pub record EachByte : Type 0 where
  pub of_read :
      map (open_at (0x08 ∷ 0x03 ∷ 0x62 ∷ 0x01 ∷ 0x00 ∷ [])) (0 ∷ 1 ∷ 2 ∷ 3 ∷ 4 ∷ []) ≡
      (0x04 ∷ 0x08 ∷ []) ∷ (0x03 ∷ []) ∷ (0x62 ∷ 0x69 ∷ []) ∷ (0x01 ∷ []) ∷ (0x00 ∷ []) ∷ []
  pub of_index :
      map (open_at (0x09 ∷ 0x03 ∷ index 0x00)) (0 ∷ 1 ∷ 2 ∷ 3 ∷ 4 ∷ []) ≡
      (0x04 ∷ 0x09 ∷ []) ∷ (0x03 ∷ []) ∷ (0x68 ∷ []) ∷ (0x00 ∷ 0x01 ∷ []) ∷ (0x01 ∷ []) ∷ []
  -- all but the values, which are above
  pub of_tuning :
      map (open_at (0x09 ∷ 0x04 ∷ tuning 0x01 0x13)) (0 ∷ 1 ∷ 2 ∷ 3 ∷ 4 ∷ []) ≡
      (0x04 ∷ 0x09 ∷ []) ∷ (0x04 ∷ []) ∷ (0x68 ∷ []) ∷ (0x00 ∷ 0x01 ∷ []) ∷ (0x01 ∷ []) ∷ []
  pub of_window :
      map (open_at (0x09 ∷ 0x04 ∷ window 0x00 0x58)) (0 ∷ 1 ∷ 2 ∷ 3 ∷ 5 ∷ []) ≡
      (0x04 ∷ 0x09 ∷ []) ∷ (0x04 ∷ []) ∷ (0x3A ∷ []) ∷ (0x00 ∷ 0x01 ∷ []) ∷ (0x04 ∷ []) ∷ []

abbrev pub RefusedFrames : Type 0
RefusedFrames =
    map read_command (
    -- the index of table 20's footnote; HF2RF (6.3), set and reset; the AutoDetect filter (appendix D)
    (0x09 ∷ 0x03 ∷ 0x68 ∷ 0x00 ∷ 0x04 ∷ []) ∷ (0x09 ∷ 0x04 ∷ 0x68 ∷ 0x01 ∷ 0x07 ∷ 0x10 ∷ []) ∷ (0x09 ∷ 0x04 ∷ 0x68 ∷ 0x01 ∷ 0x07 ∷ 0x00 ∷ []) ∷
    (0x09 ∷ 0x04 ∷ 0x0A ∷ 0x01 ∷ 0x02 ∷ 0xA1 ∷ []) ∷
    -- a window without its confirmation, with another, below and above its limits
    (0x09 ∷ 0x03 ∷ 0x3A ∷ 0x00 ∷ 0x58 ∷ []) ∷ (0x09 ∷ 0x04 ∷ 0x3A ∷ 0x00 ∷ 0x58 ∷ 0x05 ∷ []) ∷
    (0x09 ∷ 0x04 ∷ 0x3A ∷ 0x00 ∷ 0x4F ∷ 0x04 ∷ []) ∷ (0x09 ∷ 0x04 ∷ 0x3A ∷ 0x00 ∷ 0x61 ∷ 0x04 ∷ []) ∷
    -- a gain and a modulation index that are in no table, another flag
    (0x09 ∷ 0x04 ∷ 0x68 ∷ 0x00 ∷ 0x01 ∷ 0x12 ∷ []) ∷ (0x09 ∷ 0x04 ∷ 0x68 ∷ 0x01 ∷ 0x01 ∷ 0x73 ∷ []) ∷ (0x09 ∷ 0x04 ∷ 0x68 ∷ 0x02 ∷ 0x01 ∷ 0x13 ∷ []) ∷
    -- another register to read; those that are read alone are not written, and those that are written alone are not read
    (0x08 ∷ 0x03 ∷ 0x63 ∷ 0x01 ∷ 0x00 ∷ []) ∷ (0x08 ∷ 0x03 ∷ 0x68 ∷ 0x01 ∷ 0x00 ∷ []) ∷ (0x08 ∷ 0x03 ∷ 0x3A ∷ 0x01 ∷ 0x00 ∷ []) ∷
    (0x09 ∷ 0x04 ∷ 0x62 ∷ 0x00 ∷ 0x01 ∷ 0x13 ∷ []) ∷ (0x09 ∷ 0x04 ∷ 0x69 ∷ 0x00 ∷ 0x01 ∷ 0x13 ∷ []) ∷
    -- a byte too few and too many, with its length
    (0x08 ∷ 0x02 ∷ 0x62 ∷ 0x01 ∷ []) ∷ (0x08 ∷ 0x04 ∷ 0x62 ∷ 0x01 ∷ 0x00 ∷ 0x00 ∷ []) ∷ (0x08 ∷ 0x00 ∷ []) ∷
    (0x09 ∷ 0x02 ∷ 0x68 ∷ 0x00 ∷ []) ∷ (0x09 ∷ 0x05 ∷ 0x68 ∷ 0x01 ∷ 0x01 ∷ 0x13 ∷ 0x00 ∷ []) ∷ (0x09 ∷ 0x00 ∷ []) ∷
    -- and without
    (0x08 ∷ 0x03 ∷ 0x69 ∷ 0x01 ∷ []) ∷ (0x08 ∷ 0x03 ∷ 0x69 ∷ 0x01 ∷ 0x00 ∷ 0x99 ∷ []) ∷ (0x08 ∷ []) ∷
    (0x09 ∷ 0x04 ∷ 0x68 ∷ 0x01 ∷ 0x01 ∷ []) ∷ (0x09 ∷ 0x04 ∷ 0x68 ∷ 0x01 ∷ 0x01 ∷ 0x13 ∷ 0x99 ∷ []) ∷
    (0x09 ∷ 0x03 ∷ 0x68 ∷ 0x01 ∷ 0x01 ∷ 0x13 ∷ []) ∷ (0x09 ∷ []) ∷
    -- the data of the one behind the code of the other, and behind a code that is neither's
    (0x08 ∷ 0x03 ∷ 0x68 ∷ 0x00 ∷ 0x01 ∷ []) ∷ (0x09 ∷ 0x03 ∷ 0x69 ∷ 0x01 ∷ 0x00 ∷ []) ∷
    (0x0A ∷ 0x03 ∷ 0x69 ∷ 0x01 ∷ 0x00 ∷ []) ∷ (0x0A ∷ 0x04 ∷ 0x68 ∷ 0x01 ∷ 0x01 ∷ 0x13 ∷ []) ∷ [])
    ≡ replicate 33 (Err Invalid)

-- ---- replies as they are printed

pub record Printed : Type 0 where
  -- table 20: what woke the chip, ARC_B, and the error 82; table 21
  pub in_tables :
      map (reply (to_read 0x62)) ((0x00 ∷ 0x01 ∷ 0x01 ∷ []) ∷ (0x00 ∷ 0x01 ∷ 0x02 ∷ []) ∷ []) ++
      map (reply (to_read 0x69)) ((0x00 ∷ 0x01 ∷ 0x13 ∷ []) ∷ (0x82 ∷ 0x00 ∷ []) ∷ []) ++ reply (to_write (tuning 0x01 0x13)) (0x00 ∷ 0x00 ∷ []) ∷ [] ≡
      meaning good (0x01 ∷ []) 3 ∷ meaning good (0x02 ∷ []) 3 ∷ meaning good (0x13 ∷ []) 3 ∷ meaning (failed 0x82) [] 2 ∷ meaning good [] 2 ∷ []
  -- 5.8.1 prints two replies without the result code, which are malformed at their first byte; and as they are
  pub misprinted : AllBad (bad (to_read 0x69) (0x01 ∷ 0x5F ∷ []) 0 ∷ bad (to_read 0x69) (0x01 ∷ 0x23 ∷ []) 0 ∷ [])
  pub in_sequence :
      map (reply (to_read 0x69)) ((0x00 ∷ 0x01 ∷ 0x5F ∷ []) ∷ (0x00 ∷ 0x01 ∷ 0x23 ∷ []) ∷ []) ≡ meaning good (0x5F ∷ []) 3 ∷ meaning good (0x23 ∷ []) 3 ∷ []

-- the register's byte is where it came: at 2 of a whole reply, at 1 behind 00, at 0 behind 00 01, and never in the room
pub record Pieces : Type 0 where
  pub whole :
      fedWith (begun (to_read 0x69)) (0x00 ∷ 0x01 ∷ 0x5F ∷ 0x99 ∷ []) lent ≡
      fed lent (record { verdict = good; used = 3; place = Piece 2 1; progress = begun (to_read 0x69) })
  pub one :
      fedWith (begun (to_read 0x69)) (0x00 ∷ []) lent ≡ fed lent (record { verdict = More; used = 1; place = Nowhere; progress = at (to_read 0x69) (Counting 0x00) })
  pub behind_one :
      fedWith (at (to_read 0x69) (Counting 0x00)) (0x01 ∷ 0x23 ∷ 0x99 ∷ []) lent ≡
      fed lent (record { verdict = good; used = 2; place = Piece 1 1; progress = begun (to_read 0x69) })
  pub two :
      fedWith (begun (to_read 0x69)) (0x00 ∷ 0x01 ∷ []) lent ≡
      fed lent (record { verdict = More; used = 2; place = Nowhere; progress = at (to_read 0x69) (Data 0 1) })
  pub behind_two :
      fedWith (at (to_read 0x69) (Data 0 1)) (0x23 ∷ 0x99 ∷ []) lent ≡
      fed lent (record { verdict = good; used = 1; place = Piece 0 1; progress = begun (to_read 0x69) })
  pub handed :
      data_of (0x00 ∷ 0x01 ∷ 0x5F ∷ 0x99 ∷ []) lent (Piece 2 1) ∷ data_of (0x01 ∷ 0x23 ∷ 0x99 ∷ []) lent (Piece 1 1) ∷
      data_of (0x23 ∷ 0x99 ∷ []) lent (Piece 0 1) ∷ [] ≡
      (0x5F ∷ []) ∷ (0x23 ∷ []) ∷ (0x23 ∷ []) ∷ []

-- ---- 5.8.1

-- ISO/IEC 18092 is selected, ARC_B is read, written, and read again
abbrev pub sequence : List Call
sequence =
    request (protocol_select 4 (0x51 ∷ [])) room ∷ feed (0x00 ∷ 0x00 ∷ []) room ∷
    request (wr_reg (index 0x00)) room ∷ feed (0x00 ∷ 0x00 ∷ []) room ∷
    request (rd_reg 0x69) room ∷ feed (0x00 ∷ 0x01 ∷ 0x5F ∷ []) room ∷
    request (wr_reg (tuning 0x01 0x23)) room ∷ feed (0x00 ∷ 0x00 ∷ []) room ∷
    request (wr_reg (index 0x00)) room ∷ feed (0x00 ∷ 0x00 ∷ []) room ∷
    request (rd_reg 0x69) room ∷ feed (0x00 ∷ 0x01 ∷ 0x23 ∷ []) room ∷ []

-- what each call leaves
abbrev pub steps : Session → List Call → List Left
steps s [] = []
steps s (c ∷ cs) = left_by (step s c).answer ∷ steps (step s c).answer.session cs

-- the first eight bytes of what its buffer holds after it
abbrev pub fronts : Session → List Call → List (List ℕ)
fronts s [] = []
fronts s (c ∷ cs) = take 8 (step s c).bytes ∷ fronts (step s c).answer.session cs

-- a command is sent, as so many bytes, with the protocol that was selected before
abbrev pub sends : Awaited → ℕ → ℕ → Left
sends a selected n = left (Waiting (at a Begun) selected) (Answer.Sent n) 0 Nowhere

abbrev pub untouched : List ℕ
untouched = replicate 8 0xEE

pub record InSequence : Type 0 where
  pub uart :
      steps (after Uart (pulse ∷ [])).session sequence ≡
      sends (to_select 4) 0 4 ∷ left (Selected 4) Answer.Good 2 Nowhere ∷
      sends (to_write (index 0x00)) 4 5 ∷ left (Selected 4) Answer.Good 2 Nowhere ∷
      sends (to_read 0x69) 4 5 ∷ left (Selected 4) Answer.Good 3 (Piece 2 1) ∷
      sends (to_write (tuning 0x01 0x23)) 4 6 ∷ left (Selected 4) Answer.Good 2 Nowhere ∷
      sends (to_write (index 0x00)) 4 5 ∷ left (Selected 4) Answer.Good 2 Nowhere ∷
      sends (to_read 0x69) 4 5 ∷ left (Selected 4) Answer.Good 3 (Piece 2 1) ∷ []
  pub uart_bytes :
      fronts (after Uart (pulse ∷ [])).session sequence ≡
      (0x02 ∷ 0x02 ∷ 0x04 ∷ 0x51 ∷ replicate 4 0xEE) ∷ untouched ∷
      (0x09 ∷ 0x03 ∷ 0x68 ∷ 0x00 ∷ 0x01 ∷ replicate 3 0xEE) ∷ untouched ∷
      (0x08 ∷ 0x03 ∷ 0x69 ∷ 0x01 ∷ 0x00 ∷ replicate 3 0xEE) ∷ untouched ∷
      (0x09 ∷ 0x04 ∷ 0x68 ∷ 0x01 ∷ 0x01 ∷ 0x23 ∷ replicate 2 0xEE) ∷ untouched ∷
      (0x09 ∷ 0x03 ∷ 0x68 ∷ 0x00 ∷ 0x01 ∷ replicate 3 0xEE) ∷ untouched ∷
      (0x08 ∷ 0x03 ∷ 0x69 ∷ 0x01 ∷ 0x00 ∷ replicate 3 0xEE) ∷ untouched ∷ []
  -- one byte more, 00, before each frame
  pub spi :
      steps (after Spi (pulse ∷ [])).session sequence ≡
      sends (to_select 4) 0 5 ∷ left (Selected 4) Answer.Good 2 Nowhere ∷
      sends (to_write (index 0x00)) 4 6 ∷ left (Selected 4) Answer.Good 2 Nowhere ∷
      sends (to_read 0x69) 4 6 ∷ left (Selected 4) Answer.Good 3 (Piece 2 1) ∷
      sends (to_write (tuning 0x01 0x23)) 4 7 ∷ left (Selected 4) Answer.Good 2 Nowhere ∷
      sends (to_write (index 0x00)) 4 6 ∷ left (Selected 4) Answer.Good 2 Nowhere ∷
      sends (to_read 0x69) 4 6 ∷ left (Selected 4) Answer.Good 3 (Piece 2 1) ∷ []
  pub spi_bytes :
      fronts (after Spi (pulse ∷ [])).session sequence ≡
      (0x00 ∷ 0x02 ∷ 0x02 ∷ 0x04 ∷ 0x51 ∷ replicate 3 0xEE) ∷ untouched ∷
      (0x00 ∷ 0x09 ∷ 0x03 ∷ 0x68 ∷ 0x00 ∷ 0x01 ∷ replicate 2 0xEE) ∷ untouched ∷
      (0x00 ∷ 0x08 ∷ 0x03 ∷ 0x69 ∷ 0x01 ∷ 0x00 ∷ replicate 2 0xEE) ∷ untouched ∷
      (0x00 ∷ 0x09 ∷ 0x04 ∷ 0x68 ∷ 0x01 ∷ 0x01 ∷ 0x23 ∷ 0xEE ∷ []) ∷ untouched ∷
      (0x00 ∷ 0x09 ∷ 0x03 ∷ 0x68 ∷ 0x00 ∷ 0x01 ∷ replicate 2 0xEE) ∷ untouched ∷
      (0x00 ∷ 0x08 ∷ 0x03 ∷ 0x69 ∷ 0x01 ∷ 0x00 ∷ replicate 2 0xEE) ∷ untouched ∷ []
  -- the commands given out with the bytes fed to each, the newest first
  pub exchanged :
      exchanges (after Uart (pulse ∷ sequence)).history ≡
      exchange requested (to_read 0x69) (0x00 ∷ 0x01 ∷ 0x23 ∷ []) 3 ∷ exchange requested (to_write (index 0x00)) (0x00 ∷ 0x00 ∷ []) 2 ∷
      exchange requested (to_write (tuning 0x01 0x23)) (0x00 ∷ 0x00 ∷ []) 2 ∷ exchange requested (to_read 0x69) (0x00 ∷ 0x01 ∷ 0x5F ∷ []) 3 ∷
      exchange requested (to_write (index 0x00)) (0x00 ∷ 0x00 ∷ []) 2 ∷ exchange requested (to_select 4) (0x00 ∷ 0x00 ∷ []) 2 ∷ []

-- ---- other sessions

-- 000, appendix C: the tag detector's settings
abbrev pub detects : Command
detects = command Idle (0x0B ∷ 0x21 ∷ 0x00 ∷ 0x78 ∷ 0x01 ∷ 0x18 ∷ 0x00 ∷ 0x20 ∷ 0x60 ∷ 0x60 ∷ 0x64 ∷ 0x74 ∷ 0x3F ∷ 0x01 ∷ [])

pub record InSessions : Type 0 where
  -- 000, appendix C: after Idle, in Ready, the register tells the event again
  pub wake_up :
      steps (after Uart (selected 1)).session (
      request detects room ∷ feed (0x00 ∷ 0x01 ∷ 0x02 ∷ []) room ∷ request (rd_reg 0x62) room ∷ feed (0x00 ∷ 0x01 ∷ 0x02 ∷ []) room ∷ []) ≡
      sends (to_idle 0x0B) 1 16 ∷ left Ready (woke 0x02) 3 (Piece 2 1) ∷ sends (to_read 0x62) 0 5 ∷ left Ready Answer.Good 3 (Piece 2 1) ∷ []
  -- after errors the selection is kept; that table 24 gives no D7 for protocol 3 is the caller's to heed
  pub after_errors :
      steps (after Spi (selected 3)).session (
      request (rd_reg 0x69) room ∷ feed (0x82 ∷ []) room ∷ feed (0x00 ∷ 0x99 ∷ []) room ∷
      request (wr_reg (window 0x00 0x58)) room ∷ feed (0x86 ∷ 0x00 ∷ []) room ∷ request (wr_reg (tuning 0x00 0xD7)) room ∷ feed (0x00 ∷ 0x00 ∷ []) room ∷ []) ≡
      sends (to_read 0x69) 3 6 ∷ waits (to_read 0x69) (Failed 0x82) 3 1 ∷ fault (Selected 3) 0x82 1 ∷
      sends (to_write (window 0x00 0x58)) 3 7 ∷ fault (Selected 3) 0x86 2 ∷ sends (to_write (tuning 0x00 0xD7)) 3 7 ∷ left (Selected 3) Answer.Good 2 Nowhere ∷ []

-- ---- the order of the refusals

-- the answers to a request with an output of no bytes: while a calibration runs in Power-up, which no call leads to, in Power-up, and in Ready
abbrev pub answers_to : Command → List Answer
answers_to c =
    map (λ (s : Session). (step s (request c [])).answer.answer)
    (made Uart PowerUp (searching (planned 3) (search 3 0x7C)) ∷ made Uart PowerUp None ∷ made Uart Ready None ∷ [])

-- 4 before 3 before 2, and 1 where the register or the value is permitted
pub record Order : Type 0 where
  pub of_reads :
      map answers_to (rd_reg 0x63 ∷ rd_reg 0x62 ∷ []) ≡
      (Refused Busy ∷ Refused Unready ∷ Refused Invalid ∷ []) ∷ (Refused Busy ∷ Refused Unready ∷ Refused Short ∷ []) ∷ []
  pub of_writes :
      map answers_to (wr_reg (tuning 0x01 0x24) ∷ wr_reg (tuning 0x01 0x23) ∷ []) ≡
      (Refused Busy ∷ Refused Unready ∷ Refused Invalid ∷ []) ∷ (Refused Busy ∷ Refused Unready ∷ Refused Short ∷ []) ∷ []
