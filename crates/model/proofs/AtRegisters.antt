-- Decisions on registers at values, computed: each byte of RdReg and WrReg, the replies, the order of checks, and the state after.
-- The check takes files in the order of their names, this one among the first, so that of a wrong model it tells values.
-- Assumes nothing.
use Rattle.std.specs.Prelude.{None}
use Prim.Native.Nat.{ℕ, ◌*◌}
use mathlib.Core.Path.{◌≡◌, refl}
use mathlib.Core.List.{List, [], ◌∷◌, map}
use lib.ListN.{replicate}
use Rattle.model.specs.declared.Interface.TheVariants.{Spi}
use Rattle.model.specs.declared.Refusal.TheVariants.{Short, Invalid, Unready, Busy}
use Rattle.model.specs.declared.Kind.TheVariants.{RdReg}
use Rattle.model.specs.declared.End.TheVariants.{Good, Error, Malformed}
use Rattle.model.specs.declared.Verdict.{Verdict}
use Rattle.model.specs.declared.Verdict.TheVariants.{More, Ended}
use Rattle.model.specs.declared.Place.TheVariants.{Piece}
use Rattle.model.specs.declared.State.{State}
use Rattle.model.specs.declared.State.TheVariants.{PowerUp, Ready, Selected, Waiting, Lost}
use Rattle.model.specs.declared.Answer.{Answer}
use Rattle.model.specs.declared.Answer.TheVariants.{Sent, Refused}
use Rattle.words.specs.Words.{those}
use Rattle.model.specs.Frames.{Command, command, frame, allowed, rd_reg, wr_reg}
use Rattle.model.specs.Replies.{idled, reply, begun}
use Rattle.model.specs.Session.{awaited_of, made, request, feed, step}

-- the bytes at a place, of those below 80, with which a command is allowed
abbrev open_to : (ℕ → Command) → List ℕ
open_to c = those (λ (b : ℕ). allowed (c b)) 0x80 []

-- ---- RdReg

pub read_framed : frame (rd_reg 0x69) ≡ 0x08 ∷ 0x03 ∷ 0x69 ∷ 0x01 ∷ 0x00 ∷ []
read_framed = refl

-- 62 and 69, of one byte, and 00
pub registers : open_to rd_reg ≡ 0x62 ∷ 0x69 ∷ []
registers = refl

pub sizes : open_to (λ b. command RdReg (0x62 ∷ b ∷ 0x00 ∷ [])) ≡ 0x01 ∷ []
sizes = refl

pub reserved : open_to (λ b. command RdReg (0x62 ∷ 0x01 ∷ b ∷ [])) ≡ 0x00 ∷ []
reserved = refl

-- ---- WrReg

-- 68 f 01
pub indexed : open_to (λ b. wr_reg (b ∷ 0x00 ∷ 0x01 ∷ [])) ≡ 0x68 ∷ []
indexed = refl

pub flags : open_to (λ b. wr_reg (0x68 ∷ b ∷ 0x01 ∷ [])) ≡ 0x00 ∷ 0x01 ∷ []
flags = refl

pub indexes : open_to (λ b. wr_reg (0x68 ∷ 0x00 ∷ b ∷ [])) ≡ 0x01 ∷ []
indexes = refl

-- 68 f 01 v: modulation index 1 with each gain, and each modulation index with gain 3
pub tuned : open_to (λ b. wr_reg (b ∷ 0x01 ∷ 0x01 ∷ 0x13 ∷ [])) ≡ 0x68 ∷ []
tuned = refl

pub tuned_at : open_to (λ b. wr_reg (0x68 ∷ 0x01 ∷ b ∷ 0x13 ∷ [])) ≡ 0x01 ∷ []
tuned_at = refl

pub gained : those (λ (v : ℕ). allowed (wr_reg (0x68 ∷ 0x01 ∷ 0x01 ∷ v ∷ []))) 0x20 [] ≡ 0x10 ∷ 0x11 ∷ 0x13 ∷ 0x17 ∷ 0x1F ∷ []
gained = refl

pub modulated : those (λ (m : ℕ). allowed (wr_reg (0x68 ∷ 0x01 ∷ 0x01 ∷ 16 * m ∷ []))) 0x10 [] ≡ 0x1 ∷ 0x2 ∷ 0x3 ∷ 0x4 ∷ 0x5 ∷ 0x6 ∷ 0xD ∷ []
modulated = refl

-- 3A f v 04
pub timed : open_to (λ b. wr_reg (b ∷ 0x00 ∷ 0x58 ∷ 0x04 ∷ [])) ≡ 0x3A ∷ []
timed = refl

pub windows : open_to (λ b. wr_reg (0x3A ∷ 0x01 ∷ b ∷ 0x04 ∷ []))
    ≡ 0x50 ∷ 0x51 ∷ 0x52 ∷ 0x53 ∷ 0x54 ∷ 0x55 ∷ 0x56 ∷ 0x57 ∷ 0x58 ∷ 0x59 ∷ 0x5A ∷ 0x5B ∷ 0x5C ∷ 0x5D ∷ 0x5E ∷ 0x5F ∷ 0x60 ∷ []
windows = refl

pub confirmed : open_to (λ b. wr_reg (0x3A ∷ 0x00 ∷ 0x58 ∷ b ∷ [])) ≡ 0x04 ∷ []
confirmed = refl

-- and never without it: no three bytes write the window
pub unconfirmed : open_to (λ b. wr_reg (0x3A ∷ 0x00 ∷ b ∷ [])) ≡ []
unconfirmed = refl

-- ---- replies

abbrev verdicts : Command → List (List ℕ) → List Verdict
verdicts c replies = map (λ (xs : List ℕ). (reply (awaited_of c) xs).verdict) replies

-- 00 01 and one byte is good, 00 00 malformed at its second byte, 01 at its first, and 82 00 the error 82
pub to_read : verdicts (rd_reg 0x69) ((0x00 ∷ 0x01 ∷ 0x5F ∷ []) ∷ (0x00 ∷ 0x01 ∷ []) ∷ (0x00 ∷ 0x00 ∷ []) ∷ (0x01 ∷ 0x5F ∷ []) ∷ (0x82 ∷ 0x00 ∷ []) ∷ [])
    ≡ Ended Good ∷ More ∷ Ended (Malformed 1 0x00) ∷ Ended (Malformed 0 0x01) ∷ Ended (Error 0x82) ∷ []
to_read = refl

-- 00 00 is good, 00 01 malformed at its second byte, and 86 00 the error 86
pub to_write : verdicts (wr_reg (0x68 ∷ 0x00 ∷ 0x01 ∷ [])) ((0x00 ∷ 0x00 ∷ []) ∷ (0x00 ∷ 0x01 ∷ []) ∷ (0x86 ∷ 0x00 ∷ []) ∷ [])
    ≡ Ended Good ∷ Ended (Malformed 1 0x01) ∷ Ended (Error 0x86) ∷ []
to_write = refl

-- ---- in each state, over SPI: Power-up, Ready, Selected with protocol 3, Waiting, Lost

abbrev answers : Command → List ℕ → List Answer
answers c out =
    map (λ (state : State). (step (made Spi state None) (request c out)).answer.answer)
    (PowerUp ∷ Ready ∷ Selected 3 ∷ Waiting (begun (idled 0x03)) 0 ∷ Lost ∷ [])

abbrev buffer : List ℕ
buffer = replicate 528 0x00

-- taken in Ready and Selected
pub reads : answers (rd_reg 0x62) buffer ≡ Refused Unready ∷ Sent 6 ∷ Sent 6 ∷ Refused Busy ∷ Refused Unready ∷ []
reads = refl

pub writes : answers (wr_reg (0x68 ∷ 0x01 ∷ 0x01 ∷ 0x13 ∷ [])) buffer ≡ Refused Unready ∷ Sent 7 ∷ Sent 7 ∷ Refused Busy ∷ Refused Unready ∷ []
writes = refl

-- 4, 3, 2, 1
pub read_order : map (λ (c : Command). answers c []) (rd_reg 0x61 ∷ rd_reg 0x62 ∷ [])
    ≡ (Refused Unready ∷ Refused Invalid ∷ Refused Invalid ∷ Refused Busy ∷ Refused Unready ∷ [])
    ∷ (Refused Unready ∷ Refused Short ∷ Refused Short ∷ Refused Busy ∷ Refused Unready ∷ []) ∷ []
read_order = refl

-- ---- the state after a reply, where protocol 3 was selected and where none was

abbrev after : Command → ℕ → List ℕ → State
after c selected xs = (step (made Spi (Waiting (begun (awaited_of c)) selected) None) (feed xs buffer)).answer.session.state

-- as it was, after a good reply and an error alike
pub kept_by_read : after (rd_reg 0x69) 3 (0x00 ∷ 0x01 ∷ 0x5F ∷ []) ∷ after (rd_reg 0x69) 3 (0x82 ∷ 0x00 ∷ []) ∷ after (rd_reg 0x69) 0 (0x00 ∷ 0x01 ∷ 0x5F ∷ []) ∷ []
    ≡ Selected 3 ∷ Selected 3 ∷ Ready ∷ []
kept_by_read = refl

pub kept_by_write : after (wr_reg (0x68 ∷ 0x00 ∷ 0x01 ∷ [])) 3 (0x00 ∷ 0x00 ∷ []) ∷ after (wr_reg (0x68 ∷ 0x00 ∷ 0x01 ∷ [])) 3 (0x86 ∷ 0x00 ∷ []) ∷ after (wr_reg (0x68 ∷ 0x00 ∷ 0x01 ∷ [])) 0 (0x00 ∷ 0x00 ∷ []) ∷ []
    ≡ Selected 3 ∷ Selected 3 ∷ Ready ∷ []
kept_by_write = refl

-- the register's value is handed out of the piece
pub handed : (step (made Spi (Waiting (begun (awaited_of (rd_reg 0x69))) 3) None) (feed (0x00 ∷ 0x01 ∷ 0x5F ∷ []) buffer)).answer.place ≡ Piece 2 1
handed = refl
