-- Decisions of document 01 at a few values, computed: frames and their reader, replies, what calls answer in each state, the order of checks,
-- what a piece does to a session, calibration and the guard band. The check takes files in the order of their names, this one first, so that of a
-- wrong model it tells values.
-- Assumes nothing.
use Rattle.std.specs.Prelude.{Err, Ok, Option, None, Some}
use Prim.Native.Nat.{ℕ}
use mathlib.Core.Path.{◌≡◌, refl}
use mathlib.Core.List.{List, [], ◌∷◌, map}
use lib.ListN.{take, replicate}
use Rattle.model.specs.declared.Interface.TheVariants.{Spi}
use Rattle.model.specs.declared.Refusal.TheVariants.{Short, Invalid, Unready, Busy, Malformed, Unawaited, ChipError, LowestTimeout, HighestTag, NoLevel, CalibrationError}
use Rattle.model.specs.declared.Kind.{Kind}
use Rattle.model.specs.declared.Awaited.{Awaited}
use Rattle.model.specs.declared.Phase.TheVariants.{Counting, Data}
use Rattle.model.specs.declared.Wake.TheVariants.{Timeout, Tag, IrqIn, SpiSs}
use Rattle.model.specs.declared.End.{End}
use Rattle.model.specs.declared.Verdict.{Verdict}
use Rattle.model.specs.declared.Verdict.TheVariants.{Ended}
use Rattle.model.specs.declared.Place.{Place}
use Rattle.model.specs.declared.Place.TheVariants.{Nowhere, Piece}
use Rattle.model.specs.declared.Plan.{Plan}
use Rattle.model.specs.declared.Calibration.{Calibration}
use Rattle.model.specs.declared.Turn.TheVariants.{Goes, Names, Fails}
use Rattle.model.specs.declared.State.{State}
use Rattle.model.specs.declared.State.TheVariants.{PowerUp, Ready, Selected, Waiting, Lost}
use Rattle.model.specs.declared.Session.{Session}
use Rattle.model.specs.declared.Answer.{Answer}
use Rattle.model.specs.declared.Answer.TheVariants.{Sent, More, Good, Woken, Refused}
use Rattle.model.specs.declared.Outcome.{Outcome}
use Rattle.words.specs.Contract.{Ran}
use Rattle.model.specs.Frames.{idle_data, prescaler, row, kinds, frame, idn, protocol_select, send_recv, Transfer, part, write, read_command}
use Rattle.model.specs.Replies.{idled, reply, at, begun}
use Rattle.model.specs.Times.{t_l, t_ref, t_inactive, t_to}
use Rattle.model.specs.Calibration.{settings_at, search, up, heard, band, searching, band_of}
use Rattle.model.specs.Session.{made, Call, pulse, request, reset, poll, read, calibrate, next, feed, step}

-- ---- frames

-- the codes of IDN, ProtocolSelect, SendRecv, Idle, RdReg, WrReg and Echo
pub codes : map (λ (k : Kind). (row k).code) kinds ≡ 0x01 ∷ 0x02 ∷ 0x04 ∷ 0x07 ∷ 0x08 ∷ 0x09 ∷ 0x55 ∷ []
codes = refl

-- n counts protocol and parameters
pub framed : frame (protocol_select 1 (0x0D ∷ [])) ≡ 0x02 ∷ 0x02 ∷ 0x01 ∷ 0x0D ∷ []
framed = refl

-- the prescaler is bits 7:6 of WU source
pub prescalers : map prescaler (0x03 ∷ 0x43 ∷ 0x83 ∷ 0xC3 ∷ []) ≡ 0 ∷ 1 ∷ 2 ∷ 3 ∷ []
prescalers = refl

-- a SendRecv is taken; one with a byte behind it, protocol 5 and a protocol with no parameter are refused
pub readings : map read_command ((0x04 ∷ 0x01 ∷ 0x26 ∷ []) ∷ (0x04 ∷ 0x00 ∷ 0x26 ∷ []) ∷ (0x02 ∷ 0x02 ∷ 0x05 ∷ 0x00 ∷ []) ∷ (0x02 ∷ 0x01 ∷ 0x01 ∷ []) ∷ [])
    ≡ Ok (record { kind = Kind.SendRecv; payload = part 2 1 }) ∷ Err Invalid ∷ Err Invalid ∷ Err Invalid ∷ []
readings = refl

-- an output too short for a poll keeps what it held
pub kept : (write Spi Transfer.poll (0xAA ∷ [])).bytes ≡ 0xAA ∷ []
kept = refl

-- ---- replies

abbrev exchanging : Awaited
exchanging = record { kind = Kind.SendRecv; first = 0x26 }

-- what replies to a command come to
abbrev verdicts : Awaited → List (List ℕ) → List Verdict
verdicts a replies = map (λ (xs : List ℕ). (reply a xs).verdict) replies

-- awaited SendRecv: 8D 00 is an error, 8D 01 malformed at its second byte, 80 00 good, 80 02 26 goes on, and 55 is no echo
pub to_exchange : verdicts exchanging ((0x8D ∷ 0x00 ∷ []) ∷ (0x8D ∷ 0x01 ∷ []) ∷ (0x80 ∷ 0x00 ∷ []) ∷ (0x80 ∷ 0x02 ∷ 0x26 ∷ []) ∷ (0x55 ∷ []) ∷ [])
    ≡ Ended (End.Error 0x8D) ∷ Ended (End.Malformed 1 0x01) ∷ Ended End.Good ∷ Verdict.More ∷ Ended (End.Malformed 0 0x55) ∷ []
to_exchange = refl

-- awaited Idle with source 03: 00 01 02 is a tag, 00 01 08 malformed at its third byte
pub to_idle : verdicts (idled 0x03) ((0x00 ∷ 0x01 ∷ 0x02 ∷ []) ∷ (0x00 ∷ 0x01 ∷ 0x08 ∷ []) ∷ []) ≡ Ended (End.Woken Tag) ∷ Ended (End.Malformed 2 0x08) ∷ []
to_idle = refl

-- with every source: 01 timeout, 02 tag, 08 low pulse on IRQ_IN, 10 low pulse on SPI_SS
pub to_idle_by_all : verdicts (idled 0x1B) (map (λ (e : ℕ). 0x00 ∷ 0x01 ∷ e ∷ []) (0x01 ∷ 0x02 ∷ 0x08 ∷ 0x10 ∷ []))
    ≡ Ended (End.Woken Timeout) ∷ Ended (End.Woken Tag) ∷ Ended (End.Woken IrqIn) ∷ Ended (End.Woken SpiSs) ∷ []
to_idle_by_all = refl

-- ---- what calls answer in each state, over SPI

abbrev buffer : List ℕ
buffer = replicate 528 0x00

abbrev prescaled : ℕ → Plan
prescaled p =
    record {
      prescaler = p;
      enter = record { first = 0xA1; second = 0x00 };
      wake = record { first = 0xF8; second = 0x01 };
      leave = record { first = 0x18; second = 0x00 };
      period = 0x20;
      osc = 0x60;
      dac = 0x64;
      swing = 0x3F;
    }

-- a calibration, with so many commands given out and a level
abbrev running : ℕ → ℕ → Option Calibration
running commands level = searching (prescaled 0) (search commands level)

-- Power-up, Ready, Selected with protocols 1 and 2, Waiting, Lost
abbrev sessions : Option Calibration → List Session
sessions c =
    made Spi PowerUp c ∷ made Spi Ready c ∷ made Spi (Selected 1) c ∷ made Spi (Selected 2) c ∷
    made Spi (Waiting (begun (idled 0x03)) 0) c ∷ made Spi Lost c ∷ []

abbrev answers : Option Calibration → Call → List Answer
answers c call = map (λ (s : Session). (step s call).answer.answer) (sessions c)

-- requests are taken in Ready and Selected
pub requests : answers None (request idn buffer) ≡ Refused Unready ∷ Sent 3 ∷ Sent 3 ∷ Sent 3 ∷ Refused Busy ∷ Refused Unready ∷ []
requests = refl

-- SendRecv only in Selected, and with n = 0 only where that is protocol 1
pub exchanges : answers None (request (send_recv []) buffer) ≡ Refused Unready ∷ Refused Unready ∷ Sent 3 ∷ Refused Invalid ∷ Refused Busy ∷ Refused Unready ∷ []
exchanges = refl

-- no request while a calibration runs
pub requests_then : answers (running 1 0x00) (request idn buffer) ≡ Refused Busy ∷ Refused Busy ∷ Refused Busy ∷ Refused Busy ∷ Refused Busy ∷ Refused Busy ∷ []
requests_then = refl

-- a calibration starts where a request is taken
pub starts : answers None (calibrate (prescaled 0) buffer) ≡ Refused Unready ∷ Sent 17 ∷ Sent 17 ∷ Sent 17 ∷ Refused Busy ∷ Refused Unready ∷ []
starts = refl

-- its next command is due once the answer is in
pub nexts : answers (running 1 0x00) (next buffer) ≡ Refused Busy ∷ Sent 17 ∷ Refused Busy ∷ Refused Busy ∷ Refused Busy ∷ Refused Busy ∷ []
nexts = refl

-- a poll is taken in every state
pub polls : answers None (poll buffer) ≡ Sent 2 ∷ Sent 2 ∷ Sent 2 ∷ Sent 2 ∷ Sent 2 ∷ Sent 2 ∷ []
polls = refl

-- a piece is read where a reply is awaited
pub pieces : answers None (feed (0x00 ∷ 0x01 ∷ 0x02 ∷ []) buffer) ≡ Refused Unawaited ∷ Refused Unawaited ∷ Refused Unawaited ∷ Refused Unawaited ∷ Woken Tag ∷ Refused Unawaited ∷ []
pieces = refl

-- ---- the order of checks, where more than one refusal applies

-- 4, 3, 2, 1
pub request_order : answers None (request (send_recv []) []) ≡ Refused Unready ∷ Refused Unready ∷ Refused Short ∷ Refused Invalid ∷ Refused Busy ∷ Refused Unready ∷ []
request_order = refl

pub start_order : answers None (calibrate (prescaled 4) []) ≡ Refused Unready ∷ Refused Invalid ∷ Refused Invalid ∷ Refused Invalid ∷ Refused Busy ∷ Refused Unready ∷ []
start_order = refl

-- 4, 1
pub next_order : answers (running 1 0x00) (next []) ≡ Refused Busy ∷ Refused Short ∷ Refused Busy ∷ Refused Busy ∷ Refused Busy ∷ Refused Busy ∷ []
next_order = refl

-- 2, 1
pub read_order : answers None (read 0 []) ≡ Refused Invalid ∷ Refused Invalid ∷ Refused Invalid ∷ Refused Invalid ∷ Refused Invalid ∷ Refused Invalid ∷ []
read_order = refl

-- 6, room
pub piece_order : answers None (feed (0x00 ∷ []) []) ≡ Refused Unawaited ∷ Refused Unawaited ∷ Refused Unawaited ∷ Refused Unawaited ∷ Refused Short ∷ Refused Unawaited ∷ []
piece_order = refl

-- ---- what a piece does to a session: the state, a calibration or none, the answer, the bytes consumed, and where the data are

abbrev left : State → Option Calibration → Answer → ℕ → Place → Outcome
left state c answer used place = record { session = made Spi state c; answer = answer; used = used; place = place }

abbrev fed : Awaited → ℕ → Option Calibration → List ℕ → Ran Outcome
fed a selected c xs = step (made Spi (Waiting (begun a) selected) c) (feed xs buffer)

-- 00 01 08, malformed at its third byte (5), is consumed through it and writes nothing
pub malformed : (fed (idled 0x03) 0 None (0x00 ∷ 0x01 ∷ 0x08 ∷ [])).answer.used ∷ take 1 (fed (idled 0x03) 0 None (0x00 ∷ 0x01 ∷ 0x08 ∷ [])).bytes ≡ 3 ∷ 0x00 ∷ []
malformed = refl

-- SendRecv with protocol 1 selected: 80 01 26 is good, 80 alone goes on, and 8D 00 is the error 8D (7)
pub exchanged : map (λ xs. (fed exchanging 1 None xs).answer) ((0x80 ∷ 0x01 ∷ 0x26 ∷ []) ∷ (0x80 ∷ []) ∷ (0x8D ∷ 0x00 ∷ []) ∷ [])
    ≡ left (Selected 1) None Good 3 (Piece 2 1) ∷ left (Waiting (at exchanging (Counting 0x80)) 1) None More 1 Nowhere
    ∷ left (Selected 1) None (Refused (ChipError 0x8D)) 2 Nowhere ∷ []
exchanged = refl

-- in the room the second of three data bytes stands behind the first
pub behind : take 2 (step (made Spi (Waiting (at exchanging (Data 1 3)) 1) None) (feed (0xBB ∷ []) (0xAA ∷ replicate 527 0x00))).bytes ≡ 0xAA ∷ 0xBB ∷ []
behind = refl

-- ---- calibration

-- WU source 03 with prescaler 2, the pairs, WuPeriod, OscStart, DacStart, DacDataL 00, DacDataH the level, SwingCnt, MaxSleep 01
pub command : idle_data (settings_at (prescaled 2) 0x7C)
    ≡ 0x83 ∷ 0xA1 ∷ 0x00 ∷ 0xF8 ∷ 0x01 ∷ 0x18 ∷ 0x00 ∷ 0x20 ∷ 0x60 ∷ 0x64 ∷ 0x00 ∷ 0x7C ∷ 0x3F ∷ 0x01 ∷ []
command = refl

-- its t_REF, t_INACTIVE and t_TO with prescaler 0, in ticks
pub ticked : t_ref (settings_at (prescaled 0) 0x7C) ∷ t_inactive (settings_at (prescaled 0) 0x7C) ∷ t_to (settings_at (prescaled 0) 0x7C) ∷ [] ≡ 256 ∷ 8448 ∷ 16896 ∷ []
unfolding t_l t_ref t_inactive t_to
ticked = refl

-- the reply to the first command is awaited, by its WU source
pub started : (step (made Spi (Selected 1) None) (calibrate (prescaled 0) buffer)).answer.session ≡ made Spi (Waiting (begun (idled 0x03)) 1) (running 1 0x00)
started = refl

-- the first command: a tag goes on to FC, a timeout ends it (8)
pub first_trial : map (λ xs. (fed (idled 0x03) 0 (running 1 0x00) xs).answer) ((0x00 ∷ 0x01 ∷ 0x02 ∷ []) ∷ (0x00 ∷ 0x01 ∷ 0x01 ∷ []) ∷ [])
    ≡ left Ready (running 1 0xFC) (Woken Tag) 3 (Piece 2 1) ∷ left Ready None (Refused (LowestTimeout 1)) 3 (Piece 2 1) ∷ []
first_trial = refl

-- the second: a tag (9), the error 8E (12) and a malformed reply (5) end it
pub second_trial : map (λ xs. (fed (idled 0x03) 0 (running 2 0xFC) xs).answer) ((0x00 ∷ 0x01 ∷ 0x02 ∷ []) ∷ (0x8E ∷ 0x00 ∷ []) ∷ (0x00 ∷ 0x02 ∷ []) ∷ [])
    ≡ left Ready None (Refused (HighestTag 2)) 3 (Piece 2 1) ∷ left Ready None (Refused (CalibrationError 0x8E 2)) 2 Nowhere
    ∷ left Lost None (Refused Malformed) 2 Nowhere ∷ []
second_trial = refl

-- once the answer is in: a pulse changes nothing, a reset drops the calibration, the next command is the second; the interface stays
pub between : map (λ call. (step (made Spi Ready (running 1 0xFC)) call).answer.session) (pulse ∷ reset buffer ∷ next buffer ∷ [])
    ≡ made Spi Ready (running 1 0xFC) ∷ made Spi PowerUp None ∷ made Spi (Waiting (begun (idled 0x03)) 0) (running 2 0xFC) ∷ []
between = refl

-- up after a tag; FC must give timeout; after the eighth answer the reference is the last level
pub tags : map (λ s. heard s Tag) (search 2 0xFC ∷ search 3 0x7C ∷ search 7 0x5C ∷ search 8 0x60 ∷ [])
    ≡ Fails (HighestTag 2) ∷ Goes (search 3 0xBC) ∷ Goes (search 7 0x60) ∷ Names 0x60 8 ∷ []
tags = refl

-- down after a timeout; after the eighth answer one level lower, and level 00 has none
pub timeouts : map (λ s. heard s Timeout) (search 2 0xFC ∷ search 3 0x7C ∷ search 7 0x64 ∷ search 8 0x04 ∷ search 8 0x00 ∷ [])
    ≡ Goes (search 2 0x7C) ∷ Goes (search 3 0x3C) ∷ Goes (search 7 0x60) ∷ Names 0x00 8 ∷ Fails (NoLevel 8) ∷ []
timeouts = refl

-- a level goes no further than a byte does
pub ups : map (λ (level : ℕ). up level 0x04) (0xFB ∷ 0xFC ∷ []) ≡ 0xFF ∷ 0xFC ∷ []
ups = refl

-- low = reference - 8, high = reference + 8; refused below 08, above F4, or where the reference is no multiple of 4
pub bands : map band (0x04 ∷ 0x08 ∷ 0x0A ∷ 0xF4 ∷ 0xF8 ∷ []) ≡ None ∷ Some (band_of 0x00 0x10) ∷ None ∷ Some (band_of 0xEC 0xFC) ∷ None ∷ []
bands = refl
