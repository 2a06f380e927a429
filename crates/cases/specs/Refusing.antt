-- Document 01, "Refusals by number", as a table: a row for each state, a column for each call, and in it the number of the refusal, 0 for none.
-- Assumes nothing.
use Rattle.std.specs.Prelude.{ℕ, suc, ◌-◌, ◌≡◌, List, [], ◌∷◌, ◌++◌, map, eqb, get_or, replicate}
use Prim.Native.Char.{code}
use Prim.Native.String.{String, [] as nothing, ◌∷◌ as ◌then◌}
use Rattle.model.specs.declared.Interface.{Interface}
use Rattle.model.specs.declared.Interface.TheVariants.{Spi, Uart}
use Rattle.model.specs.declared.State.{State}
use Rattle.model.specs.declared.State.TheVariants.{PowerUp, Ready, Selected, Waiting, Lost}
use Rattle.model.specs.declared.Session.{Session}
use Rattle.model.specs.declared.Answer.{Answer}
use Rattle.words.specs.Words.{pick}
use Rattle.model.specs.Frames.{idn, protocol_select, send_recv, idle, rd_reg, wr_reg, echo}
use Rattle.model.specs.Replies.{begun}
use Rattle.model.specs.Calibration.{search, searching}
use Rattle.model.specs.Session.{made, awaited_of, Call, pulse, request, reset, poll, read, calibrate, next, feed, step}
use Rattle.cases.specs.Awaiting.{index, tuning, window, to_idn, to_select, to_idle, to_read, to_write, to_echo, told_by}
use Rattle.cases.specs.Starred.{room}
use Rattle.cases.specs.Sessions.{after, selects, selected, lost, tag}
use Rattle.cases.specs.Framing.{levelled}
use Rattle.cases.specs.Planned.{planned, begins}

-- ---- the entries

-- one digit an entry; blanks keep the columns apart
abbrev pub entries : String → List ℕ
entries nothing = []
entries (letter then letters) = pick (eqb (code letter) 32) (entries letters) ((code letter - 48) ∷ entries letters)

-- the number of a refusal, 0 for any other answer
abbrev pub number : Answer → ℕ
number a = get_or (told_by a) 0 0

-- ---- the columns

-- the calls, with an output for a frame of n bytes, or for n bytes behind SPI's control byte, and with a room:
-- IDN, Echo; ProtocolSelect with protocol 1, with 5, without a parameter, with nine; SendRecv of nothing, of a byte, of 256
abbrev pub requests : (ℕ → List ℕ) → List Call
requests out =
    request idn (out 2) ∷ request echo (out 1) ∷
    request (protocol_select 1 (0x05 ∷ [])) (out 4) ∷ request (protocol_select 5 (0x05 ∷ [])) (out 4) ∷
    request (protocol_select 1 []) (out 3) ∷ request (protocol_select 1 (replicate 9 0x05)) (out 12) ∷
    request (send_recv []) (out 2) ∷ request (send_recv (0x26 ∷ [])) (out 3) ∷ request (send_recv (replicate 256 0x26)) (out 258) ∷ []

-- RdReg of 69 and of 63; WrReg of the index, of 23 and 25 to ARC_B, of the windows 58 and 61
abbrev pub tunes : (ℕ → List ℕ) → List Call
tunes out =
    request (rd_reg 0x69) (out 5) ∷ request (rd_reg 0x63) (out 5) ∷
    request (wr_reg (index 0x01)) (out 5) ∷ request (wr_reg (tuning 0x00 0x23)) (out 6) ∷ request (wr_reg (tuning 0x00 0x25)) (out 6) ∷
    request (wr_reg (window 0x01 0x58)) (out 6) ∷ request (wr_reg (window 0x01 0x61)) (out 6) ∷ []

-- Idle as it should be, with bit 2 of WU source, with DacDataL above DacDataH; a calibration with p = 3 and with 4; its next command
abbrev pub sleeps : (ℕ → List ℕ) → List Call
sleeps out =
    request (idle (levelled 0xDB 0x10 0x11)) (out 16) ∷ request (idle (levelled 0xDF 0x10 0x11)) (out 16) ∷ request (idle (levelled 0xDB 0x11 0x10)) (out 16) ∷
    calibrate (planned 3) (out 16) ∷ calibrate (planned 4) (out 16) ∷ next (out 16) ∷ []

-- reset, poll; a read of 0, of 1, of 530, of 531; an empty piece, and one of the byte 55
abbrev pub transfers : (ℕ → List ℕ) → List ℕ → List Call
transfers out lent =
    reset (out 0) ∷ poll (out 1) ∷ read 0 (out 0) ∷ read 1 (out 1) ∷ read 530 (out 530) ∷ read 531 (out 531) ∷ feed [] lent ∷ feed (0x55 ∷ []) lent ∷ []

abbrev pub calls : (ℕ → List ℕ) → List ℕ → List Call
calls out lent = requests out ++ tunes out ++ sleeps out ++ transfers out lent

abbrev pub row : (ℕ → List ℕ) → List ℕ → Session → List ℕ
row out lent s = map (λ (c : Call). number (step s c).answer.answer) (calls out lent)

-- an output just long enough, and one a byte too short
abbrev pub fits : Interface → ℕ → List ℕ
fits Uart n = replicate n 0xEE
fits Spi n = replicate (suc n) 0xEE

abbrev pub short : Interface → ℕ → List ℕ
short Uart n = replicate (n - 1) 0xEE
short Spi n = replicate n 0xEE

-- a room a byte too short
abbrev pub narrow : List ℕ
narrow = replicate 527 0xEE

-- ---- the rows

-- the sessions that these calls lead to, in the order of the rows below
abbrev pub sessions : Interface → List Session
sessions i =
    map (λ (before : List Call). (after i before).session) (
    [] ∷ (pulse ∷ []) ∷ selected 1 ∷ selected 2 ∷ selected 4 ∷
    (pulse ∷ request idn room ∷ []) ∷ (pulse ∷ selects 1) ∷ (selected 1 ++ request (send_recv []) room ∷ []) ∷
    (pulse ∷ request (idle (levelled 0xDB 0x10 0x11)) room ∷ []) ∷
    (selected 4 ++ request (rd_reg 0x62) room ∷ []) ∷ (pulse ∷ request (wr_reg (index 0x00)) room ∷ []) ∷ (selected 2 ++ request echo room ∷ []) ∷
    begins ∷ (begins ++ tag) ∷ (begins ++ tag ++ next room ∷ []) ∷ lost ∷ [])

abbrev pub States : Type 0
States =
    map (λ (s : Session). s.state) (sessions Uart) ≡
    PowerUp ∷ Ready ∷ Selected 1 ∷ Selected 2 ∷ Selected 4 ∷
    Waiting (begun to_idn) 0 ∷ Waiting (begun (to_select 1)) 0 ∷ Waiting (begun (awaited_of (send_recv []))) 1 ∷ Waiting (begun (to_idle 0xDB)) 0 ∷
    Waiting (begun (to_read 0x62)) 4 ∷ Waiting (begun (to_write (index 0x00))) 0 ∷ Waiting (begun to_echo) 2 ∷
    Waiting (begun (to_idle 0xC3)) 0 ∷ Ready ∷ Waiting (begun (to_idle 0xC3)) 0 ∷ Lost ∷ []

-- ---- the table

-- columns: idn echo, select, send, rdreg wrreg, idle, calibrate, next, reset poll, read, feed. With buffers just long enough, over UART and over SPI
pub record Enough : Type 0 where
  pub uart :
      map (row (fits Uart) room) (sessions Uart) ≡
      entries "33 3333 333 33 33333 333 33 4 22 2222 06" ∷  -- Power-up
      entries "00 0222 333 02 00202 022 02 4 22 2222 06" ∷  -- Ready
      entries "00 0222 002 02 00202 022 02 4 22 2222 06" ∷  -- Selected 1
      entries "00 0222 202 02 00202 022 02 4 22 2222 06" ∷  -- Selected 2
      entries "00 0222 202 02 00202 022 02 4 22 2222 06" ∷  -- Selected 4
      entries "44 4444 444 44 44444 444 44 4 22 2222 05" ∷  -- Waiting for IDN
      entries "44 4444 444 44 44444 444 44 4 22 2222 05" ∷  -- Waiting for ProtocolSelect
      entries "44 4444 444 44 44444 444 44 4 22 2222 05" ∷  -- Waiting for SendRecv
      entries "44 4444 444 44 44444 444 44 4 22 2222 05" ∷  -- Waiting for Idle
      entries "44 4444 444 44 44444 444 44 4 22 2222 05" ∷  -- Waiting for RdReg
      entries "44 4444 444 44 44444 444 44 4 22 2222 05" ∷  -- Waiting for WrReg
      entries "44 4444 444 44 44444 444 44 4 22 2222 00" ∷  -- Waiting for Echo
      entries "44 4444 444 44 44444 444 44 4 22 2222 05" ∷  -- Waiting for a calibration's first answer
      entries "44 4444 444 44 44444 444 44 0 22 2222 06" ∷  -- Ready for its second command
      entries "44 4444 444 44 44444 444 44 4 22 2222 05" ∷  -- Waiting for its second answer
      entries "33 3333 333 33 33333 333 33 4 22 2222 06" ∷  -- Lost
      []
  pub spi :
      map (row (fits Spi) room) (sessions Spi) ≡
      entries "33 3333 333 33 33333 333 33 4 00 2002 06" ∷  -- Power-up
      entries "00 0222 333 02 00202 022 02 4 00 2002 06" ∷  -- Ready
      entries "00 0222 002 02 00202 022 02 4 00 2002 06" ∷  -- Selected 1
      entries "00 0222 202 02 00202 022 02 4 00 2002 06" ∷  -- Selected 2
      entries "00 0222 202 02 00202 022 02 4 00 2002 06" ∷  -- Selected 4
      entries "44 4444 444 44 44444 444 44 4 00 2002 05" ∷  -- Waiting for IDN
      entries "44 4444 444 44 44444 444 44 4 00 2002 05" ∷  -- Waiting for ProtocolSelect
      entries "44 4444 444 44 44444 444 44 4 00 2002 05" ∷  -- Waiting for SendRecv
      entries "44 4444 444 44 44444 444 44 4 00 2002 05" ∷  -- Waiting for Idle
      entries "44 4444 444 44 44444 444 44 4 00 2002 05" ∷  -- Waiting for RdReg
      entries "44 4444 444 44 44444 444 44 4 00 2002 05" ∷  -- Waiting for WrReg
      entries "44 4444 444 44 44444 444 44 4 00 2002 00" ∷  -- Waiting for Echo
      entries "44 4444 444 44 44444 444 44 4 00 2002 05" ∷  -- Waiting for a calibration's first answer
      entries "44 4444 444 44 44444 444 44 0 00 2002 06" ∷  -- Ready for its second command
      entries "44 4444 444 44 44444 444 44 4 00 2002 05" ∷  -- Waiting for its second answer
      entries "33 3333 333 33 33333 333 33 4 00 2002 06" ∷  -- Lost
      []

-- with buffers a byte too short: 1 comes behind 4, 3 and 2, and behind 6, but before any byte of a piece; an empty piece needs no room
pub record Short : Type 0 where
  pub uart :
      map (row (short Uart) narrow) (sessions Uart) ≡
      entries "33 3333 333 33 33333 333 33 4 22 2222 06" ∷  -- Power-up
      entries "11 1222 333 12 11212 122 12 4 22 2222 06" ∷  -- Ready
      entries "11 1222 112 12 11212 122 12 4 22 2222 06" ∷  -- Selected 1
      entries "11 1222 212 12 11212 122 12 4 22 2222 06" ∷  -- Selected 2
      entries "11 1222 212 12 11212 122 12 4 22 2222 06" ∷  -- Selected 4
      entries "44 4444 444 44 44444 444 44 4 22 2222 01" ∷  -- Waiting for IDN
      entries "44 4444 444 44 44444 444 44 4 22 2222 01" ∷  -- Waiting for ProtocolSelect
      entries "44 4444 444 44 44444 444 44 4 22 2222 01" ∷  -- Waiting for SendRecv
      entries "44 4444 444 44 44444 444 44 4 22 2222 01" ∷  -- Waiting for Idle
      entries "44 4444 444 44 44444 444 44 4 22 2222 01" ∷  -- Waiting for RdReg
      entries "44 4444 444 44 44444 444 44 4 22 2222 01" ∷  -- Waiting for WrReg
      entries "44 4444 444 44 44444 444 44 4 22 2222 01" ∷  -- Waiting for Echo
      entries "44 4444 444 44 44444 444 44 4 22 2222 01" ∷  -- Waiting for a calibration's first answer
      entries "44 4444 444 44 44444 444 44 1 22 2222 06" ∷  -- Ready for its second command
      entries "44 4444 444 44 44444 444 44 4 22 2222 01" ∷  -- Waiting for its second answer
      entries "33 3333 333 33 33333 333 33 4 22 2222 06" ∷  -- Lost
      []
  pub spi :
      map (row (short Spi) narrow) (sessions Spi) ≡
      entries "33 3333 333 33 33333 333 33 4 11 2112 06" ∷  -- Power-up
      entries "11 1222 333 12 11212 122 12 4 11 2112 06" ∷  -- Ready
      entries "11 1222 112 12 11212 122 12 4 11 2112 06" ∷  -- Selected 1
      entries "11 1222 212 12 11212 122 12 4 11 2112 06" ∷  -- Selected 2
      entries "11 1222 212 12 11212 122 12 4 11 2112 06" ∷  -- Selected 4
      entries "44 4444 444 44 44444 444 44 4 11 2112 01" ∷  -- Waiting for IDN
      entries "44 4444 444 44 44444 444 44 4 11 2112 01" ∷  -- Waiting for ProtocolSelect
      entries "44 4444 444 44 44444 444 44 4 11 2112 01" ∷  -- Waiting for SendRecv
      entries "44 4444 444 44 44444 444 44 4 11 2112 01" ∷  -- Waiting for Idle
      entries "44 4444 444 44 44444 444 44 4 11 2112 01" ∷  -- Waiting for RdReg
      entries "44 4444 444 44 44444 444 44 4 11 2112 01" ∷  -- Waiting for WrReg
      entries "44 4444 444 44 44444 444 44 4 11 2112 01" ∷  -- Waiting for Echo
      entries "44 4444 444 44 44444 444 44 4 11 2112 01" ∷  -- Waiting for a calibration's first answer
      entries "44 4444 444 44 44444 444 44 1 11 2112 06" ∷  -- Ready for its second command
      entries "44 4444 444 44 44444 444 44 4 11 2112 01" ∷  -- Waiting for its second answer
      entries "33 3333 333 33 33333 333 33 4 11 2112 06" ∷  -- Lost
      []

-- records that no call made, with a calibration that runs in Power-up, Selected 2 and Lost, and in Ready after its eighth command
abbrev pub strange : List Session
strange =
    map (λ (state : State). made Uart state (searching (planned 3) (search 3 0x7C))) (PowerUp ∷ Selected 2 ∷ Lost ∷ []) ++
    made Uart Ready (searching (planned 3) (search 8 0x7C)) ∷ []

abbrev pub Strange : Type 0
Strange = map (row (fits Uart) room) strange ≡ replicate 4 (entries "44 4444 444 44 44444 444 44 4 22 2222 06")
