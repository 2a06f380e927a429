-- Document 01, "Calibration" and refusals 5, 8, 9, 10 and 12: how a calibration goes on, how it ends, and the session that it leaves.
-- Assumes nothing.
use Rattle.std.specs.Prelude.{ℕ, ◌≡◌, List, [], ◌∷◌, ◌++◌, map, None}
use Rattle.model.specs.declared.Interface.{Interface}
use Rattle.model.specs.declared.Interface.TheVariants.{Spi}
use Rattle.model.specs.declared.Place.{Place}
use Rattle.model.specs.declared.Place.TheVariants.{Nowhere, Piece}
use Rattle.model.specs.declared.Phase.TheVariants.{Begun, Counting, Waking}
use Rattle.model.specs.declared.State.{State}
use Rattle.model.specs.declared.State.TheVariants.{PowerUp, Ready, Selected, Waiting, Lost}
use Rattle.model.specs.declared.Session.{Session}
use Rattle.model.specs.declared.Outcome.{Outcome}
use Rattle.model.specs.Replies.{at}
use Rattle.model.specs.Calibration.{search, searching}
use Rattle.model.specs.Session.{made, Call, power_on, pulse, reset, calibrate, next, feed, step}
use Rattle.cases.specs.Awaiting.{to_idle, told_by}
use Rattle.cases.specs.Starred.{room}
use Rattle.cases.specs.Sessions.{after, selected, tag, timeout}
use Rattle.cases.specs.Planned.{planned}

-- ---- a calibration that was started with protocol 3 selected

abbrev pub begun : List Call
begun = selected 3 ++ calibrate (planned 3) room ∷ []

-- an answer is in, and the next command is sent
abbrev pub tags : List Call
tags = tag ++ next room ∷ []

abbrev pub times_out : List Call
times_out = timeout ++ next room ∷ []

-- the eighth command is sent, at level 60 and at level 00
abbrev pub at_sixty : List Call
at_sixty = begun ++ tags ++ times_out ++ times_out ++ tags ++ tags ++ times_out ++ times_out

abbrev pub at_zero : List Call
at_zero = begun ++ tags ++ times_out ++ times_out ++ times_out ++ times_out ++ times_out ++ times_out

-- ---- how it goes on

-- the session with the newest command's number and level, or with the level that is due
abbrev pub running : Interface → State → ℕ → ℕ → Session
running i state commands level = made i state (searching (planned 3) (search commands level))

-- a reply to Idle with source C3 is awaited, with the protocol that was selected
abbrev pub awaits : ℕ → State
awaits protocol = Waiting (at (to_idle 0xC3) Begun) protocol

pub record GoesOn : Type 0 where
  pub sessions : (i : Interface) →
      map (λ (calls : List Call). (after i calls).session) (
      begun ∷ (begun ++ tag) ∷ (begun ++ tags) ∷ (begun ++ tags ++ timeout) ∷ (begun ++ tags ++ times_out) ∷ (begun ++ tags ++ times_out ++ tag) ∷
      (begun ++ tags ++ times_out ++ tags) ∷ at_sixty ∷ at_zero ∷ []) ≡
      running i (awaits 3) 1 0x00 ∷ running i Ready 1 0xFC ∷ running i (awaits 0) 2 0xFC ∷ running i Ready 2 0x7C ∷ running i (awaits 0) 3 0x7C ∷
      running i Ready 3 0xBC ∷ running i (awaits 0) 4 0xBC ∷ running i (awaits 0) 8 0x60 ∷ running i (awaits 0) 8 0x00 ∷ []
  -- between two pieces
  pub cut : (i : Interface) →
      map (λ (piece : List ℕ). (after i (begun ++ feed piece room ∷ [])).session) ((0x00 ∷ []) ∷ (0x00 ∷ 0x01 ∷ []) ∷ [] ∷ []) ≡
      running i (Waiting (at (to_idle 0xC3) (Counting 0x00)) 3) 1 0x00 ∷ running i (Waiting (at (to_idle 0xC3) Waking) 3) 1 0x00 ∷ running i (awaits 3) 1 0x00 ∷ []

-- ---- how it ends

-- the session; of the answer a refusal's number and values, or a reference behind a 0; what was consumed; and where the event is
pub record Ended : Type 0 where
  pub session : Session
  pub told : List ℕ
  pub used : ℕ
  pub place : Place

abbrev pub ended : Session → List ℕ → ℕ → Place → Ended
ended s told used place = record { session = s; told = told; used = used; place = place }

abbrev pub ended_by : Outcome → Ended
ended_by o = ended o.session (told_by o.answer) o.used o.place

-- a piece after calls, with a byte behind the reply
abbrev pub ends : Interface → List Call → List ℕ → Ended
ends i before piece = ended_by (step (after i before).session (feed (piece ++ 0x99 ∷ []) room)).answer

abbrev pub event : ℕ → List ℕ
event e = 0x00 ∷ 0x01 ∷ e ∷ []

abbrev pub code : ℕ → List ℕ
code c = c ∷ 0x00 ∷ []

pub record Ends : Type 0 where
  -- 8, 9, 10: Ready, with the event as data
  pub by_an_answer : (i : Interface) →
      ends i begun (event 0x01) ∷ ends i (begun ++ tags) (event 0x02) ∷ ends i at_zero (event 0x01) ∷ [] ≡
      ended (made i Ready None) (8 ∷ 1 ∷ []) 3 (Piece 2 1) ∷ ended (made i Ready None) (9 ∷ 2 ∷ []) 3 (Piece 2 1) ∷
      ended (made i Ready None) (10 ∷ 8 ∷ []) 3 (Piece 2 1) ∷ []
  -- 12: the very code, and the state before: that of the first command is Selected 3
  pub by_an_error : (i : Interface) →
      ends i begun (code 0x87) ∷ ends i (begun ++ tags) (code 0x8C) ∷ ends i (begun ++ tags ++ times_out) (code 0x83) ∷ ends i at_sixty (code 0x85) ∷ [] ≡
      ended (made i (Selected 3) None) (12 ∷ 0x87 ∷ 1 ∷ []) 2 Nowhere ∷ ended (made i Ready None) (12 ∷ 0x8C ∷ 2 ∷ []) 2 Nowhere ∷
      ended (made i Ready None) (12 ∷ 0x83 ∷ 3 ∷ []) 2 Nowhere ∷ ended (made i Ready None) (12 ∷ 0x85 ∷ 8 ∷ []) 2 Nowhere ∷ []
  -- 5
  pub by_a_malformed_byte : (i : Interface) →
      ends i begun (event 0x08) ∷ ends i (begun ++ tags) (0x00 ∷ 0x02 ∷ []) ∷ ends i at_sixty (0x55 ∷ []) ∷ [] ≡
      ended (made i Lost None) (5 ∷ []) 3 Nowhere ∷ ended (made i Lost None) (5 ∷ []) 2 Nowhere ∷ ended (made i Lost None) (5 ∷ []) 1 Nowhere ∷ []
  pub by_a_reference : (i : Interface) →
      ends i at_sixty (event 0x02) ∷ ends i at_sixty (event 0x01) ∷ ends i at_zero (event 0x02) ∷ [] ≡
      ended (made i Ready None) (0 ∷ 0x60 ∷ 8 ∷ []) 3 (Piece 2 1) ∷ ended (made i Ready None) (0 ∷ 0x5C ∷ 8 ∷ []) 3 (Piece 2 1) ∷
      ended (made i Ready None) (0 ∷ 0x00 ∷ 8 ∷ []) 3 (Piece 2 1) ∷ []
  -- with the reply cut
  pub cut : (i : Interface) →
      ends i (begun ++ feed (0x00 ∷ []) room ∷ []) (0x01 ∷ 0x01 ∷ []) ∷ ends i (begun ++ feed (0x00 ∷ 0x01 ∷ []) room ∷ []) (0x02 ∷ []) ∷
      ends i (begun ++ tags ++ feed (0x8A ∷ []) room ∷ []) (0x00 ∷ []) ∷ [] ≡
      ended (made i Ready None) (8 ∷ 1 ∷ []) 2 (Piece 1 1) ∷ ended (running i Ready 1 0xFC) [] 1 (Piece 0 1) ∷
      ended (made i Ready None) (12 ∷ 0x8A ∷ 2 ∷ []) 1 Nowhere ∷ []
  -- a power-on drops it, and a pulse does not
  pub by_power : (i : Interface) → (after i (begun ++ power_on i ∷ [])).session ≡ made i PowerUp None
  pub not_by_a_pulse : (i : Interface) → (after i (begun ++ pulse ∷ [])).session ≡ running i (awaits 3) 1 0x00

abbrev pub EveryEnd : Type 0
EveryEnd = GoesOn × Ends × ((after Spi (begun ++ tag ++ reset room ∷ [])).session ≡ made Spi PowerUp None)
