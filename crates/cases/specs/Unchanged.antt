-- Document 01, "Refusals by number": 1, 2, 3, 4 and 6 change nothing, write nothing and consume nothing, and neither does an empty piece.
-- Assumes nothing.
use Rattle.std.specs.Prelude.{◌≡◌, ℕ, List, [], ◌∷◌, ◌++◌, map, replicate}
use Rattle.model.specs.declared.Interface.TheVariants.{Spi, Uart}
use Rattle.model.specs.declared.Place.TheVariants.{Nowhere}
use Rattle.model.specs.declared.Session.{Session}
use Rattle.model.specs.Session.{Call, power_on, pulse, request, reset, poll, read, calibrate, next, feed, step}
use Rattle.cases.specs.Starred.{room}
use Rattle.cases.specs.Sessions.{after, lost, tag}
use Rattle.cases.specs.Planned.{begins}
use Rattle.cases.specs.Refusing.{calls, fits, short, narrow}

-- the buffer that a call is lent
abbrev pub buffer_of : Call → List ℕ
buffer_of (power_on i) = []
buffer_of pulse = []
buffer_of (request c out) = out
buffer_of (reset out) = out
buffer_of (poll out) = out
buffer_of (read n out) = out
buffer_of (calibrate plan out) = out
buffer_of (next out) = out
buffer_of (feed piece room) = room

-- in a session where every call but the empty piece is refused, all 30 leave session and buffer as they were, and consume nothing
pub record Kept (s : Session) (calls : List Call) : Type 0 where
  pub session : map (λ (c : Call). (step s c).answer.session) calls ≡ replicate 30 s
  pub buffer : map (λ (c : Call). (step s c).bytes) calls ≡ map buffer_of calls
  pub used : map (λ (c : Call). (step s c).answer.used) calls ≡ replicate 30 0
  pub place : map (λ (c : Call). (step s c).answer.place) calls ≡ replicate 30 Nowhere

-- Waiting in a calibration, over SPI with buffers a byte too short; and Lost, over UART with buffers long enough
abbrev pub Unchanged : Type 0
Unchanged =
    Kept (after Spi (begins ++ tag ++ next room ∷ [])).session (calls (short Spi) narrow) ×
    Kept (after Uart lost).session (calls (fits Uart) room)
