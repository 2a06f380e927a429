-- Demands 1 and 2: what a call gives out that is not refused, byte by byte, and the session after it.
-- Assumes nothing.
use Rattle.std.specs.Prelude.{ℕ, ◌+◌, ◌*◌, ◌%◌, ◌≤◌, ◌≡◌, List, [], ◌∷◌, ◌++◌, length, drop, replicate, None}
use Rattle.model.specs.declared.Interface.{Interface}
use Rattle.model.specs.declared.Interface.TheVariants.{Spi, Uart}
use Rattle.model.specs.declared.Kind.TheVariants.{Idle}
use Rattle.model.specs.declared.Awaited.{Awaited}
use Rattle.model.specs.declared.Plan.{Plan}
use Rattle.model.specs.declared.Search.{Search}
use Rattle.model.specs.declared.State.TheVariants.{PowerUp, Waiting}
use Rattle.model.specs.declared.Session.{Session}
use Rattle.model.specs.declared.Answer.{Answer}
use Rattle.model.specs.declared.Outcome.{Outcome}
use Rattle.words.specs.Contract.{Ran}
use Rattle.model.specs.Frames.{greatest_read}
use Rattle.model.specs.Replies.{begun}
use Rattle.model.specs.Checks.{Passes}
use Rattle.model.specs.Session.{protocol_of, outcome, checks, reset, poll, read, calibrate, next, step}
use Rattle.model.specs.Calibration.{searching}

-- the bytes stand at the front of the output, which keeps what it held past them; so many are told as sent
pub record GivesOut (bytes : List ℕ) (after : Session) (out : List ℕ) (m : Ran Outcome) : Type 0 where
  pub answer : m.answer ≡ outcome after (Answer.Sent (length bytes))
  pub output : m.bytes ≡ bytes ++ drop (length bytes) out

-- ---- a calibration's commands

-- WU source 03 with the caller's prescaler
abbrev pub source : Plan → ℕ
source plan = 0x03 + 64 * (plan.prescaler % 4)

-- Idle at a level: DacDataL 00, MaxSleep 01, and the caller's other settings, in wire order
abbrev pub trial : Plan → ℕ → List ℕ
trial plan level =
    0x07 ∷ 0x0E ∷ source plan ∷
    plan.enter.first ∷ plan.enter.second ∷ plan.wake.first ∷ plan.wake.second ∷ plan.leave.first ∷ plan.leave.second ∷
    plan.period ∷ plan.osc ∷ plan.dac ∷ 0x00 ∷ level ∷ plan.swing ∷ 0x01 ∷ []

-- over SPI the control byte 00 comes first
abbrev pub sent : Interface → List ℕ → List ℕ
sent Spi xs = 0x00 ∷ xs
sent Uart xs = xs

abbrev pub to_idle : ℕ → Awaited
to_idle source = record { kind = Idle; first = source }

-- the reply to it is awaited, with the protocol that was selected, and the calibration runs
abbrev pub tried : Session → Plan → Search → Session
tried s plan found =
    record { interface = s.interface; state = Waiting (begun (to_idle (source plan))) (protocol_of s.state); calibration = searching plan found }

-- a start gives the first command, at level 00
abbrev pub StartGives : Type 0
StartGives =
    (s : Session) (plan : Plan) (out : List ℕ) → Passes (checks s (calibrate plan out)) →
    GivesOut (sent s.interface (trial plan 0x00)) (tried s plan (record { commands = 1; level = 0x00 })) out (step s (calibrate plan out))

-- each next one is at the level that the search has come to, and counts
abbrev pub NextGives : Type 0
NextGives =
    (s : Session) (plan : Plan) (found : Search) (out : List ℕ) → s.calibration ≡ searching plan found → Passes (checks s (next out)) →
    GivesOut (sent s.interface (trial plan found.level)) (tried s plan (record { commands = found.commands + 1; level = found.level })) out (step s (next out))

-- ---- reset, poll and read, taken in every state over SPI

pub record Transfers (s : Session) (out : List ℕ) : Type 0 where
  -- 01 alone; it leads to Power-up, and drops an awaited reply and a calibration
  pub resets : 1 ≤ length out → GivesOut (0x01 ∷ []) (record { interface = Spi; state = PowerUp; calibration = None }) out (step s (reset out))
  -- 03 twice
  pub polls : 2 ≤ length out → GivesOut (0x03 ∷ 0x03 ∷ []) s out (step s (poll out))
  -- 02 and n bytes 00, from 1 to the greatest number
  pub reads : (n : ℕ) → 1 ≤ n → n ≤ greatest_read → 1 + n ≤ length out → GivesOut (0x02 ∷ replicate n 0x00) s out (step s (read n out))

abbrev pub OverSpi : Type 0
OverSpi = (s : Session) (out : List ℕ) → s.interface ≡ Spi → Transfers s out
