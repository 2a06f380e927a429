-- What a history says: the commands given out, the bytes fed to each, what was consumed of them, and a calibration's answers.
-- Assumes nothing.
use Rattle.std.specs.Prelude.{ℕ, ◌≡◌, true, false, List, [], ◌∷◌, ◌++◌, map, leb, replicate}
use Rattle.model.specs.declared.Interface.{Interface}
use Rattle.model.specs.declared.Interface.TheVariants.{Spi, Uart}
use Rattle.model.specs.declared.Refusal.{Refusal}
use Rattle.model.specs.declared.End.TheVariants.{Error}
use Rattle.model.specs.declared.Answer.{Answer}
use Rattle.model.specs.declared.Answer.TheVariants.{Done, Sent, More, Good, Reference, Refused}
use Rattle.model.specs.Frames.{idn, echo}
use Rattle.model.specs.Session.{Call, power_on, pulse, request, reset, poll, read, calibrate, next, feed, unpowered}
use Rattle.model.specs.History.{Event, Owner, requested, first, later, Exchange, exchange, exchanges, commands, Told, told, answers}
use Rattle.model.specs.Promises.{tag, timeout}
use Rattle.model.specs.Talk.{ends, last}
use Rattle.cases.specs.Driving.{calibrated}
use Rattle.cases.specs.Awaiting.{to_idn, to_idle, to_echo, woke}
use Rattle.cases.specs.Starred.{room, singly}
use Rattle.cases.specs.Sessions.{after}
use Rattle.cases.specs.Planned.{planned, begins}
use Rattle.cases.specs.Published.{refusals}
use Rattle.cases.specs.Refusing.{narrow}

-- ---- readings

-- what a history of calls is read as: all exchanges, how many of them are the newest calibration's, and its answers
pub record Readings : Type 0 where
  pub exchanged : List Exchange
  pub count : ℕ
  pub said : List Told

abbrev pub readings : List Exchange → ℕ → List Told → Readings
readings es n ts = record { exchanged = es; count = n; said = ts }

abbrev pub read_off : Interface → List Call → Readings
read_off i calls = readings (exchanges (after i calls).history) (commands (after i calls).history) (answers (after i calls).history)

-- an Idle command of the plan with p = 3, the bytes fed since it, and how many were consumed
abbrev pub trial : Owner → List ℕ → ℕ → Exchange
trial owner bytes used = exchange owner (to_idle 0xC3) bytes used

-- ---- a calibration with p = 3

-- two answers, one with a byte behind it and one cut in two; the third command waits
abbrev pub third : List Call
third = begins ++ feed (0x00 ∷ 0x01 ∷ 0x02 ∷ 0x99 ∷ []) room ∷ next room ∷ feed (0x00 ∷ []) room ∷ feed (0x01 ∷ 0x01 ∷ []) room ∷ next room ∷ []

-- calls between that are refused or give nothing out: none of them is a command or a piece; 55 arrives where nothing is awaited
abbrev pub disturbed : List Call
disturbed =
    pulse ∷ calibrate (planned 3) [] ∷ calibrate (planned 4) room ∷ calibrate (planned 3) room ∷ calibrate (planned 2) room ∷ next room ∷
    feed (0x00 ∷ 0x01 ∷ []) narrow ∷ poll room ∷ read 3 room ∷ feed (0x00 ∷ []) room ∷ request idn room ∷ pulse ∷ feed [] room ∷
    feed (0x01 ∷ 0x02 ∷ 0x98 ∷ []) room ∷ feed (0x55 ∷ []) room ∷ next (replicate 15 0xEE) ∷ reset [] ∷ []

pub record Read : Type 0 where
  pub none : (i : Interface) → read_off i (pulse ∷ []) ≡ readings [] 0 []
  pub begun : (i : Interface) → read_off i begins ≡ readings (trial (first 0x00) [] 0 ∷ []) 1 []
  pub in_the_third : (i : Interface) →
      read_off i third ≡
      readings (trial (later 0x7C) [] 0 ∷ trial (later 0xFC) (0x00 ∷ 0x01 ∷ 0x01 ∷ []) 3 ∷ trial (first 0x00) (0x00 ∷ 0x01 ∷ 0x02 ∷ 0x99 ∷ []) 3 ∷ []) 3
      (told 0xFC timeout ∷ told 0x00 tag ∷ [])
  pub answered : (i : Interface) →
      read_off i (third ++ feed (0x00 ∷ 0x01 ∷ []) room ∷ feed (0x02 ∷ 0x97 ∷ []) room ∷ []) ≡
      readings (
      trial (later 0x7C) (0x00 ∷ 0x01 ∷ 0x02 ∷ 0x97 ∷ []) 3 ∷ trial (later 0xFC) (0x00 ∷ 0x01 ∷ 0x01 ∷ []) 3 ∷
      trial (first 0x00) (0x00 ∷ 0x01 ∷ 0x02 ∷ 0x99 ∷ []) 3 ∷ []) 3
      (told 0x7C tag ∷ told 0xFC timeout ∷ told 0x00 tag ∷ [])
  pub error_code : (i : Interface) →
      read_off i (begins ++ feed (0x8D ∷ []) room ∷ feed (0x00 ∷ 0x96 ∷ []) room ∷ []) ≡
      readings (trial (first 0x00) (0x8D ∷ 0x00 ∷ 0x96 ∷ []) 2 ∷ []) 1 (told 0x00 (Error 0x8D) ∷ [])
  -- no answer: it is malformed, or not whole
  pub malformed_byte : (i : Interface) →
      read_off i (begins ++ feed (0x00 ∷ 0x02 ∷ 0x95 ∷ []) room ∷ []) ≡ readings (trial (first 0x00) (0x00 ∷ 0x02 ∷ 0x95 ∷ []) 2 ∷ []) 1 []
  pub not_whole : (i : Interface) → read_off i (begins ++ feed (0x00 ∷ 0x01 ∷ []) room ∷ []) ≡ readings (trial (first 0x00) (0x00 ∷ 0x01 ∷ []) 2 ∷ []) 1 []
  pub among_others : (i : Interface) →
      read_off i disturbed ≡ readings (trial (first 0x00) (0x00 ∷ 0x01 ∷ 0x02 ∷ 0x98 ∷ 0x55 ∷ []) 3 ∷ []) 1 (told 0x00 tag ∷ [])
  -- a calibration that ended, a request after it, and another start, with p = 1
  pub ended : (i : Interface) →
      read_off i (begins ++ feed (0x00 ∷ 0x01 ∷ 0x01 ∷ []) room ∷ request echo room ∷ feed (0x55 ∷ 0x94 ∷ []) room ∷ []) ≡
      readings (exchange requested to_echo (0x55 ∷ 0x94 ∷ []) 1 ∷ trial (first 0x00) (0x00 ∷ 0x01 ∷ 0x01 ∷ []) 3 ∷ []) 1 (told 0x00 timeout ∷ [])
  pub again : (i : Interface) →
      read_off i (begins ++ feed (0x82 ∷ 0x00 ∷ []) room ∷ calibrate (planned 1) room ∷ feed (0x00 ∷ []) room ∷ []) ≡
      readings (exchange (first 0x00) (to_idle 0x43) (0x00 ∷ []) 1 ∷ trial (first 0x00) (0x82 ∷ 0x00 ∷ []) 2 ∷ []) 1 []
  pub powered : (i : Interface) → read_off i (third ++ power_on i ∷ []) ≡ readings [] 0 []
  pub powered_before : (i : Interface) →
      read_off i (third ++ power_on i ∷ pulse ∷ request idn room ∷ feed (0x00 ∷ 0x0F ∷ []) room ∷ []) ≡
      readings (exchange requested to_idn (0x00 ∷ 0x0F ∷ []) 2 ∷ []) 0 []
  pub request_refused : (i : Interface) → read_off i (request idn room ∷ []) ≡ readings [] 0 []

pub record ByReset : Type 0 where
  -- over SPI a reset ends it, over UART it is refused
  pub spi : read_off Spi (third ++ reset room ∷ feed (0x00 ∷ []) room ∷ []) ≡ readings [] 0 []
  pub uart : read_off Uart (begins ++ reset room ∷ feed (0x00 ∷ []) room ∷ []) ≡ readings (trial (first 0x00) (0x00 ∷ []) 1 ∷ []) 1 []

abbrev pub EveryReading : Type 0
EveryReading = Read × ByReset

-- ---- the newest answer that ended a calibration

-- after a reference
abbrev pub last_of : Answer → Answer
last_of a =
    last (record { call = pulse; answer = a; used = 0; bytes = [] } ∷ record { call = pulse; answer = Reference 0x40 8; used = 0; bytes = [] } ∷ [])

pub record Last : Type 0 where
  pub answers : map last_of (Done ∷ Sent 16 ∷ More ∷ Good ∷ woke 0x02 ∷ Reference 0x5C 8 ∷ []) ≡ replicate 5 (Reference 0x40 8) ++ Reference 0x5C 8 ∷ []
  -- 5, 8, 9, 10 and 12 are the refusals that end one
  pub by_refusals :
      map (λ (k : Refusal). ends (Refused k)) refusals ≡
      false ∷ false ∷ false ∷ false ∷ true ∷ false ∷ false ∷ true ∷ true ∷ true ∷ true ∷ []
  pub by_answers : map ends (Done ∷ Sent 16 ∷ More ∷ Good ∷ woke 0x02 ∷ Reference 0x5C 8 ∷ []) ≡ replicate 5 false ++ true ∷ []
  pub none : last [] ≡ Done

-- ---- a run over SPI with p = 3, of a chip that gives tag up to 5C

abbrev pub driven : List Event
driven = (calibrated (λ (level : ℕ). leb level 0x5C) singly room room (planned 3) Spi unpowered).history

-- the replies of a tag and of a timeout
abbrev pub gave_tag : Owner → Exchange
gave_tag owner = trial owner (0x00 ∷ 0x01 ∷ 0x02 ∷ []) 3

abbrev pub gave_timeout : Owner → Exchange
gave_timeout owner = trial owner (0x00 ∷ 0x01 ∷ 0x01 ∷ []) 3

pub record Driven : Type 0 where
  pub exchanged :
      exchanges driven ≡
      gave_timeout (later 0x60) ∷ gave_timeout (later 0x64) ∷ gave_timeout (later 0x6C) ∷ gave_tag (later 0x5C) ∷ gave_tag (later 0x3C) ∷
      gave_timeout (later 0x7C) ∷ gave_timeout (later 0xFC) ∷ gave_tag (first 0x00) ∷ []
  pub said :
      answers driven ≡
      told 0x60 timeout ∷ told 0x64 timeout ∷ told 0x6C timeout ∷ told 0x5C tag ∷ told 0x3C tag ∷ told 0x7C timeout ∷ told 0xFC timeout ∷ told 0x00 tag ∷ []
  pub ends_so : last driven ≡ Reference 0x5C 8
