-- Document 01, "Calibration": a plan with p = 3 and no two bytes alike, its commands as they are given out, and where each answer leads.
-- Assumes nothing.
use Rattle.std.specs.Prelude.{ℕ, ◌≡◌, List, [], ◌∷◌, ◌++◌, map, replicate}
use Rattle.model.specs.declared.Interface.{Interface}
use Rattle.model.specs.declared.Interface.TheVariants.{Spi, Uart}
use Rattle.model.specs.declared.Refusal.TheVariants.{Short, LowestTimeout, HighestTag, NoLevel}
use Rattle.model.specs.declared.Plan.{Plan}
use Rattle.model.specs.declared.Wake.TheVariants.{Tag, Timeout, IrqIn, SpiSs}
use Rattle.model.specs.declared.Turn.{Turn}
use Rattle.model.specs.declared.Turn.TheVariants.{Goes, Names, Fails}
use Rattle.model.specs.declared.Answer.{Answer}
use Rattle.model.specs.declared.Answer.TheVariants.{Sent, Refused}
use Rattle.model.specs.Frames.{idle, frame}
use Rattle.model.specs.Calibration.{settings_at, search, heard}
use Rattle.model.specs.Session.{Call, pulse, calibrate, next, step}
use Rattle.model.specs.Talk.{least_output}
use Rattle.cases.specs.Starred.{room}
use Rattle.cases.specs.Sessions.{after, tag, timeout}

-- ---- the plan

-- with the caller's prescaler
abbrev pub planned : ℕ → Plan
planned p =
    record {
      prescaler = p;
      enter = record { first = 0x11; second = 0x12 };
      wake = record { first = 0x13; second = 0x14 };
      leave = record { first = 0x15; second = 0x16 };
      period = 0x17;
      osc = 0x20;
      dac = 0x60;
      swing = 0x1A;
    }

-- its Idle frame with p = 3, at a level
abbrev pub frame_at : ℕ → List ℕ
frame_at level =
    0x07 ∷ 0x0E ∷ 0xC3 ∷ 0x11 ∷ 0x12 ∷ 0x13 ∷ 0x14 ∷ 0x15 ∷ 0x16 ∷ 0x17 ∷ 0x20 ∷ 0x60 ∷ 0x00 ∷ level ∷ 0x1A ∷ 0x01 ∷ []

-- ---- its commands as they are given out

-- 16 bytes and three more
abbrev pub output : List ℕ
output =
    0xB0 ∷ 0xB1 ∷ 0xB2 ∷ 0xB3 ∷ 0xB4 ∷ 0xB5 ∷ 0xB6 ∷ 0xB7 ∷ 0xB8 ∷ 0xB9 ∷ 0xBA ∷ 0xBB ∷ 0xBC ∷ 0xBD ∷ 0xBE ∷ 0xBF ∷ 0xD0 ∷ 0xD1 ∷ 0xD2 ∷ []

-- the answer to a call after others, and the output that it leaves
pub record Given : Type 0 where
  pub answer : Answer
  pub bytes : List ℕ

abbrev pub given : Answer → List ℕ → Given
given a xs = record { answer = a; bytes = xs }

abbrev pub gives : Interface → List Call → Call → Given
gives i calls c = given (step (after i calls).session c).answer.answer (step (after i calls).session c).bytes

abbrev pub begins : List Call
begins = pulse ∷ calibrate (planned 3) room ∷ []

pub record Commands : Type 0 where
  pub at_a_level : (level : ℕ) → frame (idle (settings_at (planned 3) level)) ≡ frame_at level
  -- a prescaler above 3, which no start takes, stays within its two bits
  pub sources :
      map (λ (p : ℕ). (settings_at (planned p) 0x5C).source) (0 ∷ 1 ∷ 2 ∷ 3 ∷ 4 ∷ []) ≡ 0x03 ∷ 0x43 ∷ 0x83 ∷ 0xC3 ∷ 0x03 ∷ []
  pub first : gives Uart (pulse ∷ []) (calibrate (planned 3) output) ≡ given (Sent 16) (frame_at 0x00 ++ 0xD0 ∷ 0xD1 ∷ 0xD2 ∷ [])
  pub first_spi : gives Spi (pulse ∷ []) (calibrate (planned 3) output) ≡ given (Sent 17) (0x00 ∷ frame_at 0x00 ++ 0xD1 ∷ 0xD2 ∷ [])
  pub second : gives Uart (begins ++ tag) (next output) ≡ given (Sent 16) (frame_at 0xFC ++ 0xD0 ∷ 0xD1 ∷ 0xD2 ∷ [])
  pub second_spi : gives Spi (begins ++ tag) (next output) ≡ given (Sent 17) (0x00 ∷ frame_at 0xFC ++ 0xD1 ∷ 0xD2 ∷ [])
  pub third : gives Uart (begins ++ tag ++ next room ∷ timeout) (next output) ≡ given (Sent 16) (frame_at 0x7C ++ 0xD0 ∷ 0xD1 ∷ 0xD2 ∷ [])
  -- an output just long enough, and a byte too short, which stays as it was
  pub enough : gives Spi (pulse ∷ []) (calibrate (planned 3) (replicate least_output 0xEE)) ≡ given (Sent 17) (0x00 ∷ frame_at 0x00)
  pub short : gives Spi (pulse ∷ []) (calibrate (planned 3) (replicate 16 0xEE)) ≡ given (Refused Short) (replicate 16 0xEE)
  pub enough_uart : gives Uart (begins ++ tag) (next (replicate 16 0xEE)) ≡ given (Sent 16) (frame_at 0xFC)
  pub short_uart : gives Uart (begins ++ tag) (next (replicate 15 0xEE)) ≡ given (Refused Short) (replicate 15 0xEE)

-- ---- the search

-- after n commands, the newest at a level
abbrev pub goes : ℕ → ℕ → Turn
goes n level = Goes (search n level)

pub record Searching : Type 0 where
  -- 00, FC, then 7C
  pub lowest : heard (search 1 0x00) Tag ∷ heard (search 1 0x00) Timeout ∷ [] ≡ goes 1 0xFC ∷ Fails (LowestTimeout 1) ∷ []
  pub highest : heard (search 2 0xFC) Tag ∷ heard (search 2 0xFC) Timeout ∷ [] ≡ Fails (HighestTag 2) ∷ goes 2 0x7C ∷ []
  -- by 40, 20, 10, 08, 04: up after a tag, down after a timeout
  pub third : heard (search 3 0x7C) Tag ∷ heard (search 3 0x7C) Timeout ∷ [] ≡ goes 3 0xBC ∷ goes 3 0x3C ∷ []
  pub fourth : heard (search 4 0xBC) Tag ∷ heard (search 4 0xBC) Timeout ∷ [] ≡ goes 4 0xDC ∷ goes 4 0x9C ∷ []
  pub fifth : heard (search 5 0x5C) Tag ∷ heard (search 5 0x5C) Timeout ∷ [] ≡ goes 5 0x6C ∷ goes 5 0x4C ∷ []
  pub sixth : heard (search 6 0x6C) Tag ∷ heard (search 6 0x6C) Timeout ∷ [] ≡ goes 6 0x74 ∷ goes 6 0x64 ∷ []
  pub seventh : heard (search 7 0x64) Tag ∷ heard (search 7 0x64) Timeout ∷ [] ≡ goes 7 0x68 ∷ goes 7 0x60 ∷ []
  -- the last level, or one lower; 00 has none
  pub last : heard (search 8 0x60) Tag ∷ heard (search 8 0x60) Timeout ∷ [] ≡ Names 0x60 8 ∷ Names 0x5C 8 ∷ []
  pub last_at_08 : heard (search 8 0x08) Tag ∷ heard (search 8 0x08) Timeout ∷ [] ≡ Names 0x08 8 ∷ Names 0x04 8 ∷ []
  pub last_at_00 : heard (search 8 0x00) Tag ∷ heard (search 8 0x00) Timeout ∷ [] ≡ Names 0x00 8 ∷ Fails (NoLevel 8) ∷ []
  -- records that no call made: a level stays a byte, one below 04 has none below it, and what is no tag counts as a timeout
  pub no_further : heard (search 3 0xBF) Tag ∷ heard (search 3 0xC0) Tag ∷ [] ≡ goes 3 0xFF ∷ goes 3 0xC0 ∷ []
  pub no_lower : heard (search 3 0x40) Timeout ∷ heard (search 3 0x3F) Timeout ∷ [] ≡ goes 3 0x00 ∷ goes 3 0x3F ∷ []
  pub none_lower : heard (search 8 0x04) Timeout ∷ heard (search 8 0x03) Timeout ∷ [] ≡ Names 0x00 8 ∷ Fails (NoLevel 8) ∷ []
  pub other_wakes : heard (search 8 0x60) IrqIn ∷ heard (search 8 0x60) SpiSs ∷ [] ≡ Names 0x5C 8 ∷ Names 0x5C 8 ∷ []
  pub unbegun : heard (search 0 0x20) Tag ∷ heard (search 0 0x20) Timeout ∷ [] ≡ goes 0 0xFC ∷ Fails (LowestTimeout 0) ∷ []
