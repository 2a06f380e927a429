-- Document 01, "Cases": those with * in one statement, a table over the definitions.
-- Assumes nothing.
use Rattle.std.specs.Prelude.{ℕ, ◌≡◌, Bool, true, false, List, [], ◌∷◌, map, reverse, leb, replicate, pos, Float, Ok, Some, None}
use Rattle.std.specs.Float.{binary32}
use Rattle.std.specs.Float.Ieee.{of_bits, of_int}
use Rattle.model.specs.declared.Interface.TheVariants.{Uart}
use Rattle.model.specs.declared.Settings.{Settings}
use Rattle.model.specs.declared.Plan.{Plan}
use Rattle.model.specs.declared.Wait.TheVariants.{After}
use Rattle.model.specs.declared.Answer.TheVariants.{Reference}
use Rattle.model.specs.Frames.{idle, frame, flags}
use Rattle.model.specs.Replies.{meaning, reply}
use Rattle.model.specs.Times.{ticks, times, times_of, wait_of}
use Rattle.model.specs.Calibration.{settings_at, band, band_of}
use Rattle.model.specs.Session.{unpowered}
use Rattle.model.specs.History.{Event, Exchange, exchanges, trials, level_of}
use Rattle.model.specs.Talk.{last}
use Rattle.cases.specs.Driving.{event_of, calibrated}
use Rattle.cases.specs.Awaiting.{to_send, to_idle, waking, good, failed, wrong}

-- the plan of the calibrations, and the settings of its Idle command at a level
abbrev pub plan : Plan
plan =
    record {
      prescaler = 0;
      enter = record { first = 0xA1; second = 0x00 };
      wake = record { first = 0xF8; second = 0x01 };
      leave = record { first = 0x18; second = 0x00 };
      period = 0x20;
      osc = 0x60;
      dac = 0x60;
      swing = 0x3F;
    }

abbrev pub calibrating : ℕ → Settings
calibrating = settings_at plan

-- p = 3, WuPeriod = MaxSleep = 255
abbrev pub longest : Settings
longest =
    record {
      source = 0xC1;
      enter = record { first = 0x21; second = 0x00 };
      wake = record { first = 0x38; second = 0x00 };
      leave = record { first = 0x18; second = 0x00 };
      period = 255;
      osc = 0;
      dac = 0;
      low = 0;
      high = 0;
      swing = 0;
      sleep = 255;
    }

-- n milliseconds as an f32
abbrev pub ms : ℕ → Float
ms n = of_int binary32 (pos n)

-- 0.03125 ms, one tick, as an f32: 2 ^ -5
abbrev pub tick : Float
tick = of_bits binary32 0x3D000000

-- ---- a calibration over UART, with a chip that gives tag up to a level and timeout above it

abbrev pub room : List ℕ
room = replicate 528 0xEE

-- each reply byte by byte
abbrev pub singly : Bool → List (List ℕ)
singly x = (0x00 ∷ []) ∷ (0x01 ∷ []) ∷ (event_of x ∷ []) ∷ []

abbrev pub switching_at : ℕ → List Event
switching_at top = (calibrated (λ (level : ℕ). leb level top) singly room room plan Uart unpowered).history

-- the levels tried, in order
abbrev pub levels : List Event → List ℕ
levels h = reverse (map (λ (x : Exchange). level_of x.owner) (trials (exchanges h)))

pub record Starred : Type 0 where
  pub calibration_frame : (level : ℕ) →
      frame (idle (calibrating level)) ≡
      0x07 ∷ 0x0E ∷ 0x03 ∷ 0xA1 ∷ 0x00 ∷ 0xF8 ∷ 0x01 ∷ 0x18 ∷ 0x00 ∷ 0x20 ∷ 0x60 ∷ 0x60 ∷ 0x00 ∷ level ∷ 0x3F ∷ 0x01 ∷ []
  pub calibration_ticks : (level : ℕ) →
      ticks (calibrating level) ≡ record { low = 1; reference = 256; inactive = 8448; timeout = 16896; osc = 96; dac = 96 }
  pub calibration_times : (level : ℕ) →
      times (calibrating level) ≡ record { low = tick; reference = ms 8; inactive = ms 264; timeout = ms 528; osc = ms 3; dac = ms 3 }
  pub calibration_told :
      map (λ (level : ℕ). times_of (calibrating level)) (0x00 ∷ 0x5C ∷ 0xFC ∷ []) ≡
      replicate 3 (Ok (ticks (calibrating 0x00), times (calibrating 0x00)))
  pub calibration_waits : map (λ (level : ℕ). wait_of (calibrating level)) (0x00 ∷ 0x5C ∷ 0xFC ∷ []) ≡ replicate 3 (Ok (After (ms 528)))
  pub longest_ticks : (ticks longest).timeout ≡ 134217728
  pub longest_time : (times longest).timeout ≡ ms 4194304
  pub longest_wait : wait_of longest ≡ Ok (After (ms 4194304))
  pub switch_at_5c : levels (switching_at 0x5C) ≡ 0x00 ∷ 0xFC ∷ 0x7C ∷ 0x3C ∷ 0x5C ∷ 0x6C ∷ 0x64 ∷ 0x60 ∷ []
  pub tag_only_at_00 : levels (switching_at 0x00) ≡ 0x00 ∷ 0xFC ∷ 0x7C ∷ 0x3C ∷ 0x1C ∷ 0x0C ∷ 0x04 ∷ 0x00 ∷ []
  pub timeout_only_at_fc : levels (switching_at 0xF8) ≡ 0x00 ∷ 0xFC ∷ 0x7C ∷ 0xBC ∷ 0xDC ∷ 0xEC ∷ 0xF4 ∷ 0xF8 ∷ []
  pub references :
      map (λ (top : ℕ). last (switching_at top)) (0x5C ∷ 0x00 ∷ 0xF8 ∷ []) ≡ Reference 0x5C 8 ∷ Reference 0x00 8 ∷ Reference 0xF8 8 ∷ []
  pub bands :
      map band (0x5C ∷ 0x00 ∷ 0xF8 ∷ 0xF4 ∷ 0x08 ∷ []) ≡
      Some (band_of 0x54 0x64) ∷ None ∷ None ∷ Some (band_of 0xEC 0xFC) ∷ Some (band_of 0x00 0x10) ∷ []
  pub poll_flags : map flags (0x08 ∷ 0xF3 ∷ []) ≡ record { read = true; send = false } ∷ record { read = false; send = false } ∷ []
  pub awaited_idle :
      map (reply (to_idle 0x03)) ((0x00 ∷ 0x01 ∷ 0x02 ∷ []) ∷ (0x00 ∷ 0x01 ∷ 0x08 ∷ []) ∷ []) ≡
      meaning (waking 0x02) (0x02 ∷ []) 3 ∷ meaning (wrong 2 0x08) [] 3 ∷ []
  pub awaited_send_recv :
      map (reply to_send) ((0x8D ∷ 0x00 ∷ []) ∷ (0x8D ∷ 0x01 ∷ []) ∷ (0x80 ∷ 0x00 ∷ []) ∷ []) ≡
      meaning (failed 0x8D) [] 2 ∷ meaning (wrong 1 0x01) [] 2 ∷ meaning good [] 2 ∷ []
