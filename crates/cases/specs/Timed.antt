-- Document 01, "Waiting times": the times of settings whose factors all differ, in ticks and in milliseconds, for each prescaler.
-- Assumes nothing.
use Rattle.std.specs.Prelude.{ℕ, ◌*◌, ◌≡◌, [], ◌∷◌, map, replicate, Float, Err, Ok}
use Rattle.std.specs.Float.{binary32}
use Rattle.std.specs.Float.Ieee.{of_bits}
use Rattle.model.specs.declared.Refusal.TheVariants.{Invalid}
use Rattle.model.specs.declared.Settings.{Settings}
use Rattle.model.specs.declared.Ticks.{Ticks}
use Rattle.model.specs.declared.Wait.TheVariants.{Endless, After}
use Rattle.model.specs.Times.{ticks, times, times_of, wait_of}
use Rattle.model.specs.Calibration.{settings_at}
use Rattle.cases.specs.Starred.{ms, tick}
use Rattle.cases.specs.Planned.{planned}

-- WuPeriod 17, OscStart 20, DacStart 60 and MaxSleep 04, with a WU source
abbrev pub timed : ℕ → Settings
timed source =
    record {
      source = source;
      enter = record { first = 0x11; second = 0x12 };
      wake = record { first = 0x13; second = 0x14 };
      leave = record { first = 0x15; second = 0x16 };
      period = 0x17;
      osc = 0x20;
      dac = 0x60;
      low = 0x40;
      high = 0x50;
      swing = 0x1A;
      sleep = 0x04;
    }

-- t_L of n ticks; 256 of these; 24 of those; 5 of the last; OscStart and DacStart are 32 and 96
abbrev pub ticks_of : ℕ → Ticks
ticks_of n = record { low = n; reference = 256 * n; inactive = 6144 * n; timeout = 30720 * n; osc = 32 * n; dac = 96 * n }

-- 1/16, 1/8 and 1/4 ms as f32
abbrev pub sixteenth : Float
sixteenth = of_bits binary32 0x3D800000

abbrev pub eighth : Float
eighth = of_bits binary32 0x3E000000

abbrev pub quarter : Float
quarter = of_bits binary32 0x3E800000

pub record Timed : Type 0 where
  pub in_ticks : map (λ (source : ℕ). ticks (timed source)) (0x01 ∷ 0x41 ∷ 0x81 ∷ 0xC1 ∷ []) ≡ ticks_of 1 ∷ ticks_of 2 ∷ ticks_of 4 ∷ ticks_of 8 ∷ []
  pub p0 : times (timed 0x01) ≡ record { low = tick; reference = ms 8; inactive = ms 192; timeout = ms 960; osc = ms 1; dac = ms 3 }
  pub p1 : times (timed 0x41) ≡ record { low = sixteenth; reference = ms 16; inactive = ms 384; timeout = ms 1920; osc = ms 2; dac = ms 6 }
  pub p2 : times (timed 0x81) ≡ record { low = eighth; reference = ms 32; inactive = ms 768; timeout = ms 3840; osc = ms 4; dac = ms 12 }
  pub p3 : times (timed 0xC1) ≡ record { low = quarter; reference = ms 64; inactive = ms 1536; timeout = ms 7680; osc = ms 8; dac = ms 24 }
  pub told :
      times_of (timed 0xC3) ≡
      Ok (ticks_of 8, record { low = quarter; reference = ms 64; inactive = ms 1536; timeout = ms 7680; osc = ms 8; dac = ms 24 })
  pub not_told : map times_of (timed 0xC0 ∷ timed 0x05 ∷ timed 0x21 ∷ []) ≡ replicate 3 (Err Invalid)
  -- with bit 0 among the sources, and without it
  pub waits :
      map (λ (source : ℕ). wait_of (timed source)) (0x01 ∷ 0x43 ∷ 0x99 ∷ 0xDB ∷ []) ≡
      Ok (After (ms 960)) ∷ Ok (After (ms 1920)) ∷ Ok (After (ms 3840)) ∷ Ok (After (ms 7680)) ∷ []
  pub endless : map (λ (source : ℕ). wait_of (timed source)) (0x02 ∷ 0x48 ∷ 0x90 ∷ 0xDA ∷ []) ≡ replicate 4 (Ok Endless)
  pub no_wait : map (λ (source : ℕ). wait_of (timed source)) (0xC0 ∷ 0x05 ∷ 0x21 ∷ []) ≡ replicate 3 (Err Invalid)
  -- of a calibration's command MaxSleep is 01
  pub calibration : times (settings_at (planned 3) 0x5C) ≡ record { low = quarter; reference = ms 64; inactive = ms 1536; timeout = ms 3072; osc = ms 8; dac = ms 24 }
