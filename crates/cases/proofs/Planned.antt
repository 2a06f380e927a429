-- A planned calibration, its times and the guard bands, by computation.
-- Assumes nothing.
use mathlib.Core.Path.{refl}
use lib.Ieee.{round, of_bits, of_int}
use Rattle.model.specs.Times.{t_l, t_ref, t_inactive, t_to, t_osc, t_dac, milliseconds}
use Rattle.cases.specs.Planned.{Commands, Searching}
use Rattle.cases.specs.Timed.{Timed}
use Rattle.cases.specs.Bands.{Bands}

pub commands : Commands
commands =
    record {
      at_a_level = λ level. refl;
      sources = refl;
      first = refl;
      first_spi = refl;
      second = refl;
      second_spi = refl;
      third = refl;
      enough = refl;
      short = refl;
      enough_uart = refl;
      short_uart = refl;
    }

pub timed : Timed
unfolding t_l t_ref t_inactive t_to t_osc t_dac milliseconds round of_bits of_int
timed =
    record {
      in_ticks = refl;
      p0 = refl;
      p1 = refl;
      p2 = refl;
      p3 = refl;
      told = refl;
      not_told = refl;
      waits = refl;
      endless = refl;
      no_wait = refl;
      calibration = refl;
    }

pub searching : Searching
searching =
    record {
      lowest = refl;
      highest = refl;
      third = refl;
      fourth = refl;
      fifth = refl;
      sixth = refl;
      seventh = refl;
      last = refl;
      last_at_08 = refl;
      last_at_00 = refl;
      no_further = refl;
      no_lower = refl;
      none_lower = refl;
      other_wakes = refl;
      unbegun = refl;
    }

pub bands : Bands
bands = record { ends = refl; other_ends = refl; all = refl }
