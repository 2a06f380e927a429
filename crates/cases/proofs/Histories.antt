-- How calibrations end, and what histories say of them, by computation.
-- Assumes nothing.
use mathlib.Core.Path.{◌≡◌, refl}
use Rattle.model.specs.declared.Interface.{Interface}
use Rattle.model.specs.declared.Interface.TheVariants.{Spi, Uart}
use Rattle.cases.specs.Ending.{GoesOn, Ends, EveryEnd}
use Rattle.cases.specs.Histories.{Read, EveryReading, Last, Driven}

-- over UART and over SPI
over_both : {A : Type 0} (f g : Interface → A) → f Uart ≡ g Uart → f Spi ≡ g Spi → (i : Interface) → f i ≡ g i
over_both f g u s Uart = u
over_both f g u s Spi = s

goes_on : GoesOn
goes_on = record { sessions = over_both _ _ refl refl; cut = over_both _ _ refl refl }

ends : Ends
ends =
    record {
      by_an_answer = over_both _ _ refl refl;
      by_an_error = over_both _ _ refl refl;
      by_a_malformed_byte = over_both _ _ refl refl;
      by_a_reference = over_both _ _ refl refl;
      cut = over_both _ _ refl refl;
      by_power = over_both _ _ refl refl;
      not_by_a_pulse = over_both _ _ refl refl;
    }

pub every_end : EveryEnd
every_end = (goes_on, ends, refl)

read : Read
read =
    record {
      none = over_both _ _ refl refl;
      begun = over_both _ _ refl refl;
      in_the_third = over_both _ _ refl refl;
      answered = over_both _ _ refl refl;
      error_code = over_both _ _ refl refl;
      malformed_byte = over_both _ _ refl refl;
      not_whole = over_both _ _ refl refl;
      among_others = over_both _ _ refl refl;
      ended = over_both _ _ refl refl;
      again = over_both _ _ refl refl;
      powered = over_both _ _ refl refl;
      powered_before = over_both _ _ refl refl;
      request_refused = over_both _ _ refl refl;
    }

pub every_reading : EveryReading
every_reading = (read, record { spi = refl; uart = refl })

pub last : Last
last = record { answers = refl; by_refusals = refl; by_answers = refl; none = refl }

pub driven : Driven
driven = record { exchanged = refl; said = refl; ends_so = refl }
