-- Frames written and read back, by computation.
-- Assumes nothing.
use mathlib.Core.Path.{refl}
use Rattle.cases.specs.Framing.{Framed, RefusedBeside, RefusedCodes, Sources, Prescaled, Levels, Fields, Written-bytes, Back}

pub framed : Framed
framed = record { each = record { uart = refl; spi = refl; back = refl; parts = refl }; gathered = refl; missing = refl }

pub refused_beside : RefusedBeside
refused_beside = refl

pub refused_codes : RefusedCodes
refused_codes = refl

pub sources : Sources
sources = refl

pub prescaled : Prescaled
prescaled = refl

pub levels : Levels
levels = refl

pub fields : Fields
fields = record { numbers = refl; protocols = refl; parameters = refl; payloads = refl; no_fields = refl; reads = refl; spi = refl; uart = refl }

pub written : Written-bytes
written =
    record {
      uart = refl;
      spi = refl;
      filled = refl;
      too_short = refl;
      not_allowed = refl;
      reset_byte = refl;
      poll_bytes = refl;
      read_bytes = refl;
    }

pub back : Back
back = record { dropped = refl; can_read = refl; can_send = refl; can_read_of_all = refl; can_send_of_all = refl }
