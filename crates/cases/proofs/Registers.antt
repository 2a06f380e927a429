-- Registers read and written, by computation.
-- Assumes nothing.
use mathlib.Core.Path.{refl}
use Rattle.cases.specs.Registers.{Values, Lengths, Framed, EachByte, RefusedFrames, Printed, Pieces, InSequence, InSessions, Order}

pub values : Values
values = record { of_tuning = refl; of_window = refl; tuned_by_default = refl; tuned_as_recommended = refl; window_as_recommended = refl }

pub lengths : Lengths
lengths = record { in_tables = refl; of_reads = refl; of_writes = refl }

pub framed : Framed
framed = record { uart = refl; spi = refl; back = refl; parts = refl }

pub each_byte : EachByte
each_byte = record { of_read = refl; of_index = refl; of_tuning = refl; of_window = refl }

pub refused_frames : RefusedFrames
refused_frames = refl

pub printed : Printed
printed = record { in_tables = refl; misprinted = refl; in_sequence = refl }

pub pieces : Pieces
pieces = record { whole = refl; one = refl; behind_one = refl; two = refl; behind_two = refl; handed = refl }

pub in_sequence : InSequence
in_sequence = record { uart = refl; uart_bytes = refl; spi = refl; spi_bytes = refl; exchanged = refl }

pub in_sessions : InSessions
in_sessions = record { wake_up = refl; after_errors = refl }

pub order : Order
order = record { of_reads = refl; of_writes = refl }
