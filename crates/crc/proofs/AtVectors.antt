-- The vectors, by computation.
-- Assumes nothing.
use mathlib.Core.Path.{refl}
use Rattle.crc.specs.Crc.{crc_of}
use Rattle.crc.specs.Vectors.{Vectors, Steps}

steps : Steps
steps = record { bits = refl; lowest_first = refl; remainders = refl }

vectors : Vectors
unfolding crc_of
vectors =
    record { inventory = refl; block = refl; inventory_lr = refl; system_lr = refl; inventory_dual = refl; system_dual = refl; none = refl }
