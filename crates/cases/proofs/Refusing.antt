-- The table of refusals, by computation.
-- Assumes nothing.
use mathlib.Core.Path.{refl}
use Rattle.cases.specs.Refusing.{States, Enough, Short, Strange}
use Rattle.cases.specs.Unchanged.{Unchanged}

pub states : States
states = refl

pub enough : Enough
enough = record { uart = refl; spi = refl }

pub short : Short
short = record { uart = refl; spi = refl }

pub strange : Strange
strange = refl

pub unchanged : Unchanged
unchanged = (record { session = refl; buffer = refl; used = refl; place = refl }, record { session = refl; buffer = refl; used = refl; place = refl })
