-- Small definitions at values that no call brings them to, by computation.
-- Assumes nothing.
use mathlib.Core.Path.{refl}
use Rattle.cases.specs.Small.{Small}

pub small : Small
small =
    record {
      moves = refl;
      had = refl;
      before = refl;
      none = refl;
      level = refl;
      answer = refl;
      past = refl;
      first = refl;
      room = refl;
      done = refl;
    }
