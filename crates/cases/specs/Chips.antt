-- Chips that the promise `Finds` speaks of: tag up to a level below FC, timeout above it.
-- Assumes nothing.
use Rattle.std.specs.Prelude.{ℕ, ◌<◌, leb}
use Rattle.model.specs.Promises.{Steady}

abbrev pub Switching : Type 0
Switching = (top : ℕ) → top < 0xFC → Steady (λ (level : ℕ). leb level top)
