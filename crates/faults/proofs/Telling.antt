-- A column that 64 bits can count.
-- Assumes nothing.
use Prim.Native.Nat.{ℕ, ◌+◌, ◌-◌, ◌^◌, ◌<◌}
use borrow.Author.Tests.{lt-ltb}
use Rattle.text.specs.Adding.{Adds}
use Rattle.text.specs.Writing.{number}
use Rattle.text.specs.declared.Text.{Text}
use Rattle.faults.specs.Faults.{column}

pub column_is : (place : ℕ) {old new : Text} → place < 2 ^ 64 - 1 → Adds old (number (place + 1)) new → Adds old (column place) new
column_is place h is = simp (lt-ltb place (2 ^ 64 - 1) h) is
