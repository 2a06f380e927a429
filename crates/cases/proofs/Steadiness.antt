-- A chip that switches at a level is steady.
-- Assumes nothing.
use native.Mathlib.Omega.{arith}
use borrow.Author.Tests.{leb-false, le-leb, lt-leb}
use Rattle.cases.specs.Chips.{Switching}

pub switching : Switching
switching top below =
    record {
      lowest = le-leb 0x00 top (omega arith);
      highest = lt-leb 0xFC top below;
      falls = λ a b _ _ rises at_a. lt-leb b top (omega (arith, leb-false a top at_a, rises));
    }
