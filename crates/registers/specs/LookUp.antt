-- The table of registers, and its look-up: some row has all that is asked for.
-- Assumes nothing.
use Rattle.std.specs.Prelude.{ℕ, ◌+◌, ◌*◌, Bool, true, false, ◌&&◌, List, [], ◌∷◌, leb, eqb}
use Rattle.std.specs.List.{list_any}
use Rattle.model.specs.Registers.{modulations}
use Rattle.registers.specs.declared.ranges.Access.{Access}
use Rattle.registers.specs.declared.ranges.Access.TheVariants.{Read, Write}
use Rattle.registers.specs.declared.ranges.Range.{Range}

-- ---- the rows: a register, the least and the greatest value, read or write

-- a range of gains with a modulation index
abbrev pub gained : ℕ → ℕ → ℕ → Range
gained m least greatest = (0x69, 16 * m + least, 16 * m + greatest, Write)

-- ARC_B: the gains 0 and 1, 3, 7 and F with each modulation index
abbrev pub tunings : List ℕ → List Range
tunings [] = []
tunings (m ∷ ms) = gained m 0x0 0x1 ∷ gained m 0x3 0x3 ∷ gained m 0x7 0x7 ∷ gained m 0xF 0xF ∷ tunings ms

-- the wake-up event register and ARC_B, which are read whatever they hold; the index, which is ARC_B's; the timer window; and ARC_B
unfoldable pub ranges : List Range
ranges = (0x62, 0x00, 0xFF, Read) ∷ (0x69, 0x00, 0xFF, Read) ∷ (0x68, 0x01, 0x01, Write) ∷ (0x3A, 0x50, 0x60, Write) ∷ tunings modulations

-- ---- the look-up

abbrev pub same : Access → Access → Bool
same Read Read = true
same Read Write = false
same Write Read = false
same Write Write = true

-- a row has the register that is asked for, with all the values, to be read or written
abbrev pub covered : Range → Range → Bool
covered row asked = eqb row.0 asked.0 && leb row.1 asked.1 && leb asked.2 row.2 && same row.3 asked.3

-- some row does
abbrev pub listed : List Range → Range → Bool
listed rows asked = list_any (λ (row : Range). covered row asked) rows
