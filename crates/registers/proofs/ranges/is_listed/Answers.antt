-- The rows that are looked at are those of the table.
-- Assumes nothing.
use Rattle.std.proofs.Common.{rules}
use Rattle.std.proofs.lemmas.Iterator.{YieldsList-from_slice}
use Rattle.std.proofs.lemmas.Iterator.Search.{any_from_yields_List}
use Rattle.registers.specs.declared.ranges.Range.{Range}
use Rattle.registers.specs.LookUp.{ranges, covered}
use Rattle.registers.proofs.ranges.is_listed.Goals as goal

pub returns : goal.returns
unfolding ranges
returns c =
    any_from_yields_List (λ (row : Range). covered row c.args.asked) _ _ _ c.any.ensures.ran
    (YieldsList-from_slice ranges (search rules)) (λ x b q k. search rules)
