-- The constant is 32.
-- Assumes nothing.
use lib.Ieee.{of_bits}
use Rattle.durations.proofs.milliseconds.ticks.Goals as goal

pub truncating_f32_to_u64-requires : goal.truncating_f32_to_u64-requires
unfolding of_bits
truncating_f32_to_u64-requires c = record { lower_bound = c.requires.0; upper_bound = c.requires.1 }

pub returns : goal.returns
unfolding of_bits
returns c = c.truncating_f32_to_u64.ensures
