-- The bytes that are left get fewer.
-- Assumes nothing.
use Rattle.std.proofs.Common.{length}
use Rattle.host.proofs.Keeper.take.Given as goal

abbrev pub decreases-loop-end : goal.decreases-loop-end
decreases-loop-end l = length l.rest
