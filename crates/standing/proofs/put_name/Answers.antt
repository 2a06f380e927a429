-- A selected protocol is told by its number.
-- Assumes nothing.
use Rattle.standing.proofs.put_name.Goals as goal

pub returns-in-Selected : goal.returns-in-Selected
returns-in-Selected c = simp c.in-Selected.is c.put_count.ensures
