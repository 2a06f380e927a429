-- Behind an error code the form does not matter.
-- Assumes nothing.
use Rattle.table.proofs.next.Goals as goal

pub returns-in-Failed : goal.returns-in-Failed
returns-in-Failed c = simp c.in-Failed.is (c.close.ensures c.args.form)
