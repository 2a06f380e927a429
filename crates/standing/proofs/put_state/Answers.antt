-- The state, then what closes the bracket while a calibration runs.
-- Assumes nothing.
use Rattle.text.proofs.Adding.{◌then◌}
use Rattle.standing.proofs.put_state.Goals as goal

pub returns-in-Some : goal.returns-in-Some
returns-in-Some c = simp c.in-Some.is (c.put_name.ensures then c.put-in-Some.ensures)
