-- A calibration is started with the plan that the line gives.
-- Assumes nothing.
use Rattle.std.proofs.Common.{ap}
use Rattle.model.specs.declared.Plan.{Plan}
use Rattle.model.specs.Session.{calibrate}
use Rattle.acts.proofs.Making.{by_name, by_call}
use Rattle.acts.proofs.act.Goals as goal

pub returns-in-Calibrate : goal.returns-in-Calibrate
returns-in-Calibrate c =
    let a = c.args in
    by_name a.s a.number a.given.now a.out.now c.in-Calibrate.is
    (by_call a.s (ap (λ (p : Plan). calibrate p a.out.now) c.plan.ensures) c.calibrate.ensures)
