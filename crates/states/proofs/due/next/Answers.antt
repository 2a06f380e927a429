-- The calibration that runs goes on with one command more.
-- Assumes nothing.
use Rattle.std.proofs.Common.{rules, ◌+◌, ◌∙◌, ap, Ok}
use Rattle.model.specs.declared.Calibration.{Calibration}
use Rattle.model.specs.Calibration.{search as found}
use Rattle.states.proofs.due.next.Goals as goal

pub returns-in-Some : goal.returns-in-Some
returns-in-Some c =
    ap (λ (x : Calibration). Ok (record { plan = x.plan; search = found (x.search.commands + 1) x.search.level })) c.in-Some.field-0-is ∙ search rules
