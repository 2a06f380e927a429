-- No text of a state ends with a blank.
-- Assumes nothing.
use Rattle.std.specs.Prelude.{Option, Some, None}
use mathlib.Core.Path.{refl}
use mathlib.Core.List.{[], ◌∷◌}
use Rattle.model.specs.declared.Calibration.{Calibration}
use Rattle.text.specs.Ending.{EndsFull}
use Rattle.text.proofs.Ending.{after}
use Rattle.standing.specs.Standing.{state_name, bracket}
use Rattle.standing.specs.Claims.{NoBlankEnd}

bracket_ends : (calibration : Option Calibration) → EndsFull (bracket calibration ∷ [])
bracket_ends None = refl
bracket_ends (Some c) = refl

pub no_blank_end : NoBlankEnd
no_blank_end s = after (state_name s.state) (bracket s.calibration ∷ []) (bracket_ends s.calibration)
