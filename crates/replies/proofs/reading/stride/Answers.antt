-- Data that are to come are walked from the phase that the arm is for.
-- Assumes nothing.
use Rattle.std.proofs.Common.{◌∷◌, sym}
use mathlib.Core.Path.{subst}
use Rattle.model.specs.declared.Phase.{Phase}
use Rattle.replies.specs.Reading.{Strides}
use Rattle.replies.proofs.reading.stride.Goals as goal

pub returns-in-Data : goal.returns-in-Data
returns-in-Data c =
    let a = c.args in
    subst (λ (q : Phase). Strides a.form q (a.first ∷ a.more.now) c.data.result) (sym c.in-Data.is) (c.data.ensures a.form a.first)
