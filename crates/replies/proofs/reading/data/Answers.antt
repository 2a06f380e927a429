-- All that are to come, or some.
-- Assumes nothing.
use Rattle.std.proofs.Common.{ℕ, ◌∷◌, ap, refl, arith}
use Rattle.model.specs.declared.Phase.TheVariants.{Data}
use Rattle.model.specs.declared.Step.TheVariants.{On}
use Rattle.replies.proofs.Strides.{stride_part, stride_all}
use Rattle.replies.proofs.reading.data.Goals as goal

pub returns-then-want-got : goal.returns-then-want-got
returns-then-want-got c form first =
    let a = c.args in
    stride_all form a.have a.count (first ∷ a.more.now) _ c.requires.some_to_come c.requires.no_more_than_most (omega (arith, c.if-want-got.true)) refl refl

pub returns : goal.returns
returns c form first =
    let a = c.args in
    stride_part form a.have a.count (first ∷ a.more.now) _ (omega arith) c.requires.no_more_than_most (omega (arith, c.if-want-got.false))
    (ap (λ (n : ℕ). On (Data n a.count)) (omega arith)) (omega arith)
