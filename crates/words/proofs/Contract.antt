-- Any two outcomes that a contract allows coincide, where it names the answer, and where it names the answer and the buffer.
-- Assumes nothing.
use mathlib.Core.Path.{◌≡◌, sym, ◌∙◌}
use Rattle.words.specs.Contract.{Ran, Is, OneAnswer, OneOutcome}

pub one_answer : {A : Type 0} (a : A) → OneAnswer (λ (r : A). r ≡ a)
one_answer a r r' p q = p ∙ sym q

pub one_outcome : {A : Type 0} (m : Ran A) → OneOutcome (Is m)
one_outcome m r r' exit exit' p q = (p.answer ∙ sym q.answer, p.bytes ∙ sym q.bytes)
