-- What a question, a message and the page come to, as text.
-- Assumes nothing.
use Rattle.std.proofs.Common.{rules, refl}
use Rattle.desk.proofs.Telling.{lent, telling}
use Rattle.desk.proofs.obey.Goals as goal

pub returns-in-Tells : goal.returns-in-Tells
returns-in-Tells c = rw c.in-Tells.is (record { done = telling refl (lent (search rules) c.answer.ensures.puts); out = refl; room = refl })

pub returns-in-Speaks : goal.returns-in-Speaks
returns-in-Speaks c =
    let spoken = c.answer-in-Speaks.ensures in
    rw c.in-Speaks.is (record { done = telling refl (lent (search rules) spoken.0.puts); out = spoken.1; room = refl })

pub returns-in-Helps : goal.returns-in-Helps
returns-in-Helps c = rw c.in-Helps.is (record { done = telling refl (lent (search rules) c.put.ensures.puts); out = refl; room = refl })
