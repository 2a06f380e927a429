-- What is wrong with a line, as text.
-- Assumes nothing.
use Rattle.std.proofs.Common.{rules, refl, sym, ◌∙◌}
use Rattle.desk.proofs.Telling.{lent, telling}
use Rattle.desk.proofs.hear.Goals as goal

pub returns-in-Err : goal.returns-in-Err
returns-in-Err c =
    let read = c.read.ensures in
    rw (sym read.answer ∙ c.in-Err.is)
    (record { left = record { done = telling refl (lent (search rules) c.put.ensures.puts); out = refl; room = refl }; bytes = read.bytes })
