-- What is read is a stake, whose parts are written.
-- Assumes nothing.
use Rattle.std.proofs.Common.{sym, ◌∙◌}
use Rattle.text.proofs.Adding.{by}
use Rattle.questions.specs.Questions.{stake_read_text}
use Rattle.questions.proofs.stake.Goals as goal

pub returns-in-Ok : goal.returns-in-Ok
returns-in-Ok c = by stake_read_text (sym c.read.ensures ∙ c.in-Ok.is) c.put_stake.ensures
