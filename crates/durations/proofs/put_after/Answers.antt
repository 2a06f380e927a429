-- Each part is written behind the one before.
-- Assumes nothing.
use Rattle.std.proofs.Common.{sym}
use Rattle.text.proofs.Adding.{◌then◌, by}
use Rattle.durations.specs.Milliseconds.{milliseconds_text}
use Rattle.durations.proofs.put_after.Goals as goal

pub returns : goal.returns
returns c = c.put.ensures then by milliseconds_text (sym c.ticks.ensures) c.put-2.ensures then c.put-3.ensures
