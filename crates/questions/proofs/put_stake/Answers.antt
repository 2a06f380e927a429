-- Its four parts, one behind the other.
-- Assumes nothing.
use Rattle.text.proofs.Adding.{◌then◌}
use Rattle.questions.proofs.put_stake.Goals as goal

pub returns : goal.returns
returns c = c.put_named.ensures then c.put_named-2.ensures then c.put_uid.ensures then c.put_crc.ensures
