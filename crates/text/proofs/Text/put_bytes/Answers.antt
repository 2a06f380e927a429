-- As many bytes are written as find room.
-- Assumes nothing.
use Rattle.std.proofs.Common.{refl}
use Rattle.text.proofs.Bytes.{written_all}
use Rattle.text.proofs.Text.put_bytes.Goals as goal

pub returns : goal.returns
returns c =
    let start = c.args.self.now in
    record {
      same = refl;
      puts = written_all c.args.bytes.now start.bytes.now start.at c.min.ensures c.saturating_sub-room.ensures c.loop-byte-test.false c.loop-byte.invariant.1;
    }
