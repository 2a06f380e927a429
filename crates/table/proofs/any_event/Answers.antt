-- antt tries each of the 256 sources.
-- Assumes nothing.
use Rattle.std.proofs.Common.{ℕ, not, nat_eq, bit_and, arith}
use Rattle.model.specs.Replies.{any_event}
use Rattle.words.proofs.Words.{same_on_bytes}
use Rattle.table.proofs.any_event.Goals as goal

pub returns : goal.returns
returns c = same_on_bytes (λ (w : ℕ). not (nat_eq (bit_and w 0x1B) 0)) any_event tt c.args.source (omega arith)
