-- The mask says what the paper does: antt tries each of the 256 bytes.
-- Assumes nothing.
use Rattle.std.proofs.Common.{ℕ, not, nat_eq, bit_and, arith}
use Rattle.words.specs.Words.{bit}
use Rattle.words.proofs.Words.{same_on_bytes}
use Rattle.settings.proofs.tag_wakes.Goals as goal

pub returns : goal.returns
returns c = same_on_bytes (λ (w : ℕ). not (nat_eq (bit_and w 0x02) 0)) (bit 1) tt c.args.source (omega arith)
