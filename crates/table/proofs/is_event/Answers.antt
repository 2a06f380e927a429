-- For each of the four events antt tries each of the 256 sources.
-- Assumes nothing.
use Rattle.std.proofs.Common.{ℕ, not, nat_eq, bit_and, arith}
use Rattle.model.specs.Replies.{is_event}
use Rattle.words.proofs.Words.{same_on_bytes}
use Rattle.table.proofs.is_event.Goals as goal

pub returns-in-2 : goal.returns-in-2
returns-in-2 c = rw c.in-2.is (same_on_bytes (λ (w : ℕ). not (nat_eq (bit_and w 2) 0)) (λ (w : ℕ). is_event w 2) tt c.args.source (omega arith))

pub returns-in-8 : goal.returns-in-8
returns-in-8 c = rw c.in-8.is (same_on_bytes (λ (w : ℕ). not (nat_eq (bit_and w 8) 0)) (λ (w : ℕ). is_event w 8) tt c.args.source (omega arith))

pub returns-in-16 : goal.returns-in-16
returns-in-16 c = rw c.in-16.is (same_on_bytes (λ (w : ℕ). not (nat_eq (bit_and w 16) 0)) (λ (w : ℕ). is_event w 16) tt c.args.source (omega arith))
