-- The two masks are the two bits: antt tries each of the 256 bytes.
-- Assumes nothing.
use Rattle.std.proofs.Common.{ℕ, Bool, not, nat_eq, bit_and, ap₂, arith}
use Rattle.words.specs.Words.{bit}
use Rattle.words.proofs.Words.{same_on_bytes}
use Rattle.spi.proofs.flags.Goals as goal

pub returns : goal.returns
returns c =
    let b = c.args.byte in
    ap₂ (λ (r s : Bool). record { read = r; send = s })
    (same_on_bytes (λ (w : ℕ). not (nat_eq (bit_and w 0x08) 0)) (bit 3) tt b (omega arith))
    (same_on_bytes (λ (w : ℕ). not (nat_eq (bit_and w 0x04) 0)) (bit 2) tt b (omega arith))
