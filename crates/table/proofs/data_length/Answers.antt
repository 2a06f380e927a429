-- antt tries each of the 256 result codes.
-- Assumes nothing.
use Rattle.std.proofs.Common.{◌≡◌, ℕ, ◌+◌, ◌*◌, ◌<◌, nat_eq, bit_and, ap, arith}
use lib.Dec.{eqb→eq}
use Rattle.words.specs.Words.{pick, bit}
use Rattle.words.proofs.Words.{each}
use Rattle.table.proofs.data_length.Goals as goal

-- bits 9 and 8 of the length
abbrev high : ℕ → ℕ
high code = pick (bit 6 code) 512 0 + pick (bit 5 code) 256 0

-- bits 6 and 5 of the result code, eight times higher
shifted : (code : ℕ) → code < 256 → bit_and code 0x60 * 8 ≡ high code
shifted code h = eqb→eq (bit_and code 0x60 * 8) (high code) (each (λ (w : ℕ). nat_eq (bit_and w 0x60 * 8) (high w)) 256 tt code h)

pub returns : goal.returns
returns c = ap (λ (n : ℕ). n + c.args.byte) (shifted c.args.code (omega arith))
