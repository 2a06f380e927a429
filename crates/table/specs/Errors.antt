-- The table of error codes, a bit for each byte from 80 to 8F: which bytes it marks, and where that is not what the paper says.
-- Assumes nothing.
use Rattle.std.specs.Prelude.{ℕ, ◌/◌, ◌%◌, Bool, not, ◌&&◌, List, [], eqb}
use Rattle.std.specs.Bool.{beq}
use Rattle.words.specs.Words.{bit, those}
use Rattle.model.specs.Replies.{is_error}

-- a table marks a byte: its first digit is 8, and the bit of its second is set
abbrev pub marked : ℕ → ℕ → Bool
marked table b = eqb (b / 16) 8 && bit (b % 16) table

-- the bytes at which a table and the paper differ
abbrev pub mistaken : ℕ → List ℕ
mistaken table = those (λ (b : ℕ). not (beq (marked table b) (is_error b))) 256 []
