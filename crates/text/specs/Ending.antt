-- How a text ends.
-- Assumes nothing.
use Rattle.std.specs.Prelude.{ℕ, ◌≡◌, false, List, [], ◌∷◌}
use Rattle.words.specs.Words.{concat}
use Rattle.lines.specs.Lines.{blank}

-- the last byte behind another
abbrev pub last_of : ℕ → List ℕ → ℕ
last_of before [] = before
last_of before (x ∷ xs) = last_of x xs

-- parts that have a last byte, and it is no blank
abbrev pub EndsFull : List (List ℕ) → Type 0
EndsFull parts = blank (last_of 32 (concat parts)) ≡ false
