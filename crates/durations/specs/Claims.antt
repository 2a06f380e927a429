-- What is promised of milliseconds as text: the digits behind the point are exact, and none is there in vain.
-- Assumes nothing.
use Rattle.std.specs.Prelude.{◌≡◌, ℕ, ◌*◌, ◌%◌, ◌^◌, true, List, [], ◌∷◌, ◌++◌, length, ◌≢◌}
use Rattle.digits.specs.Decimal.{are_decimal, value_of}
use Rattle.durations.specs.Milliseconds.{behind_point}

-- of any number of ticks, what is left behind the whole milliseconds is spelled in decimal digits, with nothing lost
abbrev pub Exact : Type 0
Exact =
    (ticks : ℕ) → let digits = behind_point ticks in
    (are_decimal digits ≡ true) × (value_of digits * 32 ≡ ticks % 32 * 10 ^ length digits)

-- and the last of them is never 0
abbrev pub NoTrailingZero : Type 0
NoTrailingZero = (ticks : ℕ) (front : List ℕ) → behind_point ticks ≢ front ++ (48 ∷ [])
