-- Milliseconds as text: ticks of 1 / 32 ms in decimal, with no trailing zeros.
-- Assumes nothing.
use Rattle.std.specs.Prelude.{ℕ, zero, suc, ◌+◌, ◌*◌, ◌/◌, ◌%◌, true, false, T, List, [], ◌∷◌, ◌++◌, pos, ◌==◌, Float}
use Rattle.std.specs.Float.{fin, binary32}
use Rattle.std.specs.Float.Ieee.{mul, lt, to_unsigned}
use Rattle.model.specs.declared.Times.{Times}
use Rattle.words.specs.Words.{pick}
use Rattle.text.specs.Writing.{word, number}

-- the digits of rest / 32 behind the point, until nothing is left
abbrev pub fraction : ℕ → ℕ → List ℕ
fraction zero rest = []
fraction (suc k) rest = pick (rest == 0) [] ((48 + rest * 10 / 32) ∷ fraction k (rest * 10 % 32))

-- a point before digits; no digits, no point
abbrev pub pointed : List ℕ → List (List ℕ)
pointed [] = []
pointed (digit ∷ digits) = word "." ∷ (digit ∷ digits) ∷ []

-- the digits behind the point: five are enough, since 100000 is a multiple of 32
abbrev pub behind_point : ℕ → List ℕ
behind_point ticks = fraction 5 (ticks % 32)

abbrev pub milliseconds_text : ℕ → List (List ℕ)
milliseconds_text ticks = number (ticks / 32) ++ pointed (behind_point ticks)

-- each of some ticks so
abbrev pub all_milliseconds : List ℕ → List (List ℕ)
all_milliseconds [] = []
all_milliseconds (n ∷ ns) = milliseconds_text n ++ all_milliseconds ns

-- ---- the ticks of a float

-- 32 times as much
abbrev pub scaled : Float → Float
scaled ms = mul binary32 ms (fin false 1 (pos 5))

-- the ticks that so many milliseconds are
abbrev pub ticks_of : Float → ℕ
ticks_of ms = to_unsigned 64 (scaled ms)

-- they are not negative, and 64 bits hold them
abbrev pub Countable : Float → Type 0
Countable ms = T (lt (fin true 1 (pos 0)) (scaled ms)) × T (lt (scaled ms) (fin false 1 (pos 64)))

-- ---- of all six times

abbrev pub all_ticks_of : Times → List ℕ
all_ticks_of t =
    ticks_of t.low ∷ ticks_of t.reference ∷ ticks_of t.inactive ∷ ticks_of t.timeout ∷ ticks_of t.osc ∷ ticks_of t.dac ∷ []

abbrev pub AllCountable : Times → Type 0
AllCountable t =
    Countable t.low × (Countable t.reference × (Countable t.inactive × (Countable t.timeout × (Countable t.osc × Countable t.dac))))
