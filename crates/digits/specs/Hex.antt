-- Hex digits, and bytes as pairs of them.
-- Assumes nothing.
use Rattle.std.specs.Prelude.{ℕ, ◌+◌, ◌-◌, ◌*◌, Bool, false, List, [], ◌∷◌, ltb, leb, length, set, Option, Some, None, Result, Ok, Err, option_map, option_and_then}
use Rattle.words.specs.Words.{pick}
use Rattle.words.specs.Contract.{Ran}
use Rattle.lines.specs.Lines.{rest, blank}

-- from low to high
abbrev pub inside : ℕ → ℕ → ℕ → Bool
inside low high byte = pick (leb low byte) (leb byte high) false

-- what a digit stands for, in either case
abbrev pub digit : ℕ → Option ℕ
digit byte =
    pick (inside 48 57 byte) (Some (byte - 48))
    (pick (inside 65 70 byte) (Some (byte - 55)) (pick (inside 97 102 byte) (Some (byte - 87)) None))

-- the byte that two digits spell
abbrev pub byte_of : ℕ → ℕ → Option ℕ
byte_of high low = option_and_then (λ (h : ℕ). option_map (λ (l : ℕ). h * 16 + l) (digit low)) (digit high)

-- the place of what is no pair or finds no room, and the buffer as it is by then
abbrev pub stopped : ℕ → List ℕ → Ran (Result ℕ ℕ)
stopped place buffer = record { answer = Err place; bytes = buffer }

-- what a byte is used for, if there is one
abbrev pub with_byte : {A : Type 0} → Option ℕ → (ℕ → A) → A → A
with_byte (Some value) f none = f value
with_byte None f none = none

-- pairs of digits, with blanks between them or not, read off the rest of a line, which begins at a place, into a buffer that has n bytes already:
-- the answer is how many it has at the line's end
abbrev pub read_on : List ℕ → ℕ → List ℕ → ℕ → Ran (Result ℕ ℕ)
read_on [] place buffer n = record { answer = Ok n; bytes = buffer }
read_on (x ∷ []) place buffer n = pick (blank x) (record { answer = Ok n; bytes = buffer }) (stopped place buffer)
read_on (x ∷ y ∷ xs) place buffer n =
    pick (blank x) (read_on (y ∷ xs) (place + 1) buffer n)
    (with_byte (byte_of x y)
    (λ value. pick (ltb n (length buffer)) (read_on xs (place + 2) (set buffer n value) (n + 1)) (stopped place buffer))
    (stopped place buffer))

-- the bytes of a line from a place on, read to the front of a buffer
abbrev pub read_bytes : List ℕ → ℕ → List ℕ → Ran (Result ℕ ℕ)
read_bytes line from buffer = read_on (rest line from) from buffer 0
