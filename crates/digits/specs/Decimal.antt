-- Decimal numbers, read.
-- Assumes nothing.
use Rattle.std.specs.Prelude.{ℕ, ◌+◌, ◌-◌, ◌*◌, Bool, List, [], ◌∷◌, length, Result, Ok, Err}
use Rattle.std.specs.List.{list_all}
use Rattle.std.specs.Char.{is_ascii_digit}
use Rattle.words.specs.Words.{pick}
use Rattle.lines.specs.Lines.{skipped, word_end, between}
use Rattle.digits.specs.declared.Number.{Number}
use Rattle.digits.specs.Hex.{inside}

-- whether each byte is a decimal digit
abbrev pub are_decimal : List ℕ → Bool
are_decimal word = list_all is_ascii_digit word

-- a value, with more digits behind it
abbrev pub value_on : ℕ → List ℕ → ℕ
value_on value [] = value
value_on value (x ∷ xs) = value_on (value * 10 + (x - 48)) xs

-- the value of digits
abbrev pub value_of : List ℕ → ℕ
value_of digits = value_on 0 digits

-- a word from one place to another as a number, if it is one to nine digits
abbrev pub number_of : List ℕ → ℕ → ℕ → Result Number ℕ
number_of word start next =
    pick (inside 1 9 (length word)) (pick (are_decimal word) (Ok (record { value = value_of word; next = next })) (Err start)) (Err start)

-- the next word of a line as a number
abbrev pub read_number : List ℕ → ℕ → Result Number ℕ
read_number line from =
    let start = skipped line from in
    let next = word_end line start in
    number_of (between line start next) start next
