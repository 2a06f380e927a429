-- What is promised of reading: what is written is read back, and what a buffer held before does not matter.
-- Assumes nothing.
use Rattle.std.specs.Prelude.{ℕ, ◌+◌, ◌*◌, ◌^◌, ◌≤◌, ◌<◌, ◌≡◌, List, ◌++◌, length, drop, Result, Ok, Err}
use Rattle.words.specs.Words.{Bytes}
use Rattle.lines.specs.Lines.{fore}
use Rattle.text.specs.Writing.{written, hexes, decimal, number}
use Rattle.text.specs.Claims.{line}
use Rattle.digits.specs.Hex.{read_bytes}
use Rattle.digits.specs.Decimal.{read_number}

-- bytes written into a text that has room for them, and read from there on into a buffer that has room for them, are in front of it, and what comes
-- behind them in the buffer is as it was
abbrev pub BytesBack : Type 0
BytesBack =
    (text bytes buffer : List ℕ) (at : ℕ) → Bytes bytes → at + 3 * length bytes ≤ length text → length bytes ≤ length buffer
    → read_bytes (line (written text at (hexes bytes))) at buffer
    ≡ record { answer = Ok (length bytes); bytes = bytes ++ drop (length bytes) buffer }

-- how many bytes were read, none where one was wrong
abbrev pub count_of : Result ℕ ℕ → ℕ
count_of (Ok n) = n
count_of (Err place) = 0

-- of what a buffer held before, only its length matters
abbrev pub Fresh : Type 0
Fresh =
    (line : List ℕ) (from : ℕ) (buffer other : List ℕ) → length buffer ≡ length other
    → let read = read_bytes line from buffer in
    let n = count_of read.answer in
    (read.answer ≡ (read_bytes line from other).answer) × (fore read.bytes n ≡ fore (read_bytes line from other).bytes n)

-- a number of up to nine digits, written into a text that has room for it, is read from there on, up to the place behind it
abbrev pub NumberBack : Type 0
NumberBack =
    (text : List ℕ) (at n : ℕ) → n < 10 ^ 9 → at + 1 + length (decimal n) ≤ length text
    → read_number (line (written text at (number n))) at ≡ Ok (record { value = n; next = (written text at (number n)).answer })
