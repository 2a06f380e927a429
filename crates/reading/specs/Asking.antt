-- A line read as a call: its first word is the name, and the rest is what the call takes.
-- Assumes nothing.
use Rattle.std.specs.Prelude.{ℕ, List, ltb, eqb, length, Option, Some, None, Result, Ok, Err}
use Rattle.words.specs.Words.{pick}
use Rattle.words.specs.Contract.{Ran}
use Rattle.lines.specs.Lines.{skipped, word_end, between, is_word}
use Rattle.text.specs.Writing.{word}
use Rattle.digits.specs.declared.Number.{Number}
use Rattle.digits.specs.Hex.{read_bytes}
use Rattle.digits.specs.Decimal.{read_number}
use Rattle.calls.specs.declared.Verb.{Verb}
use Rattle.calls.specs.declared.Shape.{Shape}
use Rattle.calls.specs.declared.Shape.TheVariants.{Nothing, Interface, Numbered, Exactly, Led, Any}
use Rattle.calls.specs.declared.Fault.{Fault}
use Rattle.calls.specs.declared.Fault.TheVariants.{Unknown, Longer, NoPair, NoNumber, NoInterface, Count, Above}
use Rattle.calls.specs.declared.Asked.{Asked}
use Rattle.calls.specs.declared.Wrong.{Wrong}
use Rattle.calls.specs.Calls.{rows, found}

-- ---- what stands behind the name

-- a call with its number and how many bytes it has
abbrev pub understood : Verb → ℕ → ℕ → Result Asked Wrong
understood call number count = Ok (record { call = call; number = number; count = count })

-- what is wrong at a place
abbrev pub wrong : ℕ → Fault → Result Asked Wrong
wrong place fault = Err (record { place = place; fault = fault })

-- nothing more: a call with a number and no bytes
abbrev pub ended : Verb → ℕ → List ℕ → ℕ → Result Asked Wrong
ended call number line from =
    let next = skipped line from in
    pick (ltb next (length line)) (wrong next Longer) (understood call number 0)

-- spi, which is 0, or uart, which is 1, and nothing more
abbrev pub interfaced : Verb → List ℕ → ℕ → Result Asked Wrong
interfaced call line from =
    let start = skipped line from in
    let end = word_end line start in
    pick (is_word line start end (word "spi")) (ended call 0 line end)
    (pick (is_word line start end (word "uart")) (ended call 1 line end) (wrong start NoInterface))

-- bytes, if they could be read
abbrev pub bytes_asked : Verb → ℕ → Result ℕ ℕ → Result Asked Wrong
bytes_asked call number (Ok count) = understood call number count
bytes_asked call number (Err place) = wrong place NoPair

-- any bytes, read into a buffer
abbrev pub any : Verb → ℕ → List ℕ → ℕ → List ℕ → Ran (Result Asked Wrong)
any call number line from buffer =
    let read = read_bytes line from buffer in
    record { answer = bytes_asked call number read.answer; bytes = read.bytes }

-- so many bytes, from a place on
abbrev pub counted : ℕ → ℕ → Asked → Result Asked Wrong
counted from wanted asked = pick (eqb asked.count wanted) (Ok asked) (wrong from (Count asked.count wanted))

-- one byte or more from a place on, which leads the others; where there is none, what is missing
abbrev pub led : ℕ → Fault → Asked → Result Asked Wrong
led from missing asked = pick (eqb asked.count 0) (wrong from missing) (Ok asked)

-- a call judged further, where nothing was wrong before
abbrev pub judged_on : (Asked → Result Asked Wrong) → Result Asked Wrong → Result Asked Wrong
judged_on judge (Ok asked) = judge asked
judged_on judge (Err was) = Err was

-- with the buffer as it is
abbrev pub judged : (Asked → Result Asked Wrong) → Ran (Result Asked Wrong) → Ran (Result Asked Wrong)
judged judge read = record { answer = judged_on judge read.answer; bytes = read.bytes }

-- an answer that leaves the buffer as it was
abbrev pub untouched : List ℕ → Result Asked Wrong → Ran (Result Asked Wrong)
untouched buffer answer = record { answer = answer; bytes = buffer }

-- a number up to a greatest, read from a place on, then so many bytes, or nothing more where none are wanted
abbrev pub numbered : Verb → ℕ → ℕ → List ℕ → ℕ → List ℕ → Result Number ℕ → Ran (Result Asked Wrong)
numbered call greatest wanted line from buffer (Ok read) =
    let start = skipped line read.next in
    pick (ltb greatest read.value) (untouched buffer (wrong from (Above read.value greatest)))
    (pick (eqb wanted 0) (untouched buffer (ended call read.value line read.next))
    (judged (counted start wanted) (any call read.value line start buffer)))
numbered call greatest wanted line from buffer (Err place) = untouched buffer (wrong place NoNumber)

-- ---- the line

-- what a call takes, read from a place on that is no blank
abbrev pub read_shape : Verb → Shape → List ℕ → ℕ → List ℕ → Ran (Result Asked Wrong)
read_shape call Nothing line from buffer = untouched buffer (ended call 0 line from)
read_shape call Interface line from buffer = untouched buffer (interfaced call line from)
read_shape call (Numbered greatest wanted) line from buffer = numbered call greatest wanted line from buffer (read_number line from)
read_shape call (Exactly wanted) line from buffer = judged (counted from wanted) (any call 0 line from buffer)
read_shape call (Led missing) line from buffer = judged (led from missing) (any call 0 line from buffer)
read_shape call Any line from buffer = any call 0 line from buffer

-- a line by the call that its word names, which stands from one place to another
abbrev pub read_named : Option (Verb × Shape) → List ℕ → ℕ → ℕ → List ℕ → Ran (Result Asked Wrong)
read_named (Some named) line start end buffer = read_shape named.0 named.1 line (skipped line end) buffer
read_named None line start end buffer = untouched buffer (wrong start Unknown)

-- the call of a line, its bytes read to the front of a buffer
abbrev pub asked : List ℕ → List ℕ → Ran (Result Asked Wrong)
asked line buffer =
    let start = skipped line 0 in
    let end = word_end line start in
    read_named (found (between line start end) rows) line start end buffer
