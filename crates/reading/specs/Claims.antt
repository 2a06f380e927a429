-- What is promised of a line read as a call: the name of one that takes nothing is read as that call, and what the buffer held before does not matter.
-- Assumes nothing.
use Rattle.std.specs.Prelude.{ℕ, ◌<◌, ◌≡◌, List, length, Result, Ok, Err}
use Rattle.lines.specs.Lines.{fore}
use Rattle.calls.specs.declared.Shape.TheVariants.{Nothing}
use Rattle.calls.specs.declared.Asked.{Asked}
use Rattle.calls.specs.declared.Wrong.{Wrong}
use Rattle.calls.specs.Calls.{rows, name_of, call_of, shape_of}
use Rattle.reading.specs.Asking.{understood, asked}

-- a line that is just the name of a call that takes nothing is read as that call, and the buffer is as it was
abbrev pub EachRead : Type 0
EachRead =
    (k : ℕ) → k < length rows → shape_of k ≡ Nothing → (buffer : List ℕ)
    → asked (name_of k) buffer ≡ record { answer = understood (call_of k) 0 0; bytes = buffer }

-- how many bytes a call has, none where a line is no call
abbrev pub count_in : Result Asked Wrong → ℕ
count_in (Ok asked) = asked.count
count_in (Err wrong) = 0

-- of what the buffer held before, only its length matters
abbrev pub Fresh : Type 0
Fresh =
    (line buffer other : List ℕ) → length buffer ≡ length other
    → let read = asked line buffer in
    let n = count_in read.answer in (read.answer ≡ (asked line other).answer) × (fore read.bytes n ≡ fore (asked line other).bytes n)
