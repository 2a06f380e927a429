-- What is wrong with a line, where, and what was expected, as text.
-- Assumes nothing.
use Rattle.std.specs.Prelude.{ℕ, ◌+◌, ◌-◌, ◌^◌, List, [], ◌∷◌, ◌++◌, ltb}
use Rattle.words.specs.Words.{pick}
use Rattle.text.specs.Writing.{word, number}
use Rattle.calls.specs.declared.Fault.{Fault}
use Rattle.calls.specs.declared.Fault.TheVariants.{TooLong, Unknown, Longer, NoPair, NoNumber, NoInterface, Count, NoProtocol, NoCode, Above}

-- columns are counted from 1, as far as 64 bits go
abbrev pub column : ℕ → List (List ℕ)
column place = pick (ltb place (2 ^ 64 - 1)) (number (place + 1)) []

-- the number of the line, and the column of a place
abbrev pub where_text : ℕ → ℕ → List (List ℕ)
where_text line place = word "error: line" ∷ (number line ++ (word ", column" ∷ (column place ++ (word ": " ∷ []))))

-- a number that was given, and one that was expected
abbrev pub given : List ℕ → ℕ → List ℕ → ℕ → List (List ℕ)
given what n expected wanted = what ∷ (number n ++ (expected ∷ number wanted))

abbrev pub what_text : Fault → List (List ℕ)
what_text TooLong = word "a line too long; expected at most 4096 bytes" ∷ []
what_text Unknown = word "no such call; expected one that help lists" ∷ []
what_text Longer = word "more than the call takes; expected the line's end" ∷ []
what_text NoPair = word "no byte; expected pairs of hex digits" ∷ []
what_text NoNumber = word "no number; expected one to nine decimal digits" ∷ []
what_text NoInterface = word "no interface; expected spi or uart" ∷ []
what_text (Count n wanted) = given (word "bytes given:") n (word "; expected") wanted
what_text NoProtocol = word "no protocol; expected its byte, then the parameters" ∷ []
what_text NoCode = word "no code; expected the command's byte, then the answer" ∷ []
what_text (Above n greatest) = given (word "too great:") n (word "; expected at most") greatest

abbrev pub fault_text : ℕ → ℕ → Fault → List (List ℕ)
fault_text line place fault = where_text line place ++ what_text fault
