-- Parts of a line: its front, what comes behind a place, blanks and words.
-- Assumes nothing.
use Rattle.std.specs.Prelude.{ℕ, ◌+◌, Bool, true, List, [], ◌∷◌, eqb, take, drop, get_or, bytes_eq}
use Rattle.words.specs.Words.{pick}

-- the first n bytes, or all where there are fewer
abbrev pub fore : List ℕ → ℕ → List ℕ
fore xs n = take n xs

-- the bytes from a place on, none past the end
abbrev pub rest : List ℕ → ℕ → List ℕ
rest xs from = drop from xs

-- the byte at a place, a blank past the end
abbrev pub byte_at : List ℕ → ℕ → ℕ
byte_at xs i = get_or xs i 32

-- a space or a tab
abbrev pub blank : ℕ → Bool
blank byte = pick (eqb byte 32) true (eqb byte 9)

-- how many blanks come first
abbrev pub blanks : List ℕ → ℕ
blanks [] = 0
blanks (x ∷ xs) = pick (blank x) (1 + blanks xs) 0

-- how many bytes come before the first blank
abbrev pub word_length : List ℕ → ℕ
word_length [] = 0
word_length (x ∷ xs) = pick (blank x) 0 (1 + word_length xs)

-- the first place from one on that is no blank
abbrev pub skipped : List ℕ → ℕ → ℕ
skipped line from = from + blanks (rest line from)

-- the end of the word that starts at a place
abbrev pub word_end : List ℕ → ℕ → ℕ
word_end line from = from + word_length (rest line from)

-- the bytes from one place up to another
abbrev pub between : List ℕ → ℕ → ℕ → List ℕ
between line from end = rest (fore line end) from

-- whether two texts are the same
abbrev pub same : List ℕ → List ℕ → Bool
same xs ys = bytes_eq xs ys

-- whether the line has the word from one place to another
abbrev pub is_word : List ℕ → ℕ → ℕ → List ℕ → Bool
is_word line from end word = same (between line from end) word
