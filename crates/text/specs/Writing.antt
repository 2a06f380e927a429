-- Writing into a text: parts at a place, one behind the other, and the place behind them.
-- Assumes nothing.
use Rattle.std.specs.Prelude.{ℕ, zero, suc, ◌+◌, ◌/◌, ◌%◌, List, [], ◌∷◌, ◌++◌, ltb, leb, length}
use Prim.Native.Char.{code}
use Prim.Native.String.{String, [] as nothing, ◌∷◌ as ◌then◌}
use Rattle.std.proofs.Math.Seq.{paste}
use Rattle.words.specs.Words.{pick}
use Rattle.words.specs.Contract.{Ran, Is}

-- a part put at a place, and the place behind it, where it fits; otherwise text and place as they were
abbrev pub placed : List ℕ → ℕ → List ℕ → Ran ℕ
placed text at part =
    pick (leb (at + length part) (length text))
    (record { answer = at + length part; bytes = paste text at part (length part) })
    (record { answer = at; bytes = text })

-- parts put one behind the other, each where it fits
abbrev pub written : List ℕ → ℕ → List (List ℕ) → Ran ℕ
written text at [] = record { answer = at; bytes = text }
written text at (part ∷ parts) = let one = placed text at part in written one.bytes one.answer parts

-- writing the parts may answer r and leave exit
pub record Puts (text : List ℕ) (at : ℕ) (parts : List (List ℕ)) (r : ℕ) (exit : List ℕ) : Type 0 where
  pub is : Is (written text at parts) r exit

-- ---- parts

-- the bytes of a word
abbrev pub word : String → List ℕ
word nothing = []
word (letter then letters) = code letter ∷ word letters

-- the digit of a number below 16: 0 to 9, then A to F
abbrev pub glyph : ℕ → ℕ
glyph d = pick (ltb d 10) (48 + d) (55 + d)

-- a byte as two digits, the higher first
abbrev pub pair : ℕ → List ℕ
pair byte = glyph (byte / 16) ∷ glyph (byte % 16) ∷ []

-- a blank and a pair of hex digits
abbrev pub hex : ℕ → List ℕ
hex byte = 32 ∷ pair byte

-- each byte so
abbrev pub hexes : List ℕ → List (List ℕ)
hexes [] = []
hexes (byte ∷ bytes) = hex byte ∷ hexes bytes

-- a number of up to k digits
abbrev pub decimals : ℕ → ℕ → List ℕ
decimals zero n = []
decimals (suc k) n = pick (ltb n 10) ((48 + n) ∷ []) (decimals k (n / 10) ++ ((48 + n % 10) ∷ []))

-- a number of up to twenty digits, as many as one of 64 bits can have
abbrev pub decimal : ℕ → List ℕ
decimal n = decimals 20 n

-- a blank, then a decimal number
abbrev pub number : ℕ → List (List ℕ)
number n = (32 ∷ []) ∷ decimal n ∷ []
