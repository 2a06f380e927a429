-- Words that every paper uses: a choice by a test, a bit of a byte, the numbers that pass a test, a part of a list, bytes laid or copied into a buffer.
-- Assumes nothing.
use Rattle.std.specs.Prelude.{ℕ, zero, suc, ◌+◌, ◌/◌, ◌%◌, ◌^◌, ◌<◌, ◌≡◌, Bool, true, false, ◌||◌, List, [], ◌∷◌, ◌++◌, ltb, leb, eqb, length, take, drop, None, Option, Some}
use Rattle.std.proofs.Math.Seq.{paste}
use Rattle.words.specs.declared.Part.{Part}
use Rattle.words.specs.Contract.{Ran}

-- the first where the test holds, the second where it does not
abbrev pub pick : {A : Type 0} → Bool → A → A → A
pick true a b = a
pick false a b = b

-- bit k of w is set
abbrev pub bit : ℕ → ℕ → Bool
bit k w = eqb (w / 2 ^ k % 2) 1

-- one of some
abbrev pub among : ℕ → List ℕ → Bool
among x [] = false
among x (y ∷ ys) = eqb x y || among x ys

-- the numbers below n that pass a test, the least first
abbrev pub those : (ℕ → Bool) → ℕ → List ℕ → List ℕ
those f zero xs = xs
those f (suc n) xs = those f n (pick (f n) (n ∷ xs) xs)

-- the bytes of xs that a part names
abbrev pub within : List ℕ → Part → List ℕ
within xs p = take p.count (drop p.start xs)

-- a buffer with src from index at on, where that fits; otherwise as it was
abbrev pub pasted : List ℕ → List ℕ → ℕ → List ℕ
pasted buffer src at = pick (leb (at + length src) (length buffer)) (paste buffer at src (length src)) buffer

abbrev pub Pastes : List ℕ → List ℕ → ℕ → List ℕ → Type 0
Pastes buffer src at exit = exit ≡ pasted buffer src at

-- bytes at the front of a buffer, which keeps what it held past them
abbrev pub over : List ℕ → List ℕ → List ℕ
over xs out = xs ++ drop (length xs) out

-- where they fit
abbrev pub laid : List ℕ → List ℕ → Ran (Option ℕ)
laid xs out =
    pick (ltb (length out) (length xs)) (record { answer = None; bytes = out }) (record { answer = Some (length xs); bytes = over xs out })

-- each is a byte
abbrev pub Bytes : List ℕ → Type 0
Bytes [] = Unit {0}
Bytes (x ∷ xs) = (x < 256) × Bytes xs

-- pieces joined
abbrev pub concat : List (List ℕ) → List ℕ
concat [] = []
concat (xs ∷ pieces) = xs ++ concat pieces
