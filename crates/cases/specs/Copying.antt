-- The words that every section uses: a byte, its bits, a part of a list, a copy into a buffer, pieces joined.
-- Assumes nothing.
use Rattle.std.specs.Prelude.{ℕ, ◌≡◌, List, [], ◌∷◌, map, None, Option, Some}
use Rattle.words.specs.Words.{bit, within, pasted, laid, Bytes, concat, those}
use Rattle.words.specs.Contract.{Ran}

-- ---- bytes

-- FF is one, 100 is none
abbrev pub Widest : Type 0
Widest = Bytes (0xFF ∷ [])

abbrev pub Wider : Type 0
Wider = Bytes (0x100 ∷ []) → ⊥

-- the numbers below 16 with bit 0, 1, 2, 3 and 4 set
abbrev pub Bits : Type 0
Bits =
    map (λ (k : ℕ). those (bit k) 16 []) (0 ∷ 1 ∷ 2 ∷ 3 ∷ 4 ∷ []) ≡
    (1 ∷ 3 ∷ 5 ∷ 7 ∷ 9 ∷ 11 ∷ 13 ∷ 15 ∷ []) ∷ (2 ∷ 3 ∷ 6 ∷ 7 ∷ 10 ∷ 11 ∷ 14 ∷ 15 ∷ []) ∷ (4 ∷ 5 ∷ 6 ∷ 7 ∷ 12 ∷ 13 ∷ 14 ∷ 15 ∷ []) ∷
    (8 ∷ 9 ∷ 10 ∷ 11 ∷ 12 ∷ 13 ∷ 14 ∷ 15 ∷ []) ∷ [] ∷ []

-- ---- parts of a list

abbrev pub lying : Option ℕ → List ℕ → Ran (Option ℕ)
lying answer bytes = record { answer = answer; bytes = bytes }

abbrev pub held : List ℕ
held = 0xB0 ∷ 0xB1 ∷ 0xB2 ∷ 0xB3 ∷ 0xB4 ∷ []

abbrev pub Parts : Type 0
Parts =
    map (within held) (record { start = 1; count = 3 } ∷ record { start = 3; count = 1 } ∷ record { start = 0; count = 2 } ∷ record { start = 4; count = 2 } ∷ []) ≡
    (0xB1 ∷ 0xB2 ∷ 0xB3 ∷ []) ∷ (0xB3 ∷ []) ∷ (0xB0 ∷ 0xB1 ∷ []) ∷ (0xB4 ∷ []) ∷ []

-- two bytes to the front, inside, up to the end, and past it, where nothing is copied
abbrev pub Copies : Type 0
Copies =
    map (pasted held (0xC1 ∷ 0xC2 ∷ [])) (0 ∷ 1 ∷ 3 ∷ 4 ∷ 5 ∷ []) ≡
    (0xC1 ∷ 0xC2 ∷ 0xB2 ∷ 0xB3 ∷ 0xB4 ∷ []) ∷ (0xB0 ∷ 0xC1 ∷ 0xC2 ∷ 0xB3 ∷ 0xB4 ∷ []) ∷ (0xB0 ∷ 0xB1 ∷ 0xB2 ∷ 0xC1 ∷ 0xC2 ∷ []) ∷ held ∷ held ∷ []

-- no byte, as many as the buffer has, and one more, which does not fit
abbrev pub Lays : Type 0
Lays =
    map (λ (xs : List ℕ). laid xs held) ([] ∷ (0xC1 ∷ 0xC2 ∷ 0xC3 ∷ 0xC4 ∷ 0xC5 ∷ []) ∷ (0xC1 ∷ 0xC2 ∷ 0xC3 ∷ 0xC4 ∷ 0xC5 ∷ 0xC6 ∷ []) ∷ []) ≡
    lying (Some 0) held ∷ lying (Some 5) (0xC1 ∷ 0xC2 ∷ 0xC3 ∷ 0xC4 ∷ 0xC5 ∷ []) ∷ lying None held ∷ []

abbrev pub Joined : Type 0
Joined = concat ((0xB0 ∷ []) ∷ [] ∷ (0xB1 ∷ 0xB2 ∷ []) ∷ []) ≡ 0xB0 ∷ 0xB1 ∷ 0xB2 ∷ []
