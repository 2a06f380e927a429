-- Document 02, P2, by 000's sections 5.7 and 5.8: the registers that are read and written, and the values that they are given.
-- Assumes nothing.
use Rattle.std.specs.Prelude.{ℕ, ◌/◌, ◌%◌, Bool, ◌&&◌, ◌||◌, List, [], ◌∷◌, leb, eqb, length, get_or}
use Rattle.words.specs.Words.{among}

-- ---- what is read

-- table 20: the wake-up event register and ARC_B
abbrev pub is_read : ℕ → Bool
is_read register = eqb register 0x62 || eqb register 0x69

-- ---- the values that are written

-- table 22: the codes of the modulation index
abbrev pub modulations : List ℕ
modulations = 0x1 ∷ 0x2 ∷ 0x3 ∷ 0x4 ∷ 0x5 ∷ 0x6 ∷ 0xD ∷ []

-- table 23: the codes of the receiver gain
abbrev pub gains : List ℕ
gains = 0x0 ∷ 0x1 ∷ 0x3 ∷ 0x7 ∷ 0xF ∷ []

-- ARC_B: a modulation index in the high nibble and a gain in the low one
abbrev pub is_tuning : ℕ → Bool
is_tuning v = among (v / 16) modulations && among (v % 16) gains

-- the analog index: that of ARC_B
abbrev pub is_index : ℕ → Bool
is_index v = eqb v 0x01

-- the timer window: 50 to 60
abbrev pub is_window : ℕ → Bool
is_window v = leb 0x50 v && leb v 0x60

-- ---- RdReg's data

-- a register, its size, and a byte that is reserved
abbrev pub read_data : ℕ → List ℕ
read_data register = register ∷ 0x01 ∷ 0x00 ∷ []

-- of a register that is read
abbrev pub read_allowed : List ℕ → Bool
read_allowed xs = is_read (get_or xs 0 0) && eqb (get_or xs 1 0) 0x01 && eqb (get_or xs 2 0) 0x00

-- ---- WrReg's data

-- n bytes: an address; f, 00 or 01, which says whether the address is incremented after the write; and what is written
abbrev pub is_write : ℕ → ℕ → List ℕ → Bool
is_write n address xs = eqb (length xs) n && eqb (get_or xs 0 0) address && leb (get_or xs 1 0) 0x01

-- 68 f 01: the index is set to ARC_B
abbrev pub sets_index : List ℕ → Bool
sets_index xs = is_write 3 0x68 xs && is_index (get_or xs 2 0)

-- 68 f 01 v: ARC_B is written
abbrev pub tunes : List ℕ → Bool
tunes xs = is_write 4 0x68 xs && is_index (get_or xs 2 0) && is_tuning (get_or xs 3 0)

-- 3A f v 04: the timer window is written, and confirmed by 04
abbrev pub sets_window : List ℕ → Bool
sets_window xs = is_write 4 0x3A xs && is_window (get_or xs 2 0) && eqb (get_or xs 3 0) 0x04

-- one of the three
abbrev pub write_allowed : List ℕ → Bool
write_allowed xs = sets_index xs || tunes xs || sets_window xs
