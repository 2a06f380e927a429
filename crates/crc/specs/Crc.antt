-- The CRC of ISO/IEC 13239, by which ISO/IEC 15693 tags close what they send: a register of sixteen bits that takes a bit at a time.
-- Assumes nothing.
use Rattle.std.specs.Prelude.{ℕ, zero, suc, ◌+◌, ◌-◌, ◌/◌, ◌%◌, ◌≡◌, not, List, [], ◌∷◌, fold, eqb, get_or}
use Rattle.std.specs.Int.Bits.{bit_xor}
use Rattle.words.specs.Words.{pick, those}

-- ---- the standard's rule

-- x^16 + x^12 + x^5 + 1, the lowest power at the left; x^16 is what is shifted out
abbrev pub polynomial : ℕ
polynomial = 0x8408

-- what the register holds at the start
abbrev pub preset : ℕ
preset = 0xFFFF

-- a bit goes in: the register is shifted to the right, and where what is shifted out is not the bit, the polynomial is added
abbrev pub shifted : ℕ → ℕ → ℕ
shifted bit register = pick (eqb (bit_xor (register % 2) bit) 1) (bit_xor (register / 2) polynomial) (register / 2)

-- the n lowest bits of a number go in, the lowest first
abbrev pub bits : ℕ → ℕ → ℕ → ℕ
bits zero x register = register
bits (suc n) x register = bits n (x / 2) (shifted (x % 2) register)

-- a byte goes in
abbrev pub byte : ℕ → ℕ → ℕ
byte b register = bits 8 b register

abbrev pub bytes : List ℕ → ℕ → ℕ
bytes [] register = register
bytes (b ∷ bs) register = bytes bs (byte b register)

-- the CRC is the complement of what the register holds at the end
unfoldable pub crc_of : List ℕ → ℕ
crc_of bs = 0xFFFF - bytes bs preset

-- ---- the same by a table of 256 remainders

-- the remainder of a byte is what it leaves in an empty register
abbrev pub remainder : ℕ → ℕ
remainder b = byte b 0

-- of 32 bytes from a first on, those whose entry in a table is not their remainder, told by how far they are from the first
abbrev pub mistaken : List ℕ → ℕ → List ℕ
mistaken table first = those (λ (k : ℕ). not (eqb (get_or table (first + k) 0) (remainder (first + k)))) 32 []

-- of all 256 there is none
pub record Right (table : List ℕ) : Type 0 where
  pub at_00 : mistaken table 0x00 ≡ []
  pub at_20 : mistaken table 0x20 ≡ []
  pub at_40 : mistaken table 0x40 ≡ []
  pub at_60 : mistaken table 0x60 ≡ []
  pub at_80 : mistaken table 0x80 ≡ []
  pub at_a0 : mistaken table 0xA0 ≡ []
  pub at_c0 : mistaken table 0xC0 ≡ []
  pub at_e0 : mistaken table 0xE0 ≡ []

-- a byte by the table: its bits are added to the low byte of the register, which is shifted out and chooses the entry
abbrev pub looked : List ℕ → ℕ → ℕ → ℕ
looked table b register = bit_xor (register / 256) (get_or table (bit_xor register b % 256) 0)

abbrev pub looked_all : List ℕ → List ℕ → ℕ → ℕ
looked_all table bs register = fold (λ (r b : ℕ). looked table b r) register bs

abbrev pub crc_by : List ℕ → List ℕ → ℕ
crc_by table bs = 0xFFFF - looked_all table bs preset
