-- Document 01, "Calibration" and refusal 11: the guard band of every reference.
-- Assumes nothing.
use Rattle.std.specs.Prelude.{ℕ, ◌≡◌, Bool, true, false, List, [], ◌∷◌, map, Option, Some, None}
use Rattle.model.specs.declared.Band.{Band}
use Rattle.model.specs.Refusals.{Number, none, number, band_number}
use Rattle.words.specs.Words.{those}
use Rattle.model.specs.Calibration.{band}

abbrev pub numbered : Number → List ℕ
numbered none = []
numbered (number n) = n ∷ []

-- low and high, or the number of the refusal
abbrev pub shown : Option Band → List ℕ
shown (Some b) = b.low ∷ b.high ∷ numbered (band_number (Some b))
shown None = numbered (band_number None)

abbrev pub is_band : Option Band → Bool
is_band (Some b) = true
is_band None = false

pub record Bands : Type 0 where
  pub ends :
      map (λ (reference : ℕ). shown (band reference))
      (0x00 ∷ 0x01 ∷ 0x04 ∷ 0x05 ∷ 0x06 ∷ 0x07 ∷ 0x08 ∷ 0x09 ∷ 0x0A ∷ 0x0B ∷ 0x0C ∷ 0x5C ∷ [])
      ≡ (11 ∷ []) ∷ (11 ∷ []) ∷ (11 ∷ []) ∷ (11 ∷ []) ∷ (11 ∷ []) ∷ (11 ∷ []) ∷ (0x00 ∷ 0x10 ∷ []) ∷ (11 ∷ []) ∷ (11 ∷ []) ∷ (11 ∷ []) ∷
      (0x04 ∷ 0x14 ∷ []) ∷ (0x54 ∷ 0x64 ∷ []) ∷ []
  pub other_ends :
      map (λ (reference : ℕ). shown (band reference))
      (0xF0 ∷ 0xF3 ∷ 0xF4 ∷ 0xF5 ∷ 0xF6 ∷ 0xF7 ∷ 0xF8 ∷ 0xF9 ∷ 0xFC ∷ 0xFF ∷ [])
      ≡ (0xE8 ∷ 0xF8 ∷ []) ∷ (11 ∷ []) ∷ (0xEC ∷ 0xFC ∷ []) ∷ (11 ∷ []) ∷ (11 ∷ []) ∷ (11 ∷ []) ∷ (11 ∷ []) ∷ (11 ∷ []) ∷ (11 ∷ []) ∷
      (11 ∷ []) ∷ []
  -- the multiples of 4 from 08 to F4
  pub all :
      those (λ (reference : ℕ). is_band (band reference)) 256 [] ≡
      0x08 ∷ 0x0C ∷ 0x10 ∷ 0x14 ∷ 0x18 ∷ 0x1C ∷ 0x20 ∷ 0x24 ∷ 0x28 ∷ 0x2C ∷ 0x30 ∷ 0x34 ∷ 0x38 ∷ 0x3C ∷
      0x40 ∷ 0x44 ∷ 0x48 ∷ 0x4C ∷ 0x50 ∷ 0x54 ∷ 0x58 ∷ 0x5C ∷ 0x60 ∷ 0x64 ∷ 0x68 ∷ 0x6C ∷ 0x70 ∷ 0x74 ∷ 0x78 ∷ 0x7C ∷
      0x80 ∷ 0x84 ∷ 0x88 ∷ 0x8C ∷ 0x90 ∷ 0x94 ∷ 0x98 ∷ 0x9C ∷ 0xA0 ∷ 0xA4 ∷ 0xA8 ∷ 0xAC ∷ 0xB0 ∷ 0xB4 ∷ 0xB8 ∷ 0xBC ∷
      0xC0 ∷ 0xC4 ∷ 0xC8 ∷ 0xCC ∷ 0xD0 ∷ 0xD4 ∷ 0xD8 ∷ 0xDC ∷ 0xE0 ∷ 0xE4 ∷ 0xE8 ∷ 0xEC ∷ 0xF0 ∷ 0xF4 ∷ []
