-- The rule of the table: what is listed of every value is what the paper permits, by one computed test over the whole table for each question asked of it.
-- Assumes nothing.
use Prim.Native.Nat.{ℕ, ◌<◌}
use mathlib.Core.Path.{◌≡◌, refl, ◌∙◌}
use mathlib.Core.Bool.{Bool, true, false}
use mathlib.Core.List.{[], ◌∷◌, map}
use Rattle.words.specs.Words.{those}
use Rattle.words.proofs.Words.{same_on_bytes}
use Rattle.model.specs.Registers.{is_read, is_index, is_tuning, is_window}
use Rattle.registers.specs.declared.ranges.Access.TheVariants.{Read, Write}
use Rattle.registers.specs.LookUp.{ranges, listed}

-- ---- at few values, so that a wrong row tells one

pub first_tunings : those (λ (v : ℕ). listed ranges (0x69, v, v, Write)) 0x20 [] ≡ 0x10 ∷ 0x11 ∷ 0x13 ∷ 0x17 ∷ 0x1F ∷ []
unfolding ranges
first_tunings = refl

pub reads : map (λ (r : ℕ). listed ranges (r, 0x00, 0xFF, Read)) (0x61 ∷ 0x62 ∷ 0x68 ∷ 0x69 ∷ []) ≡ false ∷ true ∷ false ∷ true ∷ []
unfolding ranges
reads = refl

pub windows : map (λ (v : ℕ). listed ranges (0x3A, v, v, Write)) (0x4F ∷ 0x50 ∷ 0x60 ∷ 0x61 ∷ []) ≡ false ∷ true ∷ true ∷ false ∷ []
unfolding ranges
windows = refl

-- ---- at all values

pub read_listed : (r : ℕ) → r < 256 → listed ranges (r, 0x00, 0xFF, Read) ≡ is_read r
unfolding ranges
read_listed = same_on_bytes (λ (r : ℕ). listed ranges (r, 0x00, 0xFF, Read)) is_read tt

pub index_listed : (v : ℕ) → v < 256 → listed ranges (0x68, v, v, Write) ≡ is_index v
unfolding ranges
index_listed = same_on_bytes (λ (v : ℕ). listed ranges (0x68, v, v, Write)) is_index tt

pub tuning_listed : (v : ℕ) → v < 256 → listed ranges (0x69, v, v, Write) ≡ is_tuning v
unfolding ranges
tuning_listed = same_on_bytes (λ (v : ℕ). listed ranges (0x69, v, v, Write)) is_tuning tt

pub window_listed : (v : ℕ) → v < 256 → listed ranges (0x3A, v, v, Write) ≡ is_window v
unfolding ranges
window_listed = same_on_bytes (λ (v : ℕ). listed ranges (0x3A, v, v, Write)) is_window tt

-- what a look-up of a value tells, as one of ARC_B and as a window

pub tuned : {r : Bool} → (v : ℕ) → v < 256 → r ≡ listed ranges (0x69, v, v, Write) → r ≡ is_tuning v
tuned v small told = told ∙ tuning_listed v small

pub windowed : {r : Bool} → (v : ℕ) → v < 256 → r ≡ listed ranges (0x3A, v, v, Write) → r ≡ is_window v
windowed v small told = told ∙ window_listed v small
