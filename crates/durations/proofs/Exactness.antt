-- The digits behind the point are exact, and the last is never 0: a computed test of the 32 remainders each.
-- Assumes nothing.
use Rattle.std.proofs.Common.{◌≡◌, ℕ, ◌*◌, ◌%◌, ◌^◌, Bool, true, false, not, ◌&&◌, T, eqb, List, [], ◌∷◌, ◌++◌, length, refl, ap, ◌∙◌, subst, arith, eqb→eq}
use lib.Ieee.Bits.{is_true}
use lib.Ieee.Fits.{and_l, and_r}
use Rattle.words.proofs.Words.{all, each}
use Rattle.digits.specs.Decimal.{are_decimal, value_of}
use Rattle.durations.specs.Milliseconds.{behind_point}
use Rattle.durations.specs.Claims.{Exact, NoTrailingZero}

-- what a test finds of all 32 remainders holds of any number of ticks
of_each : (f : ℕ → List ℕ → Bool) → T (all (λ (k : ℕ). f k (behind_point k)) 32) → (ticks : ℕ) → T (f (ticks % 32) (behind_point ticks))
of_each f t ticks =
    let twice : ticks % 32 % 32 ≡ ticks % 32 = omega arith in
    subst (λ (digits : List ℕ). T (f (ticks % 32) digits)) (rw twice) (each (λ (k : ℕ). f k (behind_point k)) 32 t (ticks % 32) (omega arith))

-- ---- exact

abbrev spells : ℕ → List ℕ → Bool
spells rest digits = are_decimal digits && eqb (value_of digits * 32) (rest * 10 ^ length digits)

pub exact : Exact
exact ticks =
    let rest = ticks % 32 in
    let digits = behind_point ticks in
    let value = eqb (value_of digits * 32) (rest * 10 ^ length digits) in
    let test = of_each spells tt ticks in (
      is_true (are_decimal digits) (and_l (are_decimal digits) value test),
      eqb→eq (value_of digits * 32) (rest * 10 ^ length digits) (and_r (are_decimal digits) value test),
    )

-- ---- no digit in vain

abbrev ends_in_0 : List ℕ → Bool
ends_in_0 [] = false
ends_in_0 (digit ∷ []) = eqb digit 48
ends_in_0 (digit ∷ next ∷ digits) = ends_in_0 (next ∷ digits)

ends : (front : List ℕ) → ends_in_0 (front ++ (48 ∷ [])) ≡ true
ends [] = refl
ends (digit ∷ []) = refl
ends (digit ∷ next ∷ digits) = ends (next ∷ digits)

pub no_trailing_zero : NoTrailingZero
no_trailing_zero ticks front e =
    subst (λ (b : Bool). T (not b)) (ap ends_in_0 e ∙ ends front) (of_each (λ (rest : ℕ) (digits : List ℕ). not (ends_in_0 digits)) tt ticks)
