-- The kit's digits, the fewest that hold a number, are the number in decimal.
-- Assumes nothing.
use Prim.Native.Nat.{ℕ, zero, suc, ◌+◌, ◌-◌, ◌*◌, ◌/◌, ◌%◌, ◌^◌, ◌≤◌, ◌<◌}
use native.Mathlib.Nat.{pow-suc, one-le-pow, pow-le-pow_right}
use native.Mathlib.Omega.{arith}
use mathlib.Core.Path.{◌≡◌, refl, ap, subst, subst⁻¹, ◌∙◌}
use mathlib.Core.Bool.{Bool, true, false}
use mathlib.Core.List.{List, [], ◌∷◌, ◌++◌}
use lib.Dec.{leb}
use borrow.Author.Tests.{lt-ltb, le-ltb, leb-true, leb-false}
use Rattle.io.specs.Digits.{last_digits, hex_digit_ascii, IsDigitCount}
use Rattle.text.specs.Writing.{decimals}

last_digit : (n : ℕ) → hex_digit_ascii (n % 10) ≡ 48 + n % 10
last_digit n = let h : n % 10 < 10 = omega arith in simp (lt-ltb (n % 10) 10 h)

-- of a number with more than one digit
fewest_before : (m n : ℕ) → IsDigitCount 10 1 n (suc (suc m)) → (10 ≤ n) × IsDigitCount 10 1 (n / 10) (suc m)
fewest_before m n (a, b, d) =
    let one : suc (suc m) - 1 ≡ suc m = omega arith in
    let low : 10 ^ suc m ≤ n = subst (λ (k : ℕ). 10 ^ k ≤ n) one (d (omega arith)) in
    let p : 10 ^ suc m ≡ 10 ^ m * 10 = pow-suc 10 m in
    let q : 10 ^ suc (suc m) ≡ 10 ^ suc m * 10 = pow-suc 10 (suc m) in
    let zero_gone : suc m - 1 ≡ m = omega arith in
    let r : 1 ≤ 10 ^ m = one-le-pow m 10 (omega arith) in
    (omega arith, (omega arith, omega arith, λ h. subst⁻¹ (λ (k : ℕ). 10 ^ k ≤ n / 10) zero_gone (omega arith)))

pub decimal_is : (k count n : ℕ) → IsDigitCount 10 1 n count → count ≤ k → last_digits 10 count n ≡ decimals k n
decimal_is zero count n f h = absurd (omega arith)
decimal_is (suc k) zero n f h = absurd (omega arith)
decimal_is (suc k) (suc zero) n (a, b, d) h =
    let small : n < 10 = b in
    let e : n % 10 ≡ n = omega arith in
    simp (lt-ltb n 10 small) (ap (λ (x : ℕ). x ∷ []) (last_digit n ∙ ap (λ (x : ℕ). 48 + x) e))
decimal_is (suc k) (suc (suc m)) n f h =
    let b = fewest_before m n f in
    simp (le-ltb n 10 b.0, last_digit n) (ap (λ (l : List ℕ). l ++ ((48 + n % 10) ∷ [])) (decimal_is k (suc m) (n / 10) b.1 (omega arith)))

-- twenty digits hold any number of 64 bits
pub at_most_twenty : (n count : ℕ) → IsDigitCount 10 1 n count → n < 2 ^ 64 → count ≤ 20
at_most_twenty n count (a, b, d) h = by (leb count 20) refl where
  by : (b : Bool) → leb count 20 ≡ b → count ≤ 20
  by true e = leb-true count 20 e
  by false e =
      let m : 20 < count = leb-false count 20 e in
      let low : 10 ^ (count - 1) ≤ n = d (omega arith) in
      let most : 10 ^ 20 ≤ 10 ^ (count - 1) = pow-le-pow_right {n = 10} (omega arith) {i = 20} {j = count - 1} (omega arith) in
      absurd (omega arith)
