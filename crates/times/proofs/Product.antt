-- A whole factor times a float that is a number of ticks exactly is the float of the product's ticks.
-- Assumes nothing.
use Prim.Native.Nat.{ℕ, ◌*◌, ◌^◌, ◌≤◌, ◌<◌}
use native.Mathlib.Nat.{mul-pos, mul-mul-mul_comm}
use mathlib.Core.Path.{◌≡◌, refl, ap₂, ◌∙◌}
use mathlib.Core.Bool.{true, false, true≢false}
use lib.Dec.{lit<}
use lib.IntN.{pos}
use lib.Ieee.{Float, nan, inf, fin, Format, binary32, round, mul, of_int}
use lib.Ieee.Back.{round_whole}
use lib.Ieee.Exact.{HasValue}
use lib.Ieee.Positive.{num, den, den_pos, value→cross}
use lib.Ieee.Scale.{round_same}
use Rattle.model.specs.Times.{milliseconds, exactly}

-- the product of two values that are not negative, zero among them, is the fraction of their parts, rounded
parts : (f : Format) (x y : Float) (n c m d : ℕ) → HasValue x false n c → HasValue y false m d → mul f x y ≡ round f false (num x * num y) (den x * den y)
unfolding mul
parts f nan y n c m d h k = absurd h
parts f (inf s) y n c m d h k = absurd h
parts f (fin true p e) y n c m d h k = absurd (true≢false h.0)
parts f (fin false p e) nan n c m d h k = absurd k
parts f (fin false p e) (inf t) n c m d h k = absurd k
parts f (fin false p e) (fin true q g) n c m d h k = absurd (true≢false k.0)
parts f (fin false p e) (fin false q g) n c m d h k = refl

-- by any fractions n / c and m / d that the two equal
pub product : (f : Format) (x y : Float) (n c m d : ℕ) → 0 < c → 0 < d → HasValue x false n c → HasValue y false m d → mul f x y ≡ round f false (n * m) (c * d)
product f x y n c m d C D h k =
    parts f x y n c m d h k
    ∙ round_same f false (num x * num y) (den x * den y) (n * m) (c * d) (mul-pos (den_pos x) (den_pos y)) (mul-pos C D)
    (mul-mul-mul_comm (num x) (num y) c d ∙ ap₂ (λ (u v : ℕ). u * v) (value→cross x n c h) (value→cross y m d k) ∙ mul-mul-mul_comm n (den x) m (den y))

-- THE LAW
pub by : (k n : ℕ) (unit : Float) → k ≤ 2 ^ 24 → exactly unit n → mul binary32 (of_int binary32 (pos k)) unit ≡ milliseconds (k * n)
unfolding of_int milliseconds
by k n unit small h = product binary32 (of_int binary32 (pos k)) unit k 1 n 32 (lit< tt) (lit< tt) (round_whole binary32 false k small) h
