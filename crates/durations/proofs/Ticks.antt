-- Milliseconds that are a number of ticks exactly: 32 times as much is that number.
-- Assumes nothing.
use Rattle.std.proofs.Common.{◌≡◌, ℕ, zero, suc, ◌+◌, ◌-◌, ◌*◌, ◌/◌, ◌^◌, ◌<◌, ◌≤◌, min, true, false, T, ltb, pos, sym, refl, ap, ◌∙◌, subst, true≢false, lt_of_lt_of_le, lt_of_le_of_lt, mul-le-mul, mul-lt-mul_of_pos_right, mul_right_comm, mul-div_cancel, arith, lit<, lit≤, ltb→lt, lt→ltb, pow_pos, pow_mono}
use native.Mathlib.Nat.{eq_of_mul-eq-mul_right}
use lib.Ieee.{Float, nan, inf, fin, binary32, up, down, round, mul, lt, to_unsigned}
use lib.Ieee.Fits.{down_pos}
use lib.Ieee.Exact.{HasValue}
use lib.Ieee.Positive.{num, den, den_pos, value→cross}
use lib.Ieee.Scale.{finite, grid, overflow, round_val, round_under, grid_scale, normal_of_fraction}
use Rattle.model.specs.declared.Settings.{Settings}
use Rattle.words.specs.Words.{Bytes}
use Rattle.model.specs.Frames.{prescaler, idle_data}
use Rattle.model.specs.Times.{t_l, t_ref, t_inactive, t_to, t_osc, t_dac, milliseconds, exactly}
use Rattle.model.proofs.Exactness.{exact, greatest}
use Rattle.times.proofs.Product.{product}
use Rattle.durations.specs.Milliseconds.{scaled}

-- a whole number below 2 ^ 64 as a float: the cast gives it back, and both tests pass
pub record Whole (y : Float) (n : ℕ) : Type 0 where
  pub is : to_unsigned 64 y ≡ n
  pub fits : T (lt (fin true 1 (pos 0)) y) × T (lt y (fin false 1 (pos 64)))

uncapped : (a n : ℕ) → a ≡ n → n < 2 ^ 64 → min a (2 ^ 64 - 1) ≡ n
uncapped a n e h = omega arith

whole : (y : Float) (n c : ℕ) → 0 < c → n < 2 ^ 64 → HasValue y false (n * c) c → Whole y n
unfolding to_unsigned lt
whole nan n c C small h = absurd h
whole (inf s) n c C small h = absurd h
whole (fin true m e) n c C small h = absurd (true≢false h.0)
whole (fin false m e) n c C small h =
    let value : m * up e ≡ n * down e = eq_of_mul-eq-mul_right c C (m * up e) (n * down e) (h.1 ∙ mul_right_comm n c (down e)) in
    let less : n * down e < 2 ^ 64 * down e = mul-lt-mul_of_pos_right small (down_pos e) in
    record {
      is = uncapped (m * up e / down e) n (ap (λ (k : ℕ). k / down e) value ∙ mul-div_cancel n (down_pos e)) small;
      fits = (
        lt→ltb 0 (1 * down e + m * up e * 1) (omega (arith, down_pos e)),
        lt→ltb (m * up e * 1) (2 ^ 64 * down e) (omega (arith, value, less)),
      );
    }

is_finite : (x : Float) (a c : ℕ) → HasValue x false a c → T (finite x)
is_finite nan a c h = absurd h
is_finite (inf s) a c h = absurd h
is_finite (fin s m e) a c h = tt

-- milliseconds that are exact, in units of the least float
on_grid : (n : ℕ) → exactly (milliseconds n) n → grid binary32 n 32 * 32 ≡ n * 2 ^ 149
unfolding milliseconds
on_grid n h =
    let x = milliseconds n in
    let g = grid binary32 n 32 in
    let units : num x * 2 ^ 149 ≡ g * den x = value→cross x g (2 ^ 149) (round_val binary32 n 32 (round_under binary32 n 32 (is_finite x n 32 h))) in
    eq_of_mul-eq-mul_right (den x) (den_pos x) (g * 32) (n * 2 ^ 149)
    (mul_right_comm g 32 (den x)
    ∙ ap (λ (k : ℕ). k * 32) (sym units)
    ∙ mul_right_comm (num x) (2 ^ 149) 32
    ∙ ap (λ (k : ℕ). k * 2 ^ 149) (value→cross x n 32 h)
    ∙ mul_right_comm n (den x) (2 ^ 149))

-- and 32 times as much
value : (n : ℕ) → n < 2 ^ 64 → exactly (milliseconds n) n → HasValue (scaled (milliseconds n)) false (n * 2 ^ 149) (2 ^ 149)
unfolding milliseconds mul
value zero small h = (refl, refl)
value (suc k) small h =
    let n = suc k in
    let normal : 2 ^ 23 * 32 ≤ n * 2 ^ 149 = mul-le-mul {n₁ = 1} {m₁ = 2 ^ 28} {n₂ = n} (omega arith) (lit≤ tt) in
    let there : grid binary32 (n * 2 ^ 5) 32 ≡ n * 2 ^ 149 = grid_scale binary32 n 32 5 (lit< tt) (normal_of_fraction binary32 n 32 (lit< tt) normal) ∙ on_grid n h in
    let room : n * 2 ^ 149 < overflow binary32 = lt_of_lt_of_le (mul-lt-mul_of_pos_right small (pow_pos 149)) (lit≤ tt) in
    subst (λ (y : Float). HasValue y false (n * 2 ^ 149) (2 ^ 149))
    (sym (product binary32 (milliseconds n) (fin false 1 (pos 5)) n 32 32 1 (lit< tt) (lit< tt) h (refl, refl)))
    (subst (λ (g : ℕ). HasValue (round binary32 false (n * 2 ^ 5) 32) false g (2 ^ 149)) there (round_val binary32 (n * 2 ^ 5) 32 (subst (λ (g : ℕ). g < overflow binary32) (sym there) room)))

-- THE LAW
abbrev pub Counted : ℕ → Type 0
Counted n = Whole (scaled (milliseconds n)) n

counted : (n : ℕ) → n < 2 ^ 64 → exactly (milliseconds n) n → Counted n
counted n small h = whole (scaled (milliseconds n)) n (2 ^ 149) (pow_pos 149) small (value n small h)

-- ---- the six times of settings

pub record Six (s : Settings) : Type 0 where
  pub low : Counted (t_l s)
  pub reference : Counted (t_ref s)
  pub inactive : Counted (t_inactive s)
  pub timeout : Counted (t_to s)
  pub osc : Counted (t_osc s)
  pub dac : Counted (t_dac s)

-- a product of two factors that have bounds
under : (m n : ℕ) {a b : ℕ} → T (ltb (m * n) (2 ^ 64)) → a ≤ m → b ≤ n → a * b < 2 ^ 64
under m n t h k = lt_of_le_of_lt (mul-le-mul h k) (ltb→lt (m * n) (2 ^ 64) t)

pub six_counted : (s : Settings) → Bytes (idle_data s) → Six s
unfolding t_l t_ref t_inactive t_to t_osc t_dac
six_counted s byte =
    let e = exact s byte in
    let p = prescaler s.source in
    let three : p ≤ 3 = omega arith in
    let power : 2 ^ p ≤ 8 = pow_mono {j = 3} three in
    let reference : 256 * 2 ^ p ≤ 2048 = mul-le-mul {n₂ = 256} {m₂ = 8} (lit≤ tt) power in
    record {
      low = counted (t_l s) (lt_of_le_of_lt power (lit< tt)) e.low;
      reference = counted (t_ref s) (lt_of_le_of_lt reference (lit< tt)) e.reference;
      inactive = counted (t_inactive s) (under 256 2048 tt (omega arith) reference) e.inactive;
      timeout = counted (t_to s) (lt_of_le_of_lt (greatest s byte) (lit< tt)) e.timeout;
      osc = counted (t_osc s) (under 256 8 tt (omega arith) power) e.osc;
      dac = counted (t_dac s) (under 256 8 tt (omega arith) power) e.dac;
    }
