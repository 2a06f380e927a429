-- A prescaler is at most 3, so the shift loses no bit.
-- Assumes nothing.
use Rattle.std.proofs.Common.{ℕ, ◌≡◌, ◌*◌, ◌^◌, ◌%◌, ◌≤◌, ap, ◌∙◌, arith}
use Rattle.std.proofs.Math.Pow.{pow_mono}
use Rattle.times.proofs.power.Goals as goal

kept : (x : ℕ) → x ≤ 8 → (1 * x % 65536 ≡ x) × (1 * x % 65536 ≤ 8)
kept x h = omega arith

pub returns : goal.returns
returns c =
    let p = c.prescaler.result in
    let three : p ≤ 3 = omega arith in
    let small : 2 ^ p ≤ 8 = pow_mono {j = 3} three in
    ((kept (2 ^ p) small).0 ∙ ap (λ (z : ℕ). 2 ^ z) c.prescaler.ensures, (kept (2 ^ p) small).1)
