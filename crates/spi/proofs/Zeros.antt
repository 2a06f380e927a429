-- The first of some zeros.
-- Assumes nothing.
use Prim.Native.Nat.{ℕ, zero, suc, ◌≤◌}
use native.Mathlib.Omega.{arith}
use mathlib.Core.Path.{◌≡◌, refl, ap}
use mathlib.Core.List.{List, ◌∷◌}
use lib.ListN.{take, replicate}

pub zeros : (n m : ℕ) → n ≤ m → take {A = ℕ} n (replicate m 0x00) ≡ replicate n 0x00
zeros zero m h = refl
zeros (suc n) zero h = absurd (omega arith)
zeros (suc n) (suc m) h = ap (λ (l : List ℕ). 0x00 ∷ l) (zeros n m (omega arith))
