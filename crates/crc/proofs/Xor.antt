-- Laws of exclusive or that the kit lacks: three in any order, and one taken back.
-- Assumes nothing.
use Prim.Native.Nat.{ℕ, ◌/◌}
use native.Mathlib.Omega.{arith}
use mathlib.Core.Path.{◌≡◌, sym, ap, ◌∙◌}
use lib.Arith.{bin_ind}
use lib.Bits.{bit_xor, xor_add_and, xor_comm, xor_shr, xor_self}

-- two numbers are equal whose halves and lowest bits are
pub xor_swap : (a b c : ℕ) → bit_xor (bit_xor a b) c ≡ bit_xor (bit_xor a c) b
xor_swap =
    bin_ind (λ (n : ℕ). (b c : ℕ) → bit_xor (bit_xor n b) c ≡ bit_xor (bit_xor n c) b) xor_comm
    (λ n ih b c. let e : bit_xor (bit_xor n b) c / 2 ≡ bit_xor (bit_xor n c) b / 2 = half n b c ∙ ih (b / 2) (c / 2) ∙ sym (half n c b) in
    omega (arith, xor_add_and (bit_xor n b) c, xor_add_and n b, xor_add_and (bit_xor n c) b, xor_add_and n c))
  where
    half : (n b c : ℕ) → bit_xor (bit_xor n b) c / 2 ≡ bit_xor (bit_xor (n / 2) (b / 2)) (c / 2)
    half n b c = xor_shr (bit_xor n b) c 1 ∙ ap (λ (x : ℕ). bit_xor x (c / 2)) (xor_shr n b 1)

pub xor_back : (a b : ℕ) → bit_xor (bit_xor a b) b ≡ a
xor_back a b = ap (λ (x : ℕ). bit_xor x b) (xor_comm a b) ∙ xor_swap b a b ∙ ap (λ (x : ℕ). bit_xor x a) (xor_self b)

pub xor_same_r : (a a' b : ℕ) → bit_xor a b ≡ bit_xor a' b → a ≡ a'
xor_same_r a a' b e = sym (xor_back a b) ∙ ap (λ (x : ℕ). bit_xor x b) e ∙ xor_back a' b

pub xor_same_l : (a b b' : ℕ) → bit_xor a b ≡ bit_xor a b' → b ≡ b'
xor_same_l a b b' e = xor_same_r b b' a (xor_comm b a ∙ e ∙ xor_comm a b')
