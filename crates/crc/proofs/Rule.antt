-- The eight bits of a byte are one look-up in the table.
-- Assumes nothing.
use Prim.Native.Nat.{ℕ, zero, suc, ◌+◌, ◌-◌, ◌*◌, ◌/◌, ◌%◌, ◌^◌, ◌≤◌, ◌<◌}
use native.Mathlib.Nat.{add_comm, mod-lt, div-eq_of_lt}
use native.Mathlib.Numerals.{add-one}
use native.Mathlib.Omega.{arith}
use mathlib.Core.Path.{◌≡◌, refl, sym, ap, ap₂, subst, ◌∙◌}
use mathlib.Core.Bool.{Bool, true, false}
use mathlib.Core.List.{List, [], ◌∷◌}
use lib.Bits.{bit_xor, xor_comm, xor_shr, xor_mod, xor_shifted, xor_zero_r, shifted_half, shifted_even}
use lib.Dec.{ltb, eqb, eqb→eq}
use lib.ListN.{get_or}
use borrow.Author.Tests.{ltb-true, ltb-false}
use lib.Pow.{split, shr-shr, shl-shr, pow_pos}
use Rattle.words.specs.Words.{pick, Bytes}
use Rattle.words.proofs.Words.{each, none_failed}
use Rattle.crc.specs.Crc.{polynomial, preset, shifted, bits, byte, bytes, crc_of, remainder, mistaken, Right, looked_all}
use Rattle.crc.specs.Claims.{ByTable}
use Rattle.crc.proofs.Xor.{xor_swap}

-- ---- data are added to the register

-- a bit's step with no data: the register had the bit's whole number added
turn : (r x : ℕ) → bit_xor (shifted (x % 2) r) (x / 2) ≡ shifted 0 (bit_xor r x)
turn r x =
    through (eqb (bit_xor (r % 2) (x % 2)) 1)
    ∙ sym (ap₂ (λ (t y : ℕ). pick (eqb t 1) (bit_xor y polynomial) y) (xor_zero_r (bit_xor r x % 2) ∙ xor_mod r x 1) (xor_shr r x 1))
  where
    through : (t : Bool) → bit_xor (pick t (bit_xor (r / 2) polynomial) (r / 2)) (x / 2)
        ≡ pick t (bit_xor (bit_xor (r / 2) (x / 2)) polynomial) (bit_xor (r / 2) (x / 2))
    through true = xor_swap (r / 2) polynomial (x / 2)
    through false = refl

turns : (n x r : ℕ) → bit_xor (bits n x r) (x / 2 ^ n) ≡ bits n 0 (bit_xor r x)
turns zero x r = ap (bit_xor r) (omega arith)
turns (suc n) x r =
    ap (bit_xor (bits n (x / 2) (shifted (x % 2) r)))
    (ap (λ (k : ℕ). x / 2 ^ k) (sym (add-one n) ∙ add_comm n 1) ∙ sym (shr-shr x 1 n))
    ∙ turns n (x / 2) (shifted (x % 2) r) ∙ ap (bits n 0) (turn r x)

-- n bits go in as zeros, where the register had them added
pub added : (n x r : ℕ) → x < 2 ^ n → bits n x r ≡ bits n 0 (bit_xor r x)
added n x r h = sym (xor_zero_r (bits n x r)) ∙ ap (bit_xor (bits n x r)) (sym (div-eq_of_lt h)) ∙ turns n x r

-- ---- the register's low part chooses the remainder, the high part is shifted down

zeros : (n h r : ℕ) → bits n (h * 2 ^ n) r ≡ bits n 0 r
zeros zero h r = refl
zeros (suc n) h r = ap₂ (λ (x y : ℕ). bits n x (shifted y r)) (shifted_half h n) (shifted_even h n) ∙ zeros n h (shifted 0 r)

parts : (n x : ℕ) → bits n 0 x ≡ bit_xor (x / 2 ^ n) (bits n 0 (x % 2 ^ n))
parts n x =
    ap (bits n 0) (sym (split x n) ∙ sym (xor_shifted (x / 2 ^ n) n (x % 2 ^ n) (mod-lt x (pow_pos n))) ∙ xor_comm (x / 2 ^ n * 2 ^ n) (x % 2 ^ n))
    ∙ sym (turns n (x / 2 ^ n * 2 ^ n) (x % 2 ^ n))
    ∙ ap₂ bit_xor (zeros n (x / 2 ^ n) (x % 2 ^ n)) (shl-shr (x / 2 ^ n) n)
    ∙ xor_comm (bits n 0 (x % 2 ^ n)) (x / 2 ^ n)

-- n bits at once
at_once : (n x r : ℕ) → x < 2 ^ n → bits n x r ≡ bit_xor (r / 2 ^ n) (bits n (bit_xor r x % 2 ^ n) 0)
at_once n x r h =
    added n x r h ∙ parts n (bit_xor r x)
    ∙ ap₂ bit_xor
    (xor_shr r x n ∙ ap (bit_xor (r / 2 ^ n)) (div-eq_of_lt h) ∙ xor_zero_r (r / 2 ^ n))
    (sym (added n (bit_xor r x % 2 ^ n) 0 (mod-lt (bit_xor r x) (pow_pos n))))

-- ---- the table

module _ (table : List ℕ) (right : Right table) (b : ℕ) where
  abbrev Entry : ℕ → Type 0
  Entry k = get_or table k 0 ≡ remainder k

  -- one of 32
  from : (first : ℕ) → mistaken table first ≡ [] → first ≤ b → b < first + 32 → Entry b
  from first e l h =
      let test : ℕ → Bool = λ k. eqb (get_or table (first + k) 0) (remainder (first + k)) in
      let found = each test 32 (none_failed test 32 [] e).1 (b - first) (omega arith) in
      let place : first + (b - first) ≡ b = omega arith in
      subst Entry place (eqb→eq (get_or table (first + (b - first)) 0) (remainder (first + (b - first))) found)

  below : (n : ℕ) → (b < n → Entry b) → (n ≤ b → Entry b) → Entry b
  below n less not-less = go (ltb b n) refl
    where
      go : (t : Bool) → ltb b n ≡ t → Entry b
      go true t = less (ltb-true b n t)
      go false f = not-less (ltb-false b n f)

  entry : b < 256 → Entry b
  entry h =
      below 0x20 (λ l. from 0x00 right.at_00 (omega arith) l)
      (λ g. below 0x40 (λ l. from 0x20 right.at_20 g l)
      (λ g. below 0x60 (λ l. from 0x40 right.at_40 g l)
      (λ g. below 0x80 (λ l. from 0x60 right.at_60 g l)
      (λ g. below 0xA0 (λ l. from 0x80 right.at_80 g l)
      (λ g. below 0xC0 (λ l. from 0xA0 right.at_a0 g l)
      (λ g. below 0xE0 (λ l. from 0xC0 right.at_c0 g l)
      (λ g. from 0xE0 right.at_e0 g h)))))))

pub by_table : ByTable
unfolding crc_of
by_table table right bs h = ap (λ (r : ℕ). 0xFFFF - r) (all bs preset h)
  where
    all : (bs : List ℕ) (r : ℕ) → Bytes bs → looked_all table bs r ≡ bytes bs r
    all [] r h = refl
    all (b ∷ bs) r h =
        ap (looked_all table bs)
        (sym (at_once 8 b r h.0 ∙ ap (bit_xor (r / 256)) (sym (entry table right (bit_xor r b % 256) (mod-lt (bit_xor r b) (pow_pos 8))))))
        ∙ all bs (byte b r) h.1
