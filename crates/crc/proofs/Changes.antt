-- A byte goes into the register one to one, so that a byte that was changed is told.
-- Assumes nothing.
use Prim.Native.Nat.{ℕ, zero, suc, ◌+◌, ◌*◌, ◌/◌, ◌%◌, ◌<◌}
use native.Mathlib.Nat.{not-suc-le-zero, le_of_suc-le-suc}
use native.Mathlib.Omega.{arith}
use mathlib.Core.Path.{◌≡◌, refl, sym, ap, ◌∙◌}
use mathlib.Core.Bool.{true, false}
use mathlib.Core.List.{List, [], ◌∷◌}
use lib.Bits.{bit_xor, xor_lt, xor_shr, xor_zero_r}
use lib.Dec.{ltb, eqb}
use lib.ListN.{length, get_or, set}
use borrow.Author.Tests.{eqb-true, eqb-false, lt-ltb, le-ltb}
use Rattle.words.specs.Words.{pick, Bytes}
use Rattle.words.proofs.Words.{ways}
use Rattle.crc.specs.Crc.{polynomial, preset, shifted, bits, byte, bytes, crc_of}
use Rattle.crc.specs.Claims.{OneToOne, Tells, TwoBytes}
use Rattle.crc.proofs.Xor.{xor_back, xor_same_r, xor_same_l}
use Rattle.crc.proofs.Rule.{added}

-- ---- the register keeps its sixteen bits

shifted_lt : (bit r : ℕ) → r < 65536 → shifted bit r < 65536
shifted_lt bit r h = ways (λ (x : ℕ). x < 65536) (eqb (bit_xor (r % 2) bit) 1) (λ _. xor_lt 16 (r / 2) polynomial (omega arith) (omega arith)) (λ _. omega arith)

bits_lt : (n x r : ℕ) → r < 65536 → bits n x r < 65536
bits_lt zero x r h = h
bits_lt (suc n) x r h = bits_lt n (x / 2) (shifted (x % 2) r) (shifted_lt (x % 2) r h)

bytes_lt : (bs : List ℕ) (r : ℕ) → r < 65536 → bytes bs r < 65536
bytes_lt [] r h = h
bytes_lt (b ∷ bs) r h = bytes_lt bs (byte b r) (bits_lt 8 b r h)

pub two_bytes : TwoBytes
unfolding crc_of
two_bytes bs = omega arith

-- ---- zeros go in one to one

-- what a register held before it took a zero: its highest bit tells what was shifted out
abbrev before : ℕ → ℕ
before r = pick (ltb r 32768) (r * 2) (bit_xor r polynomial * 2 + 1)

before_shifted : (r : ℕ) → r < 65536 → before (shifted 0 r) ≡ r
before_shifted r h = ways (λ (x : ℕ). before x ≡ r) (eqb (bit_xor (r % 2) 0) 1) odd even
  where
    odd : eqb (bit_xor (r % 2) 0) 1 ≡ true → before (bit_xor (r / 2) polynomial) ≡ r
    odd t =
        let one : r % 2 ≡ 1 = sym (xor_zero_r (r % 2)) ∙ eqb-true (bit_xor (r % 2) 0) 1 t in
        let whole : r / 2 * 2 + 1 ≡ r = omega arith in
        let low : r / 2 / 32768 ≡ 0 = omega arith in
        let top : bit_xor (r / 2) polynomial / 32768 ≡ 1 = xor_shr (r / 2) polynomial 15 ∙ ap (λ (x : ℕ). bit_xor x 1) low in
        simp (le-ltb (bit_xor (r / 2) polynomial) 32768 (omega arith)) (ap (λ (x : ℕ). x * 2 + 1) (xor_back (r / 2) polynomial) ∙ whole)

    even : eqb (bit_xor (r % 2) 0) 1 ≡ false → before (r / 2) ≡ r
    even f =
        let none : r % 2 ≡ 1 → ⊥ = λ e. eqb-false (bit_xor (r % 2) 0) 1 f (xor_zero_r (r % 2) ∙ e) in
        simp (lt-ltb (r / 2) 32768 (omega arith)) (omega (arith, none))

zeros_one : (n r r' : ℕ) → r < 65536 → r' < 65536 → bits n 0 r ≡ bits n 0 r' → r ≡ r'
zeros_one zero r r' h h' e = e
zeros_one (suc n) r r' h h' e =
    sym (before_shifted r h)
    ∙ ap before (zeros_one n (shifted 0 r) (shifted 0 r') (shifted_lt 0 r h) (shifted_lt 0 r' h') e)
    ∙ before_shifted r' h'

-- ---- and so do bytes

-- a byte is added to the register
sum : (b b' r r' : ℕ) → b < 256 → b' < 256 → r < 65536 → r' < 65536 → byte b r ≡ byte b' r' → bit_xor r b ≡ bit_xor r' b'
sum b b' r r' hb hb' hr hr' e =
    zeros_one 8 (bit_xor r b) (bit_xor r' b') (xor_lt 16 r b hr (omega arith)) (xor_lt 16 r' b' hr' (omega arith))
    (sym (added 8 b r hb) ∙ e ∙ added 8 b' r' hb')

pub one_to_one : OneToOne
one_to_one b b' r r' hb hb' hr hr' e =
    let sums = sum b b' r r' hb hb' hr hr' e in
    (λ same. xor_same_r r r' b' (ap (bit_xor r) (sym same) ∙ sums), λ same. xor_same_l r' b b' (ap (λ (x : ℕ). bit_xor x b) (sym same) ∙ sums))

-- ---- a byte among others

bytes_one : (bs : List ℕ) (r r' : ℕ) → Bytes bs → r < 65536 → r' < 65536 → bytes bs r ≡ bytes bs r' → r ≡ r'
bytes_one [] r r' h hr hr' e = e
bytes_one (b ∷ bs) r r' h hr hr' e =
    (one_to_one b b r r' h.0 h.0 hr hr' (bytes_one bs (byte b r) (byte b r') h.1 (bits_lt 8 b r hr) (bits_lt 8 b r' hr') e)).0 refl

changed : (bs : List ℕ) (k b r : ℕ) → Bytes bs → k < length bs → b < 256 → r < 65536 → bytes (set bs k b) r ≡ bytes bs r → get_or bs k 0 ≡ b
changed [] k b r h l hb hr e = absurd (not-suc-le-zero l)
changed (x ∷ bs) zero b r h l hb hr e =
    (one_to_one x b r r h.0 hb hr hr (bytes_one bs (byte x r) (byte b r) h.1 (bits_lt 8 x r hr) (bits_lt 8 b r hr) (sym e))).1 refl
changed (x ∷ bs) (suc k) b r h l hb hr e = changed bs k b (byte x r) h.1 (le_of_suc-le-suc l) hb (bits_lt 8 x r hr) e

pub tells : Tells
unfolding crc_of
tells bs k b h l hb other e =
    let before = bytes_lt bs preset (omega arith) in
    let after = bytes_lt (set bs k b) preset (omega arith) in
    other (changed bs k b preset h l hb (omega arith) (omega (arith, e, before, after)))
