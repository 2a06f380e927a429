-- RdReg asks for the two registers and nothing else, and WrReg is given what the claim lists and nothing else.
-- Assumes nothing.
use Prim.Native.Nat.{ℕ, ◌+◌, ◌*◌, ◌/◌, ◌%◌, ◌≤◌, ◌<◌}
use native.Mathlib.Omega.{arith}
use mathlib.Core.Path.{◌≡◌, refl, sym, ap, ap₂, ◌∙◌, subst}
use mathlib.Core.Bool.{Bool, true, ◌&&◌, ◌||◌, true≢false}
use mathlib.Core.Logic.{◌⊎◌, inl, inr}
use mathlib.Core.List.{List, [], ◌∷◌}
use lib.Dec.{T, ltb, leb, eqb, ltb→lt}
use lib.Ieee.Fits.{and_l, and_r}
use lib.ListN.{length, get_or}
use borrow.Author.Tests.{le-leb, eqb-true, leb-true}
use Rattle.model.specs.declared.Kind.TheVariants.{WrReg}
use Rattle.model.specs.Frames.{row, fits, permits}
use Rattle.model.specs.Registers.{is_read, modulations, gains, is_tuning, is_index, is_window, read_allowed, is_write, sets_index, tunes, sets_window, write_allowed}
use Rattle.model.specs.Claims.{RegistersRead, RegisterData, index, tuning, window, RegistersWritten}
use Rattle.model.proofs.Frames.{both}
use Rattle.model.proofs.Idling.{either}
use Rattle.words.specs.Words.{among}
use Rattle.words.proofs.Words.{elements_all}

-- ---- RdReg

module _ (xs : List ℕ) (register size reserved : ℕ) (is : xs ≡ register ∷ size ∷ reserved ∷ []) where
  read_by : (known : ℕ) → eqb register known ≡ true → eqb size 0x01 ≡ true → eqb reserved 0x00 ≡ true → xs ≡ known ∷ 0x01 ∷ 0x00 ∷ []
  read_by known a b c =
      is ∙ ap (λ (x : ℕ). x ∷ size ∷ reserved ∷ []) (eqb-true register known a)
      ∙ ap₂ (λ (x y : ℕ). known ∷ x ∷ y ∷ []) (eqb-true size 0x01 b) (eqb-true reserved 0x00 c)

  read_either : (is_read register && eqb size 0x01 && eqb reserved 0x00) ≡ true → (xs ≡ 0x62 ∷ 0x01 ∷ 0x00 ∷ []) ⊎ (xs ≡ 0x69 ∷ 0x01 ∷ 0x00 ∷ [])
  read_either h =
      let (front, c) = both (is_read register && eqb size 0x01) (eqb reserved 0x00) h in
      let (a, b) = both (is_read register) (eqb size 0x01) front in
      elim (either (eqb register 0x62) (eqb register 0x69) a) [
        | inl e ↦ inl (read_by 0x62 e b c)
        | inr e ↦ inr (read_by 0x69 e b c)
      ]

pub registers_read : RegistersRead
registers_read xs = (
  λ h.
      let (fit, ok) = both (leb 3 (length xs) && leb (length xs) 3) (read_allowed xs) h in
      let (least, greatest) = both (leb 3 (length xs)) (leb (length xs) 3) fit in
      read_either xs (get_or xs 0 0) (get_or xs 1 0) (get_or xs 2 0)
      (sym (elements_all 3 0 xs (omega (arith, leb-true 3 (length xs) least, leb-true (length xs) 3 greatest)))) ok,
  λ o. elim o [
    | inl e ↦ simp e refl
    | inr e ↦ simp e refl
  ],
)

-- ---- WrReg

-- each of some is less than n
abbrev under : ℕ → List ℕ → Bool
under n [] = true
under n (y ∷ ys) = ltb y n && under n ys

below : (n x : ℕ) (ys : List ℕ) → T (under n ys) → among x ys ≡ true → x < n
below n x [] t h = absurd (true≢false (sym h))
below n x (y ∷ ys) t h =
    elim (either (eqb x y) (among x ys) h) [
      | inl e ↦ omega (arith, eqb-true x y e, ltb→lt y n (and_l (ltb y n) (under n ys) t))
      | inr o ↦ below n x ys (and_r (ltb y n) (under n ys) t) o
    ]

-- a value is its two nibbles, and the nibbles of two codes are these
nibbles : (v : ℕ) → v ≡ 16 * (v / 16) + v % 16
nibbles v = omega arith

tuned : (m g : ℕ) → among m modulations ≡ true → among g gains ≡ true → is_tuning (16 * m + g) ≡ true
tuned m g a b =
    let l : g < 16 = below 16 g gains tt b in
    let high : (16 * m + g) / 16 ≡ m = omega arith in
    let low : (16 * m + g) % 16 ≡ g = omega arith in
    ap₂ (λ (x y : ℕ). among x modulations && among y gains) high low ∙ ap₂ (λ (x y : Bool). x && y) a b

module _ (xs : List ℕ) where
  -- so many bytes, of which the first and the flag are known
  record Write (n address : ℕ) : Type 0 where
    count : length xs ≡ n
    to : get_or xs 0 0 ≡ address
    flag : get_or xs 1 0 ≤ 1

  write : (n address : ℕ) → is_write n address xs ≡ true → Write n address
  write n address h =
      let (front, f) = both (eqb (length xs) n && eqb (get_or xs 0 0) address) (leb (get_or xs 1 0) 0x01) h in
      let (c, a) = both (eqb (length xs) n) (eqb (get_or xs 0 0) address) front in
      record { count = eqb-true (length xs) n c; to = eqb-true (get_or xs 0 0) address a; flag = leb-true (get_or xs 1 0) 0x01 f }

  three : (address x : ℕ) → Write 3 address → get_or xs 2 0 ≡ x → address ∷ get_or xs 1 0 ∷ x ∷ [] ≡ xs
  three address x w q = ap₂ (λ (b y : ℕ). b ∷ get_or xs 1 0 ∷ y ∷ []) (sym w.to) (sym q) ∙ elements_all 3 0 xs w.count

  four : (address x y : ℕ) → Write 4 address → get_or xs 2 0 ≡ x → get_or xs 3 0 ≡ y → address ∷ get_or xs 1 0 ∷ x ∷ y ∷ [] ≡ xs
  four address x y w q r =
      ap (λ (b : ℕ). b ∷ get_or xs 1 0 ∷ x ∷ y ∷ []) (sym w.to) ∙ ap₂ (λ (b z : ℕ). get_or xs 0 0 ∷ get_or xs 1 0 ∷ b ∷ z ∷ []) (sym q) (sym r)
      ∙ elements_all 4 0 xs w.count

  by_index : sets_index xs ≡ true → RegisterData xs
  by_index h =
      let (front, i) = both (is_write 3 0x68 xs) (is_index (get_or xs 2 0)) h in
      let w = write 3 0x68 front in
      subst RegisterData (three 0x68 0x01 w (eqb-true (get_or xs 2 0) 0x01 i)) (index (get_or xs 1 0) w.flag)

  by_tuning : tunes xs ≡ true → RegisterData xs
  by_tuning h =
      let v = get_or xs 3 0 in
      let (former, t) = both (is_write 4 0x68 xs && is_index (get_or xs 2 0)) (is_tuning v) h in
      let (front, i) = both (is_write 4 0x68 xs) (is_index (get_or xs 2 0)) former in
      let (m, g) = both (among (v / 16) modulations) (among (v % 16) gains) t in
      let w = write 4 0x68 front in
      subst RegisterData (four 0x68 0x01 (16 * (v / 16) + v % 16) w (eqb-true (get_or xs 2 0) 0x01 i) (nibbles v))
      (tuning (get_or xs 1 0) (v / 16) (v % 16) w.flag m g)

  by_window : sets_window xs ≡ true → RegisterData xs
  by_window h =
      let v = get_or xs 2 0 in
      let (former, c) = both (is_write 4 0x3A xs && is_window v) (eqb (get_or xs 3 0) 0x04) h in
      let (front, b) = both (is_write 4 0x3A xs) (is_window v) former in
      let (least, greatest) = both (leb 0x50 v) (leb v 0x60) b in
      let w = write 4 0x3A front in
      subst RegisterData (four 0x3A v 0x04 w refl (eqb-true (get_or xs 3 0) 0x04 c))
      (window (get_or xs 1 0) v w.flag (leb-true 0x50 v least) (leb-true v 0x60 greatest))

  only : write_allowed xs ≡ true → RegisterData xs
  only h =
      elim (either (sets_index xs || tunes xs) (sets_window xs) h) [
        | inl o ↦ elim (either (sets_index xs) (tunes xs) o) [ inl i ↦ by_index i | inr t ↦ by_tuning t ]
        | inr w ↦ by_window w
      ]

-- and each of these is permitted
permitted : (xs : List ℕ) → RegisterData xs → permits WrReg xs ≡ true
permitted _ (index f l) = simp (le-leb f 1 l) refl
permitted _ (tuning f m g l a b) = simp (le-leb f 1 l, tuned m g a b) refl
permitted _ (window f v l least greatest) = simp (le-leb f 1 l, le-leb 0x50 v least, le-leb v 0x60 greatest) refl

pub registers_written : RegistersWritten
registers_written xs = (λ h. only xs (both (fits (row WrReg) xs) (write_allowed xs) h).1, permitted xs)
