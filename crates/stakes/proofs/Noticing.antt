-- A byte that was changed is noticed: one of the ten by the CRC, one of the CRC by the ten, and the status by itself.
-- Assumes nothing.
use Prim.Native.Nat.{ℕ, zero, suc, ◌/◌, ◌%◌, ◌≤◌, ◌<◌}
use native.Mathlib.Omega.{arith}
use mathlib.Core.Path.{◌≡◌, refl, sym, ap, ◌∙◌, subst}
use mathlib.Core.Bool.{Bool, true, false}
use mathlib.Core.List.{List, [], ◌∷◌}
use lib.Dec.{ltb, eqb}
use lib.ListN.{length, get_or, set, take, length-set}
use lib.Seq.{length-take-le, get_or-set_same, get_or-set_other, take-set-le, take-set-lt, get_or-take}
use borrow.Author.Tests.{ltb-true, ltb-false, eqb-true, eqb-false}
use Rattle.words.specs.Words.{Bytes}
use Rattle.words.proofs.Words.{ways}
use Rattle.model.specs.Refusals.{number}
use Rattle.crc.specs.Crc.{crc_of}
use Rattle.crc.proofs.Changes.{tells}
use Rattle.stakes.specs.Stakes.{apart, read, number_in}
use Rattle.stakes.specs.Claims.{Closed, Notices}
use Rattle.stakes.proofs.Whole.{together_apart, refuses, put_together}

bytes_take : (n : ℕ) (xs : List ℕ) → Bytes xs → Bytes (take n xs)
bytes_take zero xs h = tt
bytes_take (suc n) [] h = tt
bytes_take (suc n) (x ∷ xs) h = (h.0, bytes_take n xs h.1)

-- the two bytes behind ten are their CRC
pub record Ends (xs : List ℕ) : Type 0 where
  pub low : get_or xs 10 0 ≡ crc_of (take 10 xs) % 256
  pub high : get_or xs 11 0 ≡ crc_of (take 10 xs) / 256

ends : (xs : List ℕ) → length xs ≡ 13 → Closed (apart xs) → Ends xs
ends xs l c =
    let same = together_apart xs l in
    record { low = c.low ∙ ap (λ (zs : List ℕ). crc_of (take 10 zs) % 256) same; high = c.high ∙ ap (λ (zs : List ℕ). crc_of (take 10 zs) / 256) same }

closes : (xs : List ℕ) → length xs ≡ 13 → Ends xs → Closed (apart xs)
closes xs l c =
    let same = sym (together_apart xs l) in
    record { low = c.low ∙ ap (λ (zs : List ℕ). crc_of (take 10 zs) % 256) same; high = c.high ∙ ap (λ (zs : List ℕ). crc_of (take 10 zs) / 256) same }

module _ (xs : List ℕ) (k b : ℕ) (l : length xs ≡ 13) (right : Ends xs) (inside : k < length xs) (ne : get_or xs k 0 ≡ b → ⊥) where
  abbrev ys : List ℕ
  ys = set xs k b

  kept : (j : ℕ) → (j ≡ k → ⊥) → get_or ys j 0 ≡ get_or xs j 0
  kept j other = get_or-set_other xs k j b 0 other

  -- one of the ten
  of_ten : k < 10 → Bytes xs → b < 256 → Ends ys → ⊥
  of_ten few bytes hb c =
      let ten = take-set-lt 10 xs k b few in
      let low : crc_of (set (take 10 xs) k b) % 256 ≡ crc_of (take 10 xs) % 256 =
      sym (c.low ∙ ap (λ (zs : List ℕ). crc_of zs % 256) ten) ∙ kept 10 (λ e. omega (arith, e, few)) ∙ right.low in
      let high : crc_of (set (take 10 xs) k b) / 256 ≡ crc_of (take 10 xs) / 256 =
      sym (c.high ∙ ap (λ (zs : List ℕ). crc_of zs / 256) ten) ∙ kept 11 (λ e. omega (arith, e, few)) ∙ right.high in
      let many = length-take-le 10 xs (omega (arith, l)) in
      tells (take 10 xs) k b (bytes_take 10 xs bytes) (omega (arith, few, many)) hb (λ e. ne (sym (get_or-take 10 xs k 0 few) ∙ e)) (omega (arith, low, high))

  -- one of the two behind them
  of_crc : 10 ≤ k → (k ≡ 12 → ⊥) → Ends ys → ⊥
  of_crc many other c = go (eqb k 10) refl
    where
      ten : take 10 ys ≡ take 10 xs
      ten = take-set-le 10 xs k b many

      changed : get_or ys k 0 ≡ b
      changed = get_or-set_same xs k b 0 inside

      go : (t : Bool) → eqb k 10 ≡ t → ⊥
      go true t =
          let at = eqb-true k 10 t in
          let same : get_or ys 10 0 ≡ get_or xs 10 0 = c.low ∙ ap (λ (zs : List ℕ). crc_of zs % 256) ten ∙ sym right.low in
          ne (ap (λ (j : ℕ). get_or xs j 0) at ∙ sym same ∙ ap (λ (j : ℕ). get_or ys j 0) (sym at) ∙ changed)
      go false f =
          let at : k ≡ 11 = omega (arith, l, inside, many, other, eqb-false k 10 f) in
          let same : get_or ys 11 0 ≡ get_or xs 11 0 = c.high ∙ ap (λ (zs : List ℕ). crc_of zs / 256) ten ∙ sym right.high in
          ne (ap (λ (j : ℕ). get_or xs j 0) at ∙ sym same ∙ ap (λ (j : ℕ). get_or ys j 0) (sym at) ∙ changed)

  -- the status leaves the CRC as it was
  of_status : k ≡ 12 → Ends ys
  of_status at =
      let ten : take 10 xs ≡ take 10 ys = sym (take-set-le 10 xs k b (omega (arith, at))) in
      record {
        low = kept 10 (λ e. omega (arith, e, at)) ∙ right.low ∙ ap (λ (zs : List ℕ). crc_of zs % 256) ten;
        high = kept 11 (λ e. omega (arith, e, at)) ∙ right.high ∙ ap (λ (zs : List ℕ). crc_of zs / 256) ten;
      }

pub notices : Notices
notices xs s k b e bytes inside hb ne =
    let whole = (put_together xs s).0 e in
    let l : length xs ≡ 13 = sym (ap length whole.0) in
    let right : Ends xs = subst Ends whole.0 (record { low = whole.1.low; high = whole.1.high }) in
    let still : length (set xs k b) ≡ 13 = length-set xs k b ∙ l in
    ways (λ (n : ℕ). number_in (read (set xs k b)) ≡ number n) (eqb k 12)
    (λ t.
    let at = eqb-true k 12 t in
    (refuses (set xs k b)).wrong_status.1 (
      still,
      closes (set xs k b) still (of_status xs k b l right inside ne at),
      λ zero. ne (ap (λ (j : ℕ). get_or xs j 0) at ∙ subst (λ (zs : List ℕ). get_or zs 12 0 ≡ 0) whole.0 whole.2 ∙ sym zero ∙ ap (λ (j : ℕ). get_or (set xs k b) j 0) (sym at) ∙ get_or-set_same xs k b 0 inside),
    ))
    (λ f. (refuses (set xs k b)).wrong_crc.1 (still, λ c. crc (eqb-false k 12 f) l right (ends (set xs k b) still c) (ltb k 10) refl))
  where
    crc : (k ≡ 12 → ⊥) → length xs ≡ 13 → Ends xs → Ends (set xs k b) → (t : Bool) → ltb k 10 ≡ t → ⊥
    crc other l right c true t = of_ten xs k b l right inside ne (ltb-true k 10 t) bytes hb c
    crc other l right c false f = of_crc xs k b l right inside ne (ltb-false k 10 f) other c
