-- A stake is its thirteen bytes, and which bytes are refused.
-- Assumes nothing.
use Rattle.std.specs.Prelude.{Ok}
use Prim.Native.Nat.{ℕ, ◌/◌, ◌%◌}
use mathlib.Core.Path.{◌≡◌, refl, sym, ap, subst, ◌∙◌}
use mathlib.Core.Bool.{Bool, true, false, true≢false}
use mathlib.Core.Logic.{◌↔◌}
use mathlib.Core.List.{List}
use lib.Dec.{T, eqb, eqb→eq}
use lib.Ieee.Fits.{and_l, and_r}
use lib.ListN.{length, take}
use borrow.Author.Tests.{eqb-true, eqb-false, eq-eqb, ne_eqb}
use Rattle.words.proofs.Words.{elements_all}
use Rattle.words.proofs.Contract.{one_answer, one_outcome}
use Rattle.crc.specs.Crc.{crc_of}
use Rattle.stakes.specs.declared.Crc.{Crc}
use Rattle.stakes.specs.declared.Stake.{Stake}
use Rattle.stakes.specs.Stakes.{together, apart, is_of, is_thirteen, is_closed, is_zero, read, write}
use Rattle.stakes.specs.Claims.{Closed, Refuses, PutTogether, OneEach}
use Rattle.stakes.proofs.Judging.{first, second, third, none_holds}

pub together_apart : (xs : List ℕ) → length xs ≡ 13 → together (apart xs) ≡ xs
together_apart xs e = elements_all 13 0 xs e

-- ---- the tests

is_of_so : (crc : Crc) (bs : List ℕ) → (is_of crc bs ≡ true) ↔ ((crc.low ≡ crc_of bs % 256) × (crc.high ≡ crc_of bs / 256))
is_of_so crc bs =
    let low = eqb crc.low (crc_of bs % 256) in
    let high = eqb crc.high (crc_of bs / 256) in (
      λ e. let t : T (is_of crc bs) = subst T (sym e) tt in
          (eqb→eq crc.low (crc_of bs % 256) (and_l low high t), eqb→eq crc.high (crc_of bs / 256) (and_r low high t)),
      λ e. simp (eq-eqb crc.low (crc_of bs % 256) e.0, eq-eqb crc.high (crc_of bs / 256) e.1),
    )

pub closed_so : (xs : List ℕ) → length xs ≡ 13 → (is_closed xs ≡ true) ↔ Closed (apart xs)
closed_so xs e =
    let same : take 10 (together (apart xs)) ≡ take 10 xs = ap (take 10) (together_apart xs e) in
    let so = is_of_so (apart xs).crc (take 10 (together (apart xs))) in (
      λ t. let c = so.0 (ap (is_of (apart xs).crc) same ∙ t) in record { low = c.0; high = c.1 },
      λ c. sym (ap (is_of (apart xs).crc) same) ∙ so.1 (c.low, c.high),
    )

untrue : (b : Bool) → (b ≡ true → ⊥) → b ≡ false
untrue true h = absurd (h refl)
untrue false h = refl

-- ---- the refusals

pub refuses : Refuses
refuses xs =
    let a = is_thirteen xs in
    let b = is_closed xs in
    let c = is_zero xs in
    let s = apart xs in
    let thirteen : a ≡ true → length xs ≡ 13 = eqb-true (length xs) 13 in
    let is_thirteen_lem : length xs ≡ 13 → a ≡ true = eq-eqb (length xs) 13 in
    let at-13 = first a b c s in
    let at-14 = second a b c s in
    let at-15 = third a b c s in
    record {
      other_length = (λ e. eqb-false (length xs) 13 (at-13.0 e), λ n. at-13.1 (ne_eqb (length xs) 13 n));
      wrong_crc = (
        λ e. let t = at-14.0 e in (thirteen t.0, λ k. true≢false (sym ((closed_so xs (thirteen t.0)).1 k) ∙ t.1)),
        λ n. at-14.1 (is_thirteen_lem n.0, untrue b (λ t. n.1 ((closed_so xs n.0).0 t))),
      );
      wrong_status = (
        λ e. let t = at-15.0 e in (thirteen t.0, (closed_so xs (thirteen t.0)).0 t.1, eqb-false s.status 0x00 t.2),
        λ n. at-15.1 (is_thirteen_lem n.0, (closed_so xs n.0).1 n.1, ne_eqb s.status 0x00 n.2),
      );
    }

-- ---- taken apart, and put together

pub put_together : PutTogether
put_together xs s =
    let so = none_holds (is_thirteen xs) (is_closed xs) (is_zero xs) (apart xs) s in (
      λ e.
          let t = so.0 e in
          let thirteen = eqb-true (length xs) 13 t.0 in (
            ap together (sym t.3) ∙ together_apart xs thirteen,
            subst Closed t.3 ((closed_so xs thirteen).0 t.1),
            ap (λ (z : Stake). z.status) (sym t.3) ∙ eqb-true (apart xs).status 0x00 t.2,
          ),
      λ n. subst (λ (ys : List ℕ). read ys ≡ Ok s) n.0 (whole s n.1 n.2),
    )
  where
    whole : (s : Stake) → Closed s → s.status ≡ 0 → read (together s) ≡ Ok s
    whole s closed zero =
        (none_holds true (is_closed (together s)) (is_zero (together s)) s s).1 (refl, (closed_so (together s) refl).1 closed, eq-eqb s.status 0x00 zero, refl)

pub one_each : OneEach
one_each = record { reads = λ xs. one_answer (read xs); writes = λ slots out. one_outcome (write slots out) }
