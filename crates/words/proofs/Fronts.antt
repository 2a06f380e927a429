-- A call on the front of a buffer: all of it, or the part that is lent.
-- Assumes nothing.
use Prim.Native.Nat.{ℕ, ◌-◌, ◌≤◌}
use native.Mathlib.Omega.{arith}
use mathlib.Core.Path.{◌≡◌, sym, ap, ◌∙◌}
use mathlib.Core.List.{List, ◌++◌, append-nil}
use lib.ListN.{length, take, drop, drop_of_length-le}
use lib.Seq.{take_all}
use borrow.Rule.Slice.PartMut.{mid_of, put_mid}
use Rattle.words.specs.Contract.{Ran, Is, on_front}

-- all of a buffer that is not longer than what is lent
pub on_all : {A : Type 0} (n : ℕ) (buffer : List ℕ) (run : List ℕ → Ran A) {r : A} {exit : List ℕ} → length buffer ≤ n → Is (run buffer) r exit
    → Is (on_front n buffer run) r exit
on_all n buffer run {r} {exit} h is =
    let all : buffer ≡ take n buffer = sym (take_all n buffer h) in
    record {
      answer = is.answer ∙ ap (λ (xs : List ℕ). (run xs).answer) all;
      bytes =
          is.bytes
          ∙ ap (λ (xs : List ℕ). (run xs).bytes) all
          ∙ sym (ap (λ (xs : List ℕ). (run (take n buffer)).bytes ++ xs) (drop_of_length-le buffer {i = n} h) ∙ append-nil (run (take n buffer)).bytes);
    }

-- the front of a longer one, which is lent as a part
pub on_front_lem : {A : Type 0} (n : ℕ) (buffer : List ℕ) (run : List ℕ → Ran A) {part : List ℕ} {r : A}
    → Is (run (mid_of 0 (n - 0) buffer)) r part → Is (on_front n buffer run) r (put_mid 0 (n - 0) buffer part)
on_front_lem n buffer run {part} is =
    let whole : n - 0 ≡ n = omega arith in
    record {
      answer = is.answer ∙ ap (λ (k : ℕ). (run (take k buffer)).answer) whole;
      bytes =
          ap (λ (k : ℕ). put_mid 0 k buffer part) whole
          ∙ ap (λ (xs : List ℕ). xs ++ drop n buffer) (is.bytes ∙ ap (λ (k : ℕ). (run (take k buffer)).bytes) whole);
    }
