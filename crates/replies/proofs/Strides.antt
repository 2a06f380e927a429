-- Data bytes are a stride: as many as there are, or all that are to come. And a walk goes on behind a stride.
-- Assumes nothing.
use Prim.Native.Nat.{ℕ, ◌+◌, ◌-◌, ◌≤◌, ◌<◌}
use native.Mathlib.Omega.{arith}
use mathlib.Core.Path.{◌≡◌, sym, ap, ap₂, ◌∙◌, subst}
use mathlib.Core.List.{List, [], ◌∷◌}
use lib.ListN.{length, get_or, take, drop, take-append-drop, length-drop}
use lib.Seq.{length-take-le, take-length, take_all}
use Rattle.model.specs.declared.Form.{Form}
use Rattle.model.specs.declared.Phase.{Phase}
use Rattle.model.specs.declared.Phase.TheVariants.{Data}
use Rattle.model.specs.declared.End.{End}
use Rattle.model.specs.declared.End.TheVariants.{Good}
use Rattle.model.specs.declared.Step.{Step}
use Rattle.model.specs.declared.Step.TheVariants.{On, Over}
use Rattle.model.specs.declared.Walk.{Walk}
use Rattle.model.specs.Replies.{most_data, reached, used, walked}
use Rattle.model.proofs.Machine.{stays, no_more, reached_append, used_append, All, used_all, data_some, data_all}
use Rattle.replies.specs.Reading.{Strides}

abbrev pub walk : Step → ℕ → Walk
walk s n = record { step = s; used = n }

module _ (f : Form) where
  -- the walk over so many bytes
  strides : (p : Phase) (xs : List ℕ) (r : Walk) (s : Step) (n : ℕ) → r.step ≡ s → r.used ≡ n → 0 < n → n ≤ length xs
      → walked f (On p) (take n xs) ≡ walk s n → Strides f p xs r
  strides p xs r s n rs rn low most e = record {
    some = omega arith;
    most = omega arith;
    leads = ap₂ walk rs rn ∙ sym e ∙ ap (λ (k : ℕ). walked f (On p) (take k xs)) (sym rn);
  }

  module _ (h c : ℕ) (xs : List ℕ) where
    -- fewer than are to come
    pub stride_part : (r : Walk) → 0 < length xs → c ≤ most_data → length xs < c - h → r.step ≡ On (Data (h + length xs) c) → r.used ≡ length xs → Strides f (Data h c) xs r
    stride_part r some few lt s n =
        let e = data_some f h c xs few lt in
        strides (Data h c) xs r (On (Data (h + length xs) c)) (length xs) s n some (omega arith)
        (ap (walked f (On (Data h c))) (take-length xs)
        ∙ ap₂ walk e (subst (λ (t : Step). All t (used f (On (Data h c)) xs) (length xs)) e (used_all f (On (Data h c)) xs)))

    -- all
    pub stride_all : (r : Walk) → h < c → c ≤ most_data → c - h ≤ length xs → r.step ≡ Over Good → r.used ≡ c - h → Strides f (Data h c) xs r
    stride_all r lt few le s n =
        let e = length-take-le (c - h) xs le in
        let m = data_all f h c (take (c - h) xs) lt few (omega arith) in
        strides (Data h c) xs r (Over Good) (c - h) s n (omega arith) le (ap₂ walk m.0 m.1)

-- ---- what is left to do, at a rest of the piece

pub record Left (f : Form) (s₀ : Step) (xs : List ℕ) (s : Step) (rest : List ℕ) : Type 0 where
  pub inside : length rest ≤ length xs
  pub leads : reached f s₀ xs ≡ reached f s rest
  pub reads : used f s₀ xs ≡ length xs - length rest + used f s rest

-- a first byte and the bytes behind it
taken_apart : (rest : List ℕ) → 1 ≤ length rest → get_or rest 0 0 ∷ take (length rest - 1) (drop 1 rest) ≡ rest
taken_apart [] some = absurd (omega arith)
taken_apart (x ∷ xs) some = ap (λ (ys : List ℕ). x ∷ ys) (take_all (length (x ∷ xs) - 1) xs (omega arith))

module _ (f : Form) (s₀ : Step) (xs : List ℕ) where
  pub left_on : (q : Phase) (rest : List ℕ) (w : Walk) (s : Step) → 1 ≤ length rest → w.step ≡ s
      → Strides f q (get_or rest 0 0 ∷ take (length rest - 1) (drop 1 rest)) w → Left f s₀ xs (On q) rest
      → Left f s₀ xs s (take (length rest - w.used) (drop w.used rest))
  left_on q rest w s some e strode left =
      let st : Strides f q rest w = subst (λ (l : List ℕ). Strides f q l w) (taken_apart rest some) strode in
      let n = w.used in
      let here : reached f (On q) (take n rest) ≡ s = ap (λ (v : Walk). v.step) (sym st.leads) ∙ e in
      let read : used f (On q) (take n rest) ≡ n = ap (λ (v : Walk). v.used) (sym st.leads) in
      let cut = sym (take-append-drop n rest) in
      subst (Left f s₀ xs s) (sym (take_all (length rest - n) (drop n rest) (omega (arith, length-drop n rest))))
      (record {
        inside = omega (arith, length-drop n rest, left.inside);
        leads = left.leads ∙ ap (reached f (On q)) cut ∙ reached_append f (On q) (take n rest) (drop n rest) ∙ ap (λ (t : Step). reached f t (drop n rest)) here;
        reads = omega (arith, left.inside, left.reads, st.most, length-drop n rest, read, ap (used f (On q)) cut, used_append f (On q) (take n rest) (drop n rest), ap (λ (t : Step). used f t (drop n rest)) here);
      })

  -- the reply is over, and the piece is
  pub left_over : (e : End) (rest : List ℕ) → Left f s₀ xs (Over e) rest → walk (Over e) (length xs - length rest) ≡ walked f s₀ xs
  left_over e rest left = sym (ap₂ walk (left.leads ∙ stays f e rest) (omega (arith, left.reads, no_more f e rest)))
