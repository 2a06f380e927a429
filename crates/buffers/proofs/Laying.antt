-- Three parts laid at the front of a buffer, one behind the other.
-- Assumes nothing.
use Rattle.std.specs.Prelude.{Some}
use Prim.Native.Nat.{ℕ, ◌+◌, ◌-◌, ◌≤◌}
use native.Mathlib.Omega.{arith}
use mathlib.Core.Path.{◌≡◌, sym, ap, ap₂, ◌∙◌}
use mathlib.Core.List.{List, [], ◌++◌}
use lib.ListN.{length, drop, length-append, length-drop}
use lib.Seq.{take-length, take-append_seam, drop-append-add, drop-drop}
use borrow.Author.Tests.{le-ltb}
use Rattle.words.specs.Contract.{Is}
use Rattle.words.specs.Words.{pasted, over, laid}
use Rattle.buffers.proofs.Pasting.{fits}

-- one part more behind those that stand there
over_more : (xs ys out : List ℕ) → length xs + length ys ≤ length out → pasted (over xs out) ys (length xs) ≡ over (xs ++ ys) out
over_more xs ys out h =
    let whole : length (over xs out) ≡ length xs + (length out - length xs) = length-append xs (drop (length xs) out) ∙ ap (λ (n : ℕ). length xs + n) (length-drop (length xs) out) in
    fits (over xs out) ys (length xs) (omega arith)
    ∙ simp (
      take-append_seam xs (drop (length xs) out),
      take-length ys,
      drop-append-add xs (drop (length xs) out) (length ys),
      drop-drop (length ys) (length xs) out,
      length-append xs ys,
    )

-- three parts, each copied behind the one before it
module _ (a b d out : List ℕ) where
  count : length (a ++ b ++ d) ≡ length a + length b + length d
  count = simp (length-append (a ++ b) d, length-append a b)

  pub laid_three : (e₁ e₂ e₃ : List ℕ) → length a + length b + length d ≤ length out
      → e₁ ≡ pasted out a 0 → e₂ ≡ pasted e₁ b (length a) → e₃ ≡ pasted e₂ d (length a + length b)
      → Is (laid (a ++ b ++ d) out) (Some (length a + length b + length d)) e₃
  laid_three e₁ e₂ e₃ h h₁ h₂ h₃ =
      let f₁ : e₁ ≡ over a out = h₁ ∙ over_more [] a out (omega arith) in
      let f₂ : e₂ ≡ over (a ++ b) out = h₂ ∙ ap (λ (l : List ℕ). pasted l b (length a)) f₁ ∙ over_more a b out (omega arith) in
      let f₃ : e₃ ≡ over (a ++ b ++ d) out =
      h₃ ∙ ap₂ (λ (l : List ℕ) (n : ℕ). pasted l d n) f₂ (sym (length-append a b)) ∙ over_more (a ++ b) d out (omega (arith, length-append a b)) in
      simp (le-ltb (length out) (length (a ++ b ++ d)) (rw count h)) (record { answer = ap Some (sym count); bytes = f₃ })
