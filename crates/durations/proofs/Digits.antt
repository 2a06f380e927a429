-- Digits behind the point, one after the other.
-- Assumes nothing.
use Rattle.std.proofs.Common.{◌≡◌, ℕ, zero, suc, ◌+◌, ◌-◌, ◌*◌, ◌/◌, ◌%◌, ◌<◌, List, [], ◌∷◌, ◌++◌, length, take, set, sym, refl, append_assoc, lt_irrefl, add-one, arith, take-suc-set, ne_eqb}
use Rattle.lines.specs.Lines.{fore}
use Rattle.text.specs.Adding.{Adds}
use Rattle.text.specs.Writing.{word, number}
use Rattle.text.specs.declared.Text.{Text}
use Rattle.text.proofs.Adding.{◌then◌, by}
use Rattle.durations.specs.Milliseconds.{fraction, pointed, behind_point, milliseconds_text}

-- what is written, with the digits that are still to come
abbrev pub whole : ℕ → List ℕ → ℕ → ℕ → List ℕ
whole size digits i rest = take i digits ++ fraction (size - i) rest

module _ (size : ℕ) (digits : List ℕ) (same : size ≡ length digits) (i rest : ℕ) where
  -- one digit more
  pub digit_on : i < size → (rest ≡ 0 → ⊥) → whole size (set digits i (48 + rest * 10 / 32)) (i + 1) (rest * 10 % 32) ≡ whole size digits i rest
  digit_on inside some =
      let left : size - i ≡ suc (size - suc i) = omega arith in
      rw (left, add-one i, take-suc-set digits i (48 + rest * 10 / 32) (omega arith))
      (simp (ne_eqb rest 0 some) (append_assoc (take i digits) ((48 + rest * 10 / 32) ∷ []) (fraction (size - suc i) (rest * 10 % 32))))

-- ---- milliseconds, by the number and the digits behind it

-- digits behind a point
point : (digits : List ℕ) (count : ℕ) → 0 < length digits → (count ≡ 0 → ⊥) → pointed (fore digits count) ≡ word "." ∷ fore digits count ∷ []
point [] count long some = absurd (lt_irrefl 0 long)
point (digit ∷ digits) zero long some = absurd (some refl)
point (digit ∷ digits) (suc count) long some = refl

module _ (t count : ℕ) (digits : List ℕ) (spelled : fore digits count ≡ behind_point t) where
  -- a point before digits
  pub adds_pointed : {part : List ℕ} {old one two new : Text} → 0 < length digits → (count ≡ 0 → ⊥) → part ≡ fore digits count
      → Adds old (number (t / 32)) one → Adds one (word "." ∷ []) two → Adds two (part ∷ []) new → Adds old (milliseconds_text t) new
  adds_pointed long some is first dot last =
      by (λ (l : List ℕ). number (t / 32) ++ pointed l) (sym spelled)
      (by (λ (more : List (List ℕ)). number (t / 32) ++ more) (point digits count long some)
      (first then dot then by (λ (l : List ℕ). l ∷ []) (sym is) last))
