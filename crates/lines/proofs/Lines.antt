-- As many bytes are taken from the front as the rules of blanks and of words count.
-- Assumes nothing.
use Rattle.std.proofs.Common.{◌≡◌, ℕ, ◌+◌, Bool, true, false, cond, not, List, [], ◌∷◌, refl, ap}
use Rattle.std.specs.List.{prefix_len}
use Rattle.words.specs.Words.{pick}
use Rattle.lines.specs.Lines.{blank, blanks, word_length}

one_more : (b : Bool) {m n : ℕ} → m ≡ n → cond b (1 + m) 0 ≡ pick b (1 + n) 0
one_more true e = ap (λ (k : ℕ). 1 + k) e
one_more false e = refl

none_more : (b : Bool) {m n : ℕ} → m ≡ n → cond (not b) (1 + m) 0 ≡ pick b 0 (1 + n)
none_more true e = refl
none_more false e = ap (λ (k : ℕ). 1 + k) e

pub blanks_first : (xs : List ℕ) → prefix_len blank xs ≡ blanks xs
blanks_first [] = refl
blanks_first (x ∷ xs) = one_more (blank x) (blanks_first xs)

pub word_first : (xs : List ℕ) → prefix_len (λ (x : ℕ). not (blank x)) xs ≡ word_length xs
word_first [] = refl
word_first (x ∷ xs) = none_more (blank x) (word_first xs)
