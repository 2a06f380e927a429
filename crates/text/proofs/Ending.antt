-- Numbers and bytes end with no blank, and parts behind others end as the last do.
-- Assumes nothing.
use Prim.Native.Nat.{ℕ, suc, ◌+◌, ◌/◌, ◌%◌, ◌<◌}
use native.Mathlib.Omega.{arith}
use mathlib.Core.Path.{◌≡◌, sym, ap, subst}
use mathlib.Core.Bool.{Bool, false}
use mathlib.Core.List.{List, [], ◌∷◌, ◌++◌, append-nil}
use lib.Dec.{ltb}
use borrow.Author.Tests.{ne_eqb}
use Rattle.words.specs.Words.{pick, concat}
use Rattle.words.proofs.Words.{ways}
use Rattle.lines.specs.Lines.{blank}
use Rattle.text.specs.Writing.{hex, hexes, decimals, decimal, number}
use Rattle.text.specs.Ending.{last_of, EndsFull}

-- bytes that have a last one, and it is no blank
abbrev pub Full : List ℕ → Type 0
Full xs = blank (last_of 32 xs) ≡ false

-- such bytes behind others
behind : (before : ℕ) (xs ys : List ℕ) → Full ys → blank (last_of before (xs ++ ys)) ≡ false
behind before [] [] h = ap (λ (b : Bool). pick b (blank before) false) h
behind before [] (y ∷ ys) h = h
behind before (x ∷ xs) ys h = behind x xs ys h

pub alone : (part : List ℕ) → Full part → EndsFull (part ∷ [])
alone part h = subst Full (sym (append-nil part)) h

pub after : (parts more : List (List ℕ)) → EndsFull more → EndsFull (parts ++ more)
after [] more h = h
after (part ∷ parts) more h = behind 32 part (concat (parts ++ more)) (after parts more h)

-- ---- numbers and bytes

past_blanks : (x : ℕ) → 32 < x → blank x ≡ false
past_blanks x h = simp (ne_eqb x 32 (λ e. omega arith), ne_eqb x 9 (λ e. omega arith))

digits_end : (k n : ℕ) → Full (decimals (suc k) n)
digits_end k n =
    ways Full (ltb n 10) (λ e. past_blanks (48 + n) (omega arith))
    (λ e. behind 32 (decimals k (n / 10)) ((48 + n % 10) ∷ []) (past_blanks (48 + n % 10) (omega arith)))

pub number_ends : (n : ℕ) → EndsFull (number n)
number_ends n = after ((32 ∷ []) ∷ []) (decimal n ∷ []) (alone (decimal n) (digits_end 19 n))

pub byte_ends : (byte : ℕ) → Full (hex byte)
byte_ends byte =
    let d = byte % 16 in
    ways (λ (x : ℕ). blank x ≡ false) (ltb d 10) (λ e. past_blanks (48 + d) (omega arith)) (λ e. past_blanks (55 + d) (omega arith))

pub bytes_end : (byte : ℕ) (bytes : List ℕ) → EndsFull (hexes (byte ∷ bytes))
bytes_end byte [] = byte_ends byte
bytes_end byte (next ∷ bytes) = after (hex byte ∷ []) (hexes (next ∷ bytes)) (bytes_end next bytes)
