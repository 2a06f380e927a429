-- A number that is written is read back.
-- Assumes nothing.
use Prim.Native.Nat.{ℕ, zero, suc, ◌+◌, ◌-◌, ◌*◌, ◌/◌, ◌%◌, ◌^◌, ◌≤◌, ◌<◌}
use native.Mathlib.Nat.{pow-suc}
use native.Mathlib.Numerals.{one-add}
use native.Mathlib.Omega.{arith}
use mathlib.Core.Path.{◌≡◌, refl, sym, ap, ap₂, ◌∙◌}
use mathlib.Core.Bool.{Bool, true, false, ◌&&◌}
use mathlib.Core.List.{List, [], ◌∷◌, ◌++◌, append-nil, append_assoc}
use lib.Dec.{ltb, eqb}
use lib.ListN.{length, take, drop, length-append}
use lib.Seq.{take_all, length-take-le, drop_at}
use borrow.Author.Tests.{le-leb, eqb-true, ltb-true, ltb-false}
use Rattle.std.specs.Prelude.{Result, Ok}
use Rattle.std.specs.Char.{is_ascii_digit}
use Rattle.std.proofs.lemmas.Bool.{both_ways}
use Rattle.std.proofs.lemmas.List.Folds.{list_all-append}
use Rattle.words.specs.Words.{pick, concat}
use Rattle.lines.specs.Lines.{blank, blanks, word_length, skipped, word_end, between}
use Rattle.text.specs.Writing.{written, decimals, decimal, number}
use Rattle.text.specs.Claims.{line}
use Rattle.text.proofs.Joined.{joined}
use Rattle.digits.specs.declared.Number.{Number}
use Rattle.digits.specs.Decimal.{are_decimal, value_on, value_of, number_of, read_number}
use Rattle.digits.specs.Claims.{NumberBack}

-- the first of digits, and the others
both : (a b : Bool) → (a && b) ≡ true → (a ≡ true) × (b ≡ true)
both true b h = (refl, h)
both false b h = absurd (both_ways false refl h)

front_digit : (x : ℕ) (xs : List ℕ) → are_decimal (x ∷ xs) ≡ true → (is_ascii_digit x ≡ true) × (are_decimal xs ≡ true)
front_digit x xs h = both (is_ascii_digit x) (are_decimal xs) h

is_digit : (m : ℕ) → m < 10 → is_ascii_digit (48 + m) ≡ true
is_digit m h = simp (le-leb 48 (48 + m) (omega arith), le-leb (48 + m) 57 (omega arith))

-- a digit behind digits
decimal_snoc : (xs : List ℕ) (m : ℕ) → are_decimal xs ≡ true → m < 10 → are_decimal (xs ++ ((48 + m) ∷ [])) ≡ true
decimal_snoc xs m e h = list_all-append is_ascii_digit xs ((48 + m) ∷ []) ∙ simp (e, is_digit m h)

value_snoc : (xs : List ℕ) (x v : ℕ) → value_on v (xs ++ (x ∷ [])) ≡ value_on v xs * 10 + (x - 48)
value_snoc [] x v = refl
value_snoc (y ∷ ys) x v = value_snoc ys x (v * 10 + (y - 48))

-- a number in decimal, by whether it has one digit
module _ (k n : ℕ) where
  abbrev more : List ℕ
  more = decimals k (n / 10) ++ ((48 + n % 10) ∷ [])

  decimal_by : (b : Bool) → ltb n 10 ≡ b → are_decimal (decimals k (n / 10)) ≡ true → are_decimal (pick b ((48 + n) ∷ []) more) ≡ true
  decimal_by true e h = decimal_snoc [] n refl (ltb-true n 10 e)
  decimal_by false e h = decimal_snoc (decimals k (n / 10)) (n % 10) h (omega arith)

  value_by : (b : Bool) → ltb n 10 ≡ b → value_of (decimals k (n / 10)) ≡ n / 10 → value_of (pick b ((48 + n) ∷ []) more) ≡ n
  value_by true e h = omega arith
  value_by false e h = value_snoc (decimals k (n / 10)) (48 + n % 10) 0 ∙ omega arith

  length_by : (j : ℕ) (b : Bool) → ltb n 10 ≡ b → (10 ≤ n → 1 + length (decimals k (n / 10)) ≤ suc j) → length (pick b ((48 + n) ∷ []) more) ≤ suc j
  length_by j true e h = omega arith
  length_by j false e h = omega (arith, length-append (decimals k (n / 10)) ((48 + n % 10) ∷ []), h (ltb-false n 10 e))

  some_by : (b : Bool) → 1 ≤ length (pick b ((48 + n) ∷ []) more)
  some_by true = omega arith
  some_by false = omega (arith, length-append (decimals k (n / 10)) ((48 + n % 10) ∷ []))

pub decimals_decimal : (k n : ℕ) → are_decimal (decimals k n) ≡ true
decimals_decimal zero n = refl
decimals_decimal (suc k) n = decimal_by k n (ltb n 10) refl (decimals_decimal k (n / 10))

pub decimals_value : (k n : ℕ) → n < 10 ^ k → value_of (decimals k n) ≡ n
decimals_value zero n h = omega arith
decimals_value (suc k) n h =
    let p : 10 ^ suc k ≡ 10 ^ k * 10 = pow-suc 10 k in
    value_by k n (ltb n 10) refl (decimals_value k (n / 10) (omega arith))

decimals_length : (k j n : ℕ) → n < 10 ^ suc j → length (decimals k n) ≤ suc j
decimals_length zero j n h = omega arith
decimals_length (suc k) zero n h = length_by k n zero (ltb n 10) refl (λ g. absurd (omega arith))
decimals_length (suc k) (suc j) n h =
    let p : 10 ^ suc (suc j) ≡ 10 ^ suc j * 10 = pow-suc 10 (suc j) in
    length_by k n (suc j) (ltb n 10) refl (λ g. omega (arith, decimals_length k j (n / 10) (omega arith)))

-- a digit is no blank
blank_by : (x : ℕ) (b c : Bool) → eqb x 32 ≡ b → eqb x 9 ≡ c → is_ascii_digit x ≡ true → pick b true c ≡ false
blank_by x true c e f h = absurd (both_ways (is_ascii_digit x) (ap is_ascii_digit (eqb-true x 32 e)) h)
blank_by x false true e f h = absurd (both_ways (is_ascii_digit x) (ap is_ascii_digit (eqb-true x 9 f)) h)
blank_by x false false e f h = refl

no_blank : (x : ℕ) → is_ascii_digit x ≡ true → blank x ≡ false
no_blank x h = blank_by x (eqb x 32) (eqb x 9) refl refl h

no_blanks : (xs : List ℕ) → are_decimal xs ≡ true → blanks xs ≡ 0
no_blanks [] e = refl
no_blanks (x ∷ xs) e = simp (no_blank x (front_digit x xs e).0)

-- digits are a word, up to its end
pub word_before : (xs ys : List ℕ) → are_decimal xs ≡ true → word_length ys ≡ 0 → word_length (xs ++ ys) ≡ length xs
word_before [] ys e f = f
word_before (x ∷ xs) ys e f =
    let d = front_digit x xs e in
    simp (no_blank x d.0) (ap (λ (k : ℕ). 1 + k) (word_before xs ys d.1 f) ∙ one-add (length xs))

whole_word : (xs : List ℕ) → are_decimal xs ≡ true → word_length xs ≡ length xs
whole_word xs e = ap word_length (sym (append-nil xs)) ∙ word_before xs [] e refl

-- digits behind a blank
module _ (start digits : List ℕ) (at : ℕ) (l : length start ≡ at) (are : are_decimal digits ≡ true) where
  abbrev whole : List ℕ
  whole = start ++ (32 ∷ digits)

  first_digit : skipped whole at ≡ at + 1
  first_digit = rw (drop_at start (32 ∷ digits) at l) (omega (arith, no_blanks digits are))

  behind : drop (at + 1) whole ≡ digits
  behind =
      ap (drop (at + 1)) (sym (append_assoc start (32 ∷ []) digits))
      ∙ drop_at (start ++ (32 ∷ [])) digits (at + 1) (length-append start (32 ∷ []) ∙ ap (λ (k : ℕ). k + 1) l)

  last_digit : word_end whole (at + 1) ≡ at + 1 + length digits
  last_digit = rw behind (ap (λ (k : ℕ). at + 1 + k) (whole_word digits are))

  word : between whole (at + 1) (at + 1 + length digits) ≡ digits
  word =
      let long : length whole ≡ length start + suc (length digits) = length-append start (32 ∷ digits) in
      ap (drop (at + 1)) (take_all (at + 1 + length digits) whole (omega arith)) ∙ behind

  found : 1 ≤ length digits → length digits ≤ 9
      → read_number whole at ≡ Ok (record { value = value_of digits; next = at + 1 + length digits })
  found some few =
      let run : ℕ → ℕ → Result Number ℕ = λ (a b : ℕ). number_of (between whole a b) a b in
      ap (λ (a : ℕ). run a (word_end whole a)) first_digit
      ∙ ap (run (at + 1)) last_digit
      ∙ ap (λ (w : List ℕ). number_of w (at + 1) (at + 1 + length digits)) word
      ∙ simp (le-leb 1 (length digits) some, le-leb (length digits) 9 few, are)

pub number_back : NumberBack
number_back text at n small room =
    let digits = decimal n in
    let are = decimals_decimal 20 n in
    let value : value_of digits ≡ n = decimals_value 20 n (omega arith) in
    let l : length (take at text) ≡ at = length-take-le at text (omega arith) in
    let parts : concat (number n) ≡ 32 ∷ digits = ap (λ (xs : List ℕ). 32 ∷ xs) (append-nil digits) in
    let is = joined text at (number n) (omega (arith, ap length parts)) in
    let end : (written text at (number n)).answer ≡ at + 1 + length digits = omega (arith, is.1, ap length parts) in
    let text_is : line (written text at (number n)) ≡ take at text ++ (32 ∷ digits) = is.0 ∙ ap (λ (xs : List ℕ). take at text ++ xs) parts in
    ap (λ (xs : List ℕ). read_number xs at) text_is
    ∙ found (take at text) digits at l are (some_by 19 n (ltb n 10)) (decimals_length 20 8 n (omega arith))
    ∙ ap₂ (λ (v p : ℕ). Ok (record { value = v; next = p })) value (sym end)
