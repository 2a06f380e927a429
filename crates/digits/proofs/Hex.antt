-- Pairs read at a place: past the blanks, the end of the line, what is no pair, and a byte more.
-- Assumes nothing.
use Prim.Native.Nat.{ℕ, ◌+◌, ◌-◌, ◌≤◌, ◌<◌}
use native.Mathlib.Numerals.{one-add}
use native.Mathlib.Omega.{arith}
use mathlib.Core.Path.{◌≡◌, refl, sym, ap, ◌∙◌, subst⁻¹}
use mathlib.Core.Bool.{Bool, true, false}
use mathlib.Core.List.{List, [], ◌∷◌}
use lib.Dec.{leb, ltb}
use lib.ListN.{length, take, drop, get_or, set}
use Rattle.std.proofs.lemmas.List.{length-drop, drop_all, take_all}
use borrow.Author.Tests.{lt-ltb, le-ltb, leb-true, leb-false}
use Rattle.std.specs.Prelude.{Option, Some, None, Result, Ok, Err}
use Rattle.words.specs.Words.{pick}
use Rattle.words.specs.Contract.{Ran, Is}
use Rattle.lines.specs.Lines.{blank, blanks, rest}
use Rattle.digits.specs.Hex.{byte_of, with_byte, stopped, read_on}

-- a call that did what a value says
pub ended : {A : Type 0} {m : Ran A} {a : A} {b : List ℕ} → m ≡ record { answer = a; bytes = b } → Is m a b
ended {A} {m} {a} {b} e = subst⁻¹ (λ (x : Ran A). Is x a b) e (record { answer = refl; bytes = refl })

-- blanks say nothing
past_one : (x place : ℕ) (buffer : List ℕ) (n : ℕ) (b : Bool) → blank x ≡ b
    → read_on (x ∷ []) place buffer n ≡ read_on (drop (pick b (1 + 0) 0) (x ∷ [])) (place + pick b (1 + 0) 0) buffer n
past_one x place buffer n true e = simp e
past_one x place buffer n false e = let same : place + 0 ≡ place = omega arith in rw same

past_more : (x : ℕ) (xs : List ℕ) (k place : ℕ) (buffer : List ℕ) (n : ℕ) (b : Bool) → blank x ≡ b → (m : Ran (Result ℕ ℕ))
    → m ≡ read_on (drop k xs) (place + 1 + k) buffer n
    → pick b m (read_on (x ∷ xs) place buffer n) ≡ read_on (drop (pick b (1 + k) 0) (x ∷ xs)) (place + pick b (1 + k) 0) buffer n
past_more x xs k place buffer n true e m h =
    let more : place + 1 + k ≡ place + (1 + k) = omega arith in
    h ∙ rw (one-add k) (ap (λ (p : ℕ). read_on (drop k xs) p buffer n) (more ∙ ap (λ (j : ℕ). place + j) (one-add k)))
past_more x xs k place buffer n false e m h = let same : place + 0 ≡ place = omega arith in rw same

picked : {A : Type 0} (b : Bool) (x y : A) → pick b x (pick b x y) ≡ pick b x y
picked true x y = refl
picked false x y = refl

read_past : (xs : List ℕ) (place : ℕ) (buffer : List ℕ) (n : ℕ) → read_on xs place buffer n ≡ read_on (drop (blanks xs) xs) (place + blanks xs) buffer n
read_past [] place buffer n = refl
read_past (x ∷ []) place buffer n = past_one x place buffer n (blank x) refl
read_past (x ∷ y ∷ xs) place buffer n =
    sym (picked (blank x) (read_on (y ∷ xs) (place + 1) buffer n) _)
    ∙ past_more x (y ∷ xs) (blanks (y ∷ xs)) place buffer n (blank x) refl (read_on (y ∷ xs) (place + 1) buffer n) (read_past (y ∷ xs) (place + 1) buffer n)

-- behind them none is first
none_first : (x : ℕ) (xs : List ℕ) (k : ℕ) (b : Bool) → blank x ≡ b → blanks (drop k xs) ≡ 0 → blanks (drop (pick b (1 + k) 0) (x ∷ xs)) ≡ 0
none_first x xs k true e h = rw (one-add k) h
none_first x xs k false e h = simp e

no_blanks : (xs : List ℕ) → blanks (drop (blanks xs) xs) ≡ 0
no_blanks [] = refl
no_blanks (x ∷ xs) = none_first x xs (blanks xs) (blank x) refl (no_blanks xs)

not_blank : (x : ℕ) (xs : List ℕ) → blanks (x ∷ xs) ≡ 0 → blank x ≡ false
not_blank x xs e = go (blank x) e
  where
    go : (b : Bool) → pick b (1 + blanks xs) 0 ≡ 0 → b ≡ false
    go true h = absurd (omega arith)
    go false h = refl

-- what is left of a line, where no blank is first: nothing, one byte, or a pair
module _ (place : ℕ) (buffer : List ℕ) (n : ℕ) where
  nothing : (left : List ℕ) → length left < 1 → read_on left place buffer n ≡ record { answer = Ok n; bytes = buffer }
  nothing [] h = refl
  nothing (x ∷ xs) h = absurd (omega arith)

  one : (left : List ℕ) → blanks left ≡ 0 → 1 ≤ length left → length left < 2 → read_on left place buffer n ≡ stopped place buffer
  one [] e h l = absurd (omega arith)
  one (x ∷ []) e h l = simp (not_blank x [] e)
  one (x ∷ y ∷ xs) e h l = absurd (omega arith)

  -- a byte is put where there is room, and what is left behind its pair read
  abbrev put : List ℕ → ℕ → Ran (Result ℕ ℕ)
  put left value = pick (ltb n (length buffer)) (read_on (drop 2 left) (place + 2) (set buffer n value) (n + 1)) (stopped place buffer)

  pair : (left : List ℕ) → blanks left ≡ 0 → 2 ≤ length left
      → read_on left place buffer n ≡ with_byte (byte_of (get_or left 0 0) (get_or left 1 0)) (put left) (stopped place buffer)
  pair [] e h = absurd (omega arith)
  pair (x ∷ []) e h = absurd (omega arith)
  pair (x ∷ y ∷ xs) e h = simp (not_blank x (y ∷ xs) e)

-- blanks are some of the bytes
some : (x : ℕ) (xs : List ℕ) (b : Bool) → blanks xs ≤ length xs → pick b (1 + blanks xs) 0 ≤ length (x ∷ xs)
some x xs true h = omega arith
some x xs false h = omega arith

blanks_fit : (xs : List ℕ) → blanks xs ≤ length xs
blanks_fit [] = omega arith
blanks_fit (x ∷ xs) = some x xs (blank x) (blanks_fit xs)

-- a place in a line is as many bytes before its end as are left
pub from_place : (line : List ℕ) (from : ℕ) (buffer : List ℕ)
    → read_on (drop from line) (length line - length (drop from line)) buffer 0 ≡ read_on (drop from line) from buffer 0
from_place line from buffer = go (leb from (length line)) refl
  where
    left : length (drop from line) ≡ length line - from
    left = length-drop from line

    go : (b : Bool) → leb from (length line) ≡ b
        → read_on (drop from line) (length line - length (drop from line)) buffer 0 ≡ read_on (drop from line) from buffer 0
    go true t =
        let h = leb-true from (length line) t in
        let same : length line - length (drop from line) ≡ from = omega (arith, left, h) in
        ap (λ (k : ℕ). read_on (drop from line) k buffer 0) same
    go false t =
        let h = leb-false from (length line) t in
        let none : drop from line ≡ [] = drop_all from line (omega (arith, h)) in
        subst⁻¹ (λ (l : List ℕ). read_on l (length line - length l) buffer 0 ≡ read_on l from buffer 0) none refl

pub no_longer : (line : List ℕ) (from : ℕ) → length (drop from line) ≤ length line
no_longer line from = let left : length (drop from line) ≡ length line - from = length-drop from line in omega arith

-- what is left behind a pair
pub behind_pair : (left : List ℕ) → take (length left - 2) (drop 2 left) ≡ drop 2 left
behind_pair left = let two = length-drop 2 left in take_all (length left - 2) (drop 2 left) (omega (arith, two))

-- what is left of a line where its blanks end, with n bytes in
module _ (line before : List ℕ) (buffer : List ℕ) (n : ℕ) {left : List ℕ} {r : Ran (Result ℕ ℕ)} (part : left ≡ rest before (blanks before))
    (fits : length before ≤ length line) (so_far : read_on before (length line - length before) buffer n ≡ r) where
  abbrev place : ℕ
  place = length line - length left

  shorter : length left ≡ length before - blanks before
  shorter = ap length part ∙ length-drop (blanks before) before

  pub within : length left ≤ length line
  within = let e = shorter in omega arith

  -- and of what was left before
  pub no_more : length left ≤ length before
  no_more = let e = shorter in omega arith

  unblank : blanks left ≡ 0
  unblank = ap blanks part ∙ no_blanks before

  here : read_on left place buffer n ≡ r
  here =
      let e = shorter in
      let some = blanks_fit before in
      let moved : length line - length before + blanks before ≡ place = omega arith in
      ap (λ (l : List ℕ). read_on l place buffer n) part
      ∙ ap (λ (k : ℕ). read_on (drop (blanks before) before) k buffer n) (sym moved)
      ∙ sym (read_past before (length line - length before) buffer n)
      ∙ so_far

  pub at_end : length left < 1 → Is r (Ok n) buffer
  at_end h = ended (sym here ∙ nothing place buffer n left h)

  pub at_one : 1 ≤ length left → length left < 2 → Is r (Err place) buffer
  at_one h l = ended (sym here ∙ one place buffer n left unblank h l)

  module _ (h : 2 ≤ length left) {b : Option ℕ} (byte : b ≡ byte_of (get_or left 0 0) (get_or left 1 0)) where
    at_pair : with_byte b (put place buffer n left) (stopped place buffer) ≡ r
    at_pair =
        ap (λ (o : Option ℕ). with_byte o (put place buffer n left) (stopped place buffer)) byte
        ∙ sym (pair place buffer n left unblank h)
        ∙ here

    pub at_no_pair : b ≡ None → Is r (Err place) buffer
    at_no_pair e = ended (sym at_pair ∙ ap (λ (o : Option ℕ). with_byte o (put place buffer n left) (stopped place buffer)) e)

    at_byte : (value : ℕ) → b ≡ Some value → put place buffer n left value ≡ r
    at_byte value e = ap (λ (o : Option ℕ). with_byte o (put place buffer n left) (stopped place buffer)) (sym e) ∙ at_pair

    pub at_no_room : (value : ℕ) → b ≡ Some value → length buffer ≤ n → Is r (Err place) buffer
    at_no_room value e m = ended (sym (at_byte value e) ∙ simp (le-ltb n (length buffer) m))

    pub at_room : (value : ℕ) → b ≡ Some value → n < length buffer
        → read_on (drop 2 left) (length line - length (drop 2 left)) (set buffer n value) (n + 1) ≡ r
    at_room value e m =
        let w = within in
        let two : length (drop 2 left) ≡ length left - 2 = length-drop 2 left in
        let moved : length line - length (drop 2 left) ≡ place + 2 = omega arith in
        ap (λ (k : ℕ). read_on (drop 2 left) k (set buffer n value) (n + 1)) moved
        ∙ sym (simp (lt-ltb n (length buffer) m))
        ∙ at_byte value e
