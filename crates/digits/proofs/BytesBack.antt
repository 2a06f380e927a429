-- Bytes that are written are read back.
-- Assumes nothing.
use Prim.Native.Nat.{ℕ, suc, ◌+◌, ◌*◌, ◌≤◌, ◌<◌}
use native.Mathlib.Numerals.{add-one}
use native.Mathlib.Omega.{arith}
use mathlib.Core.Path.{◌≡◌, refl, ap, ◌∙◌}
use mathlib.Core.Bool.{Bool, true, false, ◌&&◌, not}
use mathlib.Core.List.{List, [], ◌∷◌}
use lib.Dec.{T, eqb, eqb→eq}
use lib.Ieee.Fits.{and_l, and_r}
use lib.ListN.{length, get_or, take, set, length-set}
use lib.Seq.{length-take-le, drop_at, sets, sets-eq}
use borrow.Author.Tests.{lt-ltb}
use Rattle.std.specs.Prelude.{Option, Some, None, Ok}
use Rattle.words.specs.Words.{Bytes, concat}
use Rattle.words.proofs.Words.{each}
use Rattle.lines.specs.Lines.{blank}
use Rattle.text.specs.Writing.{pair, hexes}
use Rattle.text.proofs.Joined.{joined}
use Rattle.digits.specs.Hex.{byte_of, read_on, read_bytes}
use Rattle.digits.specs.Claims.{BytesBack}

-- bytes as text
abbrev spelled : List ℕ → List ℕ
spelled bs = concat (hexes bs)

spelled_length : (bs : List ℕ) → length (spelled bs) ≡ 3 * length bs
spelled_length [] = refl
spelled_length (b ∷ bs) = omega (arith, spelled_length bs)

-- what a byte's own pair spells, and that its first digit is no blank: by one computed test
abbrev high : ℕ → ℕ
high b = get_or (pair b) 0 0

abbrev again : ℕ → Option ℕ
again b = byte_of (high b) (get_or (pair b) 1 0)

abbrev is_byte : ℕ → Option ℕ → Bool
is_byte b (Some value) = eqb value b
is_byte b None = false

the_byte : (b : ℕ) (o : Option ℕ) → T (is_byte b o) → o ≡ Some b
the_byte b (Some value) t = ap Some (eqb→eq value b t)
the_byte b None t = absurd t

abbrev reads : ℕ → Bool
reads b = is_byte b (again b) && not (blank (high b))

read_pair : (b : ℕ) → b < 256 → T (reads b)
read_pair b h = each reads 256 tt b h

same_byte : (b : ℕ) → b < 256 → again b ≡ Some b
same_byte b h = the_byte b (again b) (and_l (is_byte b (again b)) (not (blank (high b))) (read_pair b h))

is_false : (b : Bool) → T (not b) → b ≡ false
is_false true t = absurd t
is_false false t = refl

no_blank : (b : ℕ) → b < 256 → blank (high b) ≡ false
no_blank b h = is_false (blank (high b)) (and_r (is_byte b (again b)) (not (blank (high b))) (read_pair b h))

read_spelled : (bs : List ℕ) (place : ℕ) (buffer : List ℕ) (n : ℕ) → Bytes bs → n + length bs ≤ length buffer
    → read_on (spelled bs) place buffer n ≡ record { answer = Ok (n + length bs); bytes = sets buffer n bs }
read_spelled [] place buffer n small h = let same : n + 0 ≡ n = omega arith in rw same
read_spelled (b ∷ bs) place buffer n (small, others) h =
    let value = same_byte b small in
    let count : n + 1 + length bs ≡ n + suc (length bs) = omega arith in
    let first : read_on (spelled (b ∷ bs)) place buffer n ≡ read_on (spelled bs) (place + 1 + 2) (set buffer n b) (n + 1) =
    simp (no_blank b small, value, lt-ltb n (length buffer) (omega arith)) in
    first
    ∙ read_spelled bs (place + 1 + 2) (set buffer n b) (n + 1) others (omega (arith, length-set buffer n b))
    ∙ rw (count, add-one n)

pub bytes_back : BytesBack
bytes_back text bs buffer at small room space =
    let l : length (take at text) ≡ at = length-take-le at text (omega arith) in
    let none : 0 + length bs ≡ length bs = omega arith in
    ap (λ (xs : List ℕ). read_bytes xs at buffer) (joined text at (hexes bs) (omega (arith, spelled_length bs))).0
    ∙ ap (λ (xs : List ℕ). read_on xs at buffer 0) (drop_at (take at text) (spelled bs) at l)
    ∙ read_spelled bs at buffer 0 small (omega arith)
    ∙ rw (sets-eq bs buffer 0 (omega arith), none)
