-- Of what the buffer held before a line was read, only its length matters.
-- Assumes nothing.
use Prim.Native.Nat.{ℕ}
use mathlib.Core.Path.{◌≡◌, refl, ap, subst⁻¹}
use mathlib.Core.Logic.{◌⊎◌, inl, inr}
use mathlib.Core.List.{List}
use lib.Dec.{ltb, eqb}
use lib.ListN.{length}
use Rattle.std.specs.Prelude.{Option, Some, None, Result, Ok, Err}
use Rattle.words.specs.Contract.{Ran}
use Rattle.words.proofs.Words.{ways, ways₂}
use Rattle.lines.specs.Lines.{fore, skipped, word_end, between, is_word}
use Rattle.text.specs.Writing.{word}
use Rattle.digits.specs.declared.Number.{Number}
use Rattle.digits.specs.Hex.{read_bytes}
use Rattle.digits.specs.Decimal.{read_number}
use Rattle.digits.specs.Claims.{count_of}
use Rattle.digits.proofs.Fresh.{fresh as bytes_fresh}
use Rattle.calls.specs.declared.Verb.{Verb}
use Rattle.calls.specs.declared.Shape.{Shape}
use Rattle.calls.specs.declared.Shape.TheVariants.{Nothing, Interface, Numbered, Exactly, Led, Any}
use Rattle.calls.specs.declared.Fault.{Fault}
use Rattle.calls.specs.declared.Asked.{Asked}
use Rattle.calls.specs.declared.Wrong.{Wrong}
use Rattle.calls.specs.Calls.{rows, found}
use Rattle.reading.specs.Asking.{ended, interfaced, bytes_asked, any, counted, led, judged_on, judged, untouched, numbered, read_shape, read_named}
use Rattle.reading.specs.Claims.{count_in, Fresh}

-- two readings with the same answer and the same bytes
abbrev Alike : Ran (Result Asked Wrong) → Ran (Result Asked Wrong) → Type 0
Alike p q = let n = count_in p.answer in (p.answer ≡ q.answer) × (fore p.bytes n ≡ fore q.bytes n)

-- what is left of a judgement has as many bytes as before, or none
abbrev Judges : (Asked → Result Asked Wrong) → Type 0
Judges judge = (asked : Asked) → (count_in (judge asked) ≡ asked.count) ⊎ (count_in (judge asked) ≡ 0)

counts : (from wanted : ℕ) → Judges (counted from wanted)
counts from wanted asked =
    ways (λ (r : Result Asked Wrong). (count_in r ≡ asked.count) ⊎ (count_in r ≡ 0)) (eqb asked.count wanted) (λ t. inl refl) (λ t. inr refl)

leads : (from : ℕ) (missing : Fault) → Judges (led from missing)
leads from missing asked =
    ways (λ (r : Result Asked Wrong). (count_in r ≡ asked.count) ⊎ (count_in r ≡ 0)) (eqb asked.count 0) (λ t. inr refl) (λ t. inl refl)

judges_on : (judge : Asked → Result Asked Wrong) → Judges judge → (r : Result Asked Wrong)
    → (count_in (judged_on judge r) ≡ count_in r) ⊎ (count_in (judged_on judge r) ≡ 0)
judges_on judge judges (Ok asked) = judges asked
judges_on judge judges (Err wrong) = inr refl

none_ended : (call : Verb) (number : ℕ) (line : List ℕ) (from : ℕ) → count_in (ended call number line from) ≡ 0
none_ended call number line from =
    ways (λ (r : Result Asked Wrong). count_in r ≡ 0) (ltb (skipped line from) (length line)) (λ t. refl) (λ t. refl)

none_interfaced : (call : Verb) (line : List ℕ) (from : ℕ) → count_in (interfaced call line from) ≡ 0
none_interfaced call line from =
    let start = skipped line from in
    let end = word_end line start in
    let none : Result Asked Wrong → Type 0 = λ (r : Result Asked Wrong). count_in r ≡ 0 in
    ways none (is_word line start end (word "spi")) (λ t. none_ended call 0 line end)
    (λ t. ways none (is_word line start end (word "uart")) (λ u. none_ended call 1 line end) (λ u. refl))

asked_count : (call : Verb) (number : ℕ) (read : Result ℕ ℕ) → count_in (bytes_asked call number read) ≡ count_of read
asked_count call number (Ok n) = refl
asked_count call number (Err place) = refl

module _ (line b c : List ℕ) (l : length b ≡ length c) where
  none : (answer : Result Asked Wrong) → count_in answer ≡ 0 → Alike (untouched b answer) (untouched c answer)
  none answer e = (refl, subst⁻¹ (λ (n : ℕ). fore b n ≡ fore c n) e refl)

  read : (call : Verb) (number from : ℕ) → Alike (any call number line from b) (any call number line from c)
  read call number from =
      let p = read_bytes line from b in
      let q = read_bytes line from c in
      let e = bytes_fresh line from b c l in
      (ap (bytes_asked call number) e.0, subst⁻¹ (λ (n : ℕ). fore p.bytes n ≡ fore q.bytes n) (asked_count call number p.answer) e.1)

  judging : (judge : Asked → Result Asked Wrong) → Judges judge → (p q : Ran (Result Asked Wrong)) → Alike p q → Alike (judged judge p) (judged judge q)
  judging judge judges p q e =
      let at : ℕ → Type 0 = λ (n : ℕ). fore p.bytes n ≡ fore q.bytes n in (
        ap (judged_on judge) e.0,
        elim (judges_on judge judges p.answer) [
          | inl same ↦ subst⁻¹ at same e.1
          | inr none ↦ subst⁻¹ at none refl
        ],
      )

  number : (call : Verb) (greatest wanted from : ℕ) (n : Result Number ℕ)
      → Alike (numbered call greatest wanted line from b n) (numbered call greatest wanted line from c n)
  number call greatest wanted from (Ok at) =
      let start = skipped line at.next in
      let p = any call at.value line start b in
      let q = any call at.value line start c in
      ways₂ Alike (ltb greatest at.value) (λ t. (refl, refl))
      (λ t. ways₂ Alike (eqb wanted 0) (λ u. none (ended call at.value line at.next) (none_ended call at.value line at.next))
      (λ u. judging (counted start wanted) (counts start wanted) p q (read call at.value start)))
  number call greatest wanted from (Err place) = (refl, refl)

  shape : (call : Verb) (from : ℕ) (s : Shape) → Alike (read_shape call s line from b) (read_shape call s line from c)
  shape call from Nothing = none (ended call 0 line from) (none_ended call 0 line from)
  shape call from Interface = none (interfaced call line from) (none_interfaced call line from)
  shape call from (Numbered greatest wanted) = number call greatest wanted from (read_number line from)
  shape call from (Exactly wanted) =
      judging (counted from wanted) (counts from wanted) (any call 0 line from b) (any call 0 line from c) (read call 0 from)
  shape call from (Led missing) = judging (led from missing) (leads from missing) (any call 0 line from b) (any call 0 line from c) (read call 0 from)
  shape call from Any = read call 0 from

  named : (o : Option (Verb × Shape)) (start end : ℕ) → Alike (read_named o line start end b) (read_named o line start end c)
  named (Some it) start end = shape it.0 (skipped line end) it.1
  named None start end = (refl, refl)

pub fresh : Fresh
fresh line b c l =
    let start = skipped line 0 in
    let end = word_end line start in
    named line b c l (found (between line start end) rows) start end
