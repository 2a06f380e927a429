-- The name of a call that takes nothing is read as that call.
-- Assumes nothing.
use Prim.Native.Nat.{ℕ, ◌≤◌}
use native.Mathlib.Omega.{arith}
use mathlib.Core.Path.{◌≡◌, ap, ◌∙◌}
use mathlib.Core.List.{List}
use lib.ListN.{length}
use lib.Seq.{take-length}
use borrow.Author.Tests.{le-ltb}
use Rattle.std.specs.Prelude.{Option, Some, Result}
use Rattle.words.specs.Contract.{Ran}
use Rattle.lines.specs.Lines.{skipped, word_end, between}
use Rattle.calls.specs.declared.Verb.{Verb}
use Rattle.calls.specs.declared.Shape.{Shape}
use Rattle.calls.specs.declared.Asked.{Asked}
use Rattle.calls.specs.declared.Wrong.{Wrong}
use Rattle.calls.specs.Calls.{rows, name_of, call_of, shape_of, found}
use Rattle.calls.proofs.Named.{agree, found_by_name}
use Rattle.reading.specs.Asking.{understood, ended, untouched, read_shape, read_named, asked}
use Rattle.reading.specs.Claims.{EachRead}

-- a line by the place where its word starts, the place where this ends, and the call that it names
by_name : (line buffer : List ℕ) (start end : ℕ) (named : Verb × Shape) → skipped line 0 ≡ start → word_end line start ≡ end
    → found (between line start end) rows ≡ Some named → asked line buffer ≡ read_shape named.0 named.1 line (skipped line end) buffer
by_name line buffer start end named s e f =
    let run : ℕ → ℕ → Ran (Result Asked Wrong) = λ (a b : ℕ). read_named (found (between line a b) rows) line a b buffer in
    ap (λ (a : ℕ). run a (word_end line a)) s
    ∙ ap (run start) e
    ∙ ap (λ (o : Option (Verb × Shape)). read_named o line start end buffer) f

-- where the line ends, nothing stands behind
none_behind : (call : Verb) (number : ℕ) (line : List ℕ) (from : ℕ) → length line ≤ from → ended call number line from ≡ understood call number 0
none_behind call number line from h = simp (le-ltb (skipped line from) (length line) (omega arith))

pub each_read : EachRead
each_read k h nothing buffer =
    let name = name_of k in
    let call = call_of k in
    let begins : skipped name 0 ≡ 0 = agree (λ (j : ℕ). skipped (name_of j) 0) (λ (j : ℕ). 0) tt k h in
    let ends : word_end name 0 ≡ length name = agree (λ (j : ℕ). word_end (name_of j) 0) (λ (j : ℕ). length (name_of j)) tt k h in
    let whole : between name 0 (length name) ≡ name = take-length name in
    let past = skipped name (length name) in
    by_name name buffer 0 (length name) (call, shape_of k) begins ends (ap (λ (w : List ℕ). found w rows) whole ∙ found_by_name k h)
    ∙ ap (λ (shape : Shape). read_shape call shape name past buffer) nothing
    ∙ ap (untouched buffer) (none_behind call 0 name past (omega arith))
