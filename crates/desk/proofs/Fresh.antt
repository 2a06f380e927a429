-- Of what the buffer for the bytes of a line held before, only its length matters.
-- Assumes nothing.
use Prim.Native.Nat.{ℕ}
use mathlib.Core.Path.{◌≡◌, refl, ap, ◌∙◌}
use mathlib.Core.List.{List}
use lib.Dec.{leb, ltb, eqb}
use lib.ListN.{length}
use Rattle.std.specs.Prelude.{Result, Ok, Err}
use Rattle.words.proofs.Words.{ways₂}
use Rattle.lines.specs.Lines.{fore, byte_at, skipped}
use Rattle.calls.specs.declared.Asked.{Asked}
use Rattle.calls.specs.declared.Wrong.{Wrong}
use Rattle.reading.specs.Asking.{asked}
use Rattle.reading.specs.Claims.{count_in}
use Rattle.reading.proofs.Fresh.{fresh as read_fresh}
use Rattle.desk.specs.declared.Post.{Post}
use Rattle.desk.specs.Desk.{Heard, obeyed, carried_out, longest}
use Rattle.desk.specs.Claims.{Fresh}

-- a call that was read, with the same bytes in two buffers
carried : (number : ℕ) (post : Post) (out room text : List ℕ) (read : Result Asked Wrong) (bytes other : List ℕ) → fore bytes (count_in read) ≡ fore other (count_in read)
    → carried_out number read bytes post out room text ≡ carried_out number read other post out room text
carried number post out room text (Ok it) bytes other e = ap (λ (part : List ℕ). obeyed it.call post it.number part out room text) e
carried number post out room text (Err it) bytes other e = refl

abbrev Alike : Heard → Heard → Type 0
Alike p q = p.left ≡ q.left

pub fresh : Fresh
fresh line number post bytes other out room text l =
    let start = skipped line 0 in
    let p = asked line bytes in
    let q = asked line other in
    let e = read_fresh line bytes other l in
    ways₂ Alike (ltb longest (length line)) (λ t. refl)
    (λ t. ways₂ Alike (leb (length line) start) (λ u. refl)
    (λ u. ways₂ Alike (eqb (byte_at line start) 35) (λ v. refl)
    (λ v. carried number post out room text p.answer p.bytes q.bytes e.1
    ∙ ap (λ (read : Result Asked Wrong). carried_out number read q.bytes post out room text) e.0)))
