-- Parts that fit stand one behind the other; and what is written is one thing.
-- Assumes nothing.
use Prim.Native.Nat.{ℕ, ◌+◌, ◌≤◌}
use native.Mathlib.Omega.{arith}
use mathlib.Core.Path.{◌≡◌, sym, ap, ◌∙◌}
use mathlib.Core.List.{List, [], ◌∷◌, ◌++◌, append-nil, append_assoc}
use lib.ListN.{length, take, length-append}
use lib.Seq.{paste, take-length, take-paste, length-paste}
use borrow.Author.Tests.{le-leb}
use Rattle.words.specs.Words.{concat}
use Rattle.words.specs.Contract.{Ran}
use Rattle.words.proofs.Contract.{one_outcome}
use Rattle.text.specs.Writing.{placed, written}
use Rattle.text.specs.Claims.{line, Joined, OneText, OneAddition}

-- one part that fits
fitting : (text part : List ℕ) (at : ℕ) → at + length part ≤ length text
    → placed text at part ≡ record { answer = at + length part; bytes = paste text at part (length part) }
fitting text part at h = simp (le-leb (at + length part) (length text) h)

pub joined : Joined
joined text at [] h = (sym (append-nil (take at text)), omega arith)
joined text at (part ∷ parts) h =
    let n = length part in
    let all : length (part ++ concat parts) ≡ n + length (concat parts) = length-append part (concat parts) in
    let fits : at + n ≤ length text = omega arith in
    let next = paste text at part n in
    let long : length next ≡ length text = length-paste text at part n fits (omega arith) in
    let one = fitting text part at fits in
    let more = joined next (at + n) parts (omega arith) in (
      ap (λ (w : Ran ℕ). line (written w.bytes w.answer parts)) one
          ∙ more.0
          ∙ ap (λ (xs : List ℕ). xs ++ concat parts)
          (take-paste text at part n (omega arith) (omega arith) ∙ ap (λ (xs : List ℕ). take at text ++ xs) (take-length part))
          ∙ append_assoc (take at text) part (concat parts),
      ap (λ (w : Ran ℕ). (written w.bytes w.answer parts).answer) one ∙ more.1 ∙ omega arith,
    )

pub one_text : OneText
one_text text at parts r r' exit exit' p q = one_outcome (written text at parts) r r' exit exit' p.is q.is

pub one_addition : OneAddition
one_addition old new new' parts p q = one_text old.bytes.now old.at parts new.at new'.at new.bytes.now new'.bytes.now p.puts q.puts
