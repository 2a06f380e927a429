-- Where the number of bytes is allowed, the front of the greatest read's zeros are that many.
-- Assumes nothing.
use Rattle.std.proofs.Common.{ℕ, List, ◌∷◌, take, arith, subst, ◌∙◌}
use mathlib.Core.List.{append-nil}
use lib.ListN.{replicate}
use borrow.Author.Tests.{le-leb}
use Rattle.words.specs.Contract.{Is}
use Rattle.model.specs.Frames.{greatest_read}
use Rattle.frames.specs.Putting.{put as putting}
use Rattle.spi.proofs.Zeros.{zeros}
use Rattle.spi.proofs.read_by_spi.Goals as goal

pub returns : goal.returns
returns c =
    let n = c.args.n in
    let out = c.args.out.now in
    simp (le-leb 1 n (omega (arith, c.if-n-lt1.false)), le-leb n greatest_read (omega (arith, c.if-n-gt-GREATEST_READ.false)))
    (subst (λ (l : List ℕ). Is (putting (0x02 ∷ l) out) c.put.result c.put.new.out)
    (append-nil (take n (replicate greatest_read 0)) ∙ zeros n greatest_read c.if-n-gt-GREATEST_READ.false) c.put.ensures)
