-- A line allows one answer, and one content of each buffer.
-- Assumes nothing.
use mathlib.Core.Path.{sym, ◌∙◌}
use Rattle.words.proofs.Contract.{one_outcome}
use Rattle.desk.specs.Claims.{OneLine}

pub one_line : OneLine
one_line heard r r' bytes bytes' out out' room room' text text' p q =
    let a = p.left in
    let b = q.left in
    let d = one_outcome heard.left.done r r' text text' a.done b.done in
    (d.0, p.bytes ∙ sym q.bytes, a.out ∙ sym b.out, a.room ∙ sym b.room, d.1)
