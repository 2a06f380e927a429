-- Three tests of the room that is left, and three copies, each behind the one before it.
-- Assumes nothing.
use Rattle.std.proofs.Common.{rules, ◌+◌, ◌≤◌, length}
use Rattle.buffers.proofs.Laying.{laid_three}
use Rattle.buffers.proofs.lay.Goals as goal

pub returns : goal.returns
returns c =
    let a = c.args in
    let fits : length a.control.now + length a.head.now + length a.body.now ≤ length a.out.now = search rules in
    laid_three a.control.now a.head.now a.body.now a.out.now c.copy_at.new.buffer c.copy_at-2.new.buffer c.copy_at-3.new.buffer
    fits c.copy_at.ensures c.copy_at-2.ensures c.copy_at-3.ensures
