-- The row at hand is the one, or those behind it decide.
-- Assumes nothing.
use Rattle.calls.proofs.Table.{taken, passed}
use Rattle.calls.proofs.call_of.Goals as goal

pub loop-name-init : goal.loop-name-init
loop-name-init c = c.candidates-name-items.ensures

pub returns-then-are_same : goal.returns-then-are_same
returns-then-are_same c =
    taken c.args.word.now _ c.loop-name.name-index _ c.loop-name-test.true c.loop-name.invariant c.are_same.ensures c.if-are_same.true

pub loop-name-preserved : goal.loop-name-preserved
loop-name-preserved c =
    passed c.args.word.now _ c.loop-name.name-index _ c.loop-name-test.true c.loop-name.invariant c.are_same.ensures c.if-are_same.false
