-- The ticks are the model's, whose formulas are opened here.
-- Assumes nothing.
use Rattle.model.specs.Times.{t_l, t_ref, t_inactive, t_to, t_osc, t_dac}
use Rattle.times.proofs.ticks.Goals as goal

pub returns : goal.returns
unfolding t_l t_ref t_inactive t_to t_osc t_dac
returns c = rw c.power-low.ensures.0
