-- The frame that `read_first` found lies inside the part.
-- Assumes nothing.
use Rattle.std.proofs.Common.{arith, rules}
use Rattle.commands.proofs.Parts.{inside}
use Rattle.commands.proofs.read_command.Goals as goal

pub overflow_add-frame : goal.overflow_add-frame
overflow_add-frame c = omega (arith, inside c.args.part.now c.read_first.ensures c.in_ok-frame.frame (search rules))
