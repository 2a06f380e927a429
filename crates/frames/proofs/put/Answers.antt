-- Bytes that find no room are told as too short an output.
-- Assumes nothing.
use Rattle.std.proofs.Common.{rules, ◌≡◌}
use Rattle.std.specs.Option.{ok_or}
use Rattle.model.specs.declared.Refusal.TheVariants.{Short}
use Rattle.frames.proofs.put.Goals as goal

pub returns : goal.returns
returns c =
    let told : c.ok_or.result ≡ ok_or c.lay.result Short = c.ok_or.ensures.value in
    search rules
