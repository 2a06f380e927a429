-- What is written of the model's answer is the answer's text.
-- Assumes nothing.
use Rattle.std.proofs.Common.{sym, ◌∙◌, subst, arith}
use Rattle.words.specs.Words.{Bytes}
use Rattle.model.specs.Frames.{idle_data}
use Rattle.text.proofs.Adding.{◌then◌}
use Rattle.durations.specs.Durations.{times_text}
use Rattle.durations.proofs.Timing.{adds_answer, timing_text, TimingFits, timing_is, timing_fits}
use Rattle.durations.proofs.times.Goals as goal

pub put_times-requires : goal.put_times-requires
put_times-requires c =
    let s = c.of_data.result in
    let byte : Bytes (idle_data s) = omega (arith, c.of_data.type_inv) in
    subst TimingFits (sym c.times_of.ensures ∙ c.in-Ok.is) (timing_fits s byte)

pub returns-in-Ok : goal.returns-in-Ok
returns-in-Ok c =
    let s = c.of_data.result in
    let byte : Bytes (idle_data s) = omega (arith, c.of_data.type_inv) in
    adds_answer timing_text times_text c.of_data.ensures (timing_is s byte) c.times_of.ensures c.in-Ok.is (c.put_ticks.ensures then c.put_times.ensures)

pub returns-in-Err : goal.returns-in-Err
returns-in-Err c =
    let s = c.of_data.result in
    let byte : Bytes (idle_data s) = omega (arith, c.of_data.type_inv) in
    adds_answer timing_text times_text c.of_data.ensures (timing_is s byte) c.times_of.ensures c.in-Err.is c.put_refusal.ensures
