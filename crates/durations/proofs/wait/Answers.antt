-- What is written of the model's answer is the answer's text.
-- Assumes nothing.
use Rattle.std.proofs.Common.{sym, ap, ◌∙◌, subst, arith, Ok}
use Rattle.words.specs.Words.{Bytes}
use Rattle.model.specs.Frames.{idle_data}
use Rattle.durations.specs.Durations.{wait_text}
use Rattle.durations.proofs.Timing.{adds_answer, waiting_text, WaitingFits, waiting_is, waiting_fits}
use Rattle.durations.proofs.wait.Goals as goal

pub put_after-requires : goal.put_after-requires
put_after-requires c =
    let s = c.of_data.result in
    let byte : Bytes (idle_data s) = omega (arith, c.of_data.type_inv) in
    subst WaitingFits (sym c.wait_of.ensures ∙ c.in-Ok.is ∙ ap Ok c.in-After.is) (waiting_fits s byte)

pub returns-in-Endless : goal.returns-in-Endless
returns-in-Endless c =
    let s = c.of_data.result in
    let byte : Bytes (idle_data s) = omega (arith, c.of_data.type_inv) in
    adds_answer waiting_text wait_text c.of_data.ensures (waiting_is s byte) c.wait_of.ensures (c.in-Ok.is ∙ ap Ok c.in-Endless.is) c.put.ensures

pub returns-in-After : goal.returns-in-After
returns-in-After c =
    let s = c.of_data.result in
    let byte : Bytes (idle_data s) = omega (arith, c.of_data.type_inv) in
    adds_answer waiting_text wait_text c.of_data.ensures (waiting_is s byte) c.wait_of.ensures (c.in-Ok.is ∙ ap Ok c.in-After.is) c.put_after.ensures

pub returns-in-Err : goal.returns-in-Err
returns-in-Err c =
    let s = c.of_data.result in
    let byte : Bytes (idle_data s) = omega (arith, c.of_data.type_inv) in
    adds_answer waiting_text wait_text c.of_data.ensures (waiting_is s byte) c.wait_of.ensures c.in-Err.is c.put_refusal.ensures
