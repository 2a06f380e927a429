-- What the act came to, as text: the answer, then the state.
-- Assumes nothing.
use Rattle.std.proofs.Common.{refl, rules}
use Rattle.words.specs.Contract.{Ran}
use Rattle.model.specs.declared.Outcome.{Outcome}
use Rattle.text.proofs.Adding.{◌then◌}
use Rattle.desk.specs.Desk.{acting, act_told}
use Rattle.desk.proofs.Telling.{lent, telling, by_outcome}
use Rattle.desk.proofs.act.Goals as goal

pub returns : goal.returns
returns c =
    let a = c.args in
    let o = c.act_on-outcome in
    let model = acting a.post a.what a.number a.given.now a.out.now in (
      by_outcome (λ (ran : Ran Outcome). act_told a.post ran a.text.now) {ran = model} {o = o.result} {buffer = o.new.out} o.ensures
          (telling refl (lent (search rules) (c.put_answer.ensures then c.put_state.ensures).puts)),
      o.ensures.bytes,
    )
