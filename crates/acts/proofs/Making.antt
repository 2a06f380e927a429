-- An act by its name, and a call by its arguments.
-- Assumes nothing.
use Prim.Native.Nat.{ℕ}
use mathlib.Core.Path.{◌≡◌, subst, subst⁻¹}
use mathlib.Core.List.{List}
use Rattle.model.specs.declared.Session.{Session}
use Rattle.model.specs.declared.Outcome.{Outcome}
use Rattle.words.specs.Contract.{Is}
use Rattle.model.specs.Session.{Call, step}
use Rattle.calls.specs.declared.Act.{Act}
use Rattle.acts.specs.Acts.{acted}

pub by_name : (s : Session) {what named : Act} (number : ℕ) (given out : List ℕ) {r : Outcome} {exit : List ℕ} → what ≡ named
    → Is (acted s named number given out) r exit → Is (acted s what number given out) r exit
by_name s number given out {r} {exit} e is = subst⁻¹ (λ (w : Act). Is (acted s w number given out) r exit) e is

pub by_call : (s : Session) {made meant : Call} {r : Outcome} {exit : List ℕ} → made ≡ meant → Is (step s made) r exit → Is (step s meant) r exit
by_call s {r = r} {exit} e is = subst (λ (c : Call). Is (step s c) r exit) e is
