-- What was put at the front of a text is what the line tells; and an outcome is told by what the model says of it.
-- Assumes nothing.
use Prim.Native.Nat.{ℕ}
use mathlib.Core.Path.{◌≡◌, subst, subst⁻¹, ap₂}
use mathlib.Core.List.{List}
use Rattle.model.specs.declared.Outcome.{Outcome}
use Rattle.words.specs.Contract.{Ran, Is}
use Rattle.text.specs.Writing.{Puts}
use Rattle.desk.specs.declared.Post.{Post}
use Rattle.desk.specs.declared.Done.{Done}
use Rattle.desk.specs.Desk.{saying}

-- what a lent buffer holds at exit is what was put there
pub lent : {text between exit : List ℕ} {at r : ℕ} {parts : List (List ℕ)} → exit ≡ between → Puts text at parts r between → Puts text at parts r exit
lent {text} {at = at} {r} {parts} e puts = subst⁻¹ (λ (t : List ℕ). Puts text at parts r t) e puts

pub telling : {kept post : Post} {parts : List (List ℕ)} {text exit : List ℕ} {n : ℕ} → kept ≡ post → Puts text 0 parts n exit
    → Is (saying post parts text) (record { post = kept; n = n }) exit
telling e puts =
    record { answer = ap₂ (λ (p : Post) (k : ℕ). record { post = p; n = k }) e puts.is.answer; bytes = puts.is.bytes }

-- an outcome and a buffer that are the model's may stand for the model
pub by_outcome : (tell : Ran Outcome → Ran Done) {ran : Ran Outcome} {o : Outcome} {buffer text : List ℕ} {r : Done} → Is ran o buffer
    → Is (tell (record { answer = o; bytes = buffer })) r text → Is (tell ran) r text
by_outcome tell {text = text} {r} is saying =
    subst (λ (ran : Ran Outcome). Is (tell ran) r text)
    (ap₂ (λ (p : Outcome) (b : List ℕ). record { answer = p; bytes = b }) is.answer is.bytes) saying
