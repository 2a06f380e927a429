-- A line makes at most one call of the session.
-- Assumes nothing.
use Prim.Native.Nat.{ℕ}
use mathlib.Core.Path.{◌≡◌, refl}
use mathlib.Core.Logic.{◌⊎◌, inl, inr}
use mathlib.Core.List.{List}
use lib.Dec.{leb, ltb, eqb}
use lib.ListN.{length}
use Rattle.std.specs.Prelude.{Result, Ok, Err}
use Rattle.model.specs.declared.Session.{Session}
use Rattle.model.specs.Frames.{command, send_recv}
use Rattle.model.specs.Session.{power_on, pulse, request, reset, poll, read, calibrate, next, feed}
use Rattle.words.proofs.Words.{ways}
use Rattle.lines.specs.Lines.{fore, byte_at, skipped}
use Rattle.calls.specs.declared.Act.{Act}
use Rattle.calls.specs.Calls.{data_for}
use Rattle.calls.specs.declared.Act.TheVariants.{PowerOn, Pulse, Sends, Inventory, Reset, Poll, Read, Calibrate, Next}
use Rattle.calls.specs.declared.Buffer.TheVariants.{Out, Room}
use Rattle.calls.specs.declared.Verb.{Verb}
use Rattle.calls.specs.declared.Verb.TheVariants.{Acts, Feeds, Tells, Speaks, Sets, Helps}
use Rattle.calls.specs.declared.Asked.{Asked}
use Rattle.calls.specs.declared.Wrong.{Wrong}
use Rattle.reading.specs.Asking.{asked}
use Rattle.acts.specs.Acts.{interface_of, plan_of, request_for, acted}
use Rattle.desk.specs.declared.Post.{Post}
use Rattle.desk.specs.Desk.{Left, Heard, obeyed, carried_out, longest}
use Rattle.desk.specs.Claims.{Made, OneCall}

act_made : (s : Session) (act : Act) (number : ℕ) (given out : List ℕ) → Made s (acted s act number given out).answer.session
act_made s PowerOn number given out = record { call = power_on (interface_of number); is = refl }
act_made s Pulse number given out = record { call = pulse; is = refl }
act_made s (Sends kind) number given out = record { call = request (command kind (data_for kind given)) out; is = refl }
act_made s Inventory number given out = record { call = request (send_recv (request_for number)) out; is = refl }
act_made s Reset number given out = record { call = reset out; is = refl }
act_made s Poll number given out = record { call = poll out; is = refl }
act_made s Read number given out = record { call = read number out; is = refl }
act_made s Calibrate number given out = record { call = calibrate (plan_of number given) out; is = refl }
act_made s Next number given out = record { call = next out; is = refl }

module _ (post : Post) (out room text : List ℕ) where
  abbrev Once : Left → Type 0
  Once left = let after = left.done.answer.post.session in (after ≡ post.session) ⊎ Made post.session after

  by_obeyed : (call : Verb) (number : ℕ) (given : List ℕ) → Once (obeyed call post number given out room text)
  by_obeyed (Acts act) number given = inr (act_made post.session act number given (fore out post.out))
  by_obeyed Feeds number given = inr (record { call = feed given (fore room post.room); is = refl })
  by_obeyed (Tells question) number given = inl refl
  by_obeyed (Speaks what) number given = inl refl
  by_obeyed (Sets Out) number given = inl refl
  by_obeyed (Sets Room) number given = inl refl
  by_obeyed Helps number given = inl refl

  by_heard : (number : ℕ) (read : Result Asked Wrong) (bytes : List ℕ) → Once (carried_out number read bytes post out room text)
  by_heard number (Ok it) bytes = by_obeyed it.call it.number (fore bytes it.count)
  by_heard number (Err it) bytes = inl refl

pub one_call : OneCall
one_call line number post bytes out room text =
    let read = asked line bytes in
    let start = skipped line 0 in
    let once : Heard → Type 0 = λ (heard : Heard). Once post out room text heard.left in
    ways once (ltb longest (length line)) (λ l. inl refl)
    (λ l. ways once (leb (length line) start) (λ t. inl refl)
    (λ t. ways once (eqb (byte_at line start) 35) (λ e. inl refl) (λ e. by_heard post out room text number read.answer read.bytes)))
