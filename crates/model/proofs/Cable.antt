-- In every history the state stands for the bytes fed since the newest command: where its reply is awaited they lead to the progress, and
-- otherwise to the reply's end; and as many are consumed as the table reads.
-- Assumes nothing.
use Rattle.std.specs.Prelude.{Option, Some, None}
use Prim.Native.Nat.{ℕ, ◌+◌}
use native.Mathlib.Omega.{arith}
use mathlib.Core.Path.{◌≡◌, refl, sym, ap, ap₂, subst, ◌∙◌}
use mathlib.Core.Bool.{Bool, true, false, not, true≢false}
use mathlib.Core.Logic.{inl, inr}
use mathlib.Core.List.{List, [], ◌∷◌, ◌++◌, append-nil}
use lib.Dec.{ltb, eqb}
use lib.ListN.{length}
use Rattle.model.specs.declared.Interface.{Interface}
use Rattle.model.specs.declared.Interface.TheVariants.{Spi, Uart}
use Rattle.model.specs.declared.Refusal.{Refusal}
use Rattle.model.specs.declared.Refusal.TheVariants.{Short, Unawaited}
use Rattle.model.specs.declared.Kind.{Kind}
use Rattle.model.specs.declared.Awaited.{Awaited}
use Rattle.model.specs.declared.Form.{Form}
use Rattle.model.specs.declared.Phase.TheVariants.{Begun}
use Rattle.model.specs.declared.Progress.{Progress}
use Rattle.model.specs.declared.Wake.{Wake}
use Rattle.model.specs.declared.End.{End}
use Rattle.model.specs.declared.End.TheVariants.{Good, Woken, Error, Malformed}
use Rattle.model.specs.declared.Step.{Step}
use Rattle.model.specs.declared.Step.TheVariants.{On as reading, Over}
use Rattle.model.specs.declared.Place.{Place}
use Rattle.model.specs.declared.Fed.{Fed}
use Rattle.model.specs.declared.Plan.{Plan}
use Rattle.model.specs.declared.Calibration.{Calibration}
use Rattle.model.specs.declared.Turn.{Turn}
use Rattle.model.specs.declared.Turn.TheVariants.{Goes, Names, Fails}
use Rattle.model.specs.declared.State.{State}
use Rattle.model.specs.declared.State.TheVariants.{PowerUp, Ready, Selected, Waiting, Lost}
use Rattle.model.specs.declared.Session.{Session}
use Rattle.model.specs.declared.Outcome.{Outcome}
use Rattle.words.specs.Words.{pick}
use Rattle.words.specs.Contract.{Ran}
use Rattle.model.specs.Frames.{is, idle, send, bytes}
use Rattle.model.specs.Replies.{least_room, form_of, idled, reached, used, has_data, begun, over, placed, fed_by}
use Rattle.model.specs.Calibration.{settings_at, heard}
use Rattle.model.specs.Checks.{◌when◌, Passes}
use Rattle.model.specs.Session.{pulsed, refuse, lent, is_waiting, protocol_of, resting, turned, woken, ended_by, outcome_by, outcome_of, continuing, writing_next, continues, Awaits, none, some, is_some, awaits, takes, checks, does, Call, power_on, pulse, request, reset, poll, read, calibrate, next, feed, step}
use Rattle.model.specs.History.{Reached, turn, run, on, Passing, passing_by, source_in, level_in, Exchange, exchange, fed, exchanges_by, exchanges}
use Rattle.model.specs.Promises.{After, Consumes}
use Rattle.words.proofs.Words.{ways}
use Rattle.model.proofs.Ordering.{Gives, awaited, Quiet, unheard, ignored, quiet, by_step}
use Rattle.model.proofs.Machine.{stays, no_more, reached_append, used_append}

-- ---- the invariant

-- where the bytes fed since a command lead
abbrev pub led_to : Exchange → Step
led_to x = reached (form_of x.awaited) (reading Begun) x.bytes

abbrev pub StandsBy : Awaits → Exchange → Type 0
StandsBy none x = (e : End) × (led_to x ≡ Over e)
StandsBy (some p selected) x = (p.awaited ≡ x.awaited) × (led_to x ≡ reading p.phase)

pub record Stands (w : Awaits) (x : Exchange) : Type 0 where
  pub stands : StandsBy w x
  pub counts : used (form_of x.awaited) (reading Begun) x.bytes ≡ x.used

abbrev pub NowBy : Awaits → List Exchange → Type 0
NowBy w [] = is_some w ≡ false
NowBy w (x ∷ es) = Stands w x

abbrev pub Now : State → List Exchange → Type 0
Now state es = NowBy (awaits state) es

-- a call with this outcome keeps it
abbrev pub Keeps : List Exchange → Call → Ran Outcome → Type 0
Keeps es c m = Now m.answer.session.state (exchanges_by (passing_by c m.answer.answer m.answer.used m.bytes) es)

-- ---- bytes that are not read

-- no bytes
none_fed : (w : Awaits) (es : List Exchange) → NowBy w es → NowBy w (fed [] 0 es)
none_fed w [] v = v
none_fed w (x ∷ es) v =
    subst (Stands w) {x = x} {y = exchange x.owner x.awaited (x.bytes ++ []) (x.used + 0)}
    (ap₂ (λ (ys : List ℕ) (k : ℕ). exchange x.owner x.awaited ys k) (sym (append-nil x.bytes)) (omega arith)) v

-- bytes behind a reply's end
pub over_fed : (x : Exchange) (e : End) (xs : List ℕ) → led_to x ≡ Over e → reached (form_of x.awaited) (reading Begun) (x.bytes ++ xs) ≡ Over e
over_fed x e xs q =
    reached_append (form_of x.awaited) (reading Begun) x.bytes xs ∙ ap (λ (s : Step). reached (form_of x.awaited) s xs) q ∙ stays (form_of x.awaited) e xs

unread : (w : Awaits) (es : List Exchange) (xs : List ℕ) → is_some w ≡ false → NowBy w es → NowBy w (fed xs 0 es)
unread none [] xs f v = v
unread none (x ∷ es) xs f v =
    let form = form_of x.awaited in
    let e = v.stands.0 in
    let q = v.stands.1 in
    record {
      stands = (e, over_fed x e xs q);
      counts =
          used_append form (reading Begun) x.bytes xs
          ∙ omega (arith, v.counts, ap (λ (s : Step). used form s xs) q, no_more form e xs);
    }
unread (some p selected) es xs f v = absurd (true≢false f)

-- a piece that is refused in a room that is long enough finds nothing awaited
pub unasked : (waits short : Bool) (k : Refusal) → Gives k (Unawaited when not waits ∷ Short when short ∷ []) → short ≡ false → waits ≡ false
unasked true short k (inl (_, w)) e = absurd (true≢false (sym w))
unasked true short k (inr (_, inl (_, b))) e = absurd (true≢false (sym b ∙ e))
unasked true short k (inr (_, inr (_, g))) e = absurd g
unasked false short k g e = refl

keep_refused : (s : Session) (es : List Exchange) → Now s.state es → (c : Call) (k : Refusal) → Gives k (checks s c) → Quiet c → Keeps es c (refuse s k (lent c))
keep_refused s es v c k g (unheard d u) = subst (λ (p : Passing). Now s.state (exchanges_by p es)) (sym (u k (lent d))) v
keep_refused s es v c k g (ignored x xs room) =
    ways (λ (zs : List ℕ). Now s.state (fed zs 0 es)) (ltb (length room) least_room) (λ _. none_fed (awaits s.state) es v)
    (λ e. unread (awaits s.state) es (x ∷ xs) (unasked (is_waiting s.state) (ltb (length room) least_room) k g e) v)

-- ---- commands

keep_pulse : (state : State) (es : List Exchange) → Now state es → Now (pulsed state) es
keep_pulse PowerUp es v = v
keep_pulse Ready es v = v
keep_pulse (Selected protocol) es v = v
keep_pulse (Waiting p selected) es v = v
keep_pulse Lost es v = v

-- WU source and level are read off the bytes given out, over either interface
pub source_is : (i : Interface) (plan : Plan) (level : ℕ) (rest : List ℕ) → source_in (bytes i (send (idle (settings_at plan level))) ++ rest) ≡ (settings_at plan level).source
source_is Spi plan level rest = refl
source_is Uart plan level rest = refl

pub level_is : (i : Interface) (plan : Plan) (level : ℕ) (rest : List ℕ) → level_in (bytes i (send (idle (settings_at plan level))) ++ rest) ≡ level
level_is Spi plan level rest = refl
level_is Uart plan level rest = refl

-- the reply that is awaited is the one read off the bytes
given_out : (i : Interface) (plan : Plan) (level : ℕ) (rest : List ℕ) (x : Exchange) (selected : ℕ)
    → x.awaited ≡ idled (source_in (bytes i (send (idle (settings_at plan level))) ++ rest)) → x.bytes ≡ [] → x.used ≡ 0
    → Stands (some (begun (idled (settings_at plan level).source)) selected) x
given_out i plan level rest x selected a b u =
    let same : x.awaited ≡ idled (settings_at plan level).source = a ∙ ap idled (source_is i plan level rest) in
    record {
      stands = (sym same, ap (λ (ys : List ℕ). reached (form_of x.awaited) (reading Begun) ys) b);
      counts = ap (λ (ys : List ℕ). used (form_of x.awaited) (reading Begun) ys) b ∙ sym u;
    }

-- ---- a piece that is read

-- an outcome after which nothing is awaited, with k bytes consumed
pub record Closed (k : ℕ) (o : Outcome) : Type 0 where
  pub nothing_awaited : awaits o.session.state ≡ none
  pub consumed : o.used ≡ k

rests : (n : ℕ) → awaits (resting n) ≡ none
rests n = ways (λ (z : State). awaits z ≡ none) (eqb n 0) (λ _. refl) (λ _. refl)

closed_turned : (t : Turn) (plan : Plan) (w : Wake) (s : Session) (k : ℕ) (place : Place) → Closed k (turned t plan w s k place)
closed_turned (Goes found) plan w s k place = record { nothing_awaited = refl; consumed = refl }
closed_turned (Names r n) plan w s k place = record { nothing_awaited = refl; consumed = refl }
closed_turned (Fails j) plan w s k place = record { nothing_awaited = refl; consumed = refl }

closed_woken : (c : Option Calibration) (w : Wake) (s : Session) (k : ℕ) (place : Place) → Closed k (woken c w s k place)
closed_woken None w s k place = record { nothing_awaited = refl; consumed = refl }
closed_woken (Some c) w s k place = closed_turned (heard c.search w) c.plan w s k place

-- where a reply is over, none is awaited
pub closed : (e : End) (s : Session) (a : Awaited) (selected k : ℕ) (place : Place) → Closed k (ended_by e s a selected k place)
closed Good s a selected k place =
    record {
      nothing_awaited = ways (λ (z : State). awaits z ≡ none) (is a.kind Kind.ProtocolSelect) (λ _. rests a.first) (λ _. rests selected);
      consumed = refl;
    }
closed (Woken w) s a selected k place = closed_woken s.calibration w s k place
closed (Error code) s a selected k place =
    record {
      nothing_awaited = ways (λ (z : State). awaits z ≡ none) (is a.kind Kind.ProtocolSelect) (λ _. refl) (λ _. rests selected);
      consumed = refl;
    }
closed (Malformed at b) s a selected k place = record { nothing_awaited = refl; consumed = refl }

-- what a piece comes to that ends a reply
pub over_answer : (e : End) (a : Awaited) (h k : ℕ) (ds room : List ℕ) (start u : ℕ)
    → (place : Place) × ((fed_by (Over e) a h k ds room start u).answer ≡ over a e place u)
over_answer e a h k ds room start u =
    ways (λ (m : Ran Fed). (place : Place) × (m.answer ≡ over a e place u)) (has_data e) (λ _. (placed h k start, refl)) (λ _. (Place.Nowhere, refl))

abbrev pub after : Session → Progress → ℕ → Fed → Outcome
after s p selected r = outcome_by r.verdict r s p.awaited selected

-- the piece leads from the bytes before it to a step, over u more bytes
module _ (s : Session) (p : Progress) (selected : ℕ) (x : Exchange) (same : p.awaited ≡ x.awaited) (xs : List ℕ) (u : ℕ) (many : used (form_of x.awaited) (reading Begun) (x.bytes ++ xs) ≡ x.used + u) where
  abbrev now : ℕ → Exchange
  now k = exchange x.owner x.awaited (x.bytes ++ xs) (x.used + k)

  abbrev Read : Fed → Type 0
  Read r = Stands (awaits (after s p selected r).session.state) (now (after s p selected r).used)

  read_to : (t : Step) (h k : ℕ) (ds room : List ℕ) (start : ℕ) → led_to (now u) ≡ t → Read (fed_by t p.awaited h k ds room start u).answer
  read_to (reading q) h k ds room start e = record { stands = (same, e); counts = many }
  read_to (Over e) h k ds room start l =
      let (place, q) = over_answer e p.awaited h k ds room start u in
      let c = closed e s p.awaited selected u place in
      subst Read (sym q)
      (subst (λ (w : Awaits). Stands w (now (ended_by e s p.awaited selected u place).used)) (sym c.nothing_awaited)
      (subst (λ (n : ℕ). Stands none (now n)) (sym c.consumed) (record { stands = (e, l); counts = many })))

-- reading goes on from the progress
module _ (p : Progress) (selected : ℕ) (x : Exchange) (xs : List ℕ) (v : Stands (some p selected) x) where
  abbrev form : Form
  form = form_of p.awaited

  led : reached form (reading Begun) x.bytes ≡ reading p.phase
  led = subst (λ (a : Awaited). reached (form_of a) (reading Begun) x.bytes ≡ reading p.phase) (sym v.stands.0) v.stands.1

  pub led_on : reached (form_of x.awaited) (reading Begun) (x.bytes ++ xs) ≡ reached form (reading p.phase) xs
  led_on =
      subst (λ (a : Awaited). reached (form_of a) (reading Begun) (x.bytes ++ xs) ≡ reached form (reading p.phase) xs) v.stands.0
      (reached_append form (reading Begun) x.bytes xs ∙ ap (λ (t : Step). reached form t xs) led)

  pub counted_on : used (form_of x.awaited) (reading Begun) (x.bytes ++ xs) ≡ x.used + used form (reading p.phase) xs
  counted_on =
      let counted : used form (reading Begun) x.bytes ≡ x.used = subst (λ (a : Awaited). used (form_of a) (reading Begun) x.bytes ≡ x.used) (sym v.stands.0) v.counts in
      subst (λ (a : Awaited). used (form_of a) (reading Begun) (x.bytes ++ xs) ≡ x.used + used form (reading p.phase) xs) v.stands.0
      (used_append form (reading Begun) x.bytes xs ∙ ap₂ (λ (i j : ℕ). i + j) counted (ap (λ (t : Step). used form t xs) led))

keep_read : (s : Session) (p : Progress) (selected : ℕ) (x : Exchange) (xs room : List ℕ) → Stands (some p selected) x
    → let o = (outcome_of s p selected xs room).answer in Stands (awaits o.session.state) (exchange x.owner x.awaited (x.bytes ++ xs) (x.used + o.used))
keep_read s p selected x xs room v =
    read_to s p selected x v.stands.0 xs _ (counted_on p selected x xs v) (reached (form_of p.awaited) (reading p.phase) xs) _ _ _ room _ (led_on p selected x xs v)

-- ---- any call

keep_next : (c : Option Calibration) (s : Session) (es : List Exchange) (out : List ℕ) → Passes (continuing c s.state ++ writing_next c s out) → Keeps es (next out) (continues c s out)
keep_next None s es out p = absurd (true≢false p.0)
keep_next (Some c) s es out p = given_out s.interface c.plan c.search.level _ _ (protocol_of s.state) refl refl refl

keep_piece : (s : Session) (p : Progress) (selected : ℕ) (es : List Exchange) (xs room : List ℕ) → NowBy (some p selected) es
    → let o = (outcome_of s p selected xs room).answer in Now o.session.state (fed xs o.used es)
keep_piece s p selected [] xs room v = absurd (true≢false v)
keep_piece s p selected (x ∷ es) xs room v = keep_read s p selected x xs room v

keep_done : (s : Session) (es : List Exchange) → Now s.state es → (c : Call) → Passes (checks s c) → Keeps es c (does s c)
keep_done s es v (power_on i) p = refl
keep_done s es v pulse p = keep_pulse s.state es v
keep_done s es v (request c out) p = record { stands = (refl, refl); counts = refl }
keep_done s es v (reset out) p = refl
keep_done s es v (poll out) p = v
keep_done s es v (read n out) p = v
keep_done s es v (calibrate plan out) p = given_out s.interface plan 0x00 _ _ (protocol_of s.state) refl refl refl
keep_done s es v (next out) p = keep_next s.calibration s es out p
keep_done s es v (feed [] room) p =
    ways (λ (zs : List ℕ). Now s.state (fed zs 0 es)) (ltb (length room) least_room) (λ _. none_fed (awaits s.state) es v) (λ _. none_fed (awaits s.state) es v)
keep_done s es v (feed (x ∷ xs) room) (w, (e, _)) =
    let o : State → Outcome = λ z. (takes (awaits z) s (x ∷ xs) room).answer in
    subst (λ (short : Bool). Now (o s.state).session.state (fed (pick short [] (x ∷ xs)) (o s.state).used es)) (sym e)
    (awaited (λ (z : State). Now z es → Now (o z).session.state (fed (x ∷ xs) (o z).used es)) s.state w (λ p selected. keep_piece s p selected es (x ∷ xs) room) v)

pub keep_now : (s : Session) (es : List Exchange) → Now s.state es → (c : Call) → Keeps es c (step s c)
keep_now s es v c = by_step (Keeps es c) s c (λ k _ g. keep_refused s es v c k g (quiet s c k g)) (keep_done s es v c)

holds : (r : Reached) → Now r.session.state (exchanges r.history) → (cs : List Call) → Now (run r cs).session.state (exchanges (run r cs).history)
holds r v [] = v
holds r v (c ∷ cs) = holds (turn r c) (keep_now r.session (exchanges r.history) v c) cs

pub now_of : (r : Reached) → After r → Now r.session.state (exchanges r.history)
now_of r (s, i, cs, p) = subst (λ (x : Reached). Now x.session.state (exchanges x.history)) p (holds (on s i) refl cs)

pub consumes : Consumes
consumes r a x es e = sym (subst (Now r.session.state) e (now_of r a)).counts
