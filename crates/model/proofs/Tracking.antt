-- The state of a session is the one that the cable tells; its interface is that of the newest power-on.
-- Assumes nothing.
use Rattle.std.specs.Prelude.{Option, Some, None}
use Prim.Native.Nat.{ℕ, zero, suc, ◌+◌}
use mathlib.Core.Path.{◌≡◌, refl, sym, ap, ap₂, subst, ◌∙◌}
use mathlib.Core.Bool.{Bool, true, false, not, ◌||◌, true≢false}
use mathlib.Core.List.{List, [], ◌∷◌, ◌++◌, append-nil}
use lib.Dec.{ltb, eqb}
use lib.ListN.{length}
use borrow.Author.Tests.{ne_eqb}
use native.Mathlib.Omega.{arith}
use Rattle.model.specs.declared.Refusal.{Refusal}
use Rattle.model.specs.declared.Kind.TheVariants.{ProtocolSelect}
use Rattle.model.specs.declared.Awaited.{Awaited}
use Rattle.model.specs.declared.Phase.TheVariants.{Begun}
use Rattle.model.specs.declared.Progress.{Progress}
use Rattle.model.specs.declared.Wake.{Wake}
use Rattle.model.specs.declared.End.{End}
use Rattle.model.specs.declared.End.TheVariants.{Good, Woken, Error, Malformed}
use Rattle.model.specs.declared.Step.{Step}
use Rattle.model.specs.declared.Step.TheVariants.{On as reading, Over}
use Rattle.model.specs.declared.Verdict.{Verdict}
use Rattle.model.specs.declared.Verdict.TheVariants.{More, Ended, NoRoom}
use Rattle.model.specs.declared.Place.{Place}
use Rattle.model.specs.declared.Fed.{Fed}
use Rattle.model.specs.declared.Plan.{Plan}
use Rattle.model.specs.declared.Search.{Search}
use Rattle.model.specs.declared.Calibration.{Calibration}
use Rattle.model.specs.declared.Turn.{Turn}
use Rattle.model.specs.declared.Turn.TheVariants.{Goes, Names, Fails}
use Rattle.model.specs.declared.State.{State}
use Rattle.model.specs.declared.State.TheVariants.{PowerUp, Ready, Selected, Waiting, Lost}
use Rattle.model.specs.declared.Session.{Session}
use Rattle.model.specs.declared.Outcome.{Outcome}
use Rattle.words.specs.Words.{pick}
use Rattle.words.specs.Contract.{Ran}
use Rattle.model.specs.Frames.{is}
use Rattle.model.specs.Replies.{least_room, form_of, idled, reached, verdict_of, reply, begun, fed_by, fed_from}
use Rattle.model.specs.Calibration.{heard}
use Rattle.model.specs.Checks.{Passes}
use Rattle.model.specs.Session.{pulsed, refuse, lent, is_waiting, is_off, is_due, protocol_of, resting, turned, woken, ended_by, outcome_by, outcome_of, continuing, writing_next, continues, Awaits, none, some, is_some, awaits, takes, checks, does, Call, power_on, pulse, request, reset, poll, read, calibrate, next, feed, step}
use Rattle.model.specs.History.{Reached, turn, run, on, Owner, passing_by, Exchange, exchange, fed, exchanges_by, exchanges, verdict_in}
use Rattle.model.specs.Tracked.{selecting, after_end, is_power, is_pulse, awake, tracked, state_in, known, Tracks, interface_by, Interfaces, KeepsSession}
use Rattle.words.proofs.Words.{ways}
use Rattle.model.proofs.Ordering.{Gives, awaited, by_step}
use Rattle.model.proofs.Cable.{Stands, NowBy, Now, over_fed, unasked, source_is, over_answer, after, led_on, keep_now}

-- ---- states that the cable tells

-- Selected is never of 0, and Power-up comes before a pulse
abbrev Sound : Bool → State → Type 0
Sound awake PowerUp = awake ≡ false
Sound awake Ready = Unit {0}
Sound awake (Selected protocol) = resting protocol ≡ Selected protocol
Sound awake (Waiting progress selected) = Unit {0}
Sound awake Lost = Unit {0}

selecting_is : (n : ℕ) → resting n ≡ selecting n
selecting_is zero = refl
selecting_is (suc n) = simp (ne_eqb (suc n) 0 (λ e. absurd (omega arith)))

sound_selecting : (awake : Bool) (n : ℕ) → Sound awake (selecting n)
sound_selecting awake zero = tt
sound_selecting awake (suc n) = selecting_is (suc n)

module _ (awake : Bool) (before : State) (v : Sound awake before) where
  sound_tracked : (w : Verdict) (a : Awaited) → Sound awake (tracked w a before)
  sound_tracked More a = tt
  sound_tracked (Ended Good) a = ways (Sound awake) (is a.kind ProtocolSelect) (λ _. sound_selecting awake a.first) (λ _. v)
  sound_tracked (Ended (Woken w)) a = tt
  sound_tracked (Ended (Error code)) a = ways (Sound awake) (is a.kind ProtocolSelect) (λ _. tt) (λ _. v)
  sound_tracked (Ended (Malformed place b)) a = tt
  sound_tracked NoRoom a = v

sound : (awake : Bool) (es : List Exchange) → Sound awake (state_in awake es)
sound true [] = tt
sound false [] = refl
sound awake (x ∷ es) = sound_tracked awake (state_in awake es) (sound awake es) (verdict_in x) x.awaited

-- ---- the invariant

-- before each command the state was Ready or Selected
abbrev Settled : Bool → List Exchange → Type 0
Settled awake [] = Unit {0}
Settled awake (x ∷ es) = (resting (protocol_of (state_in awake es)) ≡ state_in awake es) × Settled awake es

pub record Tracked (awake : Bool) (state : State) (es : List Exchange) : Type 0 where
  pub same : known state ≡ state_in awake es
  pub settled : Settled awake es

abbrev is_up : State → Bool
is_up PowerUp = true
is_up Ready = false
is_up (Selected protocol) = false
is_up (Waiting progress selected) = false
is_up Lost = false

-- no command is given out before a pulse
no_command : (x : Exchange) (es : List Exchange) → Settled false (x ∷ es) → ⊥
no_command x [] (e, _) = true≢false (sym (ap is_up e))
no_command x (y ∷ es) (_, v) = no_command y es v

-- ---- a pulse

pulsed_awake : (state : State) (es : List Exchange) → known state ≡ state_in true es → known (pulsed state) ≡ state_in true es
pulsed_awake PowerUp es e = absurd (true≢false (subst (Sound true) (sym e) (sound true es)))
pulsed_awake Ready es e = e
pulsed_awake (Selected protocol) es e = e
pulsed_awake (Waiting p selected) es e = e
pulsed_awake Lost es e = e

pulsed_up : (state : State) → known state ≡ PowerUp → known (pulsed state) ≡ Ready
pulsed_up PowerUp e = refl
pulsed_up Ready e = refl
pulsed_up (Selected protocol) e = absurd (true≢false (sym (ap is_up e)))
pulsed_up (Waiting p selected) e = absurd (true≢false (sym (ap is_up e)))
pulsed_up Lost e = absurd (true≢false (sym (ap is_up e)))

track_pulse : (awake : Bool) (state : State) (es : List Exchange) → Tracked awake state es → Tracked true (pulsed state) es
track_pulse true state es v = record { same = pulsed_awake state es v.same; settled = v.settled }
track_pulse false state [] v = record { same = pulsed_up state v.same; settled = tt }
track_pulse false state (x ∷ es) v = absurd (no_command x es v.settled)

-- ---- a command

or_left : (a b : Bool) → (a || b) ≡ false → a ≡ false
or_left true b e = absurd (true≢false e)
or_left false b e = refl

-- a command of a calibration is due in Ready alone
due_ready : (state : State) (found : Search) → not (is_due state found) ≡ false → (is_off state ≡ false) × (is_waiting state ≡ false)
due_ready PowerUp found e = absurd (true≢false e)
due_ready Ready found e = (refl, refl)
due_ready (Selected protocol) found e = absurd (true≢false e)
due_ready (Waiting p selected) found e = absurd (true≢false e)
due_ready Lost found e = absurd (true≢false e)

protocol_known : (state : State) → protocol_of (known state) ≡ protocol_of state
protocol_known PowerUp = refl
protocol_known Ready = refl
protocol_known (Selected protocol) = refl
protocol_known (Waiting p selected) = refl
protocol_known Lost = refl

rests : (awake : Bool) (state : State) → is_off state ≡ false → is_waiting state ≡ false → Sound awake (known state) → resting (protocol_of (known state)) ≡ known state
rests awake PowerUp on free v = absurd (true≢false on)
rests awake Ready on free v = refl
rests awake (Selected protocol) on free v = v
rests awake (Waiting p selected) on free v = absurd (true≢false free)
rests awake Lost on free v = absurd (true≢false on)

track_given : (awake : Bool) (state : State) (es : List Exchange) → Tracked awake state es → is_off state ≡ false → is_waiting state ≡ false
    → (o : Owner) (a b : Awaited) → a ≡ b → Tracked awake (Waiting (begun a) (protocol_of state)) (exchange o b [] 0 ∷ es)
track_given awake state es v on free o a b e =
    record {
      same = ap₂ (λ (c : Awaited) (n : ℕ). Waiting (begun c) n) e (sym (protocol_known state) ∙ ap protocol_of v.same);
      settled = (
        subst (λ (st : State). resting (protocol_of st) ≡ st) v.same (rests awake state on free (subst (Sound awake) (sym v.same) (sound awake es))),
        v.settled,
      );
    }

-- ---- a reply

known_resting : (n : ℕ) → known (resting n) ≡ resting n
known_resting n = ways (λ (st : State). known st ≡ st) (eqb n 0) (λ _. refl) (λ _. refl)

turned_is : (t : Turn) (plan : Plan) (w : Wake) (s : Session) (k : ℕ) (place : Place) → (turned t plan w s k place).session.state ≡ Ready
turned_is (Goes found) plan w s k place = refl
turned_is (Names r n) plan w s k place = refl
turned_is (Fails j) plan w s k place = refl

woken_is : (c : Option Calibration) (w : Wake) (s : Session) (k : ℕ) (place : Place) → (woken c w s k place).session.state ≡ Ready
woken_is None w s k place = refl
woken_is (Some c) w s k place = turned_is (heard c.search w) c.plan w s k place

-- ProtocolSelect, or all else
either_is : (b : Bool) (x y x' y' : State) → known x ≡ x' → known y ≡ y' → known (pick b x y) ≡ pick b x' y'
either_is true x y x' y' p q = p
either_is false x y x' y' p q = q

module _ (selected : ℕ) (before : State) (back : resting selected ≡ before) where
  end_is : (e : End) (s : Session) (a : Awaited) (k : ℕ) (place : Place) → known (ended_by e s a selected k place).session.state ≡ after_end e a before
  end_is Good s a k place = either_is (is a.kind ProtocolSelect) _ _ _ _ (known_resting a.first ∙ selecting_is a.first) (known_resting selected ∙ back)
  end_is (Woken w) s a k place = ap known (woken_is s.calibration w s k place)
  end_is (Error code) s a k place = either_is (is a.kind ProtocolSelect) _ _ _ _ refl (known_resting selected ∙ back)
  end_is (Malformed at b) s a k place = refl

-- ---- bytes

-- bytes that are not read, or none, change no verdict
none_read : (x : Exchange) → verdict_in (exchange x.owner x.awaited (x.bytes ++ []) (x.used + 0)) ≡ verdict_in x
none_read x = ap (λ (ys : List ℕ). (reply x.awaited ys).verdict) (append-nil x.bytes)

abbrev Unheard : Bool → List Exchange → List ℕ → Type 0
Unheard awake es xs = state_in awake (fed xs 0 es) ≡ state_in awake es

unread : (awake : Bool) (w : Awaits) (es : List Exchange) (xs : List ℕ) → is_some w ≡ false → NowBy w es → Unheard awake es xs
unread awake none [] xs f v = refl
unread awake none (x ∷ es) xs f v =
    ap (λ (t : Step). tracked (verdict_of t) x.awaited (state_in awake es)) (over_fed x v.stands.0 xs v.stands.1 ∙ sym v.stands.1)
unread awake (some p selected) es xs f v = absurd (true≢false f)

none_fed : (awake : Bool) (es : List Exchange) → Unheard awake es []
none_fed awake [] = refl
none_fed awake (x ∷ es) = ap (λ (v : Verdict). tracked v x.awaited (state_in awake es)) (none_read x)

settled_fed : (awake : Bool) (es : List Exchange) (xs : List ℕ) (k : ℕ) → Settled awake es → Settled awake (fed xs k es)
settled_fed awake [] xs k v = v
settled_fed awake (x ∷ es) xs k v = v

track_unheard : (awake : Bool) (state : State) (es : List Exchange) (xs : List ℕ) → Tracked awake state es → Unheard awake es xs → Tracked awake state (fed xs 0 es)
track_unheard awake state es xs v e = record { same = v.same ∙ sym e; settled = settled_fed awake es xs 0 v.settled }

abbrev selected_of : State → ℕ
selected_of PowerUp = 0
selected_of Ready = 0
selected_of (Selected protocol) = 0
selected_of (Waiting progress selected) = selected
selected_of Lost = 0

-- a piece of the reply that is awaited
module _ (awake : Bool) (s : Session) (p : Progress) (selected : ℕ) (x : Exchange) (es : List Exchange) (xs : List ℕ) (u : ℕ)
    (v : Tracked awake (Waiting p selected) (x ∷ es)) (n : Stands (some p selected) x) where
  abbrev before : State
  before = state_in awake es

  awaiting_is : Waiting (begun p.awaited) selected ≡ Waiting (begun x.awaited) (protocol_of before)
  awaiting_is = v.same ∙ ap (λ (t : Step). tracked (verdict_of t) x.awaited before) n.stands.1

  back : resting selected ≡ before
  back = ap (λ (st : State). resting (selected_of st)) awaiting_is ∙ v.settled.0

  abbrev now : ℕ → List Exchange
  now k = exchange x.owner x.awaited (x.bytes ++ xs) (x.used + k) ∷ es

  abbrev Read : Fed → Type 0
  Read r = Tracked awake (after s p selected r).session.state (now (after s p selected r).used)

  read_to : (t : Step) (h k : ℕ) (ds room : List ℕ) (start : ℕ) → reached (form_of x.awaited) (reading Begun) (x.bytes ++ xs) ≡ t
      → Read (fed_by t p.awaited h k ds room start u).answer
  read_to (reading q) h k ds room start e =
      record { same = awaiting_is ∙ ap (λ (t : Step). tracked (verdict_of t) x.awaited before) (sym e); settled = v.settled }
  read_to (Over e) h k ds room start l =
      let (place, q) = over_answer e p.awaited h k ds room start u in
      let m : known (ended_by e s p.awaited selected u place).session.state ≡ after_end e p.awaited before =
      end_is selected before back e s p.awaited u place in
      subst Read (sym q)
      (record {
        same = m ∙ ap (λ (a : Awaited). after_end e a before) n.stands.0 ∙ ap (λ (t : Step). tracked (verdict_of t) x.awaited before) (sym l);
        settled = v.settled;
      })

track_read : (awake : Bool) (s : Session) (p : Progress) (selected : ℕ) (es : List Exchange) (xs room : List ℕ) → Tracked awake (Waiting p selected) es → NowBy (some p selected) es
    → let o = (outcome_of s p selected xs room).answer in Tracked awake o.session.state (fed xs o.used es)
track_read awake s p selected [] xs room v n = absurd (true≢false n)
track_read awake s p selected (x ∷ es) xs room v n =
    read_to awake s p selected x es xs _ v n (reached (form_of p.awaited) (reading p.phase) xs) _ _ _ room _ (led_on p selected x xs n)

-- ---- any call

abbrev Keeps : Bool → List Exchange → Call → Ran Outcome → Type 0
Keeps awake es c m =
    let p = passing_by c m.answer.answer m.answer.used m.bytes in
    Tracked (pick (is_power p) false (pick (is_pulse c) true awake)) m.answer.session.state (exchanges_by p es)

module _ (awake : Bool) (s : Session) (es : List Exchange) (v : Tracked awake s.state es) (n : Now s.state es) where
  -- a piece that is refused
  refused_piece : (x : ℕ) (xs room : List ℕ) (k : Refusal) → Gives k (checks s (feed (x ∷ xs) room)) → Tracked awake s.state (fed (pick (ltb (length room) least_room) [] (x ∷ xs)) 0 es)
  refused_piece x xs room k g =
      ways (λ (zs : List ℕ). Tracked awake s.state (fed zs 0 es)) (ltb (length room) least_room) (λ _. track_unheard awake s.state es [] v (none_fed awake es))
      (λ e. track_unheard awake s.state es (x ∷ xs) v
      (unread awake (awaits s.state) es (x ∷ xs) (unasked (is_waiting s.state) (ltb (length room) least_room) k g e) n))

  track_refused : (c : Call) (k : Refusal) → Gives k (checks s c) → Keeps awake es c (refuse s k (lent c))
  track_refused (power_on i) k g = absurd g
  track_refused pulse k g = absurd g
  track_refused (request c out) k g = v
  track_refused (reset out) k g = v
  track_refused (poll out) k g = v
  track_refused (read m out) k g = v
  track_refused (calibrate plan out) k g = v
  track_refused (next out) k g = v
  track_refused (feed [] room) k g = absurd g
  track_refused (feed (x ∷ xs) room) k g = refused_piece x xs room k g

  track_next : (c : Option Calibration) (out : List ℕ) → Passes (continuing c s.state ++ writing_next c s out) → Keeps awake es (next out) (continues c s out)
  track_next None out p = absurd (true≢false p.0)
  track_next (Some c) out p =
      let (on, free) = due_ready s.state c.search p.0 in
      track_given awake s.state es v on free _ _ _ (ap idled (sym (source_is s.interface c.plan c.search.level _)))

  track_done : (c : Call) → Passes (checks s c) → Keeps awake es c (does s c)
  track_done (power_on i) p = record { same = refl; settled = tt }
  track_done pulse p = track_pulse awake s.state es v
  track_done (request c out) p = track_given awake s.state es v (or_left (is_off s.state) _ p.1.0) (or_left (is_waiting s.state) _ p.0) _ _ _ refl
  track_done (reset out) p = record { same = refl; settled = tt }
  track_done (poll out) p = v
  track_done (read m out) p = v
  track_done (calibrate plan out) p =
      track_given awake s.state es v p.1.0 (or_left (is_waiting s.state) _ p.0) _ _ _ (ap idled (sym (source_is s.interface plan 0x00 _)))
  track_done (next out) p = track_next s.calibration out p
  track_done (feed [] room) p =
      ways (λ (zs : List ℕ). Tracked awake s.state (fed zs 0 es)) (ltb (length room) least_room)
      (λ _. track_unheard awake s.state es [] v (none_fed awake es)) (λ _. track_unheard awake s.state es [] v (none_fed awake es))
  track_done (feed (x ∷ xs) room) (w, (e, _)) =
      let o : State → Outcome = λ z. (takes (awaits z) s (x ∷ xs) room).answer in
      subst (λ (short : Bool). Tracked awake (o s.state).session.state (fed (pick short [] (x ∷ xs)) (o s.state).used es)) (sym e)
      (awaited (λ (z : State). Tracked awake z es → Now z es → Tracked awake (o z).session.state (fed (x ∷ xs) (o z).used es)) s.state w
      (λ p selected. track_read awake s p selected es (x ∷ xs) room) v n)

  track : (c : Call) → Keeps awake es c (step s c)
  track c = by_step (Keeps awake es c) s c (λ k _ g. track_refused c k g) (track_done c)

holds : (r : Reached) → Now r.session.state (exchanges r.history) → Tracked (awake r.history) r.session.state (exchanges r.history) → (cs : List Call)
    → Tracked (awake (run r cs).history) (run r cs).session.state (exchanges (run r cs).history)
holds r n v [] = v
holds r n v (c ∷ cs) =
    let es = exchanges r.history in
    holds (turn r c) (keep_now r.session es n c) (track (awake r.history) r.session es v n c) cs

pub tracks : Tracks
tracks r (s, i, cs, p) =
    subst (λ (x : Reached). known x.session.state ≡ state_in (awake x.history) (exchanges x.history)) p
    (holds (on s i) refl (record { same = refl; settled = tt }) cs).same

-- ---- the interface, and calls that change nothing

pub interfaces : Interfaces
interfaces s c = by_step (λ (m : Ran Outcome). m.answer.session.interface ≡ interface_by c s.interface) s c (λ k _ g. refused c k g) (done c)
  where
    refused : (c : Call) (k : Refusal) → Gives k (checks s c) → s.interface ≡ interface_by c s.interface
    refused (power_on i) k g = absurd g
    refused pulse k g = refl
    refused (request c out) k g = refl
    refused (reset out) k g = refl
    refused (poll out) k g = refl
    refused (read n out) k g = refl
    refused (calibrate plan out) k g = refl
    refused (next out) k g = refl
    refused (feed xs room) k g = refl

    continued : (c : Option Calibration) (out : List ℕ) → (continues c s out).answer.session.interface ≡ s.interface
    continued None out = refl
    continued (Some c) out = refl

    turned_so : (t : Turn) (plan : Plan) (w : Wake) (k : ℕ) (place : Place) → (turned t plan w s k place).session.interface ≡ s.interface
    turned_so (Goes found) plan w k place = refl
    turned_so (Names r n) plan w k place = refl
    turned_so (Fails j) plan w k place = refl

    woken_so : (c : Option Calibration) (w : Wake) (k : ℕ) (place : Place) → (woken c w s k place).session.interface ≡ s.interface
    woken_so None w k place = refl
    woken_so (Some c) w k place = turned_so (heard c.search w) c.plan w k place

    read_so : (v : Verdict) (r : Fed) (a : Awaited) (selected : ℕ) → (outcome_by v r s a selected).session.interface ≡ s.interface
    read_so More r a selected = refl
    read_so (Ended Good) r a selected = refl
    read_so (Ended (Woken w)) r a selected = woken_so s.calibration w r.used r.place
    read_so (Ended (Error code)) r a selected = refl
    read_so (Ended (Malformed at b)) r a selected = refl
    read_so NoRoom r a selected = refl

    taken : (w : Awaits) (xs room : List ℕ) → (takes w s xs room).answer.session.interface ≡ s.interface
    taken none xs room = refl
    taken (some p selected) xs room = let r = (fed_from p.awaited p.phase xs room).answer in read_so r.verdict r p.awaited selected

    done : (c : Call) → Passes (checks s c) → (does s c).answer.session.interface ≡ interface_by c s.interface
    done (power_on i) p = refl
    done pulse p = refl
    done (request c out) p = refl
    done (reset out) p = refl
    done (poll out) p = refl
    done (read n out) p = refl
    done (calibrate plan out) p = refl
    done (next out) p = continued s.calibration out
    done (feed [] room) p = refl
    done (feed (x ∷ xs) room) p = taken (awaits s.state) (x ∷ xs) room

pub leaves : KeepsSession
leaves s out n = (
  by_step (λ (m : Ran Outcome). m.answer.session ≡ s) s (poll out) (λ k _ g. refl) (λ p. refl),
  by_step (λ (m : Ran Outcome). m.answer.session ≡ s) s (read n out) (λ k _ g. refl) (λ p. refl),
)
