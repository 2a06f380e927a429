-- What holds of a calibration after any calls since a power-on, and that one call more keeps it.
-- Assumes nothing.
use Rattle.std.specs.Prelude.{Option, Some, None}
use Prim.Native.Nat.{ℕ, zero, suc, ◌+◌, ◌≤◌, ◌<◌, ◌%◌}
use native.Mathlib.Omega.{arith}
use mathlib.Core.Path.{◌≡◌, refl, sym, ap, ap₂, subst, ◌∙◌}
use mathlib.Core.Bool.{Bool, true, false, not, ◌&&◌, ◌||◌, or-true, true≢false}
use mathlib.Core.Logic.{◌⊎◌, inl, inr, ⊎_elim}
use mathlib.Core.List.Memᴰ
use mathlib.Core.List.{List, [], ◌∷◌, ◌++◌, append-nil}
use lib.Dec.{T, eqb, leb, ltb, eqb→eq, leb→le}
use lib.ListN.{length}
use lib.Ieee.Fits.{and_l, and_r}
use Rattle.model.specs.declared.Interface.{Interface}
use Rattle.model.specs.declared.Refusal.{Refusal}
use Rattle.model.specs.declared.Refusal.TheVariants.{Short, Invalid, Unready, Busy, Unawaited, ChipError, LowestTimeout, HighestTag, NoLevel, CalibrationError}
use Rattle.model.specs.declared.Awaited.{Awaited}
use Rattle.model.specs.declared.Progress.{Progress}
use Rattle.model.specs.declared.Wake.{Wake}
use Rattle.model.specs.declared.Wake.TheVariants.{Timeout, Tag, IrqIn, SpiSs}
use Rattle.model.specs.declared.End.{End}
use Rattle.model.specs.declared.End.TheVariants.{Good, Woken, Error, Malformed}
use Rattle.model.specs.declared.Step.{Step}
use Rattle.model.specs.declared.Step.TheVariants.{On as reading, Over}
use Rattle.model.specs.declared.Verdict.{Verdict}
use Rattle.model.specs.declared.Verdict.TheVariants.{More, Ended, NoRoom}
use Rattle.model.specs.declared.Place.{Place}
use Rattle.model.specs.declared.Fed.{Fed}
use Rattle.model.specs.declared.Plan.{Plan}
use Rattle.model.specs.declared.Search.{Search}
use Rattle.model.specs.declared.Calibration.{Calibration}
use Rattle.model.specs.declared.Turn.{Turn}
use Rattle.model.specs.declared.Turn.TheVariants.{Goes, Names, Fails}
use Rattle.model.specs.declared.State.{State}
use Rattle.model.specs.declared.State.TheVariants.{PowerUp, Ready, Selected, Waiting, Lost}
use Rattle.model.specs.declared.Session.{Session}
use Rattle.model.specs.declared.Answer.{Answer}
use Rattle.model.specs.declared.Outcome.{Outcome}
use Rattle.words.specs.Words.{pick}
use Rattle.words.specs.Contract.{Ran}
use Rattle.model.specs.Refusals.{Report, silent, ended, number_of, values_of, report_of}
use Rattle.model.specs.Frames.{idle, send, bytes}
use Rattle.model.specs.Replies.{least_room, form_of, idled, reached, verdict_of, fed_by, fed_from}
use Rattle.model.specs.Calibration.{settings_at, search, is_tag, tagged, timed_out, searching}
use Rattle.model.specs.Checks.{Passes, mild}
use Rattle.model.specs.Session.{made, into, pulsed, refuse, lent, is_waiting, is_running, is_due, after_good, after_error, turned, woken, ended_by, outcome_by, outcome_of, continuing, writing_next, continues, Awaits, none, some, is_some, awaits, takes, checks, does, Call, power_on, pulse, request, reset, poll, read, calibrate, next, feed, step}
use Rattle.model.specs.History.{Event, Reached, event, turn, run, on, Owner, requested, first, later, Passing, source_in, Exchange, exchange, fed, exchanges_by, exchanges, own_by, trials, commands, level_of, Told, told, answer_by, verdict_in, answers_in, answers}
use Rattle.model.specs.Promises.{tag, timeout, Gave, Right, Fits, lowest, highest, eighth, error, Level, Steady, Agrees, says, newest}
use Rattle.words.proofs.Words.{ways}
use Rattle.model.proofs.Ordering.{Gives, mild_silent, awaited, Quiet, unheard, ignored, quiet, by_step}
use Rattle.model.proofs.Cable.{led_to, NowBy, Now, over_fed, unasked, source_is, level_is, closed, over_answer, led_on, keep_now}
use Rattle.model.proofs.Idling.{Idled, idled_at, never_good, wakes_by}
use Rattle.model.proofs.Tree.{woke, is_timeout, has, is_tag_last, strange, named, top, failed, counted, judge, given, tree, begins}

-- ---- the invariant

-- a command is a calibration's
abbrev pub Own : Owner → Type 0
Own requested = ⊥
Own (first l) = Unit {0}
Own (later l) = Unit {0}

-- the calibration's commands before one of its own
abbrev pub before : Owner → List Exchange → List Exchange
before requested es = []
before (first l) es = []
before (later l) es = trials es

-- a command is out, behind the exchanges es: n more may follow, and every way on is right
pub record Asked (found : Search) (o : Owner) (a : Awaited) (es : List Exchange) : Type 0 where
  pub own : Own o
  pub level : level_of o ≡ found.level
  pub idles : Idled a
  pub n : ℕ
  pub left : n + found.commands ≡ 8
  pub sent : suc (length (before o es)) ≡ found.commands
  pub heard : suc (length (answers_in (before o es))) ≡ found.commands
  pub passes : T (tree (suc n) found (answers_in (before o es)))

-- a command is due, after c commands and the answers ts
pub record Due (found : Search) (c : ℕ) (ts : List Told) : Type 0 where
  pub n : ℕ
  pub left : suc n + found.commands ≡ 8
  pub sent : c ≡ found.commands
  pub heard : length ts ≡ found.commands
  pub passes : T (tree (suc n) (given found) ts)

-- outside a calibration the reply that is awaited is a request's
abbrev pub Free : Awaits → List Exchange → Type 0
Free none es = Unit {0}
Free (some p selected) [] = Unit {0}
Free (some p selected) (x ∷ es) = x.owner ≡ requested

abbrev pub Live : Option Calibration → State → List Exchange → Type 0
Live None state es = Free (awaits state) es
Live (Some c) PowerUp es = ⊥
Live (Some c) Ready [] = ⊥
Live (Some c) Ready (x ∷ es) = Own x.owner × Due c.search (length (trials (x ∷ es))) (answers_in (trials (x ∷ es)))
Live (Some c) (Selected protocol) es = ⊥
Live (Some c) (Waiting p selected) [] = ⊥
Live (Some c) (Waiting p selected) (x ∷ es) = Asked c.search x.owner x.awaited es
Live (Some c) Lost es = ⊥

-- a count that is reported, of the commands c and the answers ts
abbrev pub Counted : ℕ → ℕ → List Told → Type 0
Counted n c ts = (n ≡ c) × (n ≡ length ts)

pub record Result (r n c : ℕ) (ts : List Told) : Type 0 where
  pub counted : Counted n c ts
  pub right : Right r ts
  pub eight : n ≡ 8
  pub level : Level r

-- no steady chip answers so
abbrev pub Unsteady : List Told → Type 0
Unsteady ts = (f : ℕ → Bool) → Steady f → Agrees f ts → ⊥

-- one answer more, or none
abbrev pub OneMore : List Told → List Told → Type 0
OneMore ts old = length ts ≡ suc (length old)

abbrev pub NoneMore : List Told → List Told → Type 0
NoneMore ts old = length ts ≤ length old

-- the newest answer
abbrev pub Newest : End → List Told → Type 0
Newest e [] = ⊥
Newest e (t ∷ ts) = t.said ≡ e

abbrev pub Tops : (Told → Type 0) → List Told → Type 0
Tops F [] = ⊥
Tops F (t ∷ ts) = F t

-- what a refusal says of the commands c, the answers ts, and the answers before it
abbrev pub RefusedBy : (Told → Type 0) → Bool → Report → ℕ → List Told → List Told → Type 0
RefusedBy F running silent c ts old = NoneMore ts old
RefusedBy F running (ended n) c ts old = (running ≡ true) × OneMore ts old × Counted n c ts × Unsteady ts × Tops F ts

-- and what an answer says, where a calibration ran before it or none did
abbrev pub SaysBy : Bool → Answer → ℕ → List Told → List Told → Type 0
SaysBy running Answer.Done c ts old = NoneMore ts old
SaysBy running (Answer.Sent n) c ts old = NoneMore ts old
SaysBy running Answer.More c ts old = NoneMore ts old
SaysBy running Answer.Good c ts old = NoneMore ts old
SaysBy running (Answer.Woken w) c ts old = ((running ≡ false) × NoneMore ts old) ⊎ ((running ≡ true) × OneMore ts old × (c < 8) × Newest (Woken w) ts)
SaysBy running (Answer.Reference r n) c ts old = (running ≡ true) × OneMore ts old × Result r n c ts
SaysBy running (Answer.Refused k) c ts old = RefusedBy (Fits (number_of k) (values_of k)) running (report_of k) c ts old

abbrev pub Says : List Event → Type 0
Says [] = Unit {0}
Says (e ∷ h) = (running : Bool) × SaysBy running e.answer (commands (e ∷ h)) (answers (e ∷ h)) (answers h)

pub record Inv (s : Session) (h : List Event) : Type 0 where
  pub now : Now s.state (exchanges h)
  pub few : commands h ≤ 8
  pub live : Live s.calibration s.state (exchanges h)
  pub says : Says h

-- what holds of an outcome with the exchanges es, and the answers before it
pub record Holds (running : Bool) (o : Outcome) (es : List Exchange) (old : List Told) : Type 0 where
  pub few : length (trials es) ≤ 8
  pub live : Live o.session.calibration o.session.state es
  pub says : SaysBy running o.answer (length (trials es)) (answers_in (trials es)) old

-- of a call with this outcome
abbrev pub Keeps : Bool → List Event → Call → Ran Outcome → Type 0
Keeps running h c m = Holds running m.answer (exchanges (event c m.answer m.bytes ∷ h)) (answers h)

-- a session in which a calibration runs is busy
pub not_free : {P : Type 0} (state : State) → (is_waiting state || true) ≡ false → P
not_free state free = absurd (true≢false (sym (or-true (is_waiting state)) ∙ free))

-- ---- tests

either_of : (a b : Bool) → T (a || b) → T a ⊎ T b
either_of true b t = inl tt
either_of false b t = inr t

wake_tag : (w : Wake) → T (is_tag w) → Tag ≡ w
wake_tag Timeout t = absurd t
wake_tag Tag t = refl
wake_tag IrqIn t = absurd t
wake_tag SpiSs t = absurd t

wake_timeout : (w : Wake) → T (is_timeout w) → Timeout ≡ w
wake_timeout Timeout t = refl
wake_timeout Tag t = absurd t
wake_timeout IrqIn t = absurd t
wake_timeout SpiSs t = absurd t

-- what the test of a wake finds
found_so : (q : Wake → Bool) (w : Wake) → ((v : Wake) → T (q v) → w ≡ v) → (e : End) → T (woke q e) → Woken w ≡ e
found_so q w is Good t = absurd t
found_so q w is (Woken v) t = ap Woken (is v t)
found_so q w is (Error code) t = absurd t
found_so q w is (Malformed place b) t = absurd t

is_tag_lem : (e : End) → T (woke is_tag e) → tag ≡ e
is_tag_lem = found_so is_tag Tag wake_tag

is_timeout_lem : (e : End) → T (woke is_timeout e) → timeout ≡ e
is_timeout_lem = found_so is_timeout Timeout wake_timeout

is_tag_last_lem : (v : Verdict) → T (is_tag_last v) → v ≡ Ended tag
is_tag_last_lem More t = absurd t
is_tag_last_lem (Ended e) t = ap Ended (sym (is_tag_lem e t))
is_tag_last_lem NoRoom t = absurd t

-- what the test finds is there
there : (q : Wake → Bool) (x : End) → ((y : End) → T (woke q y) → x ≡ y) → (l : ℕ) (ts : List Told) → T (has q l ts) → Gave l x ts
there q x is l [] t = absurd t
there q x is l (u ∷ ts) t =
    ⊎_elim
    (λ p. Memᴰ.head
    (let e : l ≡ u.level = eqb→eq _ _ (and_l (eqb l u.level) (woke q u.said) p) in
    let e' : x ≡ u.said = is u.said (and_r (eqb l u.level) (woke q u.said) p) in
    λ i. told (e i) (e' i)))
    (λ p. Memᴰ.tail (there q x is l ts p))
    (either_of (eqb l u.level && woke q u.said) (has q l ts) t)

-- a steady chip answers 00 by a tag and FC by a timeout
tag_timeout : tag ≡ timeout → ⊥
tag_timeout e = let z : ◌≡◌ {A = ℕ} 0 1 = cc in omega arith

against : (ts : List Told) → T (strange ts) → Unsteady ts
against ts t f s a =
    ⊎_elim
    (λ p. tag_timeout (sym (a 0x00 timeout (there is_timeout timeout is_timeout_lem 0x00 ts p) ∙ ap says s.lowest)))
    (λ p. tag_timeout (a 0xFC tag (there is_tag tag is_tag_lem 0xFC ts p) ∙ ap says s.highest))
    (either_of (has is_timeout 0x00 ts) (has is_tag 0xFC ts) t)

-- the test at an end that names a reference, part by part
result : (r n c : ℕ) (ts : List Told) → length ts ≡ c → T (named r n ts) → Result r n c ts
result r n c ts e t =
    let w₅ : Bool = has is_tag r ts && has is_timeout (r + 4) ts in
    let w₄ : Bool = is_tag_last (newest r ts) && w₅ in
    let w₃ : Bool = leb r 0xFC && w₄ in
    let w₂ : Bool = eqb (r % 4) 0 && w₃ in
    let w₁ : Bool = eqb n 8 && w₂ in
    let t₁ = and_r (eqb n (length ts)) w₁ t in
    let t₂ = and_r (eqb n 8) w₂ t₁ in
    let t₃ = and_r (eqb (r % 4) 0) w₃ t₂ in
    let t₄ = and_r (leb r 0xFC) w₄ t₃ in
    let t₅ = and_r (is_tag_last (newest r ts)) w₅ t₄ in
    let long : n ≡ length ts = eqb→eq n (length ts) (and_l (eqb n (length ts)) w₁ t) in
    record {
      counted = (long ∙ e, long);
      right =
          record {
            gave_tag = there is_tag tag is_tag_lem r ts (and_l (has is_tag r ts) (has is_timeout (r + 4) ts) t₅);
            last_gave_tag = is_tag_last_lem (newest r ts) (and_l (is_tag_last (newest r ts)) w₅ t₄);
            next_gave_timeout = there is_timeout timeout is_timeout_lem (r + 4) ts (and_r (has is_tag r ts) (has is_timeout (r + 4) ts) t₅);
          };
      eight = eqb→eq n 8 (and_l (eqb n 8) w₂ t₁);
      level = (eqb→eq (r % 4) 0 (and_l (eqb (r % 4) 0) w₃ t₂), leb→le r 0xFC (and_l (leb r 0xFC) w₄ t₃));
    }

-- the test at an end that is refused
-- the level and the end of the newest answer
topmost : (q : Wake → Bool) (x : End) → ((y : End) → T (woke q y) → x ≡ y) → (F : Told → Type 0) (l : ℕ) → F (told l x) → (ts : List Told) → T (top q l ts) → Tops F ts
topmost q x is F l fit [] t = absurd t
topmost q x is F l fit (u ∷ ts) t =
    let e : l ≡ u.level = eqb→eq _ _ (and_l (eqb l u.level) (woke q u.said) t) in
    let e' : x ≡ u.said = is u.said (and_r (eqb l u.level) (woke q u.said) t) in
    subst F (λ i. told (e i) (e' i)) fit

fitting : (k : Refusal) (ts : List Told) → T (failed k ts) → Tops (Fits (number_of k) (values_of k)) ts
fitting Short ts t = absurd t
fitting Invalid ts t = absurd t
fitting Unready ts t = absurd t
fitting Busy ts t = absurd t
fitting Refusal.Malformed ts t = absurd t
fitting Unawaited ts t = absurd t
fitting (ChipError code) ts t = absurd t
fitting (LowestTimeout n) ts t =
    subst (λ (m : ℕ). Tops (Fits 8 (m ∷ [])) ts) (sym (eqb→eq n 1 (and_l (eqb n 1) _ t))) (topmost is_timeout timeout is_timeout_lem _ 0x00 lowest ts (and_r (eqb n 1) _ t))
fitting (HighestTag n) ts t =
    subst (λ (m : ℕ). Tops (Fits 9 (m ∷ [])) ts) (sym (eqb→eq n 2 (and_l (eqb n 2) _ t))) (topmost is_tag tag is_tag_lem _ 0xFC highest ts (and_r (eqb n 2) _ t))
fitting (NoLevel n) ts t =
    subst (λ (m : ℕ). Tops (Fits 10 (m ∷ [])) ts) (sym (eqb→eq n 8 (and_l (eqb n 8) _ t))) (topmost is_timeout timeout is_timeout_lem _ 0x00 eighth ts (and_r (eqb n 8) _ t))
fitting (CalibrationError code n) ts t = absurd t

refusal : (F : Told → Type 0) (x : Report) (c : ℕ) (ts old : List Told) → OneMore ts old → length ts ≡ c → T (counted x ts) → Tops F ts → RefusedBy F true x c ts old
refusal F silent c ts old one e t fit = absurd t
refusal F (ended n) c ts old one e t fit =
    let long : n ≡ length ts = eqb→eq n (length ts) (and_l (eqb n (length ts)) (strange ts) t) in
    (refl, one, (long ∙ e, long), against ts (and_r (eqb n (length ts)) (strange ts) t), fit)

-- ---- an answer

-- where an answer leads: on, with as many commands, or to an end
pub data Turned (found : Search) : Turn → Type 0 where
  goes : (l : ℕ) → Turned found (Goes (search found.commands l))
  names : (r n : ℕ) → Turned found (Names r n)
  fails : (k : Refusal) → Turned found (Fails k)

turns_tag : (found : Search) → Turned found (tagged found)
turns_tag found =
    ways (Turned found) (ltb found.commands 2) (λ _. goes 0xFC)
    (λ _. ways (Turned found) (eqb found.commands 2) (λ _. fails _)
    (λ _. ways (Turned found) (ltb found.commands 8) (λ _. goes _) (λ _. names _ _)))

turns_timeout : (found : Search) → Turned found (timed_out found)
turns_timeout found =
    ways (Turned found) (ltb found.commands 2) (λ _. fails _)
    (λ _. ways (Turned found) (eqb found.commands 2) (λ _. goes 0x7C)
    (λ _. ways (Turned found) (ltb found.commands 8) (λ _. goes _)
    (λ _. ways (Turned found) (ltb found.level 4) (λ _. fails _) (λ _. names _ _))))

-- the way of a tag, and of a timeout
way_tag : (n : ℕ) (found : Search) (ts : List Told) → T (tree (suc n) found ts)
    → T (judge (tagged found) (told found.level tag ∷ ts) (λ next. tree n (given next) (told found.level tag ∷ ts)))
way_tag n found ts t =
    and_l (judge (tagged found) (told found.level tag ∷ ts) (λ next. tree n (given next) (told found.level tag ∷ ts)))
    (judge (timed_out found) (told found.level timeout ∷ ts) (λ next. tree n (given next) (told found.level timeout ∷ ts))) t

way_timeout : (n : ℕ) (found : Search) (ts : List Told) → T (tree (suc n) found ts)
    → T (judge (timed_out found) (told found.level timeout ∷ ts) (λ next. tree n (given next) (told found.level timeout ∷ ts)))
way_timeout n found ts t =
    and_r (judge (tagged found) (told found.level tag ∷ ts) (λ next. tree n (given next) (told found.level tag ∷ ts)))
    (judge (timed_out found) (told found.level timeout ∷ ts) (λ next. tree n (given next) (told found.level timeout ∷ ts))) t

-- ---- the trials among exchanges

pub own_trials : (o : Owner) (x : Exchange) (es : List Exchange) → Own o → own_by o x (trials es) ≡ x ∷ before o es
own_trials requested x es w = absurd w
own_trials (first l) x es w = refl
own_trials (later l) x es w = refl

same_length : (o : Owner) (x y : Exchange) (ts : List Exchange) → length (own_by o x ts) ≡ length (own_by o y ts)
same_length requested x y ts = refl
same_length (first l) x y ts = refl
same_length (later l) x y ts = refl

same_answers : (o : Owner) (x y : Exchange) (ts : List Exchange) → x.owner ≡ y.owner → verdict_in x ≡ verdict_in y → answers_in (own_by o x ts) ≡ answers_in (own_by o y ts)
same_answers requested x y ts e v = refl
same_answers (first l) x y ts e v = ap₂ (λ (w : Verdict) (z : Owner). answer_by w (level_of z) []) v e
same_answers (later l) x y ts e v = ap₂ (λ (w : Verdict) (z : Owner). answer_by w (level_of z) (answers_in ts)) v e

pub fed_length : (xs : List ℕ) (k : ℕ) (es : List Exchange) → length (trials (fed xs k es)) ≡ length (trials es)
fed_length xs k [] = refl
fed_length xs k (x ∷ es) = same_length x.owner _ x (trials es)

-- bytes that are fed where nothing is awaited change no answer
pub fed_answers : (xs : List ℕ) (k : ℕ) (es : List Exchange) → NowBy none es → answers_in (trials (fed xs k es)) ≡ answers_in (trials es)
fed_answers xs k [] v = refl
fed_answers xs k (x ∷ es) v =
    let e = v.stands.0 in
    same_answers x.owner _ x (trials es) refl (ap verdict_of (over_fed x e xs v.stands.1) ∙ ap verdict_of (sym v.stands.1))

pub fed_nothing : (es : List Exchange) → fed [] 0 es ≡ es
fed_nothing [] = refl
fed_nothing (x ∷ es) = ap₂ (λ (ys : List ℕ) (n : ℕ). exchange x.owner x.awaited ys n ∷ es) (append-nil x.bytes) (omega arith)

-- ---- calls that put nothing on the cable, or bytes that nobody awaits

pub decide : {P : Type 0} (b : Bool) → (b ≡ true → P) → (b ≡ false → P) → P
decide true p q = p refl
decide false p q = q refl

-- what holds with the exchanges after a call is kept
put : {running : Bool} (h : List Event) (c : Call) (m : Ran Outcome) (es : List Exchange) → exchanges (event c m.answer m.bytes ∷ h) ≡ es → Holds running m.answer es (answers h) → Keeps running h c m
put {running} h c m es e k = subst (λ (es' : List Exchange). Holds running m.answer es' (answers h)) (sym e) k

-- a mild refusal says that no answer came
mild_says : (running : Bool) (k : Refusal) (c : ℕ) (ts old : List Told) → mild k ≡ true → NoneMore ts old → RefusedBy (Fits (number_of k) (values_of k)) running (report_of k) c ts old
mild_says running k c ts old m n = subst (λ (x : Report). RefusedBy (Fits (number_of k) (values_of k)) running x c ts old) (sym (mild_silent k m)) n

unawaited : (w : Awaits) (es : List Exchange) → is_some w ≡ false → NowBy w es → NowBy none es
unawaited none es f v = v
unawaited (some p selected) es f v = absurd (true≢false f)

free_fed : (w : Awaits) (es es' : List Exchange) → is_some w ≡ false → Free w es → Free w es'
free_fed none es es' f l = tt
free_fed (some p selected) es es' f l = absurd (true≢false f)

live_fed : (c : Option Calibration) (state : State) (xs : List ℕ) (es : List Exchange) → is_waiting state ≡ false → Now state es → Live c state es → Live c state (fed xs 0 es)
live_fed None state xs es f v l = free_fed (awaits state) es (fed xs 0 es) f l
live_fed (Some c) PowerUp xs es f v l = absurd l
live_fed (Some c) Ready xs [] f v l = absurd l
live_fed (Some q) Ready xs (x ∷ es) f v (w, d) = (
  w,
  subst (Due q.search (length (trials (fed xs 0 (x ∷ es))))) (sym (fed_answers xs 0 (x ∷ es) v))
      (subst (λ (c : ℕ). Due q.search c (answers_in (trials (x ∷ es)))) (sym (fed_length xs 0 (x ∷ es))) d),
)
live_fed (Some c) (Selected protocol) xs es f v l = absurd l
live_fed (Some c) (Waiting p selected) xs es f v l = absurd (true≢false f)
live_fed (Some c) Lost xs es f v l = absurd l

-- nothing changed
unchanged : {running : Bool} (s : Session) (h : List Event) → Inv s h → (answer : Answer) (k : ℕ) (place : Place)
    → SaysBy running answer (commands h) (answers h) (answers h) → Holds running (record { session = s; answer = answer; used = k; place = place }) (exchanges h) (answers h)
unchanged {running} s h v answer k place says = record { few = v.few; live = v.live; says = says }

keep_refused : (s : Session) (h : List Event) → Inv s h → (c : Call) (k : Refusal) → mild k ≡ true → Gives k (checks s c) → Keeps (is_running s.calibration) h c (refuse s k (lent c))
keep_refused s h v c k m g = go c g (quiet s c k g)
  where
    es : List Exchange
    es = exchanges h

    still : (c : Call) → exchanges (event c (refuse s k (lent c)).answer (lent c) ∷ h) ≡ es → Keeps (is_running s.calibration) h c (refuse s k (lent c))
    still c e = put h c (refuse s k (lent c)) es e (unchanged s h v (Answer.Refused k) 0 Place.Nowhere (mild_says (is_running s.calibration) k _ _ _ m (omega arith)))

    go : (c : Call) → Gives k (checks s c) → Quiet c → Keeps (is_running s.calibration) h c (refuse s k (lent c))
    go c g (unheard d u) = still d (ap (λ (x : Passing). exchanges_by x es) (u k (lent d)))
    go c g (ignored x xs room) =
        decide (ltb (length room) least_room)
        (λ e. still (feed (x ∷ xs) room) (ap (λ (b : Bool). fed (pick b [] (x ∷ xs)) 0 es) e ∙ fed_nothing es))
        (λ e.
        let idle_state : is_waiting s.state ≡ false = unasked (is_waiting s.state) (ltb (length room) least_room) k g e in
        let same = fed_answers (x ∷ xs) 0 es (unawaited (awaits s.state) es idle_state v.now) in
        put h (feed (x ∷ xs) room) (refuse s k room) (fed (x ∷ xs) 0 es) (ap (λ (b : Bool). fed (pick b [] (x ∷ xs)) 0 es) e)
        (record {
          few = omega (arith, v.few, fed_length (x ∷ xs) 0 es);
          live = live_fed s.calibration s.state (x ∷ xs) es idle_state v.now v.live;
          says = mild_says (is_running s.calibration) k _ _ _ m (omega (arith, ap length same));
        }))

-- ---- a piece where a reply is awaited, outside a calibration

-- the reply is a request's, and what it comes to is none of a calibration's
off_ended : (e : End) (i : Interface) (state : State) (a : Awaited) (selected k : ℕ) (place : Place) (es : List Exchange) (old : List Told)
    → ((w : Awaits) → Free w es) → length (trials es) ≤ 8 → NoneMore (answers_in (trials es)) old → Holds false (ended_by e (made i state None) a selected k place) es old
off_ended Good i state a selected k place es old free few n = record { few = few; live = free (awaits (after_good a selected)); says = n }
off_ended (Woken w) i state a selected k place es old free few n = record { few = few; live = tt; says = inl (refl, n) }
off_ended (Error code) i state a selected k place es old free few n = record { few = few; live = free (awaits (after_error a selected)); says = n }
off_ended (Malformed at b) i state a selected k place es old free few n = record { few = few; live = tt; says = n }

off_taken : (v : Verdict) (r : Fed) (i : Interface) (state : State) (a : Awaited) (selected : ℕ) (es : List Exchange) (old : List Told)
    → ((w : Awaits) → Free w es) → length (trials es) ≤ 8 → NoneMore (answers_in (trials es)) old → Holds false (outcome_by v r (made i state None) a selected) es old
off_taken More r i state a selected es old free few n = record { few = few; live = free (some r.progress selected); says = n }
off_taken (Ended e) r i state a selected es old free few n = off_ended e i state a selected r.used r.place es old free few n
off_taken NoRoom r i state a selected es old free few n = record { few = few; live = free (awaits state); says = n }

-- a request's exchange is no trial, whatever is fed to it
free_head : (x : Exchange) (es : List Exchange) → x.owner ≡ requested → (w : Awaits) → Free w (x ∷ es)
free_head x es e none = tt
free_head x es e (some p selected) = e

request_trials : (x : Exchange) (es : List Exchange) → x.owner ≡ requested → trials (x ∷ es) ≡ trials es
request_trials x es e = ap (λ (o : Owner). own_by o x (trials es)) e

off_piece : (i : Interface) (p : Progress) (selected : ℕ) (xs room : List ℕ) (es : List Exchange) → NowBy (some p selected) es → Free (some p selected) es → length (trials es) ≤ 8
    → let o = (outcome_of (made i (Waiting p selected) None) p selected xs room).answer in Holds false o (fed xs o.used es) (answers_in (trials es))
off_piece i p selected xs room [] now free few = absurd (true≢false now)
off_piece i p selected xs room (x ∷ es) now free few =
    let m = fed_from p.awaited p.phase xs room in
    let o = (outcome_of (made i (Waiting p selected) None) p selected xs room).answer in
    let y = exchange x.owner x.awaited (x.bytes ++ xs) (x.used + o.used) in
    let same : trials (y ∷ es) ≡ trials (x ∷ es) = request_trials y es free ∙ sym (request_trials x es free) in
    off_taken m.answer.verdict m.answer i (Waiting p selected) p.awaited selected (y ∷ es) (answers_in (trials (x ∷ es))) (free_head y es free)
    (omega (arith, few, ap length same)) (omega (arith, ap (λ (ts : List Exchange). length (answers_in ts)) same))

-- ---- a piece where a calibration's reply is awaited

-- the command x is out, behind es, and with the piece its bytes came to y
module _ (plan : Plan) (found : Search) (i : Interface) (state : State) (x y : Exchange) (es : List Exchange) (ask : Asked found x.owner x.awaited es) (same-owner : y.owner ≡ x.owner) where
  abbrev s : Session
  s = made i state (searching plan found)

  abbrev old : List Told
  old = answers_in (before x.owner es)

  own : Own y.owner
  own = subst Own (sym same-owner) ask.own

  trials_now : trials (y ∷ es) ≡ y ∷ before x.owner es
  trials_now = own_trials y.owner y es own ∙ ap (λ (o : Owner). y ∷ before o es) same-owner

  pub many : length (trials (y ∷ es)) ≡ found.commands
  many = ap length trials_now ∙ ask.sent

  few_now : length (trials (y ∷ es)) ≤ 8
  few_now = omega (arith, many, ask.left)

  at_level : level_of y.owner ≡ found.level
  at_level = ap level_of same-owner ∙ ask.level

  -- what is answered now
  pub answers_now : (v : Verdict) → verdict_in y ≡ v → answers_in (trials (y ∷ es)) ≡ answer_by v found.level old
  answers_now v e = ap answers_in trials_now ∙ ap₂ (λ (w : Verdict) (l : ℕ). answer_by w l old) e at_level

  -- before the reply's end there is no answer
  none_yet : (v : Verdict) → verdict_in y ≡ v → answer_by v found.level old ≡ old → NoneMore (answers_in (trials (y ∷ es))) old
  none_yet v e n = omega (arith, ap length (answers_now v e ∙ n))

  -- the answer e came
  module _ (e : End) (v : verdict_in y ≡ Ended e) (is_one : answer_by (Ended e) found.level old ≡ told found.level e ∷ old) where
    abbrev ts : List Told
    ts = told found.level e ∷ old

    answered : answers_in (trials (y ∷ es)) ≡ ts
    answered = answers_now (Ended e) v ∙ is_one

    one : OneMore (answers_in (trials (y ∷ es))) old
    one = ap length answered

    long : length ts ≡ length (trials (y ∷ es))
    long = ask.heard ∙ sym many

    led : (w : Wake) → e ≡ Woken w → (k : ℕ) (place : Place) (t : Turn) → Turned found t → (n : ℕ) → n + found.commands ≡ 8
        → T (judge t ts (λ next. tree n (given next) ts)) → Holds true (turned t plan w s k place) (y ∷ es) old
    led w q k place t (goes l) zero left test = absurd test
    led w q k place t (goes l) (suc n) left test =
        record {
          few = few_now;
          live = (
            own,
            record {
              n = n;
              left = left;
              sent = many;
              heard = ap length answered ∙ ask.heard;
              passes = subst (λ (us : List Told). T (tree (suc n) (given (search found.commands l)) us)) (sym answered) test;
            },
          );
          says = inr (refl, one, omega (arith, many, left), subst (Newest (Woken w)) (sym answered) q);
        }
    led w q k place t (names r m) n left test =
        record {
          few = few_now;
          live = tt;
          says = (refl, one, subst (Result r m (length (trials (y ∷ es)))) (sym answered) (result r m (length (trials (y ∷ es))) ts long test));
        }
    led w q k place t (fails j) n left test =
        record {
          few = few_now;
          live = tt;
          says =
              subst (λ (us : List Told). RefusedBy (Fits (number_of j) (values_of j)) true (report_of j) (length (trials (y ∷ es))) us old) (sym answered)
              (refusal _ (report_of j) (length (trials (y ∷ es))) ts old refl long (and_l (counted (report_of j) ts) (failed j ts) test)
              (fitting j ts (and_r (counted (report_of j) ts) (failed j ts) test)));
        }

    -- the chip's error
    erred : (code : ℕ) → e ≡ Error code → (w : Awaits) (o : Outcome) → o.session.calibration ≡ None → awaits o.session.state ≡ none
        → o.answer ≡ Answer.Refused (CalibrationError code found.commands) → Holds true o (y ∷ es) old
    erred code q w o off rest a =
        record {
          few = few_now;
          live = subst (λ (c : Option Calibration). Live c o.session.state (y ∷ es)) (sym off) (subst (λ (z : Awaits). Free z (y ∷ es)) (sym rest) tt);
          says =
              subst (λ (z : Answer). SaysBy true z (length (trials (y ∷ es))) (answers_in (trials (y ∷ es))) old) (sym a)
              (subst (λ (us : List Told). RefusedBy (Fits 12 (code ∷ found.commands ∷ [])) true (ended found.commands) (length (trials (y ∷ es))) us old) (sym answered) (
                refl,
                refl,
                (sym many, sym ask.heard),
                λ f st ag. no_error code (f found.level) (sym q ∙ ag found.level e (Memᴰ.head refl)),
                subst (λ (z : End). Fits 12 (code ∷ found.commands ∷ []) (told found.level z)) (sym q) (error code found.commands found.level),
              ));
        }
      where
        no_error : (c : ℕ) (b : Bool) → Error c ≡ says b → ⊥
        no_error c true z = let y : ◌≡◌ {A = ℕ} 0 1 = cc in omega arith
        no_error c false z = let y : ◌≡◌ {A = ℕ} 0 1 = cc in omega arith

  -- a wake came
  woke_by : (w : Wake) → verdict_in y ≡ Ended (Woken w) → (w ≡ Timeout) ⊎ (w ≡ Tag) → (k : ℕ) (place : Place) → Holds true (woken (searching plan found) w s k place) (y ∷ es) old
  woke_by w v by k place =
      ⊎_elim
      (λ q. subst (λ (z : Wake). verdict_in y ≡ Ended (Woken z) → Holds true (woken (searching plan found) z s k place) (y ∷ es) old) (sym q)
      (λ v'. led timeout v' refl Timeout refl k place (timed_out found) (turns_timeout found) ask.n ask.left (way_timeout ask.n found old ask.passes)) v)
      (λ q. subst (λ (z : Wake). verdict_in y ≡ Ended (Woken z) → Holds true (woken (searching plan found) z s k place) (y ∷ es) old) (sym q)
      (λ v'. led tag v' refl Tag refl k place (tagged found) (turns_tag found) ask.n ask.left (way_tag ask.n found old ask.passes)) v)
      by

  -- by the step that the bytes lead to
  on_ended : (e : End) → led_to y ≡ Over e → y.awaited ≡ x.awaited → (a : Awaited) (selected k : ℕ) (place : Place) → Holds true (ended_by e s a selected k place) (y ∷ es) old
  on_ended Good l same a selected k place = absurd (never_good y.awaited (subst Idled (sym same) ask.idles) y.bytes l)
  on_ended (Woken w) l same a selected k place = woke_by w (ap verdict_of l) (wakes_by y.awaited (subst Idled (sym same) ask.idles) y.bytes w l) k place
  on_ended (Error code) l same a selected k place =
      erred (Error code) (ap verdict_of l) refl code refl none (ended_by (Error code) s a selected k place) refl (closed (Error code) s a selected k place).nothing_awaited refl
  on_ended (Malformed at b) l same a selected k place = record { few = few_now; live = tt; says = none_yet (Ended (Malformed at b)) (ap verdict_of l) refl }

-- a piece that leads to a step, with its bytes ys in all
module _ (plan : Plan) (found : Search) (i : Interface) (p : Progress) (selected : ℕ) (x : Exchange) (es : List Exchange) (ask : Asked found x.owner x.awaited es) (ys : List ℕ) where
  abbrev after : Fed → Outcome
  after r = outcome_by r.verdict r (made i (Waiting p selected) (searching plan found)) p.awaited selected

  abbrev now : ℕ → Exchange
  now k = exchange x.owner x.awaited ys (x.used + k)

  abbrev HoldsSo : Fed → Type 0
  HoldsSo r = Holds true (after r) (now (after r).used ∷ es) (answers_in (before x.owner es))

  on_step : (t : Step) (h k : ℕ) (ds room : List ℕ) (start u : ℕ) → led_to (now u) ≡ t → HoldsSo (fed_by t p.awaited h k ds room start u).answer
  on_step (reading q) h k ds room start u e =
      let y = now u in
      let st = Waiting p selected in
      record {
        few = few_now plan found i st x y es ask refl;
        live = ask;
        says = none_yet plan found i st x y es ask refl More (ap verdict_of e) refl;
      }
  on_step (Over e) h k ds room start u l =
      let (place, q) = over_answer e p.awaited h k ds room start u in
      subst HoldsSo (sym q) (on_ended plan found i (Waiting p selected) x (now (after (overs e place u)).used) es ask refl e l refl p.awaited selected u place)
    where
      overs : End → Place → ℕ → Fed
      overs e place u = Rattle.model.specs.Replies.over p.awaited e place u

on_piece : (plan : Plan) (found : Search) (i : Interface) (p : Progress) (selected : ℕ) (xs room : List ℕ) (es : List Exchange) → NowBy (some p selected) es → Live (searching plan found) (Waiting p selected) es
    → let o = (outcome_of (made i (Waiting p selected) (searching plan found)) p selected xs room).answer in Holds true o (fed xs o.used es) (answers_in (trials es))
on_piece plan found i p selected xs room [] v l = absurd l
on_piece plan found i p selected xs room (x ∷ es) v ask =
    let o = (outcome_of (made i (Waiting p selected) (searching plan found)) p selected xs room).answer in
    subst (Holds true o (fed xs o.used (x ∷ es))) (sym (answers_now plan found i (Waiting p selected) x x es ask refl More (ap verdict_of v.stands.1)))
    (on_step plan found i p selected x es ask (x.bytes ++ xs) (reached (form_of p.awaited) (reading p.phase) xs) _ _ _ room _ _ (led_on p selected x xs v))

-- ---- what a call does

keep_pulse : (state : State) (c : Option Calibration) (es : List Exchange) → Live c state es → Live c (pulsed state) es
keep_pulse PowerUp None es l = l
keep_pulse PowerUp (Some c) es l = absurd l
keep_pulse Ready c es l = l
keep_pulse (Selected protocol) c es l = l
keep_pulse (Waiting p selected) c es l = l
keep_pulse Lost c es l = l

-- a request that is not refused finds no calibration
free : (c : Option Calibration) (state : State) (p : Progress) (selected : ℕ) (a : Awaited) (es : List Exchange) → (is_waiting state || is_running c) ≡ false → Live c (Waiting p selected) (exchange requested a [] 0 ∷ es)
free None state p selected a es f = refl
free (Some c) state p selected a es f = not_free state f

-- a command that is due
due_in : (plan : Plan) (found : Search) (state : State) (es : List Exchange) → not (is_due state found) ≡ false → Live (searching plan found) state es
    → Due found (length (trials es)) (answers_in (trials es))
due_in plan found PowerUp es d l = absurd l
due_in plan found Ready [] d l = absurd l
due_in plan found Ready (x ∷ es) d l = l.1
due_in plan found (Selected protocol) es d l = absurd l
due_in plan found (Waiting p selected) es d l = absurd (true≢false d)
due_in plan found Lost es d l = absurd l

-- the command given out is an Idle at its level
pub given_idle : (i : Interface) (plan : Plan) (level : ℕ) (rest : List ℕ) → Idled (idled (source_in (bytes i (send (idle (settings_at plan level))) ++ rest)))
given_idle i plan level rest = subst (λ (n : ℕ). Idled (idled n)) (sym (source_is i plan level rest)) (idled_at plan level)

keep_next : (c : Option Calibration) (s : Session) (out : List ℕ) (h : List Event) → Live c s.state (exchanges h)
    → Passes (continuing c s.state ++ writing_next c s out) → Keeps (is_running c) h (next out) (continues c s out)
keep_next None s out h l p = absurd (true≢false p.0)
keep_next (Some c) s out h l p =
    let d = due_in c.plan c.search s.state (exchanges h) p.0 l in
    record {
      few = omega (arith, d.left, d.sent);
      live =
          record {
            own = tt;
            level = level_is s.interface c.plan c.search.level _;
            idles = given_idle s.interface c.plan c.search.level _;
            n = d.n;
            left = omega (arith, d.left);
            sent = omega (arith, d.sent);
            heard = omega (arith, d.heard);
            passes = d.passes;
          };
      says = omega arith;
    }

pub keep_done : (s : Session) (h : List Event) → Inv s h → (c : Call) → Passes (checks s c) → Keeps (is_running s.calibration) h c (does s c)
keep_done s h v (power_on i) p = record { few = omega arith; live = tt; says = omega arith }
keep_done s h v pulse p = record { few = v.few; live = keep_pulse s.state s.calibration (exchanges h) v.live; says = omega arith }
keep_done s h v (request c out) p = record { few = v.few; live = free s.calibration s.state _ _ _ (exchanges h) p.0; says = omega arith }
keep_done s h v (reset out) p = record { few = omega arith; live = tt; says = omega arith }
keep_done s h v (poll out) p = record { few = v.few; live = v.live; says = omega arith }
keep_done s h v (read n out) p = record { few = v.few; live = v.live; says = omega arith }
keep_done s h v (calibrate plan out) p =
    record {
      few = omega arith;
      live =
          record {
            own = tt;
            level = level_is s.interface plan 0x00 _;
            idles = given_idle s.interface plan 0x00 _;
            n = 7;
            left = refl;
            sent = refl;
            heard = refl;
            passes = begins;
          };
      says = omega arith;
    }
keep_done s h v (next out) p = keep_next s.calibration s out h v.live p
keep_done s h v (feed [] room) p =
    put h (feed [] room) (does s (feed [] room)) (exchanges h)
    (ways (λ (zs : List ℕ). fed zs 0 (exchanges h) ≡ exchanges h) (ltb (length room) least_room) (λ _. fed_nothing (exchanges h)) (λ _. fed_nothing (exchanges h)))
    (unchanged s h v Answer.More 0 Place.Nowhere (omega arith))
keep_done s h v (feed (x ∷ xs) room) (w, (e, _)) =
    let o : State → Outcome = λ z. (takes (awaits z) (into s z s.calibration) (x ∷ xs) room).answer in
    put h (feed (x ∷ xs) room) (does s (feed (x ∷ xs) room)) (fed (x ∷ xs) (o s.state).used (exchanges h))
    (ap (λ (b : Bool). fed (pick b [] (x ∷ xs)) (o s.state).used (exchanges h)) e)
    (awaited (λ (z : State). Now z (exchanges h) → Live s.calibration z (exchanges h) → Holds (is_running s.calibration) (o z) (fed (x ∷ xs) (o z).used (exchanges h)) (answers h)) s.state w
    (λ p selected now live. by_piece s.calibration p selected now live) v.now v.live)
  where
    by_piece : (c : Option Calibration) (p : Progress) (selected : ℕ) → NowBy (some p selected) (exchanges h) → Live c (Waiting p selected) (exchanges h)
        → let z = (outcome_of (made s.interface (Waiting p selected) c) p selected (x ∷ xs) room).answer in Holds (is_running c) z (fed (x ∷ xs) z.used (exchanges h)) (answers h)
    by_piece None p selected now live = off_piece s.interface p selected (x ∷ xs) room (exchanges h) now live v.few
    by_piece (Some c) p selected now live = on_piece c.plan c.search s.interface p selected (x ∷ xs) room (exchanges h) now live

pub keeps : (s : Session) (h : List Event) → Inv s h → (c : Call) → Keeps (is_running s.calibration) h c (step s c)
keeps s h v c = by_step (Keeps (is_running s.calibration) h c) s c (keep_refused s h v c) (keep_done s h v c)

pub keep : (s : Session) (h : List Event) → Inv s h → (c : Call) → Inv (step s c).answer.session (event c (step s c).answer (step s c).bytes ∷ h)
keep s h v c =
    let k = keeps s h v c in
    record { now = keep_now s (exchanges h) v.now c; few = k.few; live = k.live; says = (is_running s.calibration, k.says) }

holds : (r : Reached) → Inv r.session r.history → (cs : List Call) → Inv (run r cs).session (run r cs).history
holds r v [] = v
holds r v (c ∷ cs) = holds (turn r c) (keep r.session r.history v c) cs

pub holds_on : (s : Session) (i : Interface) (cs : List Call) → Inv (run (on s i) cs).session (run (on s i) cs).history
holds_on s i cs = holds (on s i) (record { now = refl; few = omega arith; live = tt; says = (false, omega arith) }) cs
