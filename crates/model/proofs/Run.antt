-- A calibration that is driven, in any company: it ends within eight commands, and with a steady chip names the highest level that gives a tag.
-- Assumes nothing.
use Rattle.std.specs.Prelude.{Option, Some, None}
use Prim.Native.Nat.{ℕ, suc, ◌+◌, ◌≤◌, ◌<◌}
use native.Mathlib.Omega.{arith}
use mathlib.Core.Path.{◌≡◌, refl, sym, ap, ap₂, subst, ◌∙◌}
use mathlib.Core.Bool.{Bool, true, false, not, ◌||◌, true≢false}
use mathlib.Core.Logic.{◌⊎◌, inl, inr, ⊎_elim}
use mathlib.Core.List.Memᴰ
use mathlib.Core.List.{List, [], ◌∷◌, ◌++◌, append_assoc, append-nil}
use lib.ListN.{length}
use Rattle.model.specs.declared.Interface.{Interface}
use Rattle.model.specs.declared.Refusal.{Refusal}
use Rattle.model.specs.declared.Refusal.TheVariants.{Short, Invalid, Unready, Busy, Malformed, Unawaited, ChipError, LowestTimeout, HighestTag, NoLevel, CalibrationError}
use Rattle.model.specs.declared.Awaited.{Awaited}
use Rattle.model.specs.declared.Phase.TheVariants.{Begun}
use Rattle.model.specs.declared.Progress.{Progress}
use Rattle.model.specs.declared.End.{End}
use Rattle.model.specs.declared.End.TheVariants.{Good, Woken, Error}
use Rattle.model.specs.declared.Step.{Step}
use Rattle.model.specs.declared.Step.TheVariants.{On as reading, Over}
use Rattle.model.specs.declared.Verdict.{Verdict}
use Rattle.model.specs.declared.Verdict.TheVariants.{More, Ended, NoRoom}
use Rattle.model.specs.declared.Fed.{Fed}
use Rattle.model.specs.declared.Plan.{Plan}
use Rattle.model.specs.declared.Calibration.{Calibration}
use Rattle.model.specs.declared.State.{State}
use Rattle.model.specs.declared.State.TheVariants.{PowerUp, Ready, Selected, Waiting, Lost}
use Rattle.model.specs.declared.Session.{Session}
use Rattle.model.specs.declared.Answer.{Answer}
use Rattle.model.specs.declared.Outcome.{Outcome}
use Rattle.words.specs.Words.{pick}
use Rattle.words.specs.Contract.{Ran}
use Rattle.model.specs.Refusals.{Report, ended, report_of, number_of, values_of}
use Rattle.model.specs.Checks.{Passes}
use Rattle.model.specs.Replies.{form_of, idled, reached, verdict_of, fed_from}
use Rattle.model.specs.Session.{made, is_waiting, is_running, outcome_by, Awaits, none, some, is_some, awaits, takes, continues, checks, does, Call, power_on, pulse, request, reset, poll, read, calibrate, next, feed, step}
use Rattle.model.specs.History.{Event, Reached, turn, run, on, first, later, Passing, given, piece, power, nothing, passing_by, source_in, level_in, Exchange, exchange, exchanges_by, exchanges, trials, commands, level_of, Told, told, is_answer, answer_by, verdict_in, answers_in, answers}
use Rattle.model.specs.Promises.{After, Fits, Steady, says, Agrees}
use Rattle.model.specs.Tracked.{is_power, awake, tracked, state_in, known}
use Rattle.model.specs.Talk.{is_ending, ends, least_output, passed, is_fair, Fair, fed_in, all_fed, anything, steadily, Replied, RepliedTo, Answered, Round, asked, talk, Driven, started, Within, last_by, last, Named, Calibrates}
use Rattle.model.proofs.Ordering.{by_step}
use Rattle.model.proofs.Table.{completes}
use Rattle.model.proofs.Cable.{led_to, Stands, NowBy, Now, over_fed, now_of}
use Rattle.model.proofs.Invariant.{Own, before, Free, Live, SaysBy, RefusedBy, Inv, decide, own_trials, fed_answers, fed_length, keeps}
use Rattle.model.proofs.Theorems.{inv_of, highest}
use Rattle.model.proofs.Theorems as theorems
use Rattle.model.proofs.Lives.{mild_goes, goes_on, does_it, lives}
use Rattle.model.proofs.Tracking.{tracks, interfaces}

-- ---- calls more are still after a power-on

run_on : (r : Reached) (cs : List Call) (c : Call) → run r (cs ++ c ∷ []) ≡ turn (run r cs) c
run_on r [] c = refl
run_on r (d ∷ cs) c = run_on (turn r d) cs c

after_turn : (r : Reached) (c : Call) → After r → After (turn r c)
after_turn r c (s, i, cs, p) = (s, i, cs ++ c ∷ [], run_on (on s i) cs c ∙ ap (λ (x : Reached). turn x c) p)

after_run : (r : Reached) (cs : List Call) → After r → After (run r cs)
after_run r [] a = a
after_run r (c ∷ cs) a = after_run (turn r c) cs (after_turn r c a)

-- ---- fair calls

-- the bytes xs joined those of the newest command
pub record Grown (x : Exchange) (older : List Exchange) (xs : List ℕ) (es : List Exchange) : Type 0 where
  pub used : ℕ
  pub same : es ≡ exchange x.owner x.awaited (x.bytes ++ xs) used ∷ older

none_joined : (x : Exchange) (older : List Exchange) → Grown x older [] (x ∷ older)
none_joined x older =
    record { used = x.used; same = ap (λ (ys : List ℕ). exchange x.owner x.awaited ys x.used ∷ older) (sym (append-nil x.bytes)) }

grown_by : (x : Exchange) (older : List Exchange) (p : Passing) → is_fair p ≡ true → Grown x older (fed_in p) (exchanges_by p (x ∷ older))
grown_by x older (given o a) f = absurd (true≢false (sym f))
grown_by x older (piece xs k) f = record { used = x.used + k; same = refl }
grown_by x older power f = absurd (true≢false (sym f))
grown_by x older nothing f = none_joined x older

grown : (r : Reached) (x : Exchange) (older : List Exchange) (cs : List Call) → exchanges r.history ≡ x ∷ older → Fair r cs → Grown x older (all_fed r cs) (exchanges (run r cs).history)
grown r x older [] e f = subst (Grown x older []) (sym e) (none_joined x older)
grown r x older (c ∷ cs) e (f, fs) =
    let p = passed r c in
    let g : Grown x older (fed_in p) (exchanges_by p (exchanges r.history)) = subst (λ (es : List Exchange). Grown x older (fed_in p) (exchanges_by p es)) (sym e) (grown_by x older p f) in
    let rest = grown (turn r c) (exchange x.owner x.awaited (x.bytes ++ fed_in p) g.used) older cs g.same fs in
    record {
      used = rest.used;
      same = rest.same ∙ ap (λ (ys : List ℕ). exchange x.owner x.awaited ys rest.used ∷ older) (append_assoc x.bytes (fed_in p) (all_fed (turn r c) cs));
    }

fair_interface : (r : Reached) (c : Call) → is_fair (passed r c) ≡ true → (turn r c).session.interface ≡ r.session.interface
fair_interface r (power_on i) f = absurd (true≢false (sym f))
fair_interface r pulse f = interfaces r.session pulse
fair_interface r (request c out) f = interfaces r.session (request c out)
fair_interface r (reset out) f = interfaces r.session (reset out)
fair_interface r (poll out) f = interfaces r.session (poll out)
fair_interface r (read n out) f = interfaces r.session (read n out)
fair_interface r (calibrate plan out) f = interfaces r.session (calibrate plan out)
fair_interface r (next out) f = interfaces r.session (next out)
fair_interface r (feed xs room) f = interfaces r.session (feed xs room)

run_interface : (r : Reached) (cs : List Call) → Fair r cs → (run r cs).session.interface ≡ r.session.interface
run_interface r [] f = refl
run_interface r (c ∷ cs) (f, fs) = run_interface (turn r c) cs fs ∙ fair_interface r c f

-- ---- a command that is out, and one that is answered

-- the c-th of its calibration, and nothing of its reply is in
pub record Out (c : ℕ) (r : Reached) : Type 0 where
  pub after : After r
  pub newest : Exchange
  pub older : List Exchange
  pub same : exchanges r.history ≡ newest ∷ older
  pub own : Own newest.owner
  pub unread : newest.bytes ≡ []
  pub many : suc (length (before newest.owner older)) ≡ c

-- its reply was fed to its end
pub record In (c : ℕ) (r : Reached) : Type 0 where
  pub after : After r
  pub newest : Exchange
  pub older : List Exchange
  pub same : exchanges r.history ≡ newest ∷ older
  pub own : Own newest.owner
  pub end : End
  pub led : led_to newest ≡ Over end
  pub many : suc (length (before newest.owner older)) ≡ c

answered_by : (chip : ℕ → End → Type 0) (r : Reached) (cs : List Call) {x : Exchange} {es : List Exchange} → exchanges r.history ≡ x ∷ es → Answered chip r cs → Replied chip x r cs
answered_by chip r cs e a = subst (λ (zs : List Exchange). RepliedTo chip zs r cs) e a

-- where the bytes of a reply lead that was fed whole
led_to_lem : {chip : ℕ → End → Type 0} {x : Exchange} {r : Reached} {cs : List Call} → x.bytes ≡ [] → (q : Replied chip x r cs)
    → reached (form_of x.awaited) (reading Begun) (x.bytes ++ all_fed r cs) ≡ Over q.end
led_to_lem {x = x} {r} {cs} e q =
    ap (λ (ys : List ℕ). reached (form_of x.awaited) (reading Begun) (ys ++ all_fed r cs)) e
    ∙ ap (reached (form_of x.awaited) (reading Begun)) q.whole ∙ completes x.awaited q.well_formed q.after

in_by : (chip : ℕ → End → Type 0) {c : ℕ} (r : Reached) (cs : List Call) → Out c r → Answered chip r cs → In c (run r cs)
in_by chip r cs o a =
    let x = o.newest in
    let q = answered_by chip r cs o.same a in
    let g = grown r x o.older cs o.same q.fair in
    record {
      after = after_run r cs o.after;
      newest = exchange x.owner x.awaited (x.bytes ++ all_fed r cs) g.used;
      older = o.older;
      same = g.same;
      own = o.own;
      end = q.end;
      led = led_to_lem o.unread q;
      many = o.many;
    }

counted : {c : ℕ} {r : Reached} → In c r → commands r.history ≡ c
counted m = ap (λ (es : List Exchange). length (trials es)) m.same ∙ ap length (own_trials m.newest.owner m.newest m.older m.own) ∙ m.many

rests : (w : Awaits) (x : Exchange) (e : End) → Stands w x → led_to x ≡ Over e → w ≡ none
rests none x e v q = refl
rests (some p selected) x e v q = absurd (let z : Over e ≡ reading p.phase = sym q ∙ v.stands.1 in let y : ◌≡◌ {A = ℕ} 0 1 = cc in omega arith)

resting : {c : ℕ} {r : Reached} → In c r → awaits r.session.state ≡ none
resting {r = r} m = rests (awaits r.session.state) m.newest m.end (subst (Now r.session.state) m.same (now_of r m.after)) m.led

-- the next command is due, unless it was the eighth
due : {c : ℕ} {r : Reached} → In c r → is_running r.session.calibration ≡ true
    → (c < 8) × ((output : List ℕ) → least_output ≤ length output → (n : ℕ) × ((step r.session (next output)).answer.answer ≡ Answer.Sent n))
due {c} {r} m on =
    ⊎_elim (λ (w, _). absurd (true≢false (sym w ∙ ap is_some (resting m))))
    (λ (_, _, few, sends). (omega (arith, few, counted m), sends)) (lives r m.after on)

-- and is given out
next_out : {c : ℕ} {r : Reached} → In c r → is_running r.session.calibration ≡ true → (output : List ℕ) → least_output ≤ length output → Out (suc c) (turn r (next output))
next_out {c} {r} m on output big =
    let o = step r.session (next output) in
    let e = ((due m on).1 output big).1 in
    record {
      after = after_turn r (next output) m.after;
      newest = exchange (later (level_in o.bytes)) (idled (source_in o.bytes)) [] 0;
      older = exchanges r.history;
      same = ap (λ (a : Answer). exchanges_by (passing_by (next output) a o.answer.used o.bytes) (exchanges r.history)) e;
      own = tt;
      unread = refl;
      many = ap suc (counted m);
    }

start_out : (r : Reached) (plan : Plan) (output : List ℕ) → After r → Passes (checks r.session (calibrate plan output)) → Out 1 (turn r (calibrate plan output))
start_out r plan output a p =
    let c = calibrate plan output in
    let o = step r.session c in
    let e : o.answer.answer ≡ (does r.session c).answer.answer = ap (λ (m : Ran Outcome). m.answer.answer) (does_it r.session c p) in
    record {
      after = after_turn r c a;
      newest = exchange (first (level_in o.bytes)) (idled (source_in o.bytes)) [] 0;
      older = exchanges r.history;
      same = ap (λ (z : Answer). exchanges_by (passing_by c z o.answer.used o.bytes) (exchanges r.history)) e;
      own = tt;
      unread = refl;
      many = refl;
    }

-- ---- any chip

goes_within : (ts : List Round) (c : ℕ) (r : Reached) → In c r → Driven anything r ts
    → (commands (talk r ts).history ≡ length ts + c) × (length ts + c ≤ 8) × (length ts + c ≡ 8 → is_running (talk r ts).session.calibration ≡ false)
goes_within [] c r m d = (
  counted m ∙ omega arith,
  omega (arith, theorems.ends r m.after, counted m),
  λ e. decide (is_running r.session.calibration) (λ on. absurd (omega (arith, (due m on).0, e))) (λ off. off),
)
goes_within (t ∷ ts) c r m (on, big, a, d) =
    let o = next_out m on t.output big in
    let (many, few, end) = goes_within ts (suc c) (run (asked r t) t.calls) (in_by anything (asked r t) t.calls o a) d in
    (many ∙ omega arith, omega (arith, few), λ e. end (omega (arith, e)))

pub within : Within
within r plan output cs s ts d =
    let (many, few, end) = goes_within ts 1 (started r plan output cs) (in_by anything (turn r (calibrate plan output)) cs (start_out r plan output s.after s.passes) s.answered) d in
    (many ∙ omega arith, omega (arith, few), λ e. end (omega (arith, e)))

-- ---- calls that end nothing

-- where nothing is awaited no answer ends a calibration
unawaited_done : (s : Session) → is_waiting s.state ≡ false → (c : Call) → Passes (checks s c) → ends (does s c).answer.answer ≡ false
unawaited_done s w (power_on i) p = refl
unawaited_done s w pulse p = refl
unawaited_done s w (request c out) p = refl
unawaited_done s w (reset out) p = refl
unawaited_done s w (poll out) p = refl
unawaited_done s w (read n out) p = refl
unawaited_done s w (calibrate plan out) p = refl
unawaited_done s w (next out) p = go s.calibration
  where
    go : (c : Option Calibration) → ends (continues c s out).answer.answer ≡ false
    go None = refl
    go (Some c) = refl
unawaited_done s w (feed [] room) p = refl
unawaited_done s w (feed (x ∷ xs) room) (q, _) = absurd (true≢false (ap not (sym w) ∙ q))

unawaited : (s : Session) (c : Call) → is_waiting s.state ≡ false → ends (step s c).answer.answer ≡ false
unawaited s c w = by_step (λ (m : Ran Outcome). ends m.answer.answer ≡ false) s c (λ k m _. mild_goes k m) (unawaited_done s w c)

-- a fair call starts none
abbrev Stays : Call → Ran Outcome → Type 0
Stays c m = is_fair (passing_by c m.answer.answer m.answer.used m.bytes) ≡ true → is_running m.answer.session.calibration ≡ false

module _ (i : Interface) (state : State) where
  abbrev idle : Session
  idle = made i state None

  off_read : (v : Verdict) (r : Fed) (a : Awaited) (selected : ℕ) → is_running (outcome_by v r idle a selected).session.calibration ≡ false
  off_read More r a selected = refl
  off_read (Ended Good) r a selected = refl
  off_read (Ended (Woken w)) r a selected = refl
  off_read (Ended (Error code)) r a selected = refl
  off_read (Ended (End.Malformed at b)) r a selected = refl
  off_read NoRoom r a selected = refl

  off_taken : (w : Awaits) (xs room : List ℕ) → is_running (takes w idle xs room).answer.session.calibration ≡ false
  off_taken none xs room = refl
  off_taken (some p selected) xs room = let r = (fed_from p.awaited p.phase xs room).answer in off_read r.verdict r p.awaited selected

  off_done : (c : Call) → Stays c (does idle c)
  off_done (power_on j) f = refl
  off_done pulse f = refl
  off_done (request c out) f = refl
  off_done (reset out) f = refl
  off_done (poll out) f = refl
  off_done (read n out) f = refl
  off_done (calibrate plan out) f = absurd (true≢false (sym f))
  off_done (next out) f = refl
  off_done (feed [] room) f = refl
  off_done (feed (x ∷ xs) room) f = off_taken (awaits state) (x ∷ xs) room

off_stays : (s : Session) (c : Call) → is_running s.calibration ≡ false → Stays c (step s c)
off_stays s c off = go s.calibration off
  where
    go : (k : Option Calibration) → is_running k ≡ false → Stays c (step (made s.interface s.state k) c)
    go None e = by_step (Stays c) (made s.interface s.state None) c (λ k _ _ _. refl) (λ _. off_done s.interface s.state c)
    go (Some c) e = absurd (true≢false e)

fair_power : (p : Passing) → is_fair p ≡ true → is_power p ≡ false
fair_power (given o a) f = refl
fair_power (piece xs k) f = refl
fair_power power f = absurd (true≢false (sym f))
fair_power nothing f = refl

-- nothing is awaited: commands and answers are as they were
quiet_counts : (p : Passing) (es : List Exchange) → is_fair p ≡ true → NowBy none es
    → (length (trials (exchanges_by p es)) ≡ length (trials es)) × (answers_in (trials (exchanges_by p es)) ≡ answers_in (trials es))
quiet_counts (given o a) es f n = absurd (true≢false (sym f))
quiet_counts (piece xs k) es f n = (fed_length xs k es, fed_answers xs k es n)
quiet_counts power es f n = absurd (true≢false (sym f))
quiet_counts nothing es f n = (refl, refl)

last_still : (a b : Answer) → ends a ≡ false → last_by a b ≡ b
last_still Answer.Done b e = refl
last_still (Answer.Sent n) b e = refl
last_still Answer.More b e = refl
last_still Answer.Good b e = refl
last_still (Answer.Woken w) b e = refl
last_still (Answer.Reference r n) b e = absurd (true≢false e)
last_still (Answer.Refused k) b e = ap (λ (t : Bool). pick t (Answer.Refused k) b) e

-- a refusal that ends a calibration is 5, or it reports the commands
ending : (k : Refusal) → is_ending (number_of k) ≡ true → (k ≡ Malformed) ⊎ ((n : ℕ) × (report_of k ≡ ended n))
ending Short e = absurd (true≢false (sym e))
ending Invalid e = absurd (true≢false (sym e))
ending Unready e = absurd (true≢false (sym e))
ending Busy e = absurd (true≢false (sym e))
ending Malformed e = inl refl
ending Unawaited e = absurd (true≢false (sym e))
ending (ChipError code) e = absurd (true≢false (sym e))
ending (LowestTimeout n) e = inr (n, refl)
ending (HighestTag n) e = inr (n, refl)
ending (NoLevel n) e = inr (n, refl)
ending (CalibrationError code n) e = inr (n, refl)

-- while a calibration's command is the newest, a reply is awaited only as long as it runs
free_not : (w : Awaits) (x : Exchange) (es : List Exchange) → Own x.owner → Free w (x ∷ es) → w ≡ none
free_not none x es own f = refl
free_not (some p selected) x es own f = absurd (subst Own f own)

off_free : (c : Option Calibration) (state : State) (es : List Exchange) → is_running c ≡ false → Live c state es → Free (awaits state) es
off_free None state es e l = l
off_free (Some c) state es e l = absurd (true≢false e)

none_waits : (state : State) → awaits state ≡ none → is_waiting state ≡ false
none_waits state e = ap is_some e

waits_none : (w : Awaits) → is_some w ≡ false → w ≡ none
waits_none none e = refl
waits_none (some p selected) e = absurd (true≢false e)

-- ---- a steady chip

module _ (f : ℕ → Bool) (st : Steady f) where
  -- what was answered is still the chip's
  agrees_more : (l : ℕ) (ts : List Told) → Agrees f ts → Agrees f (told l (says (f l)) ∷ ts)
  agrees_more l ts ag k x m =
      ⊎_elim
      (λ e. ap (λ (t : Told). t.said) e ∙ sym (ap (λ (t : Told). says (f t.level)) e))
      (λ m'. ag k x m')
      (Memᴰ.cases_cons m)

  -- the call that ends it names the highest level with a tag
  named_by : (h : List Event) (e : Event) → SaysBy true e.answer (commands (e ∷ h)) (answers (e ∷ h)) (answers h) → Agrees f (answers (e ∷ h))
      → ends e.answer ≡ true → (e.answer ≡ Answer.Refused Malformed → ⊥) → Named f (e ∷ h)
  named_by h e said ag stop well = go e.answer refl said stop
    where
      go : (a : Answer) → e.answer ≡ a → SaysBy true a (commands (e ∷ h)) (answers (e ∷ h)) (answers h) → ends a ≡ true → Named f (e ∷ h)
      go Answer.Done q x t = absurd (true≢false (sym t))
      go (Answer.Sent n) q x t = absurd (true≢false (sym t))
      go Answer.More q x t = absurd (true≢false (sym t))
      go Answer.Good q x t = absurd (true≢false (sym t))
      go (Answer.Woken w) q x t = absurd (true≢false (sym t))
      go (Answer.Reference r n) q (_, one, res) t =
          record {
            reference = r;
            told_so = ap (λ (a : Answer). last_by a (last h)) q ∙ ap (Answer.Reference r) res.eight;
            highest = highest f st r n _ _ res ag;
            eight_commands = sym res.counted.0 ∙ res.eight;
            eight_answers = sym res.counted.1 ∙ res.eight;
          }
      go (Answer.Refused k) q x t =
          ⊎_elim (λ m. absurd (well (q ∙ ap Answer.Refused m)))
          (λ (n, m). absurd ((subst (λ (y : Report). RefusedBy (Fits (number_of k) (values_of k)) true y (commands (e ∷ h)) (answers (e ∷ h)) (answers h)) m x).3 f st ag)) (ending k t)

  -- it runs, or it named that level
  abbrev Sound : Reached → Type 0
  Sound r = (is_running r.session.calibration ≡ true) ⊎ ((is_running r.session.calibration ≡ false) × Named f r.history)

  -- the newest command is the calibration's, the n answers before it were the chip's, and its bytes, with those that come, are the chip's reply
  pub record Coming (n : ℕ) (es : List Exchange) (rest : List ℕ) : Type 0 where
    pub newest : Exchange
    pub older : List Exchange
    pub same : es ≡ newest ∷ older
    pub own : Own newest.owner
    pub agrees : Agrees f (answers_in (before newest.owner older))
    pub many : length (answers_in (before newest.owner older)) ≡ n
    pub reply : reached (form_of newest.awaited) (reading Begun) (newest.bytes ++ rest) ≡ Over (says (f (level_of newest.owner)))

  is_answer_lem : (b : Bool) → is_answer (says b) ≡ true
  is_answer_lem true = refl
  is_answer_lem false = refl

  -- of all the bytes, or of some at their beginning, the answers are the chip's
  module _ (n : ℕ) (es : List Exchange) (rest : List ℕ) (c : Coming n es rest) where
    abbrev x : Exchange
    x = c.newest

    abbrev l : ℕ
    l = level_of x.owner

    abbrev old : List Told
    old = answers_in (before x.owner c.older)

    -- an end that was reached is the reply's
    end_is : (e : End) → led_to x ≡ Over e → e ≡ says (f l)
    end_is e q = let z : Over e ≡ Over (says (f l)) = sym (over_fed x e rest q) ∙ c.reply in cc

    answers_as : (v : Verdict) → verdict_in x ≡ v → answers_in (trials es) ≡ answer_by v l old
    answers_as v e = ap (λ (zs : List Exchange). answers_in (trials zs)) c.same ∙ ap answers_in (own_trials x.owner x c.older c.own) ∙ ap (λ (w : Verdict). answer_by w l old) e

    answered_as : (e : End) → led_to x ≡ Over e → answers_in (trials es) ≡ told l (says (f l)) ∷ old
    answered_as e q =
        answers_as (Ended (says (f l))) (ap verdict_of q ∙ ap Ended (end_is e q)) ∙ ap (λ (b : Bool). pick b (told l (says (f l)) ∷ old) old) (is_answer_lem (f l))

    agrees_so : Agrees f (answers_in (trials es))
    agrees_so = go (led_to x) refl
      where
        go : (t : Step) → led_to x ≡ t → Agrees f (answers_in (trials es))
        go (reading q) e = subst (Agrees f) (sym (answers_as More (ap verdict_of e))) c.agrees
        go (Over e) q = subst (Agrees f) (sym (answered_as e q)) (agrees_more l old c.agrees)

    comes_on : (ys : List ℕ) (p : Passing) → is_fair p ≡ true → rest ≡ fed_in p ++ ys → Coming n (exchanges_by p es) ys
    comes_on ys p fair split =
        let g : Grown x c.older (fed_in p) (exchanges_by p es) =
        subst (λ (zs : List Exchange). Grown x c.older (fed_in p) (exchanges_by p zs)) (sym c.same) (grown_by x c.older p fair) in
        record {
          newest = exchange x.owner x.awaited (x.bytes ++ fed_in p) g.used;
          older = c.older;
          same = g.same;
          own = c.own;
          agrees = c.agrees;
          many = c.many;
          reply =
              ap (reached (form_of x.awaited) (reading Begun)) (append_assoc x.bytes (fed_in p) ys ∙ ap (λ (zs : List ℕ). x.bytes ++ zs) (sym split)) ∙ c.reply;
        }

  -- ---- one call

  module _ (n : ℕ) (r : Reached) (a : After r) (c : Call) (rest : List ℕ) (fair : is_fair (passed r c) ≡ true) (coming : Coming n (exchanges r.history) (fed_in (passed r c) ++ rest)) where
    abbrev h : List Event
    h = r.history

    abbrev r' : Reached
    r' = turn r c

    abbrev said : Answer
    said = (step r.session c).answer.answer

    now_coming : Coming n (exchanges r'.history) rest
    now_coming = comes_on n (exchanges h) _ coming rest (passed r c) fair refl

    -- where nothing is awaited
    still : is_waiting r.session.state ≡ false → Sound r → Sound r'
    still w (inl on) =
        inl (goes_on r.session on c ∙ ap₂ (λ (p q : Bool). not (p || q)) (fair_power (passed r c) fair) (unawaited r.session c w))
    still w (inr (off, m)) =
        let now : NowBy none (exchanges h) = subst (λ (z : Awaits). NowBy z (exchanges h)) (waits_none (awaits r.session.state) w) (now_of r a) in
        let counts = quiet_counts (passed r c) (exchanges h) fair now in
        inr (
          off_stays r.session c off fair,
          record {
            reference = m.reference;
            told_so = last_still said (last h) (unawaited r.session c w) ∙ m.told_so;
            highest = m.highest;
            eight_commands = counts.0 ∙ m.eight_commands;
            eight_answers = ap length counts.1 ∙ m.eight_answers;
          },
        )

    -- where the reply is awaited the calibration runs
    module _ (on : is_running r.session.calibration ≡ true) (p : Progress) (selected : ℕ) (waits : awaits r.session.state ≡ some p selected) where
      v : Inv r.session h
      v = inv_of r a

      after_inv : Inv r'.session r'.history
      after_inv = inv_of r' (after_turn r c a)

      told_by : SaysBy true said (commands r'.history) (answers r'.history) (answers h)
      told_by = subst (λ (b : Bool). SaysBy b said (commands r'.history) (answers r'.history) (answers h)) on (keeps r.session h v c).says

      none_yet : answers h ≡ old n (exchanges h) _ coming
      none_yet =
          answers_as n (exchanges h) _ coming More
          (ap verdict_of (subst (λ (z : Awaits). NowBy z (coming.newest ∷ coming.older)) waits (subst (Now r.session.state) coming.same v.now)).stands.1)

      runs_on : is_running r'.session.calibration ≡ not (ends said)
      runs_on = goes_on r.session on c ∙ ap (λ (b : Bool). not (b || ends said)) (fair_power (passed r c) fair)

      -- refusal 5 would leave no answer behind a reply that has one
      not_malformed : said ≡ Answer.Refused Malformed → ⊥
      not_malformed q =
          let off : is_running r'.session.calibration ≡ false = runs_on ∙ ap (λ (z : Answer). not (ends z)) q in
          let few : length (answers r'.history) ≤ length (answers h) = subst (λ (z : Answer). SaysBy true z (commands r'.history) (answers r'.history) (answers h)) q told_by in
          let es = exchanges r'.history in
          let free = subst (Free (awaits r'.session.state)) now_coming.same (off_free r'.session.calibration r'.session.state es off after_inv.live) in
          let quiet = free_not (awaits r'.session.state) now_coming.newest now_coming.older now_coming.own free in
          let stood = (subst (λ (z : Awaits). NowBy z (now_coming.newest ∷ now_coming.older)) quiet (subst (Now r'.session.state) now_coming.same after_inv.now)).stands in
          let came = answered_as n es rest now_coming stood.0 stood.1 in
          omega (arith, few, ap length came, ap length none_yet, now_coming.many, coming.many)

      heeded : Sound r'
      heeded =
          decide (ends said)
          (λ stop. inr (runs_on ∙ ap not stop, named_by h _ told_by (agrees_so n (exchanges r'.history) rest now_coming) stop not_malformed))
          (λ goes. inl (runs_on ∙ ap not goes))

    one_call : Sound r → Sound r'
    one_call s = go (awaits r.session.state) refl s
      where
        go : (w : Awaits) → awaits r.session.state ≡ w → Sound r → Sound r'
        go none e s = still (ap is_some e) s
        go (some p selected) e (inl on) = heeded on p selected e
        go (some p selected) e (inr (off, _)) =
            let free = subst (Free (awaits r.session.state)) coming.same (off_free r.session.calibration r.session.state (exchanges h) off (inv_of r a).live) in
            let quiet = free_not (awaits r.session.state) coming.newest coming.older coming.own free in
            absurd (true≢false (ap is_some (sym e ∙ quiet)))

  all_calls : (n : ℕ) (cs : List Call) (r : Reached) (rest : List ℕ) → After r → Sound r → Fair r cs → Coming n (exchanges r.history) (all_fed r cs ++ rest)
      → Sound (run r cs) × Coming n (exchanges (run r cs).history) rest
  all_calls n [] r rest a s fs c = (s, c)
  all_calls n (c ∷ cs) r rest a s (f, fs) coming =
      let split = append_assoc (fed_in (passed r c)) (all_fed (turn r c) cs) rest in
      let coming' = subst (Coming n (exchanges r.history)) split coming in
      all_calls n cs (turn r c) rest (after_turn r c a) (one_call n r a c (all_fed (turn r c) cs ++ rest) f coming' s) fs (now_coming n r a c (all_fed (turn r c) cs ++ rest) f coming')

  -- ---- a round

  -- the command is answered, as the chip does, behind n answers that were the chip's too
  pub record Heard (i : Interface) (n : ℕ) (r : Reached) : Type 0 where
    pub within : In (suc n) r
    pub interface : r.session.interface ≡ i
    pub sound : Sound r
    pub agrees : Agrees f (answers r.history)
    pub many : length (answers r.history) ≡ suc n
    pub tells : within.end ≡ says (f (level_of within.newest.owner))

  heard_by : (i : Interface) (n : ℕ) (r : Reached) (cs : List Call) → (o : Out (suc n) r) → r.session.interface ≡ i → is_running r.session.calibration ≡ true
      → Agrees f (answers_in (before o.newest.owner o.older)) → length (answers_in (before o.newest.owner o.older)) ≡ n → Answered (steadily f) r cs → Heard i n (run r cs)
  unfolding answered_by in_by
  heard_by i n r cs o e on ag many a =
      let x = o.newest in
      let q = answered_by (steadily f) r cs o.same a in
      let led = led_to_lem o.unread q ∙ ap Over q.chosen in
      let coming : Coming n (exchanges r.history) (all_fed r cs ++ []) = record {
        newest = x;
        older = o.older;
        same = o.same;
        own = o.own;
        agrees = ag;
        many = many;
        reply = ap (λ (ys : List ℕ). reached (form_of x.awaited) (reading Begun) (x.bytes ++ ys)) (append-nil (all_fed r cs)) ∙ led;
      } in
      let (s, c) = all_calls n cs r [] o.after (inl on) q.fair coming in
      let es = exchanges (run r cs).history in
      let whole = ap (reached (form_of c.newest.awaited) (reading Begun)) (sym (append-nil c.newest.bytes)) ∙ c.reply in
      record {
        within = in_by (steadily f) r cs o a;
        interface = run_interface r cs q.fair ∙ e;
        sound = s;
        agrees = agrees_so n es [] c;
        many = ap length (answered_as n es [] c _ whole) ∙ ap suc c.many;
        tells = q.chosen;
      }

  -- ---- its end

  tracked_ready : (b : Bool) (a : Awaited) (before : State) → tracked (Ended (says b)) a before ≡ Ready
  tracked_ready true a before = refl
  tracked_ready false a before = refl

  known_ready : (state : State) → known state ≡ Ready → state ≡ Ready
  known_ready PowerUp e = e
  known_ready Ready e = e
  known_ready (Selected protocol) e = e
  known_ready (Waiting p selected) e = absurd (true≢false (ap is_waiting e))
  known_ready Lost e = e

  off_is : (c : Option Calibration) → is_running c ≡ false → c ≡ None
  off_is None e = refl
  off_is (Some c) e = absurd (true≢false e)

  module _ (i : Interface) (n : ℕ) (r : Reached) (m : Heard i n r) where
    ready : r.session.state ≡ Ready
    ready =
        let x = m.within.newest in
        known_ready r.session.state
        (tracks r m.within.after
        ∙ ap (state_in (awake r.history)) m.within.same
        ∙ ap (λ (t : Step). tracked (verdict_of t) x.awaited (state_in (awake r.history) m.within.older)) (m.within.led ∙ ap Over m.tells)
        ∙ tracked_ready (f (level_of x.owner)) x.awaited (state_in (awake r.history) m.within.older))

    ended_so : is_running r.session.calibration ≡ false → r.session ≡ made i Ready None
    ended_so off =
        let e₁ = m.interface in
        let e₂ = ready in
        let e₃ = off_is r.session.calibration off in
        λ k. made (e₁ k) (e₂ k) (e₃ k)

  goes_steadily : (i : Interface) (ts : List Round) (n : ℕ) (r : Reached) → Heard i n r → Driven (steadily f) r ts
      → ((length ts + n < 7) × (is_running (talk r ts).session.calibration ≡ true))
      ⊎ ((length ts + n ≡ 7) × Named f (talk r ts).history × ((talk r ts).session ≡ made i Ready None))
  unfolding next_out
  goes_steadily i [] n r m d =
      ⊎_elim (λ on. inl (omega (arith, (due m.within on).0), on))
      (λ (off, named). inr (omega (arith, named.eight_answers, m.many), named, ended_so i n r m off)) m.sound
  goes_steadily i (t ∷ ts) n r m (on, big, a, d) =
      let o = next_out m.within on t.output big in
      let sent = ((due m.within on).1 t.output big).1 in
      let z = step r.session (next t.output) in
      let runs = goes_on r.session on (next t.output) ∙ ap (λ (y : Answer). not (is_power (passing_by (next t.output) y z.answer.used z.bytes) || ends y)) sent in
      let m' = heard_by i (suc n) (asked r t) t.calls o (interfaces r.session (next t.output) ∙ m.interface) runs m.agrees m.many a in
      ⊎_elim (λ (few, goes). inl (omega (arith, few), goes)) (λ (all, named, end). inr (omega (arith, all), named, end))
      (goes_steadily i ts (suc n) (run (asked r t) t.calls) m' d)

pub calibrates : Calibrates
unfolding start_out
calibrates f st r plan output cs s ts d =
    let c = calibrate plan output in
    let o = start_out r plan output s.after s.passes in
    let runs : is_running (turn r c).session.calibration ≡ true = ap (λ (m : Ran Outcome). is_running m.answer.session.calibration) (does_it r.session c s.passes) in
    let m = heard_by f st r.session.interface 0 (turn r c) cs o (interfaces r.session c) runs (λ l x m. absurd (Memᴰ.not-nil m)) refl s.answered in
    ⊎_elim (λ (few, goes). inl (omega (arith, few), goes)) (λ (all, named, end). inr (omega (arith, all), named, end))
    (goes_steadily f st r.session.interface ts 0 (started r plan output cs) m d)
