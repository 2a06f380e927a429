-- How long a calibration runs: what stops it, and that it goes on otherwise.
-- Assumes nothing.
use Rattle.std.specs.Prelude.{Option, Some, None}
use Prim.Native.Nat.{ℕ, suc, ◌≤◌, ◌<◌}
use native.Mathlib.Omega.{arith}
use mathlib.Core.Path.{◌≡◌, refl, sym, ap, ◌∙◌}
use mathlib.Core.Bool.{Bool, true, false, not, ◌||◌, true≢false}
use mathlib.Core.Logic.{◌⊎◌, inl, inr}
use mathlib.Core.List.{List, [], ◌∷◌}
use lib.Dec.{ltb, eqb}
use lib.ListN.{length}
use borrow.Author.Tests.{lt-ltb, le-ltb}
use Rattle.model.specs.declared.Interface.{Interface}
use Rattle.model.specs.declared.Interface.TheVariants.{Spi, Uart}
use Rattle.model.specs.declared.Refusal.{Refusal}
use Rattle.model.specs.declared.Refusal.TheVariants.{Short, Invalid, Unready, Busy, Malformed, Unawaited, ChipError, LowestTimeout, HighestTag, NoLevel, CalibrationError}
use Rattle.model.specs.declared.Awaited.{Awaited}
use Rattle.model.specs.declared.Wake.{Wake}
use Rattle.model.specs.declared.End.{End}
use Rattle.model.specs.declared.End.TheVariants.{Good, Woken, Error}
use Rattle.model.specs.declared.Verdict.{Verdict}
use Rattle.model.specs.declared.Verdict.TheVariants.{More, Ended, NoRoom}
use Rattle.model.specs.declared.Place.{Place}
use Rattle.model.specs.declared.Fed.{Fed}
use Rattle.model.specs.declared.Plan.{Plan}
use Rattle.model.specs.declared.Search.{Search}
use Rattle.model.specs.declared.Calibration.{Calibration}
use Rattle.model.specs.declared.Turn.{Turn}
use Rattle.model.specs.declared.State.{State}
use Rattle.model.specs.declared.State.TheVariants.{PowerUp, Ready, Selected, Waiting, Lost}
use Rattle.model.specs.declared.Session.{Session}
use Rattle.model.specs.declared.Answer.{Answer}
use Rattle.model.specs.declared.Outcome.{Outcome}
use Rattle.words.specs.Contract.{Ran}
use Rattle.model.specs.Refusals.{number_of}
use Rattle.model.specs.Frames.{idle, send, writing}
use Rattle.model.specs.Replies.{fed_from}
use Rattle.model.specs.Calibration.{settings_at, most_commands, is_tag, searching}
use Rattle.model.specs.Checks.{Passes, mild}
use Rattle.model.specs.Session.{made, refuse, lent, is_waiting, is_running, turned, outcome_by, awaits, takes, checks, does, Call, power_on, pulse, request, reset, poll, read, calibrate, next, feed, step}
use Rattle.model.specs.History.{Event, event, Passing, passing_by, passing, trials, exchanges, commands, answers_in, answers}
use Rattle.model.specs.Tracked.{is_power}
use Rattle.model.specs.Talk.{is_ending, ends, Stops, least_output, Lives}
use Rattle.words.proofs.Words.{ways}
use Rattle.model.proofs.Ordering.{passed, awaited, Quiet, unheard, ignored, quiet, by_step}
use Rattle.model.proofs.Refusing.{allowed_at}
use Rattle.model.proofs.Cable.{NowBy}
use Rattle.model.proofs.Invariant.{Inv, Live, answers_now, many, not_free}
use Rattle.model.proofs.Theorems.{inv_of}

-- ---- what stops it

-- after a call with this outcome it runs exactly where nothing stopped it
abbrev Goes : Call → Ran Outcome → Type 0
Goes c m = is_running m.answer.session.calibration ≡ not (is_power (passing_by c m.answer.answer m.answer.used m.bytes) || ends m.answer.answer)

pub mild_goes : (k : Refusal) → mild k ≡ true → is_ending (number_of k) ≡ false
mild_goes Short m = refl
mild_goes Invalid m = refl
mild_goes Unready m = refl
mild_goes Busy m = refl
mild_goes Malformed m = absurd (true≢false (sym m))
mild_goes Unawaited m = refl
mild_goes (ChipError code) m = absurd (true≢false (sym m))
mild_goes (LowestTimeout n) m = absurd (true≢false (sym m))
mild_goes (HighestTag n) m = absurd (true≢false (sym m))
mild_goes (NoLevel n) m = absurd (true≢false (sym m))
mild_goes (CalibrationError code n) m = absurd (true≢false (sym m))

refused_goes : (s : Session) → is_running s.calibration ≡ true → (c : Call) (k : Refusal) → mild k ≡ true → Quiet c → Goes c (refuse s k (lent c))
refused_goes s on c k m (unheard d u) =
    on ∙ ap (λ (b : Bool). not b) (sym (mild_goes k m)) ∙ ap (λ (p : Passing). not (is_power p || is_ending (number_of k))) (sym (u k (lent d)))
refused_goes s on c k m (ignored x xs room) = on ∙ ap (λ (b : Bool). not b) (sym (mild_goes k m))

-- a reply that ended
abbrev Runs : Outcome → Type 0
Runs o = is_running o.session.calibration ≡ not (ends o.answer)

heard_goes : (plan : Plan) (found : Search) (w : Wake) (s : Session) (k : ℕ) (place : Place) → Runs (turned (Rattle.model.specs.Calibration.heard found w) plan w s k place)
heard_goes plan found w s k place =
    let P : Turn → Type 0 = λ t. Runs (turned t plan w s k place) in
    let n = found.commands in
    ways P (is_tag w)
    (λ _. ways P (ltb n 2) (λ _. refl) (λ _. ways P (eqb n 2) (λ _. refl) (λ _. ways P (ltb n most_commands) (λ _. refl) (λ _. refl))))
    (λ _. ways P (ltb n 2) (λ _. refl)
    (λ _. ways P (eqb n 2) (λ _. refl) (λ _. ways P (ltb n most_commands) (λ _. refl) (λ _. ways P (ltb found.level 4) (λ _. refl) (λ _. refl)))))

taken_goes : (v : Verdict) (r : Fed) (i : Interface) (state : State) (plan : Plan) (found : Search) (a : Awaited) (selected : ℕ)
    → Runs (outcome_by v r (made i state (searching plan found)) a selected)
taken_goes More r i state plan found a selected = refl
taken_goes (Ended Good) r i state plan found a selected = refl
taken_goes (Ended (Woken w)) r i state plan found a selected = heard_goes plan found w (made i state (searching plan found)) r.used r.place
taken_goes (Ended (Error code)) r i state plan found a selected = refl
taken_goes (Ended (End.Malformed at b)) r i state plan found a selected = refl
taken_goes NoRoom r i state plan found a selected = refl

module _ (i : Interface) (state : State) (plan : Plan) (found : Search) where
  abbrev s : Session
  s = made i state (searching plan found)

  done_goes : (c : Call) → Passes (checks s c) → Goes c (does s c)
  done_goes (power_on j) p = refl
  done_goes pulse p = refl
  done_goes (request c out) p = not_free state p.0
  done_goes (reset out) p = refl
  done_goes (poll out) p = refl
  done_goes (read n out) p = refl
  done_goes (calibrate again out) p = not_free state p.0
  done_goes (next out) p = refl
  done_goes (feed [] room) p = refl
  done_goes (feed (x ∷ xs) room) p =
      awaited (λ (z : State). Runs (takes (awaits z) s (x ∷ xs) room).answer) state p.0
      (λ q selected. let r = (fed_from q.awaited q.phase (x ∷ xs) room).answer in taken_goes r.verdict r i state plan found q.awaited selected)

  goes_in : (c : Call) → Goes c (step s c)
  goes_in c = by_step (Goes c) s c (λ k m g. refused_goes s refl c k m (quiet s c k g)) (done_goes c)

pub goes_on : (s : Session) → is_running s.calibration ≡ true → (c : Call) → Goes c (step s c)
goes_on s on c = go s.calibration on
  where
    go : (k : Option Calibration) → is_running k ≡ true → Goes c (step (made s.interface s.state k) c)
    go None e = absurd (true≢false (sym e))
    go (Some q) e = goes_in s.interface s.state q.plan q.search c

pub stops : Stops
stops r a on c e q =
    let same : event c (step r.session c).answer (step r.session c).bytes ≡ e = cc in
    goes_on r.session on c ∙ ap (λ (x : Event). not (is_power (passing x) || ends x.answer)) same

-- ---- that it goes on

-- where the output is long enough no check of its bytes holds
pub long_enough : (i : Interface) (plan : Plan) (level : ℕ) (output : List ℕ) → least_output ≤ length output → Passes (writing i (send (idle (settings_at plan level))) output)
long_enough Spi plan level output h = (ap not (allowed_at plan level), (le-ltb (length output) 17 h, tt))
long_enough Uart plan level output h = (ap not (allowed_at plan level), (le-ltb (length output) 16 (omega arith), tt))

-- where no check holds, what is done is done
pub does_it : (s : Session) (c : Call) → Passes (checks s c) → step s c ≡ does s c
does_it s c p = passed (λ k. refuse s k (lent c)) (does s c) (checks s c) p

pub next_sent : (i : Interface) (plan : Plan) (found : Search) (output : List ℕ) → found.commands < 8 → least_output ≤ length output
    → step (made i Ready (searching plan found)) (next output) ≡ does (made i Ready (searching plan found)) (next output)
next_sent i plan found output few h =
    does_it (made i Ready (searching plan found)) (next output) (ap not (lt-ltb found.commands most_commands few), long_enough i plan found.level output h)

abbrev LivesIn : Session → List Event → Type 0
LivesIn s h =
    ((is_waiting s.state ≡ true) × (suc (length (answers h)) ≡ commands h))
    ⊎ ((s.state ≡ Ready) × (length (answers h) ≡ commands h) × (commands h < 8)
    × ((output : List ℕ) → least_output ≤ length output → (n : ℕ) × ((step s (next output)).answer.answer ≡ Answer.Sent n)))

lives_in : (i : Interface) (state : State) (plan : Plan) (found : Search) (h : List Event) → Inv (made i state (searching plan found)) h → LivesIn (made i state (searching plan found)) h
lives_in i state plan found h v = go state (exchanges h) refl v.now v.live
  where
    go : (state : State) (es : List _) → es ≡ exchanges h → NowBy (awaits state) es → Live (searching plan found) state es → LivesIn (made i state (searching plan found)) h
    go PowerUp es e n l = absurd l
    go Ready [] e n l = absurd l
    go Ready (x ∷ es) e n (_, d) =
        let c : length (trials (exchanges h)) ≡ found.commands = ap (λ zs. length (trials zs)) (sym e) ∙ d.sent in
        let t : length (answers h) ≡ found.commands = ap (λ zs. length (answers_in (trials zs))) (sym e) ∙ d.heard in
        inr (
          refl,
          t ∙ sym c,
          omega (arith, c, d.left),
          λ output big. (_, ap (λ (m : Ran Outcome). m.answer.answer) (next_sent i plan found output (omega (arith, d.left)) big)),
        )
    go (Selected protocol) es e n l = absurd l
    go (Waiting p selected) [] e n l = absurd l
    go (Waiting p selected) (x ∷ es) e n ask =
        let state = Waiting p selected in
        let c : length (trials (exchanges h)) ≡ found.commands = ap (λ zs. length (trials zs)) (sym e) ∙ many plan found i state x x es ask refl in
        let t = ap (λ zs. length (answers_in (trials zs))) (sym e) ∙ ap length (answers_now plan found i state x x es ask refl More (ap Rattle.model.specs.Replies.verdict_of n.stands.1)) in
        inl (refl, ap suc t ∙ ask.heard ∙ sym c)
    go Lost es e n l = absurd l

pub lives : Lives
lives r a on = go r.session.calibration on (inv_of r a)
  where
    go : (k : Option Calibration) → is_running k ≡ true → Inv (made r.session.interface r.session.state k) r.history → LivesIn (made r.session.interface r.session.state k) r.history
    go None e v = absurd (true≢false (sym e))
    go (Some c) e v = lives_in r.session.interface r.session.state c.plan c.search r.history v
