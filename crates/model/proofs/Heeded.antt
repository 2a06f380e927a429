-- An answer is taken exactly by the call with which one came; and while a calibration runs, the newest command is its own.
-- Assumes nothing.
use Rattle.std.specs.Prelude.{Option, Some, None}
use Prim.Native.Nat.{ℕ, suc, ◌≤◌}
use native.Mathlib.Omega.{arith}
use mathlib.Core.Path.{◌≡◌, sym, subst, ◌∙◌}
use mathlib.Core.Bool.{Bool, true, false, ◌||◌, true≢false}
use mathlib.Core.Logic.{◌↔◌, ⊎_elim}
use mathlib.Core.List.{List, [], ◌∷◌, ◌++◌}
use lib.Dec.{ltb}
use lib.ListN.{length}
use Rattle.model.specs.declared.Answer.{Answer}
use Rattle.model.specs.Refusals.{Report, silent, ended, report_of}
use Rattle.model.specs.declared.Refusal.{Refusal}
use Rattle.model.specs.declared.Calibration.{Calibration}
use Rattle.model.specs.declared.State.{State}
use Rattle.model.specs.declared.State.TheVariants.{PowerUp, Ready, Selected, Waiting, Lost}
use Rattle.model.specs.declared.Session.{Session}
use Rattle.model.specs.declared.Outcome.{Outcome}
use Rattle.words.specs.Words.{pick}
use Rattle.words.specs.Contract.{Ran}
use Rattle.model.specs.Checks.{Passes}
use Rattle.model.specs.Replies.{least_room}
use Rattle.model.specs.Session.{refuse, lent, is_waiting, is_running, continuing, writing_next, continues, checks, does, Call, power_on, pulse, request, reset, poll, read, calibrate, next, feed, step}
use Rattle.model.specs.History.{turn, Owner, requested, Passing, passing_by, Exchange, fed, exchanges_by, exchanges, Told, answers}
use Rattle.model.specs.Promises.{HeededBy, Heeded, Heeds, Own}
use Rattle.model.proofs.Ordering.{Quiet, unheard, ignored, quiet, by_step}
use Rattle.model.proofs.Invariant.{Own as Owned, Live, not_free, OneMore, NoneMore, RefusedBy, SaysBy, keeps}
use Rattle.model.proofs.Theorems.{inv_of}

-- at most one answer came, and one exactly where P
abbrev Brings : Type 0 → List Told → List Told → Type 0
Brings P ts old = (length ts ≤ suc (length old)) × (OneMore ts old ↔ P)

never : (P : Type 0) (ts old : List Told) → NoneMore ts old → (P → ⊥) → Brings P ts old
never P ts old x n = (omega arith, (λ one. absurd (omega (arith, one)), λ p. absurd (n p)))

once : (P : Type 0) (ts old : List Told) → OneMore ts old → P → Brings P ts old
once P ts old x p = (omega arith, (λ _. p, λ _. x))

brings_refused : (F : Told → Type 0) (running : Bool) (y : Report) (c : ℕ) (ts old : List Told) → RefusedBy F running y c ts old → Brings (HeededBy y) ts old
brings_refused F running silent c ts old x = never ⊥ ts old x (λ z. z)
brings_refused F running (ended n) c ts old x = once (Unit {0}) ts old x.1 tt

brings : (running : Bool) (a : Answer) (c : ℕ) (ts old : List Told) → SaysBy running a c ts old → Brings (Heeded running a) ts old
brings running Answer.Done c ts old x = never ⊥ ts old x (λ z. z)
brings running (Answer.Sent n) c ts old x = never ⊥ ts old x (λ z. z)
brings running Answer.More c ts old x = never ⊥ ts old x (λ z. z)
brings running Answer.Good c ts old x = never ⊥ ts old x (λ z. z)
brings running (Answer.Woken w) c ts old x =
    ⊎_elim (λ (off, none). never (running ≡ true) ts old none (λ on. true≢false (sym on ∙ off))) (λ (on, one, _, _). once (running ≡ true) ts old one on) x
brings running (Answer.Reference reference n) c ts old x = once (Unit {0}) ts old x.1 tt
brings running (Answer.Refused k) c ts old x = brings_refused _ running (report_of k) c ts old x

pub heeds : Heeds
heeds r a c =
    let s = r.session in
    brings (is_running s.calibration) (step s c).answer.answer _ (answers (turn r c).history) (answers r.history) (keeps s r.history (inv_of r a) c).says

-- ---- while a calibration runs

-- the newest command, if any, is a calibration's
abbrev Mine : List Exchange → Type 0
Mine [] = Unit {0}
Mine (x ∷ es) = Owned x.owner

mine_fed : (xs : List ℕ) (k : ℕ) (es : List Exchange) → Mine es → Mine (fed xs k es)
mine_fed xs k [] m = m
mine_fed xs k (x ∷ es) m = m

mine_in : (c : Option Calibration) (state : State) (es : List Exchange) → is_running c ≡ true → Live c state es → Mine es
mine_in None state es e l = absurd (true≢false (sym e))
mine_in (Some c) PowerUp es e l = absurd l
mine_in (Some c) Ready [] e l = tt
mine_in (Some c) Ready (x ∷ es) e l = l.0
mine_in (Some c) (Selected protocol) es e l = absurd l
mine_in (Some c) (Waiting p selected) [] e l = tt
mine_in (Some c) (Waiting p selected) (x ∷ es) e l = l.own
mine_in (Some c) Lost es e l = absurd l

-- after a call with this outcome
abbrev After : List Exchange → Call → Ran Outcome → Type 0
After es c m = Mine (exchanges_by (passing_by c m.answer.answer m.answer.used m.bytes) es)

mine_refused : (s : Session) (es : List Exchange) → Mine es → (c : Call) (k : Refusal) → Quiet c → After es c (refuse s k (lent c))
mine_refused s es m c k (unheard d u) = subst (λ (p : Passing). Mine (exchanges_by p es)) (sym (u k (lent d))) m
mine_refused s es m c k (ignored x xs room) = mine_fed (pick (ltb (length room) least_room) [] (x ∷ xs)) 0 es m

mine_next : (c : Option Calibration) (s : Session) (es : List Exchange) (out : List ℕ) → Mine es → Passes (continuing c s.state ++ writing_next c s out) → After es (next out) (continues c s out)
mine_next None s es out m p = absurd (true≢false p.0)
mine_next (Some c) s es out m p = tt

mine_done : (s : Session) (es : List Exchange) → is_running s.calibration ≡ true → Mine es → (c : Call) → Passes (checks s c) → After es c (does s c)
mine_done s es on m (power_on i) p = tt
mine_done s es on m pulse p = m
mine_done s es on m (request c out) p = not_free s.state (subst (λ (b : Bool). (is_waiting s.state || b) ≡ false) on p.0)
mine_done s es on m (reset out) p = tt
mine_done s es on m (poll out) p = m
mine_done s es on m (read n out) p = m
mine_done s es on m (calibrate plan out) p = tt
mine_done s es on m (next out) p = mine_next s.calibration s es out m p
mine_done s es on m (feed xs room) p = mine_fed (pick (ltb (length room) least_room) [] xs) (does s (feed xs room)).answer.used es m

not_requested : (o : Owner) → Owned o → o ≡ requested → ⊥
not_requested o w e = subst Owned e w

pub own : Own
own r a on c x es e =
    let s = r.session in
    let h = exchanges r.history in
    let m : Mine h = mine_in s.calibration s.state h on (inv_of r a).live in
    not_requested x.owner
    (subst Mine e (by_step (After h c) s c (λ k _ g. mine_refused s h m c k (quiet s c k g)) (mine_done s h on m c)))
