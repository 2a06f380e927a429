-- Each refusal is given exactly where the table says, and the mild ones leave everything as it was.
-- Assumes nothing.
use Rattle.std.specs.Prelude.{Option, Some, None}
use Prim.Native.Nat.{ℕ, ◌+◌, ◌-◌, ◌*◌, ◌%◌, ◌<◌}
use native.Mathlib.Omega.{arith}
use mathlib.Core.Path.{◌≡◌, refl, sym, ap, ◌∙◌}
use mathlib.Core.Bool.{Bool, true, false, not, ◌&&◌, and-false, or-true}
use mathlib.Core.Logic.{◌⊎◌, inl, inr}
use mathlib.Core.List.{List, [], ◌∷◌}
use lib.Dec.{T, eqb, leb, ltb, leb-zero}
use borrow.Author.Tests.{ltb-true, ltb-false, leb-false, le-leb, lt-leb, ne_eqb, eqb-false}
use Rattle.model.specs.declared.Refusal.{Refusal}
use Rattle.model.specs.declared.Awaited.{Awaited}
use Rattle.model.specs.declared.Phase.{Phase}
use Rattle.model.specs.declared.Wake.{Wake}
use Rattle.model.specs.declared.End.{End}
use Rattle.model.specs.declared.End.TheVariants.{Good, Woken, Error, Malformed}
use Rattle.model.specs.declared.Step.{Step}
use Rattle.model.specs.declared.Step.TheVariants.{On as reading, Over}
use Rattle.model.specs.declared.Verdict.{Verdict}
use Rattle.model.specs.declared.Verdict.TheVariants.{More, Ended, NoRoom}
use Rattle.model.specs.declared.Place.{Place}
use Rattle.model.specs.declared.Fed.{Fed}
use Rattle.model.specs.declared.Plan.{Plan}
use Rattle.model.specs.declared.Search.{Search}
use Rattle.model.specs.declared.Calibration.{Calibration}
use Rattle.model.specs.declared.Session.{Session}
use Rattle.model.specs.declared.Answer.{Answer}
use Rattle.model.specs.declared.Outcome.{Outcome}
use Rattle.words.specs.Words.{pick}
use Rattle.words.specs.Contract.{Ran}
use Rattle.model.specs.Refusals.{none as unnumbered, number, band_number}
use Rattle.model.specs.Frames.{idle, source_allowed, allowed}
use Rattle.model.specs.Replies.{form_of, reached, has_data, fed_by, fed_from}
use Rattle.model.specs.Calibration.{settings_at, most_commands, is_tag, tagged, timed_out, band}
use Rattle.model.specs.Session.{Awaits, none, some, awaits, refuse, lent, turned, woken, error_by, ended_by, outcome_by, wake_checks, end_checks, reply_checks, piece_checks, replies, continues, takes, checks, does, table, Call, power_on, pulse, request, reset, poll, read, calibrate, next, feed, step}
use Rattle.model.specs.Checks.{Check, ◌when◌, judged, mild}
use Rattle.model.specs.Claims.{Exactly, Untouched, BandRefused, Sends}
use Rattle.words.proofs.Words.{ways, each}
use Rattle.model.proofs.Ordering.{passed, through, joined, Rated, Plain, first_is, none_mild, by_step}

decide : {P : Type 0} (b : Bool) → (b ≡ true → P) → (b ≡ false → P) → P
decide true p q = p refl
decide false p q = q refl

-- a calibration's command is always allowed
holds : (b : Bool) → T b → b ≡ true
holds true t = refl
holds false t = absurd t

pub allowed_at : (plan : Plan) (level : ℕ) → allowed (idle (settings_at plan level)) ≡ true
allowed_at plan level =
    let p = plan.prescaler % 4 in
    let source : source_allowed (0x03 + 64 * p) ≡ true = holds (source_allowed (0x03 + 64 * p)) (each (λ (q : ℕ). source_allowed (0x03 + 64 * q)) 4 tt p (omega arith)) in
    simp (source, leb-zero level, or-true)

-- ---- what a reply's bytes say

-- an answer is the first of the rows that holds, or it is no refusal; and none of them is mild
pub record Says (answer : Answer) (rows : List Check) : Type 0 where
  pub other : Answer
  pub plain : Plain other
  pub same : answer ≡ judged rows Answer.Refused other
  pub firm : Rated false rows

no_refusal : (a : Answer) → Plain a → Says a []
no_refusal a p = record { other = a; plain = p; same = refl; firm = tt }

one_refusal : (k : Refusal) → mild k ≡ false → Says (Answer.Refused k) (k when true ∷ [])
one_refusal k m = record { other = Answer.Done; plain = λ j e. clash e; same = refl; firm = (m, tt) }
  where
    clash : {j : Refusal} → Answer.Done ≡ Answer.Refused j → ⊥
    clash e = let z : ◌≡◌ {A = ℕ} 0 1 = cc in omega arith

good : Plain Answer.Good
good k e = let z : ◌≡◌ {A = ℕ} 0 1 = cc in omega arith

goes_on : (w : Wake) → Plain (Answer.Woken w)
goes_on w k e = let z : ◌≡◌ {A = ℕ} 0 1 = cc in omega arith

named : (r n : ℕ) → Plain (Answer.Reference r n)
named r n k e = let z : ◌≡◌ {A = ℕ} 0 1 = cc in omega arith

-- where an answer leads, by whether it was a tag
module _ (found : Search) (plan : Plan) (w : Wake) (s : Session) (k : ℕ) (place : Place) where
  abbrev n : ℕ
  n = found.commands

  abbrev rows : Bool → List Check
  rows tag =
      Refusal.HighestTag n when (tag && eqb n 2)
      ∷ Refusal.LowestTimeout n when (not tag && ltb n 2)
      ∷ Refusal.NoLevel n when (not tag && leb most_commands n && ltb found.level 4) ∷ []

  abbrev led : Bool → Answer
  led tag = (turned (pick tag (tagged found) (timed_out found)) plan w s k place).answer

  by_tag : (a : Answer) → Plain a → (turned (tagged found) plan w s k place).answer ≡ judged (rows true) Answer.Refused a → Says (led true) (rows true)
  by_tag a p e = record { other = a; plain = p; same = e; firm = (refl, (refl, (refl, tt))) }

  by_timeout : (a : Answer) → Plain a → (turned (timed_out found) plan w s k place).answer ≡ judged (rows false) Answer.Refused a → Says (led false) (rows false)
  by_timeout a p e = record { other = a; plain = p; same = e; firm = (refl, (refl, (refl, tt))) }

  says_heard : (tag : Bool) → Says (led tag) (rows tag)
  says_heard true =
      let goes = by_tag (Answer.Woken w) (goes_on w) in
      decide (ltb n 2) (λ e. let h = ltb-true n 2 e in goes (simp (e, ne_eqb n 2 (omega arith))))
      (λ e. decide (eqb n 2) (λ e'. goes (simp (e, e')))
      (λ e'. decide (ltb n most_commands) (λ e''. goes (simp (e, e', e'')))
      (λ e''. by_tag (Answer.Reference found.level n) (named _ _) (simp (e, e', e'')))))
  says_heard false =
      let goes = by_timeout (Answer.Woken w) (goes_on w) in
      decide (ltb n 2) (λ e. goes (simp e))
      (λ e. decide (ltb n most_commands)
      (λ e'. let m : leb most_commands n ≡ false = lt-leb most_commands n (ltb-true n most_commands e') in
      decide (eqb n 2) (λ e''. goes (simp (e, e', e'', m))) (λ e''. goes (simp (e, e', e'', m))))
      (λ e'. let h = ltb-false n most_commands e' in
      let j : eqb n 2 ≡ false = ne_eqb n 2 (omega arith) in
      let m : leb most_commands n ≡ true = le-leb most_commands n h in
      decide (ltb found.level 4) (λ e''. goes (simp (e, e', e'', j, m)))
      (λ e''. by_timeout (Answer.Reference (found.level - 4) n) (named _ _) (simp (e, e', e'', j, m)))))

-- a piece that is read, in a room that is long enough
abbrev Roomy : Verdict → Type 0
Roomy More = Unit {0}
Roomy (Ended e) = Unit {0}
Roomy NoRoom = ⊥

says_woken : (c : Option Calibration) (w : Wake) (s : Session) (k : ℕ) (place : Place) → Says (woken c w s k place).answer (wake_checks c w)
says_woken None w s k place = no_refusal (Answer.Woken w) (goes_on w)
says_woken (Some c) w s k place = says_heard c.search c.plan w s k place (is_tag w)

says_error : (c : Option Calibration) (code : ℕ) → Says (Answer.Refused (error_by c code)) (error_by c code when true ∷ [])
says_error None code = one_refusal (Refusal.ChipError code) refl
says_error (Some c) code = one_refusal (Refusal.CalibrationError code c.search.commands) refl

says_ended : (e : End) (s : Session) (a : Awaited) (selected k : ℕ) (place : Place) → Says (ended_by e s a selected k place).answer (end_checks e s.calibration)
says_ended Good s a selected k place = no_refusal Answer.Good good
says_ended (Woken w) s a selected k place = says_woken s.calibration w s k place
says_ended (Error code) s a selected k place = says_error s.calibration code
says_ended (Malformed at b) s a selected k place = one_refusal Refusal.Malformed refl

says_taken : (v : Verdict) (r : Fed) (s : Session) (a : Awaited) (selected : ℕ) → Roomy v → Says (outcome_by v r s a selected).answer (reply_checks v s.calibration)
says_taken More r s a selected ok = no_refusal Answer.More (λ k q. let z : ◌≡◌ {A = ℕ} 0 1 = cc in omega arith)
says_taken (Ended e) r s a selected ok = says_ended e s a selected r.used r.place
says_taken NoRoom r s a selected ok = absurd ok

-- what is read is never a room too short
roomy_by : (s : Step) (a : Awaited) (h k : ℕ) (ds room : List ℕ) (start u : ℕ) → Roomy (fed_by s a h k ds room start u).answer.verdict
roomy_by (reading q) a h k ds room start u = tt
roomy_by (Over e) a h k ds room start u = ways (λ (m : Ran Fed). Roomy m.answer.verdict) (has_data e) (λ _. tt) (λ _. tt)

roomy_fed : (a : Awaited) (p : Phase) (xs room : List ℕ) → Roomy (fed_from a p xs room).answer.verdict
roomy_fed a p xs room = roomy_by (reached (form_of a) (reading p) xs) a _ _ _ room _ _

-- ---- what any call says

done : Plain Answer.Done
done k e = let z : ◌≡◌ {A = ℕ} 0 1 = cc in omega arith

sent : (n : ℕ) → Plain (Answer.Sent n)
sent n k e = let z : ◌≡◌ {A = ℕ} 0 1 = cc in omega arith

says_next : (c : Option Calibration) (s : Session) (out : List ℕ) → Says (continues c s out).answer.answer []
says_next None s out = no_refusal Answer.Done done
says_next (Some c) s out = no_refusal (Answer.Sent _) (sent _)

says_piece : (w : Awaits) (s : Session) (x : ℕ) (xs room : List ℕ)
    → Says (takes w s (x ∷ xs) room).answer.answer (piece_checks w s.calibration (x ∷ xs) room)
says_piece none s x xs room = no_refusal Answer.Done done
says_piece (some p selected) s x xs room =
    let m = fed_from p.awaited p.phase (x ∷ xs) room in
    says_taken m.answer.verdict m.answer s p.awaited selected (roomy_fed p.awaited p.phase (x ∷ xs) room)

says_all : (s : Session) (c : Call) → Says (does s c).answer.answer (replies s c)
says_all s (power_on i) = no_refusal Answer.Done done
says_all s pulse = no_refusal Answer.Done done
says_all s (request c out) = no_refusal (Answer.Sent _) (sent _)
says_all s (reset out) = no_refusal (Answer.Sent _) (sent _)
says_all s (poll out) = no_refusal (Answer.Sent _) (sent _)
says_all s (read n out) = no_refusal (Answer.Sent _) (sent _)
says_all s (calibrate plan out) = no_refusal (Answer.Sent _) (sent _)
says_all s (next out) = says_next s.calibration s out
says_all s (feed [] room) = no_refusal Answer.More (λ k e. let z : ◌≡◌ {A = ℕ} 0 1 = cc in omega arith)
says_all s (feed (x ∷ xs) room) = says_piece (awaits s.state) s x xs room

-- ---- the promises

pub exactly : Exactly
exactly s c k =
    let d = says_all s c in
    let told : (step s c).answer.answer ≡ judged (table s c) Answer.Refused d.other =
    through (λ k. refuse s k (lent c)) (does s c) (λ (m : Ran Outcome). m.answer.answer) (checks s c)
    ∙ ap (judged (checks s c) Answer.Refused) d.same ∙ sym (joined Answer.Refused d.other (checks s c) (replies s c)) in
    let f = first_is (table s c) d.other k d.plain in
    (λ e. f.0 (sym told ∙ e), λ w. told ∙ f.1 w)

-- a mild refusal is no reply's
pub untouched : Untouched
untouched s c =
    by_step (λ (m : Ran Outcome). (k : Refusal) → m.answer.answer ≡ Answer.Refused k → mild k ≡ true → m ≡ refuse s k (lent c)) s c
    (λ j _ _ k e _. let same : j ≡ k = cc in ap (λ (x : Refusal). refuse s x (lent c)) same)
    (λ _ k e m. let d = says_all s c in absurd (none_mild (replies s c) d.other k d.plain d.firm (sym d.same ∙ e) m))

pub sends : Sends
sends s c out p = passed (λ k. refuse s k out) (does s (request c out)) (checks s (request c out)) p

-- the three tests, as one
band_by : (r : ℕ) → (leb 0x08 r && leb r 0xF4 && eqb (r % 4) 0) ≡ false → (r < 0x08) ⊎ ((0xF4 < r) ⊎ (r % 4 ≡ 0 → ⊥))
band_by r e =
    decide (leb 0x08 r)
    (λ a. decide (leb r 0xF4) (λ b. inr (inr (eqb-false (r % 4) 0 (simp (a, b) at e)))) (λ b. inr (inl (leb-false r 0xF4 b))))
    (λ a. inl (leb-false 0x08 r a))

pub band_refused : BandRefused
band_refused r = (forth, back)
  where
    forth : band_number (band r) ≡ number 11 → (r < 0x08) ⊎ ((0xF4 < r) ⊎ (r % 4 ≡ 0 → ⊥))
    forth e =
        decide (leb 0x08 r && leb r 0xF4 && eqb (r % 4) 0)
        (λ t. absurd (let z : unnumbered ≡ number 11 = simp t at e in let y : ◌≡◌ {A = ℕ} 0 1 = cc in omega arith)) (band_by r)

    back : (r < 0x08) ⊎ ((0xF4 < r) ⊎ (r % 4 ≡ 0 → ⊥)) → band_number (band r) ≡ number 11
    back (inl h) = simp (lt-leb 0x08 r h)
    back (inr (inl h)) = simp (lt-leb r 0xF4 h, and-false)
    back (inr (inr h)) = simp (ne_eqb (r % 4) 0 h, and-false)
