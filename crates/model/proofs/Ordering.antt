-- Laws of an order of checks: what is given, what is done where no row holds, and how a property of a call is shown.
-- Assumes nothing.
use Rattle.std.specs.Prelude.{Option, Some, None}
use Prim.Native.Nat.{ℕ}
use mathlib.Core.Path.{◌≡◌, refl, sym, ap, ◌∙◌}
use mathlib.Core.Bool.{Bool, true, false, not, true≢false}
use mathlib.Core.Logic.{◌↔◌, ◌⊎◌, inl, inr}
use mathlib.Core.List.{List, [], ◌∷◌, ◌++◌}
use Rattle.model.specs.declared.Refusal.{Refusal}
use Rattle.model.specs.declared.Refusal.TheVariants.{Short, Invalid, Unready, Busy, Malformed, Unawaited, ChipError, LowestTimeout, HighestTag, NoLevel, CalibrationError}
use Rattle.model.specs.declared.Progress.{Progress}
use Rattle.model.specs.declared.Calibration.{Calibration}
use Rattle.model.specs.declared.State.{State}
use Rattle.model.specs.declared.State.TheVariants.{PowerUp, Ready, Selected, Waiting, Lost}
use Rattle.model.specs.declared.Session.{Session}
use Rattle.model.specs.declared.Answer.{Answer}
use Rattle.model.specs.declared.Outcome.{Outcome}
use Rattle.words.specs.Words.{pick}
use Rattle.words.specs.Contract.{Ran}
use Rattle.model.specs.Refusals.{silent, report_of}
use Rattle.model.specs.Checks.{Check, ◌when◌, judged, Passes, First, mild}
use Rattle.model.specs.Session.{refuse, is_waiting, continuing, writing_next, checks, does, lent, Call, power_on, pulse, request, reset, poll, read, calibrate, next, feed, step}
use Rattle.model.specs.History.{nothing, passing_by}
use Rattle.words.proofs.Words.{ways}

-- ---- any rows

-- k is the refusal of the first row that holds, row by row
abbrev pub Gives : Refusal → List Check → Type 0
Gives k [] = ⊥
Gives k (r ∷ rows) = ((r.refusal ≡ k) × (r.holds ≡ true)) ⊎ ((r.holds ≡ false) × Gives k rows)

-- every row's refusal is mild, or none is
abbrev pub Rated : Bool → List Check → Type 0
Rated m [] = Unit {0}
Rated m (r ∷ rows) = (mild r.refusal ≡ m) × Rated m rows

module _ {A : Type 0} (f : Refusal → A) (x : A) where
  -- where no row holds
  pub passed : (rows : List Check) → Passes rows → judged rows f x ≡ x
  passed [] p = refl
  passed (r ∷ rows) (e, p) = ap (λ (b : Bool). pick b (f r.refusal) (judged rows f x)) e ∙ passed rows p

  -- what is made of a judgement is the judgement of what is made
  pub through : {B : Type 0} (g : A → B) (rows : List Check) → g (judged rows f x) ≡ judged rows (λ k. g (f k)) (g x)
  through g [] = refl
  through {B} g (r ∷ rows) = go r.holds (through g rows)
    where
      go : (b : Bool) {z : B} → g (judged rows f x) ≡ z → g (pick b (f r.refusal) (judged rows f x)) ≡ pick b (g (f r.refusal)) z
      go true e = refl
      go false e = e

  -- rows behind rows
  pub joined : (rows more : List Check) → judged (rows ++ more) f x ≡ judged rows f (judged more f x)
  joined [] more = refl
  joined (r ∷ rows) more = ap (pick r.holds (f r.refusal)) (joined rows more)

  -- what holds of the refusal that the rows give, and of what is done where none holds, holds
  pub by_rows : (P : A → Type 0) (rows : List Check) → ((k : Refusal) → Gives k rows → P (f k)) → (Passes rows → P x) → P (judged rows f x)
  by_rows P [] refused done = done tt
  by_rows P (r ∷ rows) refused done =
      ways P r.holds (λ e. refused r.refusal (inl (refl, e))) (λ e. by_rows P rows (λ k g. refused k (inr (e, g))) (λ p. done (e, p)))

given_rated : (m : Bool) (rows : List Check) (k : Refusal) → Rated m rows → Gives k rows → mild k ≡ m
given_rated m [] k ms g = absurd g
given_rated m (r ∷ rows) k (q, ms) (inl (e, _)) = sym (ap mild e) ∙ q
given_rated m (r ∷ rows) k (q, ms) (inr (_, g)) = given_rated m rows k ms g

-- ---- the refusal that is given

abbrev pub Plain : Answer → Type 0
Plain a = (k : Refusal) → a ≡ Answer.Refused k → ⊥

pub first→ : (rows : List Check) (a : Answer) (k : Refusal) → Plain a → judged rows Answer.Refused a ≡ Answer.Refused k → First k rows
first→ [] a k plain e = absurd (plain k e)
first→ (r ∷ rows) a k plain e = go r.refusal r.holds (first→ rows a k plain) e
  where
    go : (j : Refusal) (b : Bool) → (judged rows Answer.Refused a ≡ Answer.Refused k → First k rows) → pick b (Answer.Refused j) (judged rows Answer.Refused a) ≡ Answer.Refused k → First k (j when b ∷ rows)
    go j true rest e = let same : j ≡ k = cc in ([], rows, ap (λ (x : Refusal). x when true ∷ rows) same, tt)
    go j false rest e =
        let (before, after, split, fail) = rest e in
        (j when false ∷ before, after, ap (λ (x : List Check). j when false ∷ x) split, (refl, fail))

first← : (before after : List Check) (a : Answer) (k : Refusal) → Passes before → judged (before ++ k when true ∷ after) Answer.Refused a ≡ Answer.Refused k
first← before after a k p = joined Answer.Refused a before (k when true ∷ after) ∙ passed Answer.Refused (Answer.Refused k) before p

pub first_is : (rows : List Check) (a : Answer) (k : Refusal) → Plain a → (judged rows Answer.Refused a ≡ Answer.Refused k) ↔ First k rows
first_is rows a k plain = (
  first→ rows a k plain,
  λ (before, after, split, fail). ap (λ (z : List Check). judged z Answer.Refused a) split ∙ first← before after a k fail,
)

-- rows of which none is mild give no mild refusal
pub none_mild : (rows : List Check) (a : Answer) (k : Refusal) → Plain a → Rated false rows → judged rows Answer.Refused a ≡ Answer.Refused k → mild k ≡ true → ⊥
none_mild [] a k plain _ e m = plain k e
none_mild (r ∷ rows) a k plain (f, fs) e m = go r.refusal r.holds f (λ e. none_mild rows a k plain fs e m) e
  where
    go : (j : Refusal) (b : Bool) → mild j ≡ false → (judged rows Answer.Refused a ≡ Answer.Refused k → ⊥) → pick b (Answer.Refused j) (judged rows Answer.Refused a) ≡ Answer.Refused k → ⊥
    go j true f rest e = let same : j ≡ k = cc in true≢false (sym m ∙ ap mild (sym same) ∙ f)
    go j false f rest e = rest e

-- a mild refusal says nothing of a calibration
pub mild_silent : (k : Refusal) → mild k ≡ true → report_of k ≡ silent
mild_silent Short m = refl
mild_silent Invalid m = refl
mild_silent Unready m = refl
mild_silent Busy m = refl
mild_silent Malformed m = refl
mild_silent Unawaited m = refl
mild_silent (ChipError code) m = refl
mild_silent (LowestTimeout n) m = absurd (true≢false (sym m))
mild_silent (HighestTag n) m = absurd (true≢false (sym m))
mild_silent (NoLevel n) m = absurd (true≢false (sym m))
mild_silent (CalibrationError code n) m = absurd (true≢false (sym m))

-- ---- any call

-- a piece that passes its checks finds a reply awaited
pub awaited : (P : State → Type 0) (state : State) → not (is_waiting state) ≡ false → ((p : Progress) (selected : ℕ) → P (Waiting p selected)) → P state
awaited P PowerUp w h = absurd (true≢false w)
awaited P Ready w h = absurd (true≢false w)
awaited P (Selected protocol) w h = absurd (true≢false w)
awaited P (Waiting p selected) w h = h p selected
awaited P Lost w h = absurd (true≢false w)

-- what is checked before a call is refused mildly
mild_next : (c : Option Calibration) (s : Session) (out : List ℕ) → Rated true (continuing c s.state ++ writing_next c s out)
mild_next None s out = (refl, tt)
mild_next (Some c) s out = (refl, (refl, (refl, tt)))

rated : (s : Session) (c : Call) → Rated true (checks s c)
rated s (power_on i) = tt
rated s pulse = tt
rated s (request c out) = (refl, (refl, (refl, (refl, (refl, tt)))))
rated s (reset out) = (refl, (refl, tt))
rated s (poll out) = (refl, (refl, tt))
rated s (read n out) = (refl, (refl, tt))
rated s (calibrate plan out) = (refl, (refl, (refl, (refl, (refl, tt)))))
rated s (next out) = mild_next s.calibration s out
rated s (feed [] room) = tt
rated s (feed (x ∷ xs) room) = (refl, (refl, tt))

-- a call that is refused by its checks puts nothing on the cable, or it is a piece
pub data Quiet : Call → Type 0 where
  unheard : (c : Call) → ((k : Refusal) (bs : List ℕ) → passing_by c (Answer.Refused k) 0 bs ≡ nothing) → Quiet c
  ignored : (x : ℕ) (xs room : List ℕ) → Quiet (feed (x ∷ xs) room)

pub quiet : (s : Session) (c : Call) (k : Refusal) → Gives k (checks s c) → Quiet c
quiet s (power_on i) k g = absurd g
quiet s pulse k g = absurd g
quiet s (request c out) k g = unheard (request c out) (λ _ _. refl)
quiet s (reset out) k g = unheard (reset out) (λ _ _. refl)
quiet s (poll out) k g = unheard (poll out) (λ _ _. refl)
quiet s (read n out) k g = unheard (read n out) (λ _ _. refl)
quiet s (calibrate plan out) k g = unheard (calibrate plan out) (λ _ _. refl)
quiet s (next out) k g = unheard (next out) (λ _ _. refl)
quiet s (feed [] room) k g = absurd g
quiet s (feed (x ∷ xs) room) k g = ignored x xs room

-- THE LAW OF A CALL: what holds of a refusal by its checks, which is mild and changes nothing, and of what the call does where none holds,
-- holds of it
pub by_step : (P : Ran Outcome → Type 0) (s : Session) (c : Call) → ((k : Refusal) → mild k ≡ true → Gives k (checks s c) → P (refuse s k (lent c)))
    → (Passes (checks s c) → P (does s c)) → P (step s c)
by_step P s c refused done =
    by_rows (λ k. refuse s k (lent c)) (does s c) P (checks s c) (λ k g. refused k (given_rated true (checks s c) k (rated s c) g) g) done
