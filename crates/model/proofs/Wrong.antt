-- Which byte of a malformed reply is wrong: the places at which a reply breaks off, the number of each.
-- Assumes nothing.
use Prim.Native.Nat.{ℕ, ◌+◌, ◌≤◌}
use native.Mathlib.Omega.{arith}
use mathlib.Core.Path.{◌≡◌, refl, sym, ap, ◌∙◌, subst}
use mathlib.Core.Bool.{Bool, true, false, not, ◌&&◌, ◌||◌, true≢false}
use mathlib.Core.Logic.{⊎_elim}
use mathlib.Core.List.{List, [], ◌∷◌}
use lib.Dec.{leb→le, leb, eqb}
use borrow.Author.Tests.{eqb-true, eqb-false, leb-true}
use Rattle.model.specs.declared.Flaw.{Flaw}
use Rattle.model.specs.declared.Flaw.TheVariants.{FirstByte, SecondByte, NoEvent, NotEnabled}
use Rattle.model.specs.declared.Awaited.{Awaited}
use Rattle.model.specs.declared.Form.{Form}
use Rattle.model.specs.declared.Form.TheVariants.{Exactly, Counted, Awake, Single}
use Rattle.model.specs.declared.Phase.{Phase}
use Rattle.model.specs.declared.Phase.TheVariants.{Begun, Failed, Counting, Waking, Data}
use Rattle.model.specs.declared.End.TheVariants.{Good, Woken, Error, Malformed}
use Rattle.model.specs.declared.Step.{Step}
use Rattle.model.specs.declared.Step.TheVariants.{On, Over}
use Rattle.model.specs.declared.Verdict.{Verdict}
use Rattle.model.specs.declared.Verdict.TheVariants.{Ended}
use Rattle.words.specs.Words.{bit, concat}
use Rattle.model.specs.Refusals.{flaw_number}
use Rattle.model.specs.Checks.{is_mild}
use Rattle.model.specs.Replies.{form_of, is_error, is_received, data_length, most_data, is_event, any_event, failing, at_first, counting, at_second, at_event, is_to_come, next, reached, is_known_event, flaw_at, Meaning, verdict_of, reply}
use Rattle.model.specs.Claims.{BitOf, timeout, tag, irq_in, spi_ss, Wrong, first, second, unknown, disabled, Breaks, MeansBy, Located}
use Rattle.words.proofs.Words.{ways}
use Rattle.model.proofs.Frames.{OfIdle, of_idle}
use Rattle.model.proofs.Machine.{Bounded, to_come, come_so}
use Rattle.model.proofs.Table.{or_cases, bounded, tabled}
use Rattle.model.proofs.Cutting.{cutting}

pub zero_one : ◌≡◌ {A = ℕ} 0 1 → ⊥
zero_one z = omega arith

-- ---- the numbers 51 to 54

-- none of them leaves all as it was
pub flaw_harsh : (f : Flaw) → is_mild (flaw_number f) ≡ false
flaw_harsh FirstByte = refl
flaw_harsh SecondByte = refl
flaw_harsh NoEvent = refl
flaw_harsh NotEnabled = refl

-- ---- an event that no reply has

known_so : (e : ℕ) → is_known_event e ≡ true → (k : ℕ) × BitOf e k
known_so e h =
    let Found : Type 0 = (k : ℕ) × BitOf e k in
    let at : (n k : ℕ) → BitOf n k → eqb e n ≡ true → Found = λ n k d t. (k, subst (λ (z : ℕ). BitOf z k) (sym (eqb-true e n t)) d) in
    ⊎_elim
    (λ x. ⊎_elim
    (λ y. ⊎_elim (at 0x01 0 timeout) (at 0x02 1 tag) (or_cases (eqb e 0x01) (eqb e 0x02) y))
    (at 0x08 3 irq_in) (or_cases (eqb e 0x01 || eqb e 0x02) (eqb e 0x08) x))
    (at 0x10 4 spi_ss) (or_cases (eqb e 0x01 || eqb e 0x02 || eqb e 0x08) (eqb e 0x10) h)

so_known : {e k : ℕ} → BitOf e k → is_known_event e ≡ true
so_known timeout = refl
so_known tag = refl
so_known irq_in = refl
so_known spi_ss = refl

-- one of the four comes exactly where its bit is set
its_bit : {e k : ℕ} → BitOf e k → (source : ℕ) → is_event source e ≡ false → bit k source ≡ false
its_bit timeout source h = go (bit 0 source) h
  where
    go : (b : Bool) → (b || false || false || false) ≡ false → b ≡ false
    go true h = h
    go false h = refl
its_bit tag source h = go (bit 1 source) h
  where
    go : (b : Bool) → (b || false || false) ≡ false → b ≡ false
    go true h = h
    go false h = refl
its_bit irq_in source h = go (bit 3 source) h
  where
    go : (b : Bool) → (b || false) ≡ false → b ≡ false
    go true h = h
    go false h = refl
its_bit spi_ss source h = h

-- ---- where a reply breaks off

-- the same by the form of the reply
pub data WrongBy : Form → ℕ → ℕ → ℕ → Type 0 where
  at_first_lem : (f : Form) (b : ℕ) → WrongBy f 51 0 b
  at_second_lem : (f : Form) (b : ℕ) → WrongBy f 52 1 b
  no_event : (source b : ℕ) → ((k : ℕ) → BitOf b k → ⊥) → WrongBy (Awake source) 53 2 b
  not_enabled : (source b k : ℕ) → BitOf b k → bit k source ≡ false → WrongBy (Awake source) 54 2 b

event_wrong : (source e : ℕ) → is_event source e ≡ false → WrongBy (Awake source) (flaw_number (flaw_at (Awake source) 2 e)) 2 e
event_wrong source e h =
    ways (λ (f : Flaw). WrongBy (Awake source) (flaw_number f) 2 e) (is_known_event e && not (is_event source e))
    (λ t. let (k, d) = known_so e (go (is_known_event e) t) in not_enabled source e k d (its_bit d source h))
    (λ t. no_event source e (λ k d. true≢false (sym (ap (λ (b : Bool). b && not (is_event source e)) (so_known d) ∙ ap not h) ∙ t)))
  where
    go : (b : Bool) → (b && not (is_event source e)) ≡ true → b ≡ true
    go true t = refl
    go false t = absurd (true≢false (sym t))

-- the phases that bytes lead to from the start: data are to come, and an event only of an Idle
abbrev Live : Form → Phase → Type 0
Live f Begun = Unit {0}
Live f (Failed code) = Unit {0}
Live f (Counting code) = Unit {0}
Live f Waking = (source : ℕ) × (f ≡ Awake source)
Live f (Data h c) = is_to_come h c ≡ true

abbrev Told : Form → Step → Type 0
Told f (On p) = Live f p
Told f (Over Good) = Unit {0}
Told f (Over (Woken w)) = Unit {0}
Told f (Over (Error code)) = Unit {0}
Told f (Over (Malformed place b)) = WrongBy f (flaw_number (flaw_at f place b)) place b

told_failing : (f : Form) (b : ℕ) → Told f (failing b)
told_failing f b = ways (Told f) (is_error b) (λ _. tt) (λ _. at_first_lem f b)

told_first : (f : Form) (b : ℕ) → Told f (at_first f b)
told_first (Exactly n) b = ways (Told (Exactly n)) (eqb b 0x00) (λ _. tt) (λ _. told_failing (Exactly n) b)
told_first Counted b = ways (Told Counted) (is_received b) (λ _. tt) (λ _. told_failing Counted b)
told_first (Awake source) b = ways (Told (Awake source)) (eqb b 0x00 && any_event source) (λ _. tt) (λ _. told_failing (Awake source) b)
told_first Single b = ways (Told Single) (eqb b 0x55) (λ _. tt) (λ _. at_first_lem Single b)

told_counting : (f : Form) (n : ℕ) → n ≤ most_data → Told f (counting n)
told_counting f n few = ways (Told f) (eqb n 0) (λ _. tt) (λ t. let some = eqb-false n 0 t in to_come 0 n (omega arith) few)

told_second : (f : Form) → Bounded f → (code b : ℕ) → Told f (at_second f code b)
told_second (Exactly n) m code b =
    ways (Told (Exactly n)) (eqb b n) (λ t. told_counting (Exactly n) b (omega (arith, eqb-true b n t, leb→le n most_data m))) (λ _. at_second_lem (Exactly n) b)
told_second Counted m code b =
    let n = data_length code b in
    ways (Told Counted) (leb n most_data) (λ t. told_counting Counted n (leb-true n most_data t)) (λ _. at_second_lem Counted b)
told_second (Awake source) m code b = ways (Told (Awake source)) (eqb b 0x01) (λ _. (source, refl)) (λ _. at_second_lem (Awake source) b)
told_second Single m code b = at_second_lem Single b

told_event : (source e : ℕ) → Told (Awake source) (at_event (Awake source) e)
told_event source e = ways (Told (Awake source)) (is_event source e) (λ _. tt) (event_wrong source e)

told_data : (f : Form) (h c b : ℕ) → is_to_come h c ≡ true → Told f (next f (Data h c) b)
told_data f h c b come =
    ways (Told f) (is_to_come h c)
    (λ _. ways (Told f) (eqb (h + 1) c) (λ _. tt)
    (λ t. let (few, most) = come_so h c come in let more = eqb-false (h + 1) c t in to_come (h + 1) c (omega arith) most))
    (λ t. absurd (true≢false (sym come ∙ t)))

told_next : (f : Form) → Bounded f → (p : Phase) (b : ℕ) → Live f p → Told f (next f p b)
told_next f m Begun b l = told_first f b
told_next f m (Failed code) b l = ways (Told f) (eqb b 0x00) (λ _. tt) (λ _. at_second_lem f b)
told_next f m (Counting code) b l = told_second f m code b
told_next f m Waking b (source, e) = subst (λ (g : Form). Told g (next g Waking b)) (sym e) (told_event source b)
told_next f m (Data h c) b l = told_data f h c b l

told : (f : Form) → Bounded f → (s : Step) (xs : List ℕ) → Told f s → Told f (reached f s xs)
told f m s [] t = t
told f m (On p) (b ∷ bs) t = told f m (next f p b) bs (told_next f m p b t)
told f m (Over e) (b ∷ bs) t = told f m (Over e) bs t

-- the same of the command
wrong_of : {f : Form} {n place b : ℕ} → WrongBy f n place b → (a : Awaited) → OfIdle f a → Wrong a n place b
wrong_of (at_first_lem f b) a own = first a b
wrong_of (at_second_lem f b) a own = second a b
wrong_of (no_event source b none) a own = subst (λ (z : Awaited). Wrong z 53 2 b) (sym own) (unknown source b none)
wrong_of (not_enabled source b k its clear) a own = subst (λ (z : Awaited). Wrong z 54 2 b) (sym own) (disabled source b k its clear)

pub numbered : (a : Awaited) (xs : List ℕ) (place b : ℕ) → reached (form_of a) (On Begun) xs ≡ Over (Malformed place b) → Wrong a (flaw_number (flaw_at (form_of a) place b)) place b
numbered a xs place b e = wrong_of (subst (Told (form_of a)) e (told (form_of a) (bounded a) (On Begun) xs tt)) a (of_idle a)

-- by what the table says of the bytes
pub numbered_by : (a : Awaited) (xs : List ℕ) (place b : ℕ) → (reply a xs).verdict ≡ Ended (Malformed place b)
    → Breaks a xs place b (reply a xs).used × Wrong a (flaw_number (flaw_at (form_of a) place b)) place b
numbered_by a xs place b e = (
  subst (λ (v : Verdict). MeansBy v a xs (reply a xs).payload (reply a xs).used) e (tabled a xs),
  go (reached (form_of a) (On Begun) xs) refl e,
)
  where
    go : (s : Step) → reached (form_of a) (On Begun) xs ≡ s → verdict_of s ≡ Ended (Malformed place b) → Wrong a (flaw_number (flaw_at (form_of a) place b)) place b
    go (On p) l q = absurd (zero_one cc)
    go (Over x) l q = let same : x ≡ Malformed place b = cc in numbered a xs place b (l ∙ ap Over same)

pub located : Located
located a pieces room big place b e =
    let same = cutting a pieces room big in
    subst (λ (m : Meaning). Breaks a (concat pieces) place b m.used × Wrong a (flaw_number (flaw_at (form_of a) place b)) place b) (sym same)
    (numbered_by a (concat pieces) place b (sym (ap (λ (m : Meaning). m.verdict) same) ∙ e))
