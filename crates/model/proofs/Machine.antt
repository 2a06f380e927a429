-- The laws of the machine that reads a reply: how a run over joined bytes goes, that an end stays, how deep a phase is, and how many data it has.
-- Assumes nothing.
use Prim.Native.Nat.{ℕ, suc, ◌+◌, ◌-◌, ◌≤◌, ◌<◌}
use native.Mathlib.Omega.{arith}
use mathlib.Core.Path.{◌≡◌, refl, sym, ap, subst, ◌∙◌}
use mathlib.Core.Bool.{Bool, true, false, ◌&&◌, true≢false}
use mathlib.Core.List.{List, [], ◌∷◌, ◌++◌}
use lib.Dec.{T, ltb, leb, eqb}
use borrow.Author.Tests.{lt-ltb, ltb-true, ltb-false, le-leb, leb-true, ne_eqb, eqb-true, eqb-false}
use lib.ListN.{length, take}
use Rattle.model.specs.declared.Form.{Form}
use Rattle.model.specs.declared.Form.TheVariants.{Exactly, Counted, Awake, Single}
use Rattle.model.specs.declared.Phase.{Phase}
use Rattle.model.specs.declared.Phase.TheVariants.{Begun, Failed, Counting, Waking, Data}
use Rattle.model.specs.declared.End.{End}
use Rattle.model.specs.declared.End.TheVariants.{Good, Malformed}
use Rattle.model.specs.declared.Step.{Step}
use Rattle.model.specs.declared.Step.TheVariants.{On, Over}
use Rattle.model.specs.Replies.{is_error, is_received, data_length, most_data, any_event, is_event, failing, at_first, counting, at_second, at_event, is_to_come, next, moved, reached, used, has_data, have, ahead}
use Rattle.words.proofs.Words.{ways}

-- ---- how deep a phase is: n bytes of the reply were read before it

pub record Deep (p : Phase) (n : ℕ) : Type 0 where
  pub had : have p ≡ n - 2
  pub left : ahead p ≡ 2 - n

abbrev pub DeepAt : Step → ℕ → Type 0
DeepAt (On q) n = Deep q n
DeepAt (Over e) n = Unit {0}

-- so many, whatever bytes they were
abbrev pub depth : Phase → ℕ
depth Begun = 0
depth (Failed code) = 1
depth (Counting code) = 1
depth Waking = 2
depth (Data h c) = h + 2

pub at_depth : (p : Phase) → Deep p (depth p)
at_depth Begun = record { had = refl; left = refl }
at_depth (Failed code) = record { had = refl; left = refl }
at_depth (Counting code) = record { had = refl; left = refl }
at_depth Waking = record { had = refl; left = refl }
at_depth (Data h c) = record { had = omega arith; left = omega arith }

-- ---- data bytes that are to come

-- a form that names no more of them than a reply has
abbrev is_bounded : Form → Bool
is_bounded (Exactly n) = leb n most_data
is_bounded Counted = true
is_bounded (Awake source) = true
is_bounded Single = true

abbrev pub Bounded : Form → Type 0
Bounded f = T (is_bounded f)

pub to_come : (h c : ℕ) → h < c → c ≤ most_data → is_to_come h c ≡ true
to_come h c lt few = simp (lt-ltb h c lt, le-leb c most_data few)

pub come_so : (h c : ℕ) → is_to_come h c ≡ true → (h < c) × (c ≤ most_data)
come_so h c e = go (ltb h c) (leb c most_data) refl refl e
  where
    go : (t t' : Bool) → ltb h c ≡ t → leb c most_data ≡ t' → (t && t') ≡ true → (h < c) × (c ≤ most_data)
    go true true l m e = (ltb-true h c l, leb-true c most_data m)
    go true false l m e = absurd (true≢false (sym e))
    go false t' l m e = absurd (true≢false (sym e))

-- no more stand in the room than a reply has
abbrev pub Few : Step → Type 0
Few (On q) = have q ≤ most_data
Few (Over e) = Unit {0}

few_at : (s : Step) (n : ℕ) → n ≤ 3 → DeepAt s n → Few s
few_at (On q) n l d = omega (arith, d.had)
few_at (Over e) n l d = tt

-- where reading goes on, all
abbrev pub All : Step → ℕ → ℕ → Type 0
All (On q) u n = u ≡ n
All (Over e) u n = Unit {0}

all_suc : (s : Step) (u n : ℕ) → All s u n → All s (suc u) (suc n)
all_suc (On q) u n h = ap suc h
all_suc (Over e) u n h = tt

module _ (f : Form) where
  -- ---- an end stays

  pub stays : (e : End) (xs : List ℕ) → reached f (Over e) xs ≡ Over e
  stays e [] = refl
  stays e (b ∷ bs) = stays e bs

  pub no_more : (e : End) (xs : List ℕ) → used f (Over e) xs ≡ 0
  no_more e [] = refl
  no_more e (b ∷ bs) = no_more e bs

  -- ---- joined bytes

  pub reached_append : (s : Step) (xs ys : List ℕ) → reached f s (xs ++ ys) ≡ reached f (reached f s xs) ys
  reached_append s [] ys = refl
  reached_append s (b ∷ bs) ys = reached_append (moved f s b) bs ys

  pub used_append : (s : Step) (xs ys : List ℕ) → used f s (xs ++ ys) ≡ used f s xs + used f (reached f s xs) ys
  used_append s [] ys = omega arith
  used_append (On p) (b ∷ bs) ys = omega (arith, used_append (next f p b) bs ys)
  used_append (Over e) (b ∷ bs) ys = used_append (Over e) bs ys

  -- ---- how many bytes are read

  pub used_most : (s : Step) (xs : List ℕ) → used f s xs ≤ length xs
  used_most s [] = omega arith
  used_most (On p) (b ∷ bs) = omega (arith, used_most (next f p b) bs)
  used_most (Over e) (b ∷ bs) = omega (arith, used_most (Over e) bs)

  pub used_all : (s : Step) (xs : List ℕ) → All (reached f s xs) (used f s xs) (length xs)
  used_all (On p) [] = refl
  used_all (Over e) [] = tt
  used_all (On p) (b ∷ bs) = all_suc (reached f (next f p b) bs) (used f (next f p b) bs) (length bs) (used_all (next f p b) bs)
  used_all (Over e) (b ∷ bs) = subst (λ (s : Step). All s (used f (Over e) bs) (suc (length bs))) (sym (stays e bs)) tt

  -- what is read leads where all of it does
  pub reached_take : (s : Step) (xs : List ℕ) → reached f s (take (used f s xs) xs) ≡ reached f s xs
  reached_take s [] = refl
  reached_take (On p) (b ∷ bs) = reached_take (next f p b) bs
  reached_take (Over e) (b ∷ bs) = stays e (take (used f (Over e) bs) (b ∷ bs)) ∙ sym (stays e bs)

  -- ---- data bytes: fewer than are to come, and all of them

  pub data_some : (h c : ℕ) (xs : List ℕ) → c ≤ most_data → length xs < c - h → reached f (On (Data h c)) xs ≡ On (Data (h + length xs) c)
  data_some h c [] few l = ap (λ (n : ℕ). On (Data n c)) {x = h} {y = h + 0} (omega arith)
  data_some h c (x ∷ xs) few l =
      simp (to_come h c (omega arith) few, ne_eqb (h + 1) c (omega arith))
      (data_some (h + 1) c xs few (omega arith) ∙ ap (λ (n : ℕ). On (Data n c)) {x = h + 1 + length xs} {y = h + suc (length xs)} (omega arith))

  pub data_all : (h c : ℕ) (xs : List ℕ) → h < c → c ≤ most_data → c - h ≤ length xs
      → (reached f (On (Data h c)) xs ≡ Over Good) × (used f (On (Data h c)) xs ≡ c - h)
  data_all h c [] lt few l = absurd (omega arith)
  data_all h c (x ∷ xs) lt few l =
      let P : Step → Type 0 = λ s. (reached f s xs ≡ Over Good) × (suc (used f s xs) ≡ c - h) in
      ways P (is_to_come h c)
      (λ _. ways P (eqb (h + 1) c) (λ t. (stays Good xs, omega (arith, eqb-true (h + 1) c t, no_more Good xs)))
      (λ f. let ne = eqb-false (h + 1) c f in let m = data_all (h + 1) c xs (omega arith) few (omega arith) in (m.0, omega (arith, m.1))))
      (λ f. absurd (true≢false (sym (to_come h c lt few) ∙ f)))

  -- a reply with data that ends behind some of them: the last came, or all
  pub last : (h c : ℕ) (xs : List ℕ) (e : End) → has_data e ≡ true → reached f (On (Data h c)) xs ≡ Over e
      → (h < c) × (c ≤ most_data) × (used f (On (Data h c)) xs ≡ c - h)
  last h c [] e d o = absurd (let z : ◌≡◌ {A = ℕ} 0 1 = cc in omega arith)
  last h c (x ∷ xs) e d o = by (is_to_come h c) refl
    where
      -- fewer than are to come
      few : (t : Bool) → ltb (length (x ∷ xs)) (c - h) ≡ t → h < c → c ≤ most_data → (h < c) × (c ≤ most_data) × (used f (On (Data h c)) (x ∷ xs) ≡ c - h)
      few true l lt m = absurd (let s = data_some h c (x ∷ xs) m (ltb-true (length (x ∷ xs)) (c - h) l) in let z : ◌≡◌ {A = ℕ} 0 1 = cc in omega arith)
      few false l lt m = (lt, m, (data_all h c (x ∷ xs) lt m (ltb-false (length (x ∷ xs)) (c - h) l)).1)

      by : (t : Bool) → is_to_come h c ≡ t → (h < c) × (c ≤ most_data) × (used f (On (Data h c)) (x ∷ xs) ≡ c - h)
      by true l = let m = come_so h c l in few (ltb (length (x ∷ xs)) (c - h)) refl m.0 m.1
      by false l =
          absurd (let s : reached f (On (Data h c)) (x ∷ xs) ≡ Over (Malformed (h + 2) x) = simp l (stays (Malformed (h + 2) x) xs) in
          let w : Malformed (h + 2) x ≡ e = cc in
          let v : false ≡ true = ap has_data w ∙ d in let z : ◌≡◌ {A = ℕ} 0 1 = cc in omega arith)

  -- of data that stand in the room and those that follow there are no more than a reply has
  pub few_in_all : (p : Phase) (xs : List ℕ) (e : End) → has_data e ≡ true → reached f (On p) xs ≡ Over e → (have p ≡ 0 → ⊥)
      → have p + (used f (On p) xs - ahead p) ≤ most_data
  few_in_all Begun xs e d o n = absurd (n refl)
  few_in_all (Failed code) xs e d o n = absurd (n refl)
  few_in_all (Counting code) xs e d o n = absurd (n refl)
  few_in_all Waking xs e d o n = absurd (n refl)
  few_in_all (Data h c) xs e d o n = let m = last h c xs e d o in omega (arith, m.0, m.1, m.2)

  -- ---- a byte makes a phase one deeper

  one_more : (q : Phase) (n : ℕ) → have q ≡ 0 → ahead q ≡ 1 → ahead Begun ≡ 2 - n → Deep q (suc n)
  one_more q n h a d = record { had = omega (arith, h); left = omega (arith, a) }

  deepen_failing : (n b : ℕ) → ahead Begun ≡ 2 - n → DeepAt (failing b) (suc n)
  deepen_failing n b d = ways (λ (t : Step). DeepAt t (suc n)) (is_error b) (λ _. one_more (Failed b) n refl refl d) (λ _. tt)

  deepen_first : (f : Form) (n b : ℕ) → ahead Begun ≡ 2 - n → DeepAt (at_first f b) (suc n)
  deepen_first (Exactly c) n b d = ways (λ (t : Step). DeepAt t (suc n)) (eqb b 0x00) (λ _. one_more (Counting b) n refl refl d) (λ _. deepen_failing n b d)
  deepen_first Counted n b d = ways (λ (t : Step). DeepAt t (suc n)) (is_received b) (λ _. one_more (Counting b) n refl refl d) (λ _. deepen_failing n b d)
  deepen_first (Awake source) n b d =
      ways (λ (t : Step). DeepAt t (suc n)) (eqb b 0x00 && any_event source) (λ _. one_more (Counting b) n refl refl d) (λ _. deepen_failing n b d)
  deepen_first Single n b d = ways (λ (t : Step). DeepAt t (suc n)) (eqb b 0x55) (λ _. tt) (λ _. tt)

  deepen_counting : (n m : ℕ) → 1 ≡ 2 - n → DeepAt (counting m) (suc n)
  deepen_counting n m d = ways (λ (t : Step). DeepAt t (suc n)) (eqb m 0) (λ _. tt) (λ _. record { had = omega arith; left = omega arith })

  deepen_second : (f : Form) (n code b : ℕ) → ahead (Counting code) ≡ 2 - n → DeepAt (at_second f code b) (suc n)
  deepen_second (Exactly c) n code b d = ways (λ (t : Step). DeepAt t (suc n)) (eqb b c) (λ _. deepen_counting n b d) (λ _. tt)
  deepen_second Counted n code b d =
      ways (λ (t : Step). DeepAt t (suc n)) (leb (data_length code b) most_data) (λ _. deepen_counting n (data_length code b) d) (λ _. tt)
  deepen_second (Awake source) n code b d =
      ways (λ (t : Step). DeepAt t (suc n)) (eqb b 0x01) (λ _. record { had = omega arith; left = omega arith }) (λ _. tt)
  deepen_second Single n code b d = tt

  deepen_event : (f : Form) (n b : ℕ) → DeepAt (at_event f b) (suc n)
  deepen_event (Exactly c) n b = tt
  deepen_event Counted n b = tt
  deepen_event (Awake source) n b = ways (λ (t : Step). DeepAt t (suc n)) (is_event source b) (λ _. tt) (λ _. tt)
  deepen_event Single n b = tt

  deepen : (p : Phase) (n b : ℕ) → Deep p n → DeepAt (next f p b) (suc n)
  deepen Begun n b d = deepen_first f n b d.left
  deepen (Failed code) n b d = ways (λ (t : Step). DeepAt t (suc n)) (eqb b 0x00) (λ _. tt) (λ _. tt)
  deepen (Counting code) n b d = deepen_second f n code b d.left
  deepen Waking n b d = deepen_event f n b
  deepen (Data m c) n b d =
      ways (λ (t : Step). DeepAt t (suc n)) (is_to_come m c)
      (λ _. ways (λ (t : Step). DeepAt t (suc n)) (eqb (m + 1) c) (λ _. tt) (λ _. record { had = omega (arith, d.had, d.left); left = omega (arith, d.left) }))
      (λ _. tt)

  -- a run over xs, with n bytes before them
  pub deep : (s : Step) (n : ℕ) (xs : List ℕ) → DeepAt s n → DeepAt (reached f s xs) (n + length xs)
  deep s n [] d = subst (DeepAt s) (omega arith) d
  deep (On p) n (b ∷ bs) d = subst (DeepAt (reached f (next f p b) bs)) (omega arith) (deep (next f p b) (suc n) bs (deepen p n b d))
  deep (Over e) n (b ∷ bs) d = subst (λ (s : Step). DeepAt s (n + suc (length bs))) (sym (stays e bs)) tt

  -- ---- a byte leaves no more data in the room than a reply has

  few_next : (p : Phase) (b : ℕ) → Few (next f p b)
  few_next Begun b = few_at (next f Begun b) 1 (omega arith) (deepen Begun 0 b (at_depth Begun))
  few_next (Failed code) b = few_at (next f (Failed code) b) 2 (omega arith) (deepen (Failed code) 1 b (at_depth (Failed code)))
  few_next (Counting code) b = few_at (next f (Counting code) b) 2 (omega arith) (deepen (Counting code) 1 b (at_depth (Counting code)))
  few_next Waking b = few_at (next f Waking b) 3 (omega arith) (deepen Waking 2 b (at_depth Waking))
  few_next (Data h c) b =
      ways Few (is_to_come h c) (λ t. let m = come_so h c t in ways Few (eqb (h + 1) c) (λ _. tt) (λ _. omega (arith, m.0, m.1))) (λ _. tt)

  few_on : (s : Step) (xs : List ℕ) → Few s → Few (reached f s xs)
  few_on s [] m = m
  few_on (On p) (b ∷ bs) m = few_on (next f p b) bs (few_next p b)
  few_on (Over e) (b ∷ bs) m = few_on (Over e) bs m

  -- nor do some bytes, from any phase
  pub few : (p : Phase) (b : ℕ) (bs : List ℕ) → Few (reached f (On p) (b ∷ bs))
  few p b bs = few_on (next f p b) bs (few_next p b)
