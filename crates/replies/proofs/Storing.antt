-- What the data of a walked piece do to the room, by how many are to stand in it.
-- Assumes nothing.
use Prim.Native.Nat.{ℕ, ◌+◌, ◌-◌, ◌≤◌, ◌<◌}
use native.Mathlib.Omega.{arith}
use mathlib.Core.Path.{◌≡◌, refl, sym, ap, ap₂, ◌∙◌, subst}
use mathlib.Core.Bool.{Bool, true, false}
use mathlib.Core.List.{List, [], ◌∷◌, ◌++◌}
use lib.Dec.{eqb}
use lib.ListN.{length, take, drop}
use lib.Seq.{paste, paste-zero, length-take-le, take-length}
use Rattle.model.specs.declared.Awaited.{Awaited}
use Rattle.model.specs.declared.Form.{Form}
use Rattle.model.specs.declared.Phase.{Phase}
use Rattle.model.specs.declared.Phase.TheVariants.{Begun, Failed, Counting, Waking, Data}
use Rattle.model.specs.declared.End.{End}
use Rattle.model.specs.declared.End.TheVariants.{Good, Woken, Error, Malformed}
use Rattle.model.specs.declared.Step.{Step}
use Rattle.model.specs.declared.Step.TheVariants.{On, Over}
use Rattle.words.specs.Words.{pick, pasted}
use Rattle.model.specs.Replies.{most_data, has_data, reached, used, have, ahead, fed_by}
use Rattle.model.proofs.Machine.{Deep, DeepAt, deep, depth, at_depth, All, used_all, last, Few, few}
use Rattle.buffers.proofs.Pasting.{fits}
use Rattle.replies.specs.Reading.{whole, kept}

-- ---- what is written

-- of s, where reading stands or how it ended, and u, the bytes read: nothing is written, or as many data as make up those to be kept
abbrev pub Writes : List ℕ → Phase → List ℕ → Step → ℕ → Type 0
Writes room p xs s u =
    (kept s p ≤ have p → (a : Awaited) → room ≡ (fed_by s a (have p) (u - ahead p) (drop (ahead p) xs) room (ahead p) u).bytes)
    × (have p < kept s p
    → (have p + (u - ahead p) ≡ kept s p) × (kept s p ≤ most_data)
    × ((a : Awaited) → paste room (have p) (drop (ahead p) xs) (u - ahead p) ≡ (fed_by s a (have p) (u - ahead p) (drop (ahead p) xs) room (ahead p) u).bytes))

module _ (f : Form) (room : List ℕ) where
  -- as many as a reply has: some bytes were read
  few_kept : (p q : Phase) (xs : List ℕ) → reached f (On p) xs ≡ On q → have p < have q → have q ≤ most_data
  few_kept p q [] e lt = absurd (let same : p ≡ q = cc in omega (arith, ap have same))
  few_kept p q (x ∷ xs) e lt = subst Few e (few f p x xs)

  writes_on : (p q : Phase) (xs : List ℕ) (u : ℕ) → reached f (On p) xs ≡ On q → used f (On p) xs ≡ u → Writes room p xs (On q) u
  writes_on p q xs u e n =
      let d = at_depth p in
      let all : u ≡ length xs = sym n ∙ subst (λ (s : Step). All s (used f (On p) xs) (length xs)) e (used_all f (On p) xs) in
      let now : Deep q (depth p + length xs) = subst (λ (s : Step). DeepAt s (depth p + length xs)) e (deep f (On p) (depth p) xs d) in
      let k : have q ≡ have p + (u - ahead p) = omega (arith, d.had, d.left, now.had) in
      (λ le a. paste-zero room (have p) (drop (ahead p) xs) ∙ ap (paste room (have p) (drop (ahead p) xs)) {x = 0} {y = u - ahead p} (omega arith), λ lt. (sym k, few_kept p q xs e lt, λ a. refl))

  -- a reply with data is over
  abbrev Writes-data : Phase → List ℕ → ℕ → Type 0
  Writes-data p xs u =
      (whole p ≤ have p → room ≡ pick (eqb (have p) 0) room (paste room (have p) (drop (ahead p) xs) (u - ahead p)))
      × (have p < whole p
      → (have p + (u - ahead p) ≡ whole p) × (whole p ≤ most_data)
      × (paste room (have p) (drop (ahead p) xs) (u - ahead p) ≡ pick (eqb (have p) 0) room (paste room (have p) (drop (ahead p) xs) (u - ahead p))))

  writes_data : (p : Phase) (xs : List ℕ) (u : ℕ) (e : End) → has_data e ≡ true → reached f (On p) xs ≡ Over e → used f (On p) xs ≡ u → Writes-data p xs u
  writes_data Begun xs u e d o n = (λ le. refl, λ lt. absurd (omega arith))
  writes_data (Failed code) xs u e d o n = (λ le. refl, λ lt. absurd (omega arith))
  writes_data (Counting code) xs u e d o n = (λ le. refl, λ lt. absurd (omega arith))
  writes_data Waking xs u e d o n = (λ le. refl, λ lt. absurd (omega arith))
  writes_data (Data h c) xs u e d o n = by (eqb h 0) refl
    where
      by : (t : Bool) → eqb h 0 ≡ t → Writes-data (Data h c) xs u
      by true z = simp z (λ le. refl, λ lt. absurd (omega arith))
      by false z = let m = last f h c xs e d o in simp z (λ le. absurd (omega (arith, m.0)), λ lt. (omega (arith, m.2), m.1, refl))

  pub writes : (p : Phase) (xs : List ℕ) (s : Step) (u : ℕ) → reached f (On p) xs ≡ s → used f (On p) xs ≡ u → Writes room p xs s u
  writes p xs (On q) u o n = writes_on p q xs u o n
  writes p xs (Over Good) u o n = let m = writes_data p xs u Good refl o n in (λ le a. m.0 le, λ lt. ((m.1 lt).0, (m.1 lt).1, λ a. (m.1 lt).2))
  writes p xs (Over (Woken w)) u o n = let m = writes_data p xs u (Woken w) refl o n in (λ le a. m.0 le, λ lt. ((m.1 lt).0, (m.1 lt).1, λ a. (m.1 lt).2))
  writes p xs (Over (Error code)) u o n = (λ le a. refl, λ lt. absurd (omega arith))
  writes p xs (Over (Malformed place b)) u o n = (λ le a. refl, λ lt. absurd (omega arith))

-- a copy of the first n
pub copied : (room xs : List ℕ) (h n : ℕ) → h + n ≤ length room → n ≤ length xs → pasted room (take n xs) h ≡ paste room h xs n
copied room xs h n most l =
    let front = take n xs in
    let e : length front ≡ n = length-take-le n xs l in
    fits room front h (omega arith) ∙ ap₂ (λ (ys : List ℕ) (k : ℕ). take h room ++ ys ++ drop (h + k) room) (take-length front) e
