-- The greatest reply fits the least room and the greatest read, and its data are delivered; no record reaches past the room.
-- Assumes nothing.
use Prim.Native.Nat.{ℕ, suc, ◌+◌, ◌-◌, ◌≤◌}
use native.Mathlib.Omega.{arith}
use mathlib.Core.Path.{◌≡◌, refl, sym, ap, ap₂, ◌∙◌, subst}
use mathlib.Core.Bool.{Bool, true, false}
use mathlib.Core.List.{List, [], ◌∷◌}
use lib.Dec.{ltb, leb→le, eqb}
use lib.ListN.{length, take, drop, length-drop}
use lib.Seq.{paste, length-paste, take-length}
use borrow.Author.Tests.{ltb-false, eqb-false}
use Rattle.model.specs.declared.Kind.TheVariants.{SendRecv}
use Rattle.model.specs.declared.Awaited.{Awaited}
use Rattle.model.specs.declared.Form.{Form}
use Rattle.model.specs.declared.Form.TheVariants.{Counted}
use Rattle.model.specs.declared.Phase.{Phase}
use Rattle.model.specs.declared.End.{End}
use Rattle.model.specs.declared.End.TheVariants.{Good}
use Rattle.model.specs.declared.Step.{Step}
use Rattle.model.specs.declared.Step.TheVariants.{On, Over}
use Rattle.model.specs.declared.Place.TheVariants.{Nowhere, Piece, Room}
use Rattle.model.specs.declared.Fed.{Fed}
use Rattle.words.specs.Words.{pick}
use Rattle.words.specs.Contract.{Ran}
use Rattle.model.specs.Frames.{greatest_read}
use Rattle.model.specs.Replies.{least_room, most_data, form_of, ReplyBy, exactly, counted, waking, single, error, reached, used, meaning, verdict_of, payload_of, reply, has_data, have, ahead, over, with, fed_by}
use Rattle.model.specs.Claims.{Longest, Delivers, Inside, Reaches}
use Rattle.words.proofs.Words.{ways}
use Rattle.model.proofs.Machine.{Bounded, Deep, DeepAt, deep, depth, at_depth, All, used_all, used_most, data_all, few_in_all, Few, few}
use Rattle.model.proofs.Table.{bounded}
use Rattle.model.proofs.Cutting.{cutting}

-- ---- the greatest reply

longest_by : {f : Form} {xs : List ℕ} {e : End} {payload : List ℕ} → Bounded f → ReplyBy f xs e payload → (length payload ≤ least_room) × (length xs ≤ greatest_read)
longest_by m (exactly n d h) = let few = leb→le n most_data m in (omega arith, omega arith)
longest_by m (counted code b d r h few) = (few, omega arith)
longest_by m (waking s e h) = (omega arith, omega arith)
longest_by m single = (omega arith, omega arith)
longest_by m (error f c ne h) = (omega arith, omega arith)

pub longest : Longest
longest a xs e payload r = longest_by (bounded a) r

pub delivers : Delivers
delivers first payload room l big pieces e =
    let a : Awaited = record { kind = SendRecv; first = first } in
    let m = data_all Counted 0 least_room payload (omega arith) (omega arith) (omega arith) in
    cutting a pieces room (omega arith) ∙ ap (reply a) e
    ∙ ap₂ (λ (s : Step) (n : ℕ). meaning (verdict_of s) (payload_of s (take (suc (suc n)) (0xC0 ∷ 0x10 ∷ payload))) (suc (suc n))) m.0 m.1
    ∙ ap (λ (d : List ℕ). meaning (verdict_of (Over Good)) d greatest_read) (ap (λ (n : ℕ). take n payload) (sym l) ∙ take-length payload)

-- ---- no record reaches past the room

module _ (a : Awaited) (p : Phase) (x : ℕ) (xs room : List ℕ) (big : least_room ≤ length room) where
  abbrev f : Form
  f = form_of a

  abbrev piece : List ℕ
  piece = x ∷ xs

  abbrev u : ℕ
  u = used f (On p) piece

  -- the data in the room, and those read, past the bytes before them
  abbrev h : ℕ
  h = have p

  abbrev k : ℕ
  k = u - ahead p

  abbrev Reach : Ran Fed → Type 0
  Reach m = (length m.bytes ≡ length room) × Inside m.answer.place piece m.bytes

  stored : h + k ≤ least_room → length (paste room h (drop (ahead p) piece) k) ≡ length room
  stored l = length-paste room h (drop (ahead p) piece) k (omega arith) (omega (arith, length-drop (ahead p) piece, used_most f (On p) piece))

  reach_on : (q : Phase) → reached f (On p) piece ≡ On q → Reach (fed_by (On q) a h k (drop (ahead p) piece) room (ahead p) u)
  reach_on q e =
      let all : u ≡ length piece = subst (λ (s : Step). All s u (length piece)) e (used_all f (On p) piece) in
      let now : Deep q (depth p + length piece) = subst (λ (s : Step). DeepAt s (depth p + length piece)) e (deep f (On p) (depth p) piece (at_depth p)) in
      let least : have q ≤ most_data = subst Few e (few f p x xs) in
      (stored (omega (arith, (at_depth p).had, (at_depth p).left, now.had)), tt)

  reach_over : (e : End) → reached f (On p) piece ≡ Over e → Reach (fed_by (Over e) a h k (drop (ahead p) piece) room (ahead p) u)
  reach_over e o = go (has_data e) refl (eqb h 0) refl (eqb k 0) refl
    where
      go : (d : Bool) → has_data e ≡ d → (t : Bool) → eqb h 0 ≡ t → (t' : Bool) → eqb k 0 ≡ t'
          → Reach (pick d (with (pick t room (paste room h (drop (ahead p) piece) k)) (over a e (pick t (pick t' Nowhere (Piece (ahead p) k)) (Room (h + k))) u)) (with room (over a e Nowhere u)))
      go true d true t true t' = (refl, tt)
      go true d true t false n = (refl, let z = eqb-false k 0 n in omega (arith, used_most f (On p) piece))
      go true d false t t' n =
          let l : h + k ≤ most_data = few_in_all f p piece e d o (eqb-false h 0 t) in
          let same = stored (omega arith) in
          (same, omega arith)
      go false d t z t' n = (refl, tt)

  reach_by : (s : Step) → reached f (On p) piece ≡ s → Reach (fed_by s a h k (drop (ahead p) piece) room (ahead p) u)
  reach_by (On q) e = reach_on q e
  reach_by (Over o) e = reach_over o e

pub reaches : Reaches
reaches p [] room = (refl, tt)
reaches p (x ∷ xs) room =
    ways (λ (m : Ran Fed). (length m.bytes ≡ length room) × Inside m.answer.place (x ∷ xs) m.bytes) (ltb (length room) least_room) (λ _. (refl, tt))
    (λ g. reach_by p.awaited p.phase x xs room (ltb-false (length room) least_room g) _ refl)
