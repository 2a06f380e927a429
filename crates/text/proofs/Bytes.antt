-- Bytes written where each finds room, and as many of them as find it.
-- Assumes nothing.
use Prim.Native.Nat.{ℕ, zero, suc, ◌+◌, ◌-◌, ◌*◌, ◌/◌, ◌≤◌, ◌<◌, min}
use native.Mathlib.Omega.{arith}
use mathlib.Core.Path.{◌≡◌, refl, sym, ap, ◌∙◌, subst⁻¹}
use mathlib.Core.Bool.{Bool, true, false}
use mathlib.Core.Logic.{◌⊎◌, inl, inr}
use mathlib.Core.List.{List, [], ◌∷◌}
use lib.Dec.{leb}
use lib.ListN.{length, take, drop}
use lib.Seq.{paste, length-paste}
use borrow.Author.Tests.{le-leb, lt-leb, leb-true, leb-false}
use Rattle.std.proofs.lemmas.List.{drop_all}
use Rattle.words.specs.Contract.{Ran, Is}
use Rattle.text.specs.Writing.{placed, written, hex, hexes, Puts}

-- a byte that finds room, and one that finds none
fits : (text : List ℕ) (at x : ℕ) → at + 3 ≤ length text → placed text at (hex x) ≡ record { answer = at + 3; bytes = paste text at (hex x) 3 }
fits text at x h = simp (le-leb (at + 3) (length text) h)

stays : (text : List ℕ) (at x : ℕ) → length text < at + 3 → placed text at (hex x) ≡ record { answer = at; bytes = text }
stays text at x h = simp (lt-leb (at + 3) (length text) h)

none : (xs text : List ℕ) (at : ℕ) → length text < at + 3 → written text at (hexes xs) ≡ record { answer = at; bytes = text }
none [] text at h = refl
none (x ∷ xs) text at h = ap (λ (w : Ran ℕ). written w.bytes w.answer (hexes xs)) (stays text at x h) ∙ none xs text at h

-- those that find room are all that are written: the others are none, or find none
abbrev Rest : List ℕ → List ℕ → ℕ → ℕ → Type 0
Rest xs text at n = (length xs ≤ n) ⊎ (length text < at + 3 * n + 3)

behind : (x : ℕ) (xs text : List ℕ) (at n : ℕ) → at + 3 ≤ length text → Rest (x ∷ xs) text at (suc n) → Rest xs (paste text at (hex x) 3) (at + 3) n
behind x xs text at n room (inl h) = inl (omega arith)
behind x xs text at n room (inr h) = inr (omega (arith, h, length-paste text at (hex x) 3 room (omega arith)))

beside : (x : ℕ) (xs text : List ℕ) (at n : ℕ) → length text < at + 3 → Rest xs text at n
beside x xs text at n room = inr (omega arith)

more : (x : ℕ) (xs text : List ℕ) (at n : ℕ) (w : Ran ℕ) → placed text at (hex x) ≡ w
    → written w.bytes w.answer (hexes (take n xs)) ≡ written w.bytes w.answer (hexes xs)
    → written text at (hexes (x ∷ take n xs)) ≡ written text at (hexes (x ∷ xs))
more x xs text at n w e others =
    ap (λ (v : Ran ℕ). written v.bytes v.answer (hexes (take n xs))) e ∙ others ∙ sym (ap (λ (v : Ran ℕ). written v.bytes v.answer (hexes xs)) e)

all : (xs text : List ℕ) (at n : ℕ) → Rest xs text at n → written text at (hexes (take n xs)) ≡ written text at (hexes xs)
all [] text at zero h = refl
all [] text at (suc n) h = refl
all (x ∷ xs) text at zero (inl h) = absurd (omega arith)
all (x ∷ xs) text at zero (inr h) = sym (none (x ∷ xs) text at (omega arith))
all (x ∷ xs) text at (suc n) h = go (leb (at + 3) (length text)) refl (λ (t : List ℕ) (k : ℕ) (r : Rest xs t k n). all xs t k n r)
  where
    go : (b : Bool) → leb (at + 3) (length text) ≡ b
        → ((t : List ℕ) (k : ℕ) → Rest xs t k n → written t k (hexes (take n xs)) ≡ written t k (hexes xs))
        → written text at (hexes (x ∷ take n xs)) ≡ written text at (hexes (x ∷ xs))
    go true t others =
        let room = leb-true (at + 3) (length text) t in
        more x xs text at n (record { answer = at + 3; bytes = paste text at (hex x) 3 }) (fits text at x room)
        (others (paste text at (hex x) 3) (at + 3) (behind x xs text at n room h))
    go false t others =
        let room = leb-false (at + 3) (length text) t in
        more x xs text at n (record { answer = at; bytes = text }) (stays text at x room) (others text at (beside x xs text at n room))

-- what stands in the text once as many are written as find room
pub written_all : (xs text : List ℕ) (at : ℕ) {n room i r : ℕ} {exit : List ℕ} → n ≡ min (length xs) (room / 3) → room ≡ length text - at
    → length (take n xs) ≤ i → written exit r (hexes (drop i (take n xs))) ≡ written text at (hexes (take n xs)) → Puts text at (hexes xs) r exit
written_all xs text at {n} {room} {i} {r} {exit} many left ended so_far =
    let rest : Rest xs text at n = leb_rest in
    record {
      is = subst⁻¹ (λ (w : Ran ℕ). Is w r exit)
          (sym (all xs text at n rest) ∙ sym so_far ∙ ap (λ (l : List ℕ). written exit r (hexes l)) (drop_all i (take n xs) ended))
          (record { answer = refl; bytes = refl });
    }
  where
    by : (b : Bool) → leb (length xs) n ≡ b → Rest xs text at n
    by true t = inl (leb-true (length xs) n t)
    by false t = inr (let few = leb-false (length xs) n t in omega (arith, many, left, few))

    leb_rest : Rest xs text at n
    leb_rest = by (leb (length xs) n) refl
