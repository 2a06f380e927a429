-- No two calls share a name, that of a command sends it, with its data, and that of a command message writes it.
-- Assumes nothing.
use Prim.Native.Nat.{ℕ, ◌+◌, ◌<◌}
use native.Mathlib.Numerals.{one-add}
use native.Mathlib.Omega.{arith}
use mathlib.Core.Path.{◌≡◌, refl, sym, ap, ◌∙◌, subst⁻¹}
use mathlib.Core.Bool.{Bool, true, false}
use mathlib.Core.Logic.{inl, inr}
use mathlib.Core.List.{List, [], ◌∷◌}
use lib.Dec.{T, eqb, eqb→eq}
use lib.ListN.{length, get_or}
use Rattle.std.specs.Prelude.{Some}
use Rattle.words.specs.Words.{pick}
use Rattle.words.proofs.Words.{all, each}
use Rattle.lines.specs.Lines.{same}
use Rattle.model.specs.declared.Kind.{Kind}
use Rattle.model.specs.declared.Kind.TheVariants.{Idn, ProtocolSelect, SendRecv, Idle, RdReg, WrReg, Echo}
use Rattle.model.specs.declared.Message.{Message}
use Rattle.model.specs.declared.Message.TheVariants.{GetFirmwareVersion, Inventory, GoToTagDetectingState, IsWakeUp, CalibrateTagDetecting}
use Rattle.model.specs.Frames.{is, permits}
use Rattle.model.proofs.Frames.{same_kind}
use Rattle.model.proofs.Registers.{registers_read}
use Rattle.calls.specs.Calls.{Row, rows, row_of, name_of, call_of, shape_of, data_for, given_for, found}
use Rattle.calls.specs.Claims.{OneName, EachSent, SentAgain, EachAsked}

-- what two functions say of each row, by one computed test
pub agree : (f g : ℕ → ℕ) → T (all (λ (j : ℕ). eqb (f j) (g j)) (length rows)) → (k : ℕ) → k < length rows → f k ≡ g k
agree f g t k h = eqb→eq (f k) (g k) (each (λ (j : ℕ). eqb (f j) (g j)) (length rows) t k h)

-- how many rows come before that of a word, or how many there are
abbrev position : List ℕ → List Row → ℕ
position w [] = 0
position w (r ∷ rs) = pick (same w r.name) 0 (1 + position w rs)

number_of_name : (k : ℕ) → k < length rows → position (name_of k) rows ≡ k
number_of_name = agree (λ (j : ℕ). position (name_of j) rows) (λ (j : ℕ). j) tt

pub one_name : OneName
one_name j k h l e = sym (number_of_name j h) ∙ ap (λ (w : List ℕ). position w rows) e ∙ number_of_name k l

-- the row of a word is found
found_at : (w : List ℕ) (rs : List Row) (d : Row) → position w rs < length rs
    → let r = get_or rs (position w rs) d in found w rs ≡ Some (r.call, r.shape)
found_at w [] d h = absurd (omega arith)
found_at w (r ∷ rs) d h = go (same w r.name) h (λ l. found_at w rs d l)
  where
    go : (b : Bool) → pick b 0 (1 + position w rs) < length (r ∷ rs)
        → (position w rs < length rs → let q = get_or rs (position w rs) d in found w rs ≡ Some (q.call, q.shape))
        → let q = get_or (r ∷ rs) (pick b 0 (1 + position w rs)) d in pick b (Some (r.call, r.shape)) (found w rs) ≡ Some (q.call, q.shape)
    go true l others = refl
    go false l others = rw (one-add (position w rs)) (others (omega arith))

pub found_by_name : (k : ℕ) → k < length rows → found (name_of k) rows ≡ Some (call_of k, shape_of k)
found_by_name k h =
    let at : position (name_of k) rows ≡ k = number_of_name k h in
    found_at (name_of k) rows (row_of (length rows)) (omega arith)
    ∙ ap (λ (j : ℕ). Some (call_of j, shape_of j)) at

pub each_sent : EachSent
each_sent Idn = refl
each_sent ProtocolSelect = refl
each_sent SendRecv = refl
each_sent Idle = refl
each_sent RdReg = refl
each_sent WrReg = refl
each_sent Echo = refl

-- of the data of RdReg all but the register is fixed
read_again : (xs : List ℕ) → permits RdReg xs ≡ true → data_for RdReg (given_for RdReg xs) ≡ xs
read_again xs h = elim ((registers_read xs).0 h) [ inl e ↦ simp e refl | inr e ↦ simp e refl ]

again_by : (b : Bool) (kind : Kind) (xs : List ℕ) → is kind RdReg ≡ b → permits kind xs ≡ true → data_for kind (given_for kind xs) ≡ xs
again_by true kind xs e h = subst⁻¹ (λ (k : Kind). permits k xs ≡ true → data_for k (given_for k xs) ≡ xs) (same_kind kind RdReg e) (read_again xs) h
again_by false kind xs e h = simp e

pub sent_again : SentAgain
sent_again kind xs = again_by (is kind RdReg) kind xs refl

pub each_asked : EachAsked
each_asked Message.Idn = refl
each_asked GetFirmwareVersion = refl
each_asked Inventory = refl
each_asked GoToTagDetectingState = refl
each_asked IsWakeUp = refl
each_asked CalibrateTagDetecting = refl
