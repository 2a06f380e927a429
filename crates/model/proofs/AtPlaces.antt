-- Which byte of a malformed reply is wrong, at a few values, computed: the numbers, by place and byte. The check takes files in the order of their names, this one early, so that of a wrong model it tells values.
-- Assumes nothing.
use Prim.Native.Nat.{ℕ}
use mathlib.Core.Path.{◌≡◌, refl}
use mathlib.Core.List.{[], ◌∷◌, map}
use Rattle.model.specs.declared.Flaw.TheVariants.{FirstByte, SecondByte, NoEvent, NotEnabled}
use Rattle.model.specs.declared.Form.TheVariants.{Exactly, Counted, Awake, Single}
use Rattle.model.specs.Refusals.{flaw_number}
use Rattle.model.specs.Replies.{flaw_at}

-- ---- the numbers

pub numbers : map flaw_number (FirstByte ∷ SecondByte ∷ NoEvent ∷ NotEnabled ∷ []) ≡ 51 ∷ 52 ∷ 53 ∷ 54 ∷ []
numbers = refl

-- of any reply the first byte and the second; behind them no event is to come but to an Idle
pub places : map (λ (place : ℕ). flaw_at Counted place 0x02) (0 ∷ 1 ∷ 2 ∷ []) ≡ FirstByte ∷ SecondByte ∷ NoEvent ∷ []
places = refl

-- of an Idle that a timeout and a tag wake: 04 is none of the four, and not enabled either
pub events : map (λ (e : ℕ). flaw_at (Awake 0x03) 2 e) (0x00 ∷ 0x03 ∷ 0x04 ∷ 0x08 ∷ 0x10 ∷ 0x20 ∷ []) ≡ NoEvent ∷ NoEvent ∷ NoEvent ∷ NotEnabled ∷ NotEnabled ∷ NoEvent ∷ []
events = refl

-- of one that the two pulses wake
pub others : map (λ (e : ℕ). flaw_at (Awake 0x18) 2 e) (0x01 ∷ 0x02 ∷ 0x09 ∷ []) ≡ NotEnabled ∷ NotEnabled ∷ NoEvent ∷ []
others = refl

-- in a record that no call made: where no event comes, where this one does, and behind the third byte
pub unmade :
    flaw_at (Exactly 15) 2 0x08 ∷ flaw_at Counted 530 0x01 ∷ flaw_at Single 2 0x10 ∷ flaw_at (Awake 0x03) 2 0x01 ∷ flaw_at (Awake 0x03) 7 0x10 ∷ flaw_at (Awake 0x03) 7 0x20 ∷ []
    ≡ NoEvent ∷ NoEvent ∷ NoEvent ∷ NoEvent ∷ NotEnabled ∷ NoEvent ∷ []
unmade = refl
