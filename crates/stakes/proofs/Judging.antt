-- What three tests in order lead to: a refusal by its number, or a stake.
-- Assumes nothing.
use Rattle.std.specs.Prelude.{Err, Ok, Result}
use Prim.Native.Nat.{ℕ}
use mathlib.Core.Path.{◌≡◌, refl, sym, ap}
use mathlib.Core.Bool.{Bool, true, false, true≢false}
use mathlib.Core.Logic.{◌↔◌}
use lib.Dec.{eqb}
use borrow.Author.Tests.{eqb-false}
use Rattle.model.specs.Refusals.{Number, none, number}
use Rattle.stakes.specs.declared.Stake.{Stake}
use Rattle.stakes.specs.declared.Unread.TheVariants.{OtherLength, WrongCrc, WrongStatus}
use Rattle.stakes.specs.Stakes.{unless, number_in}
use Rattle.stakes.specs.declared.Unread.{Unread}

-- the length, the CRC and the status are right
abbrev pub tested : Bool → Bool → Bool → Stake → Result Stake Unread
tested a b c s = unless a OtherLength (unless b WrongCrc (unless c WrongStatus (Ok s)))

-- ---- two numbers, and two stakes, told apart

abbrev value : Number → ℕ
value none = 0
value (number n) = n

other : {A : Type 0} (x y : Number) → eqb (value x) (value y) ≡ false → x ≡ y → A
other x y f e = absurd (eqb-false (value x) (value y) f (ap value e))

abbrev stake_in : Stake → Result Stake Unread → Stake
stake_in s (Ok t) = t
stake_in s (Err k) = s

-- ---- which it is

pub first : (a b c : Bool) (s : Stake) → (number_in (tested a b c s) ≡ number 13) ↔ (a ≡ false)
first false b c s = (λ _. refl, λ _. refl)
first true false c s = (other (number 14) (number 13) refl, λ e. absurd (true≢false e))
first true true false s = (other (number 15) (number 13) refl, λ e. absurd (true≢false e))
first true true true s = (other none (number 13) refl, λ e. absurd (true≢false e))

pub second : (a b c : Bool) (s : Stake) → (number_in (tested a b c s) ≡ number 14) ↔ ((a ≡ true) × (b ≡ false))
second false b c s = (other (number 13) (number 14) refl, λ e. absurd (true≢false (sym e.0)))
second true false c s = (λ _. (refl, refl), λ _. refl)
second true true false s = (other (number 15) (number 14) refl, λ e. absurd (true≢false e.1))
second true true true s = (other none (number 14) refl, λ e. absurd (true≢false e.1))

pub third : (a b c : Bool) (s : Stake) → (number_in (tested a b c s) ≡ number 15) ↔ ((a ≡ true) × (b ≡ true) × (c ≡ false))
third false b c s = (other (number 13) (number 15) refl, λ e. absurd (true≢false (sym e.0)))
third true false c s = (other (number 14) (number 15) refl, λ e. absurd (true≢false (sym e.1)))
third true true false s = (λ _. (refl, refl, refl), λ _. refl)
third true true true s = (other none (number 15) refl, λ e. absurd (true≢false e.2))

pub none_holds : (a b c : Bool) (s t : Stake) → (tested a b c s ≡ Ok t) ↔ ((a ≡ true) × (b ≡ true) × (c ≡ true) × (s ≡ t))
none_holds false b c s t = (λ e. other (number 13) none refl (ap number_in e), λ e. absurd (true≢false (sym e.0)))
none_holds true false c s t = (λ e. other (number 14) none refl (ap number_in e), λ e. absurd (true≢false (sym e.1)))
none_holds true true false s t = (λ e. other (number 15) none refl (ap number_in e), λ e. absurd (true≢false (sym e.2)))
none_holds true true true s t = (λ e. (refl, refl, refl, ap (stake_in s) e), λ e. ap Ok e.3)
