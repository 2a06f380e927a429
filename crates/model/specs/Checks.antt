-- Document 01, "Refusals by number": an order of checks, as data. Each row is a refusal with its condition, and the first that holds is given.
-- Assumes nothing.
use Rattle.std.specs.Prelude.{ℕ, ◌≡◌, Bool, true, false, ◌||◌, List, [], ◌∷◌, ◌++◌, eqb}
use Rattle.model.specs.declared.Refusal.{Refusal}
use Rattle.words.specs.Words.{pick}
use Rattle.model.specs.Refusals.{number_of}

-- a row: the refusal, and whether its condition holds
pub record Check : Type 0 where
  pub refusal : Refusal
  pub holds : Bool

infix 68 ◌when◌
abbrev pub ◌when◌ : Refusal → Bool → Check
k when b = record { refusal = k; holds = b }

-- what is done by an order of checks: about the first row whose condition holds, or where none does
abbrev pub judged : {A : Type 0} → List Check → (Refusal → A) → A → A
judged [] refused done = done
judged (r ∷ rows) refused done = pick r.holds (refused r.refusal) (judged rows refused done)

-- the condition of no row holds
abbrev pub Passes : List Check → Type 0
Passes [] = Unit {0}
Passes (r ∷ rows) = (r.holds ≡ false) × Passes rows

-- k is the refusal of a row whose condition holds, and that of none before it does
abbrev pub First : Refusal → List Check → Type 0
First k rows = (before : List Check) × (after : List Check) × (rows ≡ before ++ k when true ∷ after) × Passes before

-- refusals 1, 2, 3, 4, 6 and 11
abbrev pub is_mild : ℕ → Bool
is_mild k = eqb k 1 || eqb k 2 || eqb k 3 || eqb k 4 || eqb k 6 || eqb k 11

abbrev pub mild : Refusal → Bool
mild k = is_mild (number_of k)
