-- What a line leaves, by what it was found to be.
-- Assumes nothing.
use Prim.Native.Nat.{ℕ, ◌≤◌, ◌<◌}
use mathlib.Core.Path.{◌≡◌, refl, sym, ap, subst, ◌∙◌}
use mathlib.Core.List.{List, [], ◌∷◌}
use lib.ListN.{length}
use borrow.Author.Tests.{le-leb, lt-leb, le-ltb, lt-ltb, eq-eqb, ne_eqb}
use Rattle.lines.specs.Lines.{byte_at, skipped}
use Rattle.text.specs.Writing.{Puts}
use Rattle.calls.specs.declared.Fault.TheVariants.{TooLong}
use Rattle.faults.specs.Faults.{fault_text}
use Rattle.desk.specs.declared.Post.{Post}
use Rattle.desk.specs.declared.Done.{Done}
use Rattle.desk.specs.Desk.{Hears, longest, hearing, answered}
use Rattle.desk.proofs.Telling.{telling}

module _ (post : Post) (out room text bytes line : List ℕ) (number : ℕ) where
  abbrev Answers : Done → List ℕ → Type 0
  Answers r text' = Hears (answered line number post bytes out room text) r bytes out room text'

  pub too_long : {n : ℕ} {text' : List ℕ} → longest < length line → Puts text 0 (fault_text number longest TooLong) n text'
      → Answers (record { post = post; n = n }) text'
  too_long h puts =
      rw (lt-ltb longest (length line) h) (record { left = record { done = telling refl puts; out = refl; room = refl }; bytes = refl })

  module _ (short : length line ≤ longest) {start : ℕ} (is : start ≡ skipped line 0) where
    pub empty : length line ≤ start → Answers (record { post = post; n = 0 }) text
    empty h =
        rw (le-ltb longest (length line) short, le-leb (length line) (skipped line 0) (subst (λ (k : ℕ). length line ≤ k) is h))
        (record { left = record { done = record { answer = refl; bytes = refl }; out = refl; room = refl }; bytes = refl })

    module _ (h : start < length line) {first : ℕ} (at : first ≡ byte_at line start) where
      some : skipped line 0 < length line
      some = subst (λ (k : ℕ). k < length line) is h

      begins : first ≡ byte_at line (skipped line 0)
      begins = at ∙ ap (byte_at line) is

      pub copied : {n : ℕ} {text' : List ℕ} → first ≡ 35 → Puts text 0 (line ∷ []) n text' → Answers (record { post = post; n = n }) text'
      copied e puts =
          rw (le-ltb longest (length line) short, lt-leb (length line) (skipped line 0) some, eq-eqb (byte_at line (skipped line 0)) 35 (sym begins ∙ e))
          (record { left = record { done = telling refl puts; out = refl; room = refl }; bytes = refl })

      pub called : {r : Done} {bytes' out' room' text' : List ℕ} → (first ≡ 35 → ⊥)
          → Hears (hearing line number post bytes out room text) r bytes' out' room' text'
          → Hears (answered line number post bytes out room text) r bytes' out' room' text'
      called ne hears =
          rw (
            le-ltb longest (length line) short,
            lt-leb (length line) (skipped line 0) some,
            ne_eqb (byte_at line (skipped line 0)) 35 (λ (f : byte_at line (skipped line 0) ≡ 35). ne (begins ∙ f)),
          )
          hears
