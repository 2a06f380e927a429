-- A frame that was read at the front of a part ends inside it.
-- Assumes nothing.
use Rattle.std.specs.Prelude.{Ok, Result}
use Prim.Native.Nat.{ℕ, ◌≤◌}
use mathlib.Core.Path.{◌≡◌, sym, ◌∙◌, subst}
use mathlib.Core.List.{List}
use lib.ListN.{length}
use Rattle.model.specs.declared.Frame.{Frame}
use Rattle.model.specs.Frames.{read_first, end_of}
use Rattle.model.proofs.Frames.{Sound, sound}
use Rattle.model.specs.declared.Refusal.{Refusal}

module _ (xs : List ℕ) {r : Result Frame Refusal} (e : r ≡ read_first xs) where
  pub inside : (f : Frame) → r ≡ Ok f → end_of f ≤ length xs
  inside f t = (subst (Sound xs) (sym e ∙ t) (sound xs)).2
