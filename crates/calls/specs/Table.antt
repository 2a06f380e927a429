-- The code's table of names: the first row that has a name.
-- Assumes nothing.
use Rattle.std.specs.Prelude.{ℕ, List, [], ◌∷◌, Option, Some, None}
use denote.Ref.{Bor}
use Rattle.words.specs.Words.{pick}
use Rattle.lines.specs.Lines.{same}
use Rattle.calls.specs.declared.Verb.{Verb}
use Rattle.calls.specs.declared.Shape.{Shape}

-- a row of the code's table: the name, its call, and what this takes
abbrev pub Named : Type 0
Named = Bor (List ℕ) × Verb × Shape

abbrev pub first : List ℕ → List Named → Option (Verb × Shape)
first w [] = None
first w (r ∷ rs) = pick (same w r.0.now) (Some (r.1, r.2)) (first w rs)
