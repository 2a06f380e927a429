-- Bytes put at the front of an output, as a writer tells it: what is left of a writer once its rules hold.
-- Assumes nothing.
use Rattle.std.specs.Prelude.{ℕ, List, ◌∷◌, ltb, length, Err, None, Ok, Option, Result, Some}
use Rattle.model.specs.declared.Refusal.TheVariants.{Short, Invalid}
use Rattle.words.specs.Words.{pick, over}
use Rattle.words.specs.Contract.{Ran}
use Rattle.model.specs.Frames.{framed}
use Rattle.model.specs.declared.Refusal.{Refusal}

abbrev pub put : List ℕ → List ℕ → Ran (Result ℕ Refusal)
put xs out =
    pick (ltb (length out) (length xs)) (record { answer = Err Short; bytes = out }) (record { answer = Ok (length xs); bytes = over xs out })

-- bytes with what stands before them
abbrev pub fronted : Option ℕ → List ℕ → List ℕ
fronted None xs = xs
fronted (Some b) xs = b ∷ xs

-- code, length and data: more than 255 data bytes have no length
abbrev pub put_framed : Option ℕ → ℕ → List ℕ → List ℕ → Ran (Result ℕ Refusal)
put_framed front code xs out =
    pick (ltb 255 (length xs)) (record { answer = Err Invalid; bytes = out }) (put (fronted front (framed code xs)) out)
