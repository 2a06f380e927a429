-- Times and waits of an Idle command, as text.
-- Assumes nothing.
use Rattle.std.specs.Prelude.{ℕ, List, [], ◌∷◌, ◌++◌}
use Rattle.model.specs.declared.Settings.{Settings}
use Rattle.model.specs.declared.Ticks.{Ticks}
use Rattle.model.specs.declared.Refusal.TheVariants.{Invalid}
use Rattle.words.specs.Words.{pick, bit}
use Rattle.model.specs.Frames.{settings_allowed}
use Rattle.model.specs.Times.{ticks, t_to}
use Rattle.text.specs.Writing.{word, number}
use Rattle.refusals.specs.Refusals.{refusal_text}
use Rattle.durations.specs.Milliseconds.{milliseconds_text, all_milliseconds}

-- in the order of the paper
abbrev pub in_order : Ticks → List ℕ
in_order t = t.low ∷ t.reference ∷ t.inactive ∷ t.timeout ∷ t.osc ∷ t.dac ∷ []

-- the six times in ticks
abbrev pub six : Settings → List ℕ
six s = in_order (ticks s)

abbrev pub numbers : List ℕ → List (List ℕ)
numbers [] = []
numbers (n ∷ ns) = number n ++ numbers ns

-- in ticks, then in milliseconds
abbrev pub times_text : Settings → List (List ℕ)
times_text s =
    pick (settings_allowed s) (word "ticks" ∷ (numbers (six s) ++ (word " ms" ∷ all_milliseconds (six s)))) (refusal_text Invalid)

-- without end where bit 0 is clear
abbrev pub wait_text : Settings → List (List ℕ)
wait_text s =
    pick (settings_allowed s)
    (pick (bit 0 s.source) (word "after" ∷ (milliseconds_text (t_to s) ++ (word " ms" ∷ []))) (word "endless" ∷ []))
    (refusal_text Invalid)
