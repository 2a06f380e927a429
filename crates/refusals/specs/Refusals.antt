-- A refusal, as text.
-- Assumes nothing.
use Rattle.std.specs.Prelude.{ℕ, List, [], ◌∷◌, ◌++◌}
use Rattle.model.specs.declared.Refusal.{Refusal}
use Rattle.model.specs.declared.Refusal.TheVariants.{Short, Invalid, Unready, Busy, Malformed, Unawaited, ChipError, LowestTimeout, HighestTag, NoLevel, CalibrationError}
use Rattle.model.specs.Refusals.{Number, none, number as numbered, number_of}
use Rattle.text.specs.Writing.{word, hex, number}

-- how many commands a calibration took
abbrev pub commands_text : ℕ → List (List ℕ)
commands_text commands = word " commands" ∷ number commands

-- the error code where the chip gave one, then the number of commands where a calibration ends
abbrev pub values_text : Refusal → List (List ℕ)
values_text Short = []
values_text Invalid = []
values_text Unready = []
values_text Busy = []
values_text Malformed = []
values_text Unawaited = []
values_text (ChipError code) = hex code ∷ []
values_text (LowestTimeout commands) = commands_text commands
values_text (HighestTag commands) = commands_text commands
values_text (NoLevel commands) = commands_text commands
values_text (CalibrationError code commands) = hex code ∷ commands_text commands

-- a refusal by its number
abbrev pub refused_text : ℕ → List (List ℕ)
refused_text n = word "refused" ∷ number n

abbrev pub refusal_text : Refusal → List (List ℕ)
refusal_text refusal = refused_text (number_of refusal) ++ values_text refusal

-- one that no session gives, by the number that the model gives it
abbrev pub number_text : Number → List (List ℕ)
number_text none = []
number_text (numbered n) = refused_text n
