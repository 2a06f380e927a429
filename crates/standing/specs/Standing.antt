-- Where the chip stands, as text in brackets.
-- Assumes nothing.
use Rattle.std.specs.Prelude.{ℕ, List, [], ◌∷◌, ◌++◌, Option, Some, None}
use Rattle.model.specs.declared.State.{State}
use Rattle.model.specs.declared.State.TheVariants.{PowerUp, Ready, Selected, Waiting, Lost}
use Rattle.model.specs.declared.Calibration.{Calibration}
use Rattle.model.specs.declared.Session.{Session}
use Rattle.text.specs.Writing.{word, number}
use Rattle.calls.specs.Calls.{kind_name}

-- a reply is awaited to the command that the call of this name sent
abbrev pub state_name : State → List (List ℕ)
state_name PowerUp = word " [power-up" ∷ []
state_name Ready = word " [ready" ∷ []
state_name (Selected protocol) = word " [selected" ∷ number protocol
state_name (Waiting progress selected) = word " [waiting " ∷ kind_name progress.awaited.kind ∷ []
state_name Lost = word " [lost" ∷ []

abbrev pub bracket : Option Calibration → List ℕ
bracket None = word "]"
bracket (Some c) = word ", calibrating]"

abbrev pub state_text : Session → List (List ℕ)
state_text s = state_name s.state ++ (bracket s.calibration ∷ [])
