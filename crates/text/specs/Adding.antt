-- What a call adds to a text: parts at its place, and the place behind them.
-- Assumes nothing.
use Rattle.std.specs.Prelude.{ℕ, ◌≡◌, List}
use Rattle.text.specs.Writing.{Puts}
use Rattle.text.specs.declared.Text.{Text}

-- the parts are put at the place of the text, in the buffer that it has
pub record Adds (old : Text) (parts : List (List ℕ)) (new : Text) : Type 0 where
  pub same : new.bytes.ghost_name ≡ old.bytes.ghost_name
  pub puts : Puts old.bytes.now old.at parts new.at new.bytes.now
