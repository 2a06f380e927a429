-- What is promised of names: no two calls share one, that of a command sends it, with its data, and that of a command message writes it.
-- Assumes nothing.
use Rattle.std.specs.Prelude.{ℕ, ◌<◌, ◌≡◌, true, List, length}
use Rattle.model.specs.declared.Kind.{Kind}
use Rattle.model.specs.declared.Message.{Message}
use Rattle.model.specs.Frames.{permits}
use Rattle.calls.specs.declared.Act.TheVariants.{Sends}
use Rattle.calls.specs.declared.Board.TheVariants.{Asks}
use Rattle.calls.specs.declared.Verb.TheVariants.{Acts, Speaks}
use Rattle.calls.specs.Calls.{rows, name_of, call_of, sent_by, data_for, given_for, asked_by}

-- the names of two rows differ
abbrev pub OneName : Type 0
OneName = (j k : ℕ) → j < length rows → k < length rows → name_of j ≡ name_of k → j ≡ k

-- the call that is named for a command sends it
abbrev pub EachSent : Type 0
EachSent = (kind : Kind) → call_of (sent_by kind) ≡ Acts (Sends kind)

-- and given what is told of permitted data, it sends these
abbrev pub SentAgain : Type 0
SentAgain = (kind : Kind) (xs : List ℕ) → permits kind xs ≡ true → data_for kind (given_for kind xs) ≡ xs

-- the call that is named for a command message writes it
abbrev pub EachAsked : Type 0
EachAsked = (m : Message) → call_of (asked_by m) ≡ Speaks (Asks m)
