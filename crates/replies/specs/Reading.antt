-- What the functions behind a feed are to do: a step of the walk over a piece, and how many data bytes are to stand in the room.
-- Assumes nothing.
use Rattle.std.specs.Prelude.{ℕ, ◌≤◌, ◌<◌, ◌≡◌, eqb, List, length, take}
use Rattle.model.specs.declared.Form.{Form}
use Rattle.model.specs.declared.Phase.{Phase}
use Rattle.model.specs.declared.Phase.TheVariants.{Begun, Failed, Counting, Waking, Data}
use Rattle.model.specs.declared.Step.{Step}
use Rattle.model.specs.declared.Step.TheVariants.{On, Over}
use Rattle.model.specs.declared.Walk.{Walk}
use Rattle.words.specs.Words.{pick}
use Rattle.model.specs.Replies.{walked, has_data, have}

-- r is where the front of xs leads from phase p: so many of its bytes as r says, at least one
pub record Strides (f : Form) (p : Phase) (xs : List ℕ) (r : Walk) : Type 0 where
  pub some : 0 < r.used
  pub most : r.used ≤ length xs
  pub leads : r ≡ walked f (On p) (take r.used xs)

-- how many data bytes a reply has, where some stand in the room
abbrev pub whole : Phase → ℕ
whole Begun = 0
whole (Failed code) = 0
whole (Counting code) = 0
whole Waking = 0
whole (Data h c) = pick (eqb h 0) 0 c

-- how many are to stand in the room: those of a reply that goes on, and all of one that is over where some stood there before
abbrev pub kept : Step → Phase → ℕ
kept (On q) p = have q
kept (Over e) p = pick (has_data e) (whole p) 0
