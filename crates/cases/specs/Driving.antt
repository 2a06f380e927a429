-- A calibration that is driven by a chip which answers each level as a function says.
-- Assumes nothing.
use Rattle.std.specs.Prelude.{ℕ, zero, suc, Bool, true, false, List, [], ◌∷◌}
use Rattle.model.specs.declared.Interface.{Interface}
use Rattle.model.specs.declared.Plan.{Plan}
use Rattle.model.specs.declared.Session.{Session}
use Rattle.model.specs.Session.{pulse, calibrate, next, feed}
use Rattle.model.specs.History.{Reached, turn, on, Exchange, exchanges, level_of}

-- the event byte of a tag, and of a timeout
abbrev pub event_of : Bool → ℕ
event_of true = 0x02
event_of false = 0x01

abbrev pub newest_level : List Exchange → ℕ
newest_level [] = 0
newest_level (x ∷ es) = level_of x.owner

-- all the pieces are fed, one after the other, whatever is answered
abbrev pub feeds : List ℕ → Reached → List (List ℕ) → Reached
feeds room r [] = r
feeds room r (xs ∷ pieces) = feeds room (turn r (feed xs room)) pieces

module _ (f : ℕ → Bool) (cuts : Bool → List (List ℕ)) (room output : List ℕ) where
  -- the chip answers the newest command
  abbrev pub answered : Reached → Reached
  answered r = feeds room r (cuts (f (newest_level (exchanges r.history))))

  -- and k times more, each due command given out
  abbrev pub answers_more : ℕ → Reached → Reached
  answers_more zero r = answered r
  answers_more (suc k) r = answers_more k (turn (answered r) (next output))

  -- from power-on over a pulse and a start, with eight replies
  abbrev pub calibrated : Plan → Interface → Session → Reached
  calibrated plan i s = answers_more 7 (turn (turn (on s i) pulse) (calibrate plan output))
