-- Small definitions at values that no call brings them to.
-- Assumes nothing.
use Rattle.std.specs.Prelude.{◌≡◌, true, false, [], ◌∷◌, map}
use Rattle.model.specs.declared.Phase.TheVariants.{Failed}
use Rattle.model.specs.declared.End.TheVariants.{Good, Error}
use Rattle.model.specs.declared.Answer.{Answer}
use Rattle.model.specs.declared.Refusal.{Refusal}
use Rattle.model.specs.declared.Verdict.TheVariants.{NoRoom}
use Rattle.model.specs.Frames.{idn}
use Rattle.model.specs.Replies.{has_data, have, ahead, idled, more}
use Rattle.model.specs.Calibration.{move}
use Rattle.model.specs.Session.{unpowered, awaited_of, outcome_by, nothing}
use Rattle.model.specs.History.{in_frame, requested, level_of, is_answer}

pub record Small : Type 0 where
  pub moves : map move (0 ∷ 1 ∷ 2 ∷ 3 ∷ 4 ∷ 5 ∷ 6 ∷ 7 ∷ 8 ∷ []) ≡ 0x04 ∷ 0x04 ∷ 0x04 ∷ 0x40 ∷ 0x20 ∷ 0x10 ∷ 0x08 ∷ 0x04 ∷ 0x04 ∷ []
  pub had : have (Failed 0x87) ≡ 0
  pub before : ahead (Failed 0x87) ≡ 1
  pub none : has_data (Error 0x87) ≡ false
  pub level : level_of requested ≡ 0
  pub answer : is_answer Good ≡ true
  pub past : map (in_frame 2) ([] ∷ (0x07 ∷ []) ∷ (0x00 ∷ 0x07 ∷ []) ∷ []) ≡ 0 ∷ 0 ∷ 0 ∷ []
  pub first : (awaited_of idn).first ≡ 0
  pub room : (outcome_by NoRoom (more (idled 0x03) (Failed 0x87) 0) unpowered (idled 0x03) 2).answer ≡ Answer.Refused Refusal.Short
  pub done : (nothing unpowered []).answer.answer ≡ Answer.Done
