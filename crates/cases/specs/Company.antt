-- A calibration that is driven in company, as `Within` and `Calibrates` have it: over SPI, with a chip that switches at 5C.
-- Assumes nothing.
use Rattle.std.specs.Prelude.{ℕ, ◌≡◌, Bool, List, [], ◌∷◌, map, leb, length, replicate}
use Rattle.model.specs.declared.Interface.TheVariants.{Spi}
use Rattle.model.specs.declared.Answer.TheVariants.{Reference}
use Rattle.model.specs.Frames.{idn}
use Rattle.model.specs.Session.{unpowered, Call, pulse, request, poll, read, feed}
use Rattle.model.specs.History.{Reached, run, on, commands}
use Rattle.model.specs.Talk.{steadily, Round, talk, Driven, started, Starts, last}
use Rattle.cases.specs.Planned.{planned}

abbrev pub lent : List ℕ
lent = replicate 600 0xEE

-- each reply is cut in two, behind its first byte, and around it come a pulse, a poll, a read that is refused, a request that is refused, an
-- empty piece, and a byte too many
abbrev pub company : ℕ → List Call
company e =
    pulse ∷ feed (0x00 ∷ []) lent ∷ poll lent ∷ read 531 lent ∷ request idn lent ∷ feed [] lent ∷ feed (0x01 ∷ e ∷ 0x55 ∷ []) lent ∷ pulse ∷ []

abbrev pub chip : ℕ → Bool
chip level = leb level 0x5C

-- the answers behind the first
abbrev pub rounds : List Round
rounds = map (λ (e : ℕ). record { output = lent; calls = company e }) (0x01 ∷ 0x01 ∷ 0x02 ∷ 0x02 ∷ 0x01 ∷ 0x01 ∷ 0x01 ∷ [])

-- IDN was sent, and answered by an error
abbrev pub earlier : List Call
earlier = pulse ∷ request idn lent ∷ feed (0x87 ∷ 0x00 ∷ []) lent ∷ []

abbrev pub ready : Reached
ready = run (on unpowered Spi) earlier

abbrev pub begun : Reached
begun = started ready (planned 3) lent (company 0x02)

-- what the two promises ask for is met
pub record Company : Type 0 where
  pub starts : Starts (steadily chip) ready (planned 3) lent (company 0x02)
  pub driven : Driven (steadily chip) begun rounds
  pub seven : length rounds ≡ 7
  pub names : last (talk begun rounds).history ≡ Reference 0x5C 8
  pub counts : commands (talk begun rounds).history ≡ 8
