-- What a call gives out that is not refused, and the session after it.
-- Assumes nothing.
use Rattle.std.specs.Prelude.{Option}
use Prim.Native.Nat.{ℕ, ◌+◌}
use native.Mathlib.Omega.{arith}
use mathlib.Core.Path.{refl, sym, subst}
use mathlib.Core.List.{List, ◌∷◌}
use lib.ListN.{length, replicate, length-replicate}
use borrow.Author.Tests.{le-ltb, le-leb}
use Rattle.model.specs.declared.Interface.{Interface}
use Rattle.model.specs.declared.Interface.TheVariants.{Spi, Uart}
use Rattle.model.specs.declared.Plan.{Plan}
use Rattle.model.specs.declared.Search.{Search}
use Rattle.model.specs.declared.Calibration.{Calibration}
use Rattle.model.specs.declared.State.{State}
use Rattle.model.specs.declared.Session.{Session}
use Rattle.model.specs.Frames.{greatest_read}
use Rattle.model.specs.Checks.{Passes}
use Rattle.model.specs.Session.{made, checks, does, Call, reset, poll, read, calibrate, next, tests, continues, step}
use Rattle.model.specs.Given.{GivesOut, trial, sent, tried, StartGives, NextGives, Transfers, OverSpi}
use Rattle.model.proofs.Lives.{does_it}

-- a command of a calibration, over either interface
tests_so : (i : Interface) (state : State) (c : Option Calibration) (plan : Plan) (found : Search) (out : List ℕ)
    → GivesOut (sent i (trial plan found.level)) (tried (made i state c) plan found) out (tests (made i state c) plan found out)
tests_so Spi state c plan found out = record { answer = refl; output = refl }
tests_so Uart state c plan found out = record { answer = refl; output = refl }

-- where no check holds
done : (bytes : List ℕ) (after s : Session) (out : List ℕ) (c : Call) → Passes (checks s c) → GivesOut bytes after out (does s c) → GivesOut bytes after out (step s c)
done bytes after s out c p g = subst (GivesOut bytes after out) (sym (does_it s c p)) g

pub starts : StartGives
starts s plan out p = done _ _ s out (calibrate plan out) p (tests_so s.interface s.state s.calibration plan (record { commands = 1; level = 0x00 }) out)

pub continues_so : NextGives
continues_so s plan found out e p =
    let on : Search = record { commands = found.commands + 1; level = found.level } in
    let xs = sent s.interface (trial plan found.level) in
    done xs (tried s plan on) s out (next out) p
    (subst (λ (c : Option Calibration). GivesOut xs (tried s plan on) out (continues c s out)) (sym e) (tests_so s.interface s.state s.calibration plan on out))

-- ---- over SPI

module _ (state : State) (c : Option Calibration) (out : List ℕ) where
  abbrev s : Session
  s = made Spi state c

  transfers : Transfers s out
  transfers =
      record {
        resets = λ h. done _ _ s out (reset out) (refl, (le-ltb (length out) 1 h, tt)) (record { answer = refl; output = refl });
        polls = λ h. done _ _ s out (poll out) (refl, (le-ltb (length out) 2 h, tt)) (record { answer = refl; output = refl });
        reads = λ n low high h.
            done _ _ s out (read n out) (
              simp (le-leb 1 n low, le-leb n greatest_read high),
              (le-ltb (length out) (length (0x02 ∷ replicate {A = ℕ} n 0x00)) (omega (arith, h, length-replicate {A = ℕ} n 0x00)), tt),
            )
            (record { answer = refl; output = refl });
      }

pub over_spi : OverSpi
over_spi s out e = subst (λ (i : Interface). Transfers (made i s.state s.calibration) out) (sym e) (transfers s.state s.calibration out)
