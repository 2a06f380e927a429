-- A run in company meets what the promises on driven runs ask for.
-- Assumes nothing.
use Prim.Native.Nat.{ℕ}
use native.Mathlib.Omega.{arith}
use mathlib.Core.Path.{◌≡◌, refl, subst, sym}
use mathlib.Core.Bool.{true}
use mathlib.Core.List.{[], ◌∷◌}
use Rattle.model.specs.declared.Interface.TheVariants.{Spi}
use Rattle.model.specs.declared.Awaited.{Awaited}
use Rattle.model.specs.declared.End.TheVariants.{Woken}
use Rattle.model.specs.Replies.{idled, is_event, wake_of, Reply, waking}
use Rattle.model.specs.Session.{unpowered}
use Rattle.model.specs.History.{Exchange, Reached, level_of}
use Rattle.model.specs.Promises.{says}
use Rattle.model.specs.Talk.{steadily, Fair, all_fed, Replied}
use Rattle.cases.specs.Company.{company, chip, earlier, Company}

-- the reply to a command with WU source C3
replied : (x : Exchange) (r : Reached) (e : ℕ) → Fair r (company e) → all_fed r (company e) ≡ 0x00 ∷ 0x01 ∷ e ∷ 0x55 ∷ [] → x.awaited ≡ idled 0xC3 → is_event 0xC3 e ≡ true
    → Woken (wake_of e) ≡ says (chip (level_of x.owner)) → Replied (steadily chip) x r (company e)
replied x r e fair bytes idles wakes chosen =
    record {
      fair = fair;
      bytes = 0x00 ∷ 0x01 ∷ e ∷ [];
      after = 0x55 ∷ [];
      end = Woken (wake_of e);
      payload = e ∷ [];
      whole = bytes;
      well_formed = subst (λ (a : Awaited). Reply a (0x00 ∷ 0x01 ∷ e ∷ []) (Woken (wake_of e)) (e ∷ [])) (sym idles) (waking 0xC3 e wakes);
      chosen = chosen;
    }

pub in_company : Company
in_company =
    record {
      starts =
          record {
            after = (unpowered, Spi, earlier, refl);
            passes = (refl, (refl, (refl, (refl, (refl, tt)))));
            answered = replied _ _ 0x02 (refl, (refl, (refl, (refl, (refl, (refl, (refl, (refl, tt)))))))) refl refl refl refl;
          };
      driven = (
        refl,
        omega arith,
        replied _ _ 0x01 (refl, (refl, (refl, (refl, (refl, (refl, (refl, (refl, tt)))))))) refl refl refl refl,
        (
          refl,
          omega arith,
          replied _ _ 0x01 (refl, (refl, (refl, (refl, (refl, (refl, (refl, (refl, tt)))))))) refl refl refl refl,
          (
            refl,
            omega arith,
            replied _ _ 0x02 (refl, (refl, (refl, (refl, (refl, (refl, (refl, (refl, tt)))))))) refl refl refl refl,
            (
              refl,
              omega arith,
              replied _ _ 0x02 (refl, (refl, (refl, (refl, (refl, (refl, (refl, (refl, tt)))))))) refl refl refl refl,
              (
                refl,
                omega arith,
                replied _ _ 0x01 (refl, (refl, (refl, (refl, (refl, (refl, (refl, (refl, tt)))))))) refl refl refl refl,
                (
                  refl,
                  omega arith,
                  replied _ _ 0x01 (refl, (refl, (refl, (refl, (refl, (refl, (refl, (refl, tt)))))))) refl refl refl refl,
                  (
                    refl,
                    omega arith,
                    replied _ _ 0x01 (refl, (refl, (refl, (refl, (refl, (refl, (refl, (refl, tt)))))))) refl refl refl refl,
                    tt,
                  ),
                ),
              ),
            ),
          ),
        ),
      );
      seven = refl;
      names = refl;
      counts = refl;
    }
