-- Each byte goes into the register that those before it left.
-- Assumes nothing.
use Rattle.std.proofs.Common.{rules, ◌≡◌, ◌-◌, ℕ, List, refl, ap}
use Rattle.std.proofs.lemmas.Fn.{fold_over, fronts}
use Rattle.std.proofs.lemmas.Iterator.{YieldsList-from_slice}
use Rattle.std.proofs.lemmas.List.Sums.{fold_push}
use Rattle.crc.specs.Crc.{preset, looked, looked_all}
use Rattle.crc.proofs.by_table.Goals as goal

pub returns : goal.returns
returns c =
    let table = c.args.remainders.now in
    let left : List ℕ → ℕ → Type 0 = λ bs r. r ≡ looked_all table bs preset in
    ap (λ (r : ℕ). 0xFFFF - r)
    (fold_over fronts (λ b. b.now) _ left _ (λ bs r b r' f' is k. search (rules, fold_push (λ (r b : ℕ). looked table b r) preset bs b.now))
    c.iter.result c.args.bytes.now _ _ (YieldsList-from_slice c.args.bytes.now (search rules)).runs refl c.fold.ensures.ran)
