-- The two masks say what the paper does: antt tries each of the 256 bytes.
-- Assumes nothing.
use Rattle.std.proofs.Common.{ℕ, ◌≡◌, ◌<◌, Bool, not, ◌&&◌, nat_eq, bit_and, sym, ap, ◌∙◌, arith, ne_eqb}
use Rattle.model.specs.Frames.{source_allowed}
use Rattle.words.proofs.Words.{same_on_bytes}
use Rattle.settings.proofs.source_is_allowed.Goals as goal

abbrev masks : ℕ → Bool
masks w = nat_eq (bit_and w 0x24) 0 && not (nat_eq (bit_and w 0x1B) 0)

right : (w : ℕ) → w < 256 → masks w ≡ source_allowed w
right = same_on_bytes masks source_allowed tt

pub returns-then-source-eq0 : goal.returns-then-source-eq0
returns-then-source-eq0 c =
    let w = c.args.source in
    ap (λ (x : ℕ). nat_eq x 0 && not (nat_eq (bit_and w 0x1B) 0)) (sym c.if-source-eq0.true) ∙ right w (omega arith)

pub returns-else-source-eq0 : goal.returns-else-source-eq0
returns-else-source-eq0 c =
    let w = c.args.source in
    let no = ne_eqb (bit_and w 0x24) 0 c.if-source-eq0.false in
    no ∙ ap (λ (b : Bool). b && not (nat_eq (bit_and w 0x1B) 0)) (sym no) ∙ right w (omega arith)
