-- What is compared with the word stands from one place to the other.
-- Assumes nothing.
use Rattle.std.proofs.Common.{ℕ, List, ap, ◌∙◌}
use Rattle.lines.specs.Lines.{rest, same}
use Rattle.lines.proofs.is_word.Goals as goal

pub returns : goal.returns
returns c =
    let word = c.args.word.now in
    c.eq.ensures ∙ ap (λ (bs : List ℕ). same bs word) (c.after.ensures ∙ ap (λ (bs : List ℕ). rest bs c.args.from) c.front.ensures)
