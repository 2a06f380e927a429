-- A blank, then the digits that the kit's `decimal` ensures.
-- Assumes nothing.
use Rattle.std.proofs.Common.{◌∙◌, arith}
use Rattle.text.proofs.Decimal.{decimal_is, at_most_twenty}
use Rattle.text.proofs.Adding.{adds_number}
use Rattle.text.proofs.Text.put_number.Goals as goal

pub returns : goal.returns
returns c =
    let n = c.args.n in
    let told = c.decimal-count.ensures in
    let count = c.decimal-count.result in
    adds_number n c.put.ensures
    (told.digits ∙ decimal_is 20 count n told.len (at_most_twenty n count told.len (omega arith)))
    c.put-2.ensures
