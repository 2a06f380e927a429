-- By a table without a mistaken entry, the CRC is the rule's.
-- Assumes nothing.
use Rattle.std.proofs.Common.{◌∙◌, arith}
use Rattle.words.proofs.Words.{all_bytes}
use Rattle.crc.proofs.Rule.{by_table}
use Rattle.crc.proofs.of.Goals as goal

pub returns : goal.returns
returns c =
    let table = c.remainders-remainders in
    let bytes = c.args.bytes.now in
    c.by_table.ensures ∙ by_table table.result table.ensures bytes (all_bytes bytes (λ k. omega (arith, c.type_inv.bytes k)))
