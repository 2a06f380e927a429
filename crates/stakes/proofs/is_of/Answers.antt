-- The low byte of the CRC is compared with the first, the high byte with the second.
-- Assumes nothing.
use Rattle.std.proofs.Common.{rules, ◌≡◌, [], ◌∷◌}
use Rattle.std.specs.Prelude.{bytes_eq}
use Rattle.stakes.proofs.is_of.Goals as goal

pub returns : goal.returns
returns c =
    let crc = c.args.crc in
    let told : c.eq.result ≡ bytes_eq c.to_le_bytes.result (crc.low ∷ crc.high ∷ []) = c.eq.ensures in
    search rules
