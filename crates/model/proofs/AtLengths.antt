-- Long replies at a few values, computed: result codes and length bytes (000, section 4.4), the least room, the greatest read, and records that
-- no call made.
-- Assumes nothing.
use Prim.Native.Nat.{ℕ}
use mathlib.Core.Path.{◌≡◌, refl}
use mathlib.Core.Bool.{true, false}
use mathlib.Core.List.{List, [], ◌∷◌, map}
use lib.ListN.{replicate}
use Rattle.model.specs.declared.Interface.TheVariants.{Spi}
use Rattle.model.specs.declared.Kind.TheVariants.{SendRecv}
use Rattle.model.specs.declared.Awaited.{Awaited}
use Rattle.model.specs.declared.Form.TheVariants.{Counted}
use Rattle.model.specs.declared.Phase.{Phase}
use Rattle.model.specs.declared.Phase.TheVariants.{Begun, Counting, Data}
use Rattle.model.specs.declared.End.TheVariants.{Good, Malformed}
use Rattle.model.specs.declared.Step.{Step}
use Rattle.model.specs.declared.Step.TheVariants.{On, Over}
use Rattle.model.specs.declared.Verdict.TheVariants.{More, Ended, NoRoom}
use Rattle.model.specs.Frames.{read, permitted}
use Rattle.model.specs.Replies.{next, reached, at, begun as start, feed}

-- which result code it was is kept
pub begun : map (λ (b : ℕ). next Counted Begun b) (0x80 ∷ 0xA0 ∷ 0xC0 ∷ []) ≡ On (Counting 0x80) ∷ On (Counting 0xA0) ∷ On (Counting 0xC0) ∷ []
begun = refl

-- where a result code of SendRecv and each of some length bytes lead
abbrev behind : ℕ → List ℕ → List Step
behind code bs = map (λ (b : ℕ). reached Counted (On Begun) (code ∷ b ∷ [])) bs

-- n data bytes are to come
abbrev due : ℕ → Step
due n = On (Data 0 n)

pub behind_80 : behind 0x80 (0x00 ∷ 0x01 ∷ 0xFF ∷ []) ≡ Over Good ∷ due 1 ∷ due 255 ∷ []
behind_80 = refl

pub behind_a0 : behind 0xA0 (0x00 ∷ 0x01 ∷ 0xFF ∷ []) ≡ due 256 ∷ due 257 ∷ due 511 ∷ []
behind_a0 = refl

-- up to 528, and no more
pub behind_c0 : behind 0xC0 (0x00 ∷ 0x01 ∷ 0x10 ∷ 0x11 ∷ 0xFF ∷ []) ≡ due 512 ∷ due 513 ∷ due 528 ∷ Over (Malformed 1 0x11) ∷ Over (Malformed 1 0xFF) ∷ []
behind_c0 = refl

-- what begins no reply, malformed at its first byte: residual bits, and the lengths that no reply has
pub beside : map (λ (b : ℕ). next Counted Begun b) (0x90 ∷ 0xB0 ∷ 0xD0 ∷ 0xE0 ∷ 0xF0 ∷ [])
    ≡ Over (Malformed 0 0x90) ∷ Over (Malformed 0 0xB0) ∷ Over (Malformed 0 0xD0) ∷ Over (Malformed 0 0xE0) ∷ Over (Malformed 0 0xF0) ∷ []
beside = refl

abbrev to_send : Awaited
to_send = record { kind = SendRecv; first = 0x26 }

-- a room of 527 is refused
pub rooms : map (λ (n : ℕ). (feed (start to_send) (0xC0 ∷ []) (replicate n 0x00)).answer.verdict) (255 ∷ 527 ∷ 528 ∷ 529 ∷ []) ≡ NoRoom ∷ NoRoom ∷ More ∷ More ∷ []
rooms = refl

-- and a read of 531
pub reads : map (λ (n : ℕ). permitted Spi (read n)) (0 ∷ 1 ∷ 257 ∷ 258 ∷ 530 ∷ 531 ∷ []) ≡ false ∷ true ∷ true ∷ true ∷ true ∷ false ∷ []
reads = refl

-- a record with more data to come than a reply has, or with an unknown result code, none of which a call made
pub unmade : map (λ (p : Phase). (feed (at to_send p) (0x26 ∷ []) (replicate 528 0x00)).answer.verdict) (
    Data 527 528 ∷ Data 527 529 ∷ Data 600 700 ∷ Data 528 528 ∷ Data 65535 65535 ∷ Counting 0xE0 ∷ Counting 0x1F ∷ [])
    ≡ Ended Good ∷ Ended (Malformed 529 0x26) ∷ Ended (Malformed 602 0x26) ∷ Ended (Malformed 530 0x26) ∷ Ended (Malformed 65537 0x26)
    ∷ Ended (Malformed 1 0x26) ∷ More ∷ []
unmade = refl
