-- What is promised of the CRC: the table gives what the rule gives, and a byte that was changed gives another CRC.
-- Assumes nothing.
use Rattle.std.specs.Prelude.{ℕ, ◌<◌, ◌≡◌, ◌↔◌, List, length, get_or, set}
use Rattle.words.specs.Words.{Bytes}
use Rattle.crc.specs.Crc.{byte, crc_of, Right, crc_by}

-- by a table of which no entry is mistaken, the CRC of all bytes is the rule's
abbrev pub ByTable : Type 0
ByTable = (table : List ℕ) → Right table → (bs : List ℕ) → Bytes bs → crc_by table bs ≡ crc_of bs

-- where two bytes leave the same in two registers, they are one byte exactly if these held the same
abbrev pub OneToOne : Type 0
OneToOne =
    (b b' register register' : ℕ) → b < 256 → b' < 256 → register < 65536 → register' < 65536 → byte b register ≡ byte b' register' →
    (b ≡ b') ↔ (register ≡ register')

-- with any one of the bytes changed, the CRC is another
abbrev pub Tells : Type 0
Tells = (bs : List ℕ) (k b : ℕ) → Bytes bs → k < length bs → b < 256 → (get_or bs k 0 ≡ b → ⊥) → crc_of (set bs k b) ≡ crc_of bs → ⊥

-- a CRC is two bytes
abbrev pub TwoBytes : Type 0
TwoBytes = (bs : List ℕ) → crc_of bs < 65536
