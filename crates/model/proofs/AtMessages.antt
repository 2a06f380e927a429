-- Decisions on the demo board's messages at a few values, computed: the table, what answers carry, what is written, and what is read. The check takes
-- files in the order of their names, this one first, so that of a wrong model it tells values.
-- Assumes nothing.
use Rattle.std.specs.Prelude.{Err, Ok, None}
use Prim.Native.Nat.{ℕ}
use mathlib.Core.Path.{◌≡◌, refl}
use mathlib.Core.Bool.{true, false}
use mathlib.Core.List.{[], ◌∷◌, map}
use lib.ListN.{take, replicate}
use Rattle.model.specs.declared.Refusal.TheVariants.{Invalid}
use Rattle.model.specs.declared.Message.{Message}
use Rattle.model.specs.declared.Message.TheVariants.{Idn, Inventory}
use Rattle.model.specs.declared.Contents.TheVariants.{Level, Tags}
use Rattle.model.specs.Frames.{part}
use Rattle.model.specs.Messages.{row, messages, family_byte, is_board_error, carries, answering, write_answer, write_error, read_message, read_answer}
use Rattle.model.specs.declared.AnswerError.TheVariants.{BoardError, ChipError}
use Rattle.model.specs.declared.AnswerError.{AnswerError}

-- ---- the table

pub families : map (λ (m : Message). family_byte (row m).family) messages ≡ 0x01 ∷ 0x02 ∷ 0x02 ∷ 0x02 ∷ 0x02 ∷ 0x02 ∷ []
families = refl

pub codes : map (λ (m : Message). (row m).code) messages ≡ 0x01 ∷ 0xBC ∷ 0xA1 ∷ 0xA3 ∷ 0xA2 ∷ 0xA4 ∷ []
codes = refl

pub counts : map (λ (m : Message). (row m).count) messages ≡ 0 ∷ 0 ∷ 1 ∷ 2 ∷ 0 ∷ 0 ∷ []
counts = refl

pub responses : map (λ (m : Message). (row m).response) messages ≡ 0x00 ∷ 0x00 ∷ 0x80 ∷ 0x80 ∷ 0x80 ∷ 0x80 ∷ []
responses = refl

-- table 8, and what stands beside its codes
pub errors : map is_board_error (0xFF ∷ 0xFE ∷ 0xFD ∷ 0xFC ∷ 0xFB ∷ 0xFA ∷ 0xF9 ∷ 0xF8 ∷ 0xF7 ∷ 0xF6 ∷ 0xF5 ∷ 0xF4 ∷ 0xF3 ∷ [])
    ≡ false ∷ true ∷ true ∷ false ∷ false ∷ true ∷ true ∷ true ∷ true ∷ false ∷ true ∷ true ∷ false ∷ []
errors = refl

-- ---- what is carried

pub levels : map (λ (b : ℕ). carries Level (b ∷ [])) (0x00 ∷ 0x01 ∷ 0x02 ∷ []) ≡ true ∷ true ∷ false ∷ []
levels = refl

-- 0, 27 and 28 tags, 29, and a tag and a byte
pub tags : map (λ (n : ℕ). carries Tags (replicate n 0xE0)) (0 ∷ 243 ∷ 252 ∷ 261 ∷ 10 ∷ []) ≡ true ∷ true ∷ true ∷ false ∷ false ∷ []
tags = refl

-- 1 + 9 times the number is the count of three tags
pub counted : take 3 (answering Inventory (replicate 27 0xE0)) ≡ 0x80 ∷ 0x1C ∷ 0x03 ∷ []
counted = refl

-- ---- what is written

-- 29 tags are told before an output that is too short
pub ordered : (write_answer Inventory (replicate 261 0xE0) []).answer ≡ Err Invalid
ordered = refl

-- output past the message keeps what it held
pub kept : (write_error 0xFD (0xAA ∷ 0xBB ∷ 0xCC ∷ [])).bytes ≡ 0xFD ∷ 0x00 ∷ 0xCC ∷ []
kept = refl

-- ---- what is read

-- another family, a byte left over, one missing, and a code of another command
pub no_commands : map read_message ((0x01 ∷ 0xA2 ∷ 0x00 ∷ []) ∷ (0x02 ∷ 0xA2 ∷ 0x00 ∷ 0x00 ∷ []) ∷ (0x02 ∷ 0xA1 ∷ 0x01 ∷ []) ∷ (0x02 ∷ 0xA0 ∷ 0x01 ∷ 0x26 ∷ []) ∷ [])
    ≡ None ∷ None ∷ None ∷ None ∷ []
no_commands = refl

-- one tag, with a count of nine, and with a byte left over
pub no_inventories : map (read_answer Inventory) ((0x80 ∷ 0x09 ∷ 0x01 ∷ replicate 9 0xE0) ∷ (0x80 ∷ 0x0A ∷ 0x01 ∷ replicate 10 0xE0) ∷ (0x80 ∷ 0x0A ∷ 0x01 ∷ replicate 9 0xE0) ∷ [])
    ≡ Err AnswerError.Malformed ∷ Err AnswerError.Malformed ∷ Ok (part 3 9) ∷ []
no_inventories = refl

-- the chip's name, and with a byte left over
pub names : map (read_answer Idn) ((0x00 ∷ 0x0F ∷ replicate 15 0x4E) ∷ (0x00 ∷ 0x0F ∷ replicate 16 0x4E) ∷ []) ≡ Ok (part 2 15) ∷ Err AnswerError.Malformed ∷ []
names = refl

-- its error, and errors of the MCU's, with data and without
pub failures : map (read_answer Idn) ((0x8D ∷ 0x00 ∷ []) ∷ (0xFD ∷ 0x01 ∷ 0x00 ∷ []) ∷ (0xFD ∷ 0x00 ∷ []) ∷ []) ≡ Err (ChipError 0x8D) ∷ Err AnswerError.Malformed ∷ Err (BoardError 0xFD) ∷ []
failures = refl
