-- The table marks what the paper does, of every byte.
-- Assumes nothing.
use Rattle.std.proofs.Common.{◌≡◌, ℕ, ◌/◌, ◌%◌, ◌^◌, ◌<◌, Bool, ◌&&◌, [], nat_eq, bit_and, eq-eqb, sym, ap, ◌∙◌, arith}
use Rattle.std.specs.Bool.{beq}
use Rattle.std.proofs.lemmas.Nat.{and_mask}
use Rattle.words.specs.Words.{bit}
use Rattle.words.proofs.Words.{none_failed, same_on_bytes}
use Rattle.model.specs.Replies.{is_error}
use Rattle.table.specs.Errors.{marked, mistaken}
use Rattle.table.proofs.is_error.Goals as goal

rule : (table : ℕ) → mistaken table ≡ [] → (b : ℕ) → b < 256 → marked table b ≡ is_error b
rule table e = same_on_bytes (marked table) is_error (none_failed (λ (b : ℕ). beq (marked table b) (is_error b)) 256 [] e).1

-- a bit by masks
looked : (table b : ℕ) → nat_eq (bit_and (table / 2 ^ bit_and b 0x0F) 1) 1 ≡ bit (b % 16) table
looked table b = ap (λ (n : ℕ). nat_eq n 1) (and_mask (table / 2 ^ bit_and b 0x0F) 1 ∙ ap (λ (k : ℕ). table / 2 ^ k % 2) (and_mask b 4))

pub returns-then-byte-eq8 : goal.returns-then-byte-eq8
returns-then-byte-eq8 c =
    let b = c.args.byte in
    let table = c.errors.result in
    looked table b
    ∙ ap (λ (s : Bool). s && bit (b % 16) table) (sym (eq-eqb (b / 16) 8 c.if-byte-eq8.true))
    ∙ rule table c.errors.ensures b (omega arith)
