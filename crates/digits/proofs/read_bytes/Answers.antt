-- What is left to read decides: from behind the blanks it has no byte, one byte, or a pair.
-- Assumes nothing.
use mathlib.Core.Path.{subst⁻¹}
use lib.ListN.{set}
use Rattle.std.proofs.Common.{ℕ, List, ◌≡◌, ◌+◌, ◌-◌, ◌≤◌, ap, length, arith}
use Rattle.std.proofs.lemmas.List.{length-drop}
use Rattle.digits.specs.Hex.{read_on, read_bytes}
use Rattle.digits.proofs.Hex.{from_place, no_longer, behind_pair, within, no_more, at_end, at_one, at_no_pair, at_no_room, at_room}
use Rattle.digits.proofs.read_bytes.Goals as goal

pub loop-rest-init : goal.loop-rest-init
loop-rest-init c =
    let is = c.after-rest.ensures in (
      omega (arith, ap length is, no_longer c.args.line.now c.args.from),
      subst⁻¹ (λ (l : List ℕ). read_on l (length c.args.line.now - length l) c.args.bytes.now 0 ≡ read_bytes c.args.line.now c.args.from c.args.bytes.now) is
          (from_place c.args.line.now c.args.from c.args.bytes.now),
    )

pub returns-in-empty : goal.returns-in-empty
returns-in-empty c =
    let l = c.loop-rest in
    at_end c.args.line.now l.rest.now l.bytes l.n c.past_blanks-rest.ensures l.invariant.0 l.invariant.1 c.in-empty.len_below

pub overflow_sub-result : goal.overflow_sub-result
overflow_sub-result c =
    let l = c.loop-rest in within c.args.line.now l.rest.now l.bytes l.n c.past_blanks-rest.ensures l.invariant.0 l.invariant.1

pub returns-in_default : goal.returns-in_default
returns-in_default c =
    let l = c.loop-rest in
    at_one c.args.line.now l.rest.now l.bytes l.n c.past_blanks-rest.ensures l.invariant.0 l.invariant.1 c.in_default.len_at_least c.in_default.len_below

pub overflow_sub-result-in_default-byte_of : goal.overflow_sub-result-in_default-byte_of
overflow_sub-result-in_default-byte_of c =
    let l = c.loop-rest in within c.args.line.now l.rest.now l.bytes l.n c.past_blanks-rest.ensures l.invariant.0 l.invariant.1

pub returns-in_default-byte_of : goal.returns-in_default-byte_of
returns-in_default-byte_of c =
    let l = c.loop-rest in
    at_no_pair c.args.line.now l.rest.now l.bytes l.n c.past_blanks-rest.ensures l.invariant.0 l.invariant.1 (omega arith) c.byte_of.ensures c.in_default-byte_of.is

pub overflow_sub-result-then-bytes-n : goal.overflow_sub-result-then-bytes-n
overflow_sub-result-then-bytes-n c =
    let l = c.loop-rest in within c.args.line.now l.rest.now l.bytes l.n c.past_blanks-rest.ensures l.invariant.0 l.invariant.1

pub returns-then-bytes-n : goal.returns-then-bytes-n
returns-then-bytes-n c =
    let l = c.loop-rest in
    at_no_room c.args.line.now l.rest.now l.bytes l.n c.past_blanks-rest.ensures l.invariant.0 l.invariant.1 (omega arith) c.byte_of.ensures c.in-Some.value c.in-Some.is c.if-bytes-n.true

pub loop-rest-smaller : goal.loop-rest-smaller
loop-rest-smaller c =
    let l = c.loop-rest in
    let h = no_more c.args.line.now l.rest.now l.bytes l.n c.past_blanks-rest.ensures l.invariant.0 l.invariant.1 in
    omega (arith, h, ap length (behind_pair c.past_blanks-rest.result.now), length-drop 2 c.past_blanks-rest.result.now)

pub loop-rest-preserved : goal.loop-rest-preserved
loop-rest-preserved c =
    let l = c.loop-rest in
    let line = c.args.line.now in
    let left = c.past_blanks-rest.result.now in
    let w = within line l.rest.now l.bytes l.n c.past_blanks-rest.ensures l.invariant.0 l.invariant.1 in
    subst⁻¹ (λ (more : List ℕ).
    (length more ≤ length line)
    × (read_on more (length line - length more) (set l.bytes l.n c.in-Some.value) (l.n + 1) ≡ read_bytes line c.args.from c.args.bytes.now))
    (behind_pair left) (
      omega (arith, w, length-drop 2 left),
      at_room line l.rest.now l.bytes l.n c.past_blanks-rest.ensures l.invariant.0 l.invariant.1 (omega arith) c.byte_of.ensures c.in-Some.value c.in-Some.is c.if-bytes-n.false,
    )
