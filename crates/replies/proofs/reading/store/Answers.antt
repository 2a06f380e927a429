-- Nothing is to be written, or the data behind those in the room.
-- Assumes nothing.
use Rattle.std.proofs.Common.{◌≡◌, ℕ, ◌-◌, ◌≤◌, ◌<◌, List, length, take, drop, sym, ap, ap₂, ◌∙◌, arith, length-drop}
use Rattle.model.specs.declared.Form.{Form}
use Rattle.model.specs.declared.Phase.{Phase}
use Rattle.model.specs.declared.Step.TheVariants.{On}
use Rattle.model.specs.declared.Walk.{Walk}
use Rattle.words.specs.Words.{pasted}
use Rattle.model.specs.Replies.{walked, have, ahead}
use Rattle.model.proofs.Machine.{used_most}
use Rattle.replies.specs.Reading.{kept}
use Rattle.replies.proofs.Storing.{Writes, writes, copied}
use Rattle.replies.proofs.reading.store.Goals as goal

module _ (w : Walk) (p : Phase) (xs : List ℕ) (by : (f : Form) × (w ≡ walked f (On p) xs)) where
  -- what the walk says of the room
  written : (room : List ℕ) → Writes room p xs w.step w.used
  written room = writes by.0 room p xs w.step w.used (ap (λ (v : Walk). v.step) (sym by.1)) (ap (λ (v : Walk). v.used) (sym by.1))

  -- no more was read than is there
  most : w.used ≤ length xs
  most = omega (arith, ap (λ (v : Walk). v.used) by.1, used_most by.0 (On p) xs)

pub returns-then-to_keep-had : goal.returns-then-to_keep-had
returns-then-to_keep-had c a =
    (written c.args.walk c.args.phase c.args.piece.now c.requires.is_walked c.args.room.now).0
    (omega (arith, c.if-to_keep-had.true, c.to_keep.ensures, c.stored-had.ensures)) a

pub slice_bounds-copy_at-count : goal.slice_bounds-copy_at-count
slice_bounds-copy_at-count c =
    let more : have c.args.phase < kept c.args.walk.step c.args.phase = omega (arith, c.if-to_keep-had.false, c.to_keep.ensures, c.stored-had.ensures) in
    omega (arith, c.bytes_ahead-start.ensures, ((written c.args.walk c.args.phase c.args.piece.now c.requires.is_walked c.args.room.now).1 more).0)

pub slice_bounds-copy_at-start : goal.slice_bounds-copy_at-start
slice_bounds-copy_at-start c =
    let more : have c.args.phase < kept c.args.walk.step c.args.phase = omega (arith, c.if-to_keep-had.false, c.to_keep.ensures, c.stored-had.ensures) in
    omega (arith, c.bytes_ahead-start.ensures, ((written c.args.walk c.args.phase c.args.piece.now c.requires.is_walked c.args.room.now).1 more).0)

pub slice_bounds-copy_at-end : goal.slice_bounds-copy_at-end
slice_bounds-copy_at-end c = most c.args.walk c.args.phase c.args.piece.now c.requires.is_walked

pub returns : goal.returns
returns c a =
    let phase = c.args.phase in
    let piece = c.args.piece.now in
    let room = c.args.room.now in
    let u = c.args.walk.used in
    let by = c.requires.is_walked in
    let more : have phase < kept c.args.walk.step phase = omega (arith, c.if-to_keep-had.false, c.to_keep.ensures, c.stored-had.ensures) in
    let w = (written c.args.walk phase piece by room).1 more in
    let start = c.bytes_ahead-start.result in
    let put : c.copy_at.new.buffer ≡ pasted room (take (u - start) (drop start piece)) c.stored-had.result = c.copy_at.ensures in
    put
    ∙ ap₂ (λ (start h : ℕ). pasted room (take (u - start) (drop start piece)) h) c.bytes_ahead-start.ensures c.stored-had.ensures
    ∙ copied room (drop (ahead phase) piece) (have phase) (u - ahead phase) (omega (arith, w.0, w.1, c.requires.room_enough))
    (omega (arith, length-drop (ahead phase) piece, most c.args.walk phase piece by))
    ∙ w.2 a
