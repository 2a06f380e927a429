-- A line that is too long, one with no word, a comment, and a call.
-- Assumes nothing.
use Rattle.std.proofs.Common.{rules}
use Rattle.desk.proofs.Hearing.{too_long, empty, copied, called}
use Rattle.desk.proofs.Telling.{lent}
use Rattle.desk.proofs.answer.Goals as goal

pub returns-then-line-gt-LONGEST : goal.returns-then-line-gt-LONGEST
returns-then-line-gt-LONGEST c =
    let a = c.args in
    too_long a.post a.out.now a.room.now a.text.now a.bytes.now a.line.now a.number
    c.if-line-gt-LONGEST.true (lent (search rules) c.put.ensures.puts)

pub returns-then-line-start : goal.returns-then-line-start
returns-then-line-start c =
    let a = c.args in
    empty a.post a.out.now a.room.now a.text.now a.bytes.now a.line.now a.number c.if-line-gt-LONGEST.false c.skip-start.ensures c.if-line-start.true

pub returns-then-at-eq35 : goal.returns-then-at-eq35
returns-then-at-eq35 c =
    let a = c.args in
    copied a.post a.out.now a.room.now a.text.now a.bytes.now a.line.now a.number c.if-line-gt-LONGEST.false c.skip-start.ensures c.if-line-start.false
    c.at.ensures c.if-at-eq35.true (lent (search rules) c.put-then-at-eq35.ensures.puts)

pub returns : goal.returns
returns c =
    let a = c.args in
    called a.post a.out.now a.room.now a.text.now a.bytes.now a.line.now a.number c.if-line-gt-LONGEST.false c.skip-start.ensures c.if-line-start.false
    c.at.ensures c.if-at-eq35.false c.hear.ensures
