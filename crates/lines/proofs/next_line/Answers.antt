-- `lines::next_line` meets its contract.
use native.Mathlib.Omega.{arith}
use Rattle.lines.proofs.Steps.{next-long, next-line, next_more, place-within}
use Rattle.lines.proofs.next_line.Goals as goal

pub overflow_add-rest : goal.overflow_add-rest
overflow_add-rest c =
    omega (arith, (place-within c.args.buffer.now c.args.cursor c.pending.ensures c.line_end.ensures c.in-Some.is).1)

pub returns-then-cursor : goal.returns-then-cursor
returns-then-cursor c =
    let w = place-within c.args.buffer.now c.args.cursor c.pending.ensures c.line_end.ensures c.in-Some.is in
    (next-long c.args.buffer.now c.args.cursor c.pending.ensures c.line_end.ensures c.in-Some.is c.if-cursor.true, (omega (arith, w.0), omega (arith, w.1)))

pub overflow_sub-result : goal.overflow_sub-result
overflow_sub-result c = (place-within c.args.buffer.now c.args.cursor c.pending.ensures c.line_end.ensures c.in-Some.is).0

pub returns-else-cursor : goal.returns-else-cursor
returns-else-cursor c =
    let w = place-within c.args.buffer.now c.args.cursor c.pending.ensures c.line_end.ensures c.in-Some.is in
    (next-line c.args.buffer.now c.args.cursor c.pending.ensures c.line_end.ensures c.in-Some.is c.if-cursor.false, (omega (arith, w.0, w.1), omega (arith, w.0), omega (arith, w.1)))

pub returns-in-None : goal.returns-in-None
returns-in-None c = (next_more c.args.buffer.now c.args.cursor c.pending.ensures c.line_end.ensures c.in-None.is, tt)
