-- `lines::last_line` meets its contract.
use mathlib.Core.Path.{refl}
use native.Mathlib.Omega.{arith}
use Rattle.lines.proofs.Steps.{last-long, last_none, last_line}
use Rattle.lines.proofs.last_line.Goals as goal

pub returns-then-cursor : goal.returns-then-cursor
returns-then-cursor c = (last-long c.args.buffer.now c.args.cursor refl c.if-cursor.true, tt)

pub returns-then-len-eq0 : goal.returns-then-len-eq0
returns-then-len-eq0 c =
    (last_none c.args.buffer.now c.args.cursor c.pending-len.ensures c.if-cursor.false c.if-len-eq0.true, tt)

pub returns : goal.returns
returns c =
    (last_line c.args.buffer.now c.args.cursor c.pending-len.ensures c.if-cursor.false c.if-len-eq0.false, omega (arith, c.pending-len.ensures))
