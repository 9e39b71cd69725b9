-- `lines::keep` meets its contract.
use mathlib.Core.Path.{◌∙◌}
use native.Mathlib.Omega.{arith}
use Rattle.lines.proofs.Steps.{drop-skipped, drop-full, keep-cursor, keep-bytes, keep-none}
use Rattle.lines.proofs.keep.Goals as goal

pub returns-then-cursor : goal.returns-then-cursor
returns-then-cursor c =
    let d = drop-skipped c.args.buffer.now c.args.cursor c.pending-n.ensures c.if-cursor.true in
    record {
      answer = d.0;
      bytes = d.1;
      within = omega arith;
    }

pub returns-then-n-buffer : goal.returns-then-n-buffer
returns-then-n-buffer c =
    let d = drop-full c.args.buffer.now c.args.cursor c.pending-n.ensures c.if-cursor.false c.if-n-buffer.true in
    record {
      answer = d.0;
      bytes = d.1;
      within = omega arith;
    }

pub returns-then-n-gt0 : goal.returns-then-n-gt0
returns-then-n-gt0 c =
    let b = c.args.buffer.now in record {
      answer = keep-cursor b c.args.cursor c.pending-n.ensures c.if-cursor.false c.if-n-buffer.false;
      bytes = c.move_to_front.ensures ∙ keep-bytes b c.args.cursor c.pending-n.ensures c.if-cursor.false c.if-n-buffer.false;
      within = omega (arith, c.pending-n.ensures);
    }

pub returns-else-n-gt0 : goal.returns-else-n-gt0
returns-else-n-gt0 c =
    let b = c.args.buffer.now in record {
      answer = keep-cursor b c.args.cursor c.pending-n.ensures c.if-cursor.false c.if-n-buffer.false;
      bytes = keep-none b c.args.cursor c.pending-n.ensures c.if-cursor.false c.if-n-buffer.false c.if-n-gt0.false;
      within = omega (arith, c.pending-n.ensures);
    }
