-- `race_lines::respond` meets its contract.
use native.Mathlib.Omega.{arith}
use Rattle.race_lines.proofs.Lines.{too_short, answered}
use Rattle.race_lines.proofs.respond.Goals as goal

pub returns-then-out-lt-ANSWER_MAX-clause-answer : goal.returns-then-out-lt-ANSWER_MAX-clause-answer
returns-then-out-lt-ANSWER_MAX-clause-answer c = (too_short c.args.line.now c.args.out.now (omega (arith, c.if-out-lt-ANSWER_MAX.true))).0

pub returns-then-out-lt-ANSWER_MAX-clause-bytes : goal.returns-then-out-lt-ANSWER_MAX-clause-bytes
returns-then-out-lt-ANSWER_MAX-clause-bytes c = (too_short c.args.line.now c.args.out.now (omega (arith, c.if-out-lt-ANSWER_MAX.true))).1

pub returns-clause-answer : goal.returns-clause-answer
returns-clause-answer c = (answered c.args.line.now c.args.out.now c.if-out-lt-ANSWER_MAX.false c.parse.ensures c.write_line.ensures.0).0

pub returns-clause-bytes : goal.returns-clause-bytes
returns-clause-bytes c = (answered c.args.line.now c.args.out.now c.if-out-lt-ANSWER_MAX.false c.parse.ensures c.write_line.ensures.0).1
