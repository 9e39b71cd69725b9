-- `race_lines::write_answer` meets its contract.
use native.Mathlib.Omega.{arith}
use Rattle.text.specs.Decimal.{decimal}
use Rattle.text.proofs.Lines.{last-wrote}
use Rattle.race.specs.Limits.{invalid_board}
use Rattle.race_lines.proofs.Lines.{forced-fields, not-forced-fields, refusal-short}
use Rattle.race_lines.proofs.write_answer.Goals as goal

pub write_field-requires : goal.write_field-requires
write_field-requires c = rw (c.from-in-Err.ensures, c.from.ensures) (omega (arith, refusal-short invalid_board (omega arith), c.requires))

pub returns-in-Ok-true : goal.returns-in-Ok-true
returns-in-Ok-true c = rw (c.in-Ok-true.is, c.in-Ok-true.field-0-test, forced-fields) (c.write_bytes.ensures, omega (arith, c.write_bytes.ensures.0))

pub returns-in-Ok-false : goal.returns-in-Ok-false
returns-in-Ok-false c =
    rw (c.in-Ok-false.is, c.in-Ok-false.field-0-test, not-forced-fields) (c.write_bytes-in-Ok-false.ensures, omega (arith, c.write_bytes-in-Ok-false.ensures.0))

pub returns-in-Err : goal.returns-in-Err
returns-in-Err c =
    let written = rw (c.from-in-Err.ensures, c.from.ensures) at c.write_field.ensures in
    rw c.in-Err.is (last-wrote (decimal invalid_board) c.args.out.now c.args.at written, omega (arith, refusal-short invalid_board (omega arith), written.0))
