-- `race_lines::write_line` meets its contract.
use native.Mathlib.Omega.{arith}
use Rattle.text.proofs.Lines.{line_wrote, length-line}
use Rattle.race.specs.Search.{race_answer}
use Rattle.race_lines.specs.Lines.{race_word, answer_fields}
use Rattle.race_lines.proofs.Lines.{unknown-line}
use Rattle.race_lines.proofs.write_line.Goals as goal

pub returns-in-Some : goal.returns-in-Some
returns-in-Some c =
    let fs = answer_fields (race_answer c.in-Some.board) in
    let f = rw c.race.ensures at c.write_answer-next.ensures.0 in (
      rw c.in-Some.is
          (line_wrote race_word fs c.args.out.now 0 (omega (arith, length-line race_word fs, c.write_bytes-next.ensures.0, f.0, c.write_answer-next.ensures.1, c.requires))
          c.write_bytes-next.ensures f c.write_bytes.ensures),
      omega (arith, c.write_bytes.ensures.0, c.write_answer-next.ensures.1, c.write_bytes-next.ensures.0),
    )

pub returns-in-None : goal.returns-in-None
returns-in-None c =
    (rw (c.in-None.is, unknown-line) c.write_bytes-in-None.ensures, omega (arith, c.write_bytes-in-None.ensures.0))
