-- `race_lines::board_of` meets its contract.
use mathlib.Core.Path.{ap, ◌∙◌}
use Rattle.std.specs.ControlFlow.{continue_value}
use Rattle.race_lines.proofs.Lines.{board-is}
use Rattle.race_lines.proofs.board_of.Goals as goal

pub returns-in_err-unsigned_64-4 : goal.returns-in_err-unsigned_64-4
returns-in_err-unsigned_64-4 c =
    let text = c.args.fields.now.line.now in
    rw (
      ← board-is text c.unsigned_64.result c.unsigned_64-2.result c.unsigned_64-3.result c.unsigned_64-4.result c.unsigned_64.ensures c.unsigned_64-2.ensures c.unsigned_64-3.ensures c.unsigned_64-4.ensures,
      c.in_ok-unsigned_64.was,
      c.in_ok-unsigned_64-2.was,
      c.in_ok-unsigned_64-3.was,
      c.branch-unsigned_64-4.ensures ∙ ap continue_value c.in_err-unsigned_64-4.is,
      c.from_residual-in_err-unsigned_64-4.ensures,
    )

pub returns : goal.returns
returns c =
    let text = c.args.fields.now.line.now in
    rw (
      ← board-is text c.unsigned_64.result c.unsigned_64-2.result c.unsigned_64-3.result c.unsigned_64-4.result c.unsigned_64.ensures c.unsigned_64-2.ensures c.unsigned_64-3.ensures c.unsigned_64-4.ensures,
      c.in_ok-unsigned_64.was,
      c.in_ok-unsigned_64-2.was,
      c.in_ok-unsigned_64-3.was,
      c.in_ok-unsigned_64-4.was,
    )
