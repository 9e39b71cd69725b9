-- `race_lines::parse` meets its contract.
use mathlib.Core.Path.{sym, ◌∙◌}
use Rattle.race_lines.proofs.Lines.{off, on, request-count, request-word, request-is}
use Rattle.race_lines.proofs.parse.Goals as goal

pub returns-then-not-has_exactly : goal.returns-then-not-has_exactly
returns-then-not-has_exactly c =
    let n = rw c.split-fields.ensures at c.has_exactly.ensures in
    request-count c.args.line.now (sym n ∙ c.if-not-has_exactly.true)

pub returns-then-ne : goal.returns-then-ne
returns-then-ne c =
    let n = rw c.split-fields.ensures at c.has_exactly.ensures in
    request-word c.args.line.now (sym n ∙ c.if-not-has_exactly.false) (off (rw (c.field.ensures, c.as_slice.ensures, c.split-fields.ensures) at c.ne.ensures) c.if-ne.true)

pub returns : goal.returns
returns c =
    let n = rw c.split-fields.ensures at c.has_exactly.ensures in
    rw (c.board_of.ensures, c.split-fields.ensures) (request-is c.args.line.now (sym n ∙ c.if-not-has_exactly.false) (on (rw (c.field.ensures, c.as_slice.ensures, c.split-fields.ensures) at c.ne.ensures) c.if-ne.false))
