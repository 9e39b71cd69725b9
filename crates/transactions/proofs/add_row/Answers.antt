-- `transactions::add_row_lem` meets its contract.
use mathlib.Core.Path.{sym, ◌∙◌}
use Rattle.transactions.proofs.AddSteps.{add-row-widened, add-row-begun}
use Rattle.transactions.proofs.add_row.Goals as goal

pub returns-then-is_begin : goal.returns-then-is_begin
returns-then-is_begin c = c.widened.ensures ∙ add-row-widened c.args.row _ _ (sym c.is_begin.ensures ∙ c.if-is_begin.true)

pub returns : goal.returns
returns c = c.begun.ensures ∙ add-row-begun c.args.row _ _ (sym c.is_begin.ensures ∙ c.if-is_begin.false)
