-- `transactions::all_joined` meets its contract.
use Rattle.coordinator.specs.Add.{all_joined}
use Rattle.transactions.proofs.all_joined.Goals as goal

pub returns : goal.returns
unfolding all_joined
returns c = rw (c.is_begin.ensures, c.subset.ensures)
