-- `session::opened` meets its contract.
use Rattle.session.proofs.CommandSteps.{opened-as}
use Rattle.session.proofs.opened.Goals as goal

pub returns : goal.returns
returns c = opened-as _ _ _ c.opening.ensures c.blank_state.ensures c.unwrap_or-coordinator.ensures c.open_partition-empty.ensures
