-- `calls::open_partition` meets its contract.
use Rattle.calls.proofs.Laws.{words-meets}
use Rattle.calls.proofs.open_partition.Goals as goal

pub returns : goal.returns
returns c = words-meets c.args.n c.open_partition.result c.open_partition.ensures
