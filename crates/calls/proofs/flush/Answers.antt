-- `calls::flush` meets its contract.
use Rattle.answers.specs.Returned.{answer_of}
use Rattle.calls.proofs.Laws.{flush-meets}
use Rattle.calls.proofs.flush.Goals as goal

pub returns : goal.returns
returns c = flush-meets c.args.length c.args.s.now (answer_of c.flush.result) c.flush.new.s c.flush.ensures
