-- `calls::read` meets its contract.
use Rattle.answers.specs.Returned.{read_answer_of}
use Rattle.calls.proofs.Laws.{read_meets}
use Rattle.calls.proofs.read.Goals as goal

pub returns : goal.returns
returns c =
    let a = c.args in
    read_meets a.from a.p.now a.words.now a.out.now (read_answer_of c.read.result) c.read.new.out c.read.ensures
