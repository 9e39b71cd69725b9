-- `calls::produce` meets its contract.
use mathlib.Core.Path.{◌≡◌, subst}
use lib.ListN.{length}
use mir.Syntax.{w16, w32, w64}
use mir.Val.{of_z, to_z}
use borrow.Author.Rules.{rules}
use Rattle.answers.specs.Answers.{produce_reply}
use Rattle.answers.specs.Returned.{produce_answer_of}
use Rattle.server.specs.Produce.{produce}
use Rattle.server.specs.Calls.{Call, produce_call}
use Rattle.calls.specs.Meets.{OfPartition}
use Rattle.calls.proofs.Laws.{partition-meets}
use Rattle.calls.proofs.produce.Goals as goal

pub returns : goal.returns
returns c =
    let a = c.args in
    let r = c.produce in
    let pid : to_z w64 (of_z w64 a.pid) ≡ a.pid = search rules in
    let epoch : to_z w16 (of_z w16 a.epoch) ≡ a.epoch = search rules in
    let sequence : to_z w32 (of_z w32 a.sequence) ≡ a.sequence = search rules in
    subst (λ (d : Call). OfPartition d a.s.now a.p.now a.words.now (produce_reply (produce_answer_of r.result)) r.new.p r.new.words)
    (λ i. produce_call a.name.now (pid i) (epoch i) a.position (sequence i) a.payload)
    (partition-meets produce_reply (produce a.s.now a.p.now (length a.words.now) a.name.now (to_z w64 (of_z w64 a.pid)) (to_z w16 (of_z w16 a.epoch)) a.position (to_z w32 (of_z w32 a.sequence)) a.payload) a.p.now a.words.now _ _ _ r.ensures a.s.now)
