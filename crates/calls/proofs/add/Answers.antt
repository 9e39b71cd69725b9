-- `calls::add` meets its contract.
use mathlib.Core.Path.{◌≡◌, subst}
use lib.ListN.{length}
use mir.Syntax.{w16, w64}
use mir.Val.{of_z, to_z}
use borrow.Author.Rules.{rules}
use Rattle.answers.specs.Answers.{reply}
use Rattle.answers.specs.Returned.{answer_of}
use Rattle.coordinator.specs.Add.{add}
use Rattle.coordinator.specs.Calls.{CoordinatorCall, add_call}
use Rattle.server.specs.Calls.{call}
use Rattle.calls.specs.Meets.{OfCoordinator}
use Rattle.calls.proofs.Laws.{coordinator-meets}
use Rattle.calls.proofs.add.Goals as goal

pub returns : goal.returns
returns c =
    let a = c.args in
    let r = c.add in
    let pid : to_z w64 (of_z w64 a.pid) ≡ a.pid = search rules in
    let epoch : to_z w16 (of_z w16 a.epoch) ≡ a.epoch = search rules in
    let time : to_z w64 (of_z w64 a.time) ≡ a.time = search rules in
    subst (λ (d : CoordinatorCall). OfCoordinator (call d) a.s.now a.log.now (reply (answer_of r.result)) r.new.s r.new.log)
    (λ i. add_call a.name.now (pid i) (epoch i) a.set (time i))
    (coordinator-meets reply (add a.s.now (length a.log.now) a.name.now (to_z w64 (of_z w64 a.pid)) (to_z w16 (of_z w16 a.epoch)) a.set (to_z w64 (of_z w64 a.time))) a.s.now a.log.now _ _ _ r.ensures)
