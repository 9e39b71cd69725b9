-- `calls::init` meets its contract.
use mathlib.Core.Path.{◌≡◌, subst}
use lib.ListN.{length}
use mir.Syntax.{w32, w64}
use mir.Val.{of_z, to_z}
use borrow.Author.Rules.{rules}
use Rattle.answers.specs.Answers.{init_reply}
use Rattle.answers.specs.Returned.{init_answer_of}
use Rattle.coordinator.specs.Init.{init}
use Rattle.coordinator.specs.Calls.{CoordinatorCall, init_call}
use Rattle.server.specs.Calls.{call}
use Rattle.calls.specs.Meets.{OfCoordinator}
use Rattle.calls.proofs.Laws.{coordinator-meets}
use Rattle.calls.proofs.init.Goals as goal

pub returns : goal.returns
returns c =
    let a = c.args in
    let r = c.init in
    let timeout : to_z w32 (of_z w32 a.timeout) ≡ a.timeout = search rules in
    let time : to_z w64 (of_z w64 a.time) ≡ a.time = search rules in
    subst (λ (d : CoordinatorCall). OfCoordinator (call d) a.s.now a.log.now (init_reply (init_answer_of r.result)) r.new.s r.new.log)
    (λ i. init_call a.name.now (timeout i) (time i))
    (coordinator-meets init_reply (init a.s.now (length a.log.now) a.name.now (to_z w32 (of_z w32 a.timeout)) (to_z w64 (of_z w64 a.time))) a.s.now a.log.now _ _ _ r.ensures)
