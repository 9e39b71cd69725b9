-- `calls::tick` meets its contract.
use mathlib.Core.Path.{◌≡◌, subst}
use lib.ListN.{length}
use mir.Syntax.{w64}
use mir.Val.{of_z, to_z}
use borrow.Author.Rules.{rules}
use Rattle.answers.specs.Answers.{tick_reply}
use Rattle.answers.specs.Returned.{tick_answer_of}
use Rattle.coordinator.specs.Tick.{tick}
use Rattle.coordinator.specs.Calls.{CoordinatorCall, tick_call}
use Rattle.server.specs.Calls.{call}
use Rattle.calls.specs.Meets.{OfCoordinator}
use Rattle.calls.proofs.Laws.{coordinator-meets}
use Rattle.calls.proofs.tick.Goals as goal

pub returns : goal.returns
returns c =
    let a = c.args in
    let r = c.tick in
    let time : to_z w64 (of_z w64 a.time) ≡ a.time = search rules in
    subst (λ (d : CoordinatorCall). OfCoordinator (call d) a.s.now a.log.now (tick_reply (tick_answer_of r.result)) r.new.s r.new.log)
    (λ i. tick_call (time i))
    (coordinator-meets tick_reply (tick a.s.now (length a.log.now) (to_z w64 (of_z w64 a.time))) a.s.now a.log.now _ _ _ r.ensures)
