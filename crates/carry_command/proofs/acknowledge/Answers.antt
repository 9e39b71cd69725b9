-- `carry_command::acknowledge` meets its contract.
use mathlib.Core.Path.{◌≡◌, refl, sym}
use mathlib.Core.List.{[], ◌∷◌}
use lib.IntN.{pos}
use lib.ListN.{length}
use mir.Syntax.{w16, w64}
use mir.Val.{to_z, of_z}
use borrow.Author.Rules.{rules}
use borrow.Author.Tests.{ne_eqb}
use Rattle.answers.specs.Answers.{reply}
use Rattle.answers.specs.Answer.{Answer}
use Rattle.answers.proofs.Returned.{number-positive, error_passed}
use Rattle.coordinator.specs.Ack.{ack as ack_decision}
use Rattle.session.specs.Commands.{answered}
use Rattle.session.specs.Memory.{index_of}
use Rattle.session.proofs.CommandSteps.{coordinator-performs}
use Rattle.carry_command.proofs.acknowledge.Goals as goal

pub returns-in_err-ack : goal.returns-in_err-ack
returns-in_err-ack c words payloads =
    let a = c.args in
    let o = a.order in
    let p : to_z w64 (of_z w64 o.pid) ≡ o.pid = search rules in
    let q : to_z w16 (of_z w16 o.epoch) ≡ o.epoch = search rules in
    let results = pos o.place ∷ pos o.position ∷ pos o.verdict ∷ [] in
    rw (error_passed _ _ c.from_residual.ensures)
    (coordinator-performs a.s.now a.log.now words payloads (index_of o.position) (λ (x : Answer). answered (reply x).number results)
    (ack_decision a.s.now.coordinator (length a.log.now) o.place o.pid o.epoch o.position)
    (rw (p, q) at c.in_err-ack.ensures) (sym (rw (ne_eqb _ 0 (number-positive c.in_err-ack.field-0.0)) refl)) refl)

pub returns : goal.returns
returns c words payloads =
    let a = c.args in
    let o = a.order in
    let p : to_z w64 (of_z w64 o.pid) ≡ o.pid = search rules in
    let q : to_z w16 (of_z w16 o.epoch) ≡ o.epoch = search rules in
    let results = pos o.place ∷ pos o.position ∷ pos o.verdict ∷ [] in
    coordinator-performs a.s.now a.log.now words payloads (index_of o.position) (λ (x : Answer). answered (reply x).number results)
    (ack_decision a.s.now.coordinator (length a.log.now) o.place o.pid o.epoch o.position)
    (rw (p, q) at c.in_ok-ack.ensures) refl refl
