-- `log_commands::add` meets its contract.
use mathlib.Core.Path.{refl}
use Rattle.answers.specs.Answers.{reply}
use Rattle.answers.proofs.Returned.{error_passed}
use Rattle.coordinator.specs.Add.{add as add_decision}
use mir.Facts.{to_z-of_z}
use lib.ListN.{length}
use Rattle.session.proofs.CommandSteps.{coordinator-performs}
use Rattle.log_commands.proofs.add.Goals as goal

pub returns-in_err-add : goal.returns-in_err-add
returns-in_err-add c words payloads =
    let a = c.args in
    rw (error_passed _ _ c.from_residual.ensures)
    (coordinator-performs a.s.now a.log.now words payloads 0 reply (add_decision a.s.now.coordinator (length a.log.now) a.name.now a.pid a.epoch a.set a.time)
    (rw (to_z-of_z c.ranges.pid, to_z-of_z c.ranges.epoch, to_z-of_z c.ranges.time) at c.in_err-add.ensures) refl refl)

pub returns : goal.returns
returns c words payloads =
    let a = c.args in
    coordinator-performs a.s.now a.log.now words payloads 0 reply (add_decision a.s.now.coordinator (length a.log.now) a.name.now a.pid a.epoch a.set a.time)
    (rw (to_z-of_z c.ranges.pid, to_z-of_z c.ranges.epoch, to_z-of_z c.ranges.time) at c.in_ok-add.ensures) refl refl
