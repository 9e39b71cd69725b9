-- `log_commands::init` meets its contract.
use mathlib.Core.Path.{◌≡◌, refl, sym, ap}
use mir.Syntax.{w16, w64}
use mir.Val.{to_z, of_z}
use borrow.Author.Rules.{rules}
use Rattle.answers.specs.Answers.{init_reply}
use Rattle.answers.specs.Returned.{init_given}
use Rattle.answers.specs.declared.Initialized.{Initialized}
use Rattle.answers.proofs.Returned.{error_passed}
use Rattle.coordinator.specs.Init.{init as init_decision}
use mir.Facts.{to_z-of_z}
use lib.ListN.{length}
use Rattle.session.proofs.CommandSteps.{coordinator-performs}
use Rattle.log_commands.proofs.init.Goals as goal

pub returns-in_err-pid : goal.returns-in_err-pid
returns-in_err-pid c words payloads =
    let a = c.args in
    rw (error_passed _ _ c.from_residual.ensures)
    (coordinator-performs a.s.now a.log.now words payloads 0 init_reply (init_decision a.s.now.coordinator (length a.log.now) a.name.now a.timeout a.time)
    (rw (to_z-of_z c.ranges.timeout, to_z-of_z c.ranges.time) at c.in_err-pid.ensures) refl refl)

pub returns-in-Given : goal.returns-in-Given
returns-in-Given c words payloads =
    let a = c.args in
    let k : to_z w64 (of_z w64 c.in-Given.pid) ≡ c.in-Given.pid = search rules in
    let l : to_z w16 (of_z w16 c.in-Given.epoch) ≡ c.in-Given.epoch = search rules in
    coordinator-performs a.s.now a.log.now words payloads 0 init_reply (init_decision a.s.now.coordinator (length a.log.now) a.name.now a.timeout a.time)
    (rw (to_z-of_z c.ranges.timeout, to_z-of_z c.ranges.time) at c.in_ok-pid.ensures) (rw (k, l) (sym (ap (λ (x : Initialized). init_reply (init_given x)) c.in-Given.is))) refl

pub returns-in-Aborting : goal.returns-in-Aborting
returns-in-Aborting c words payloads =
    let a = c.args in
    coordinator-performs a.s.now a.log.now words payloads 0 init_reply (init_decision a.s.now.coordinator (length a.log.now) a.name.now a.timeout a.time)
    (rw (to_z-of_z c.ranges.timeout, to_z-of_z c.ranges.time) at c.in_ok-pid.ensures) (sym (ap (λ (x : Initialized). init_reply (init_given x)) c.in-Aborting.is)) refl
