-- `log_commands::tick` meets its contract.
use mathlib.Core.Path.{refl, sym, ap}
use Rattle.answers.specs.Answers.{tick_reply}
use Rattle.answers.specs.Returned.{tick_place}
use Rattle.std.specs.Prelude.{Option, ℕ}
use Rattle.answers.proofs.Returned.{error_passed}
use Rattle.coordinator.specs.Tick.{tick as tick_decision}
use mir.Facts.{to_z-of_z}
use lib.ListN.{length}
use Rattle.session.proofs.CommandSteps.{coordinator-performs}
use Rattle.log_commands.proofs.tick.Goals as goal

pub returns-in_err-place : goal.returns-in_err-place
returns-in_err-place c words payloads =
    let a = c.args in
    rw (error_passed _ _ c.from_residual.ensures)
    (coordinator-performs a.s.now a.log.now words payloads 0 tick_reply (tick_decision a.s.now.coordinator (length a.log.now) a.time)
    (rw (to_z-of_z c.ranges.time) at c.in_err-place.ensures) refl refl)

pub returns-in-Some : goal.returns-in-Some
returns-in-Some c words payloads =
    let a = c.args in
    coordinator-performs a.s.now a.log.now words payloads 0 tick_reply (tick_decision a.s.now.coordinator (length a.log.now) a.time)
    (rw (to_z-of_z c.ranges.time) at c.in_ok-place.ensures) (sym (ap (λ (x : Option ℕ). tick_reply (tick_place x)) c.in-Some.is)) refl

pub returns-in-None : goal.returns-in-None
returns-in-None c words payloads =
    let a = c.args in
    coordinator-performs a.s.now a.log.now words payloads 0 tick_reply (tick_decision a.s.now.coordinator (length a.log.now) a.time)
    (rw (to_z-of_z c.ranges.time) at c.in_ok-place.ensures) (sym (ap (λ (x : Option ℕ). tick_reply (tick_place x)) c.in-None.is)) refl
