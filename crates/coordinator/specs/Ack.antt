-- Ack(place, pid, epoch, position): a partition answered done to its order; the last one outstanding completes the transaction.
use Rattle.std.specs.Prelude.{ℕ, Bool, cond, not, ◌||◌, List, [], ◌∷◌, eqb, ℤ, pos}
use Rattle.bits.specs.Bits.{member, count}
use Rattle.numbers.specs.Signed.{eq_z}
use Rattle.row.specs.Row.{free, is_prepare, outstanding}
use Rattle.row.specs.Steps.{completed}
use Rattle.row.specs.declared.Row.{Row}
use Rattle.table.specs.Table.{row_at}
use Rattle.answers.specs.Numbers.{invalid_set, invalid_length, unknown_producer, wrong_epoch, not_flushed, wrong_status, not_joined}
use Rattle.answers.specs.Refusals.{Test, refuse, first_refusal, Decision, unless}
use Rattle.answers.specs.Answer.{Answer}
use Rattle.answers.specs.Answer.{Done, Refused}
use Rattle.coordinator.specs.Coordinator.{admits, unflushed, Action, keep, append, acknowledge}
use Rattle.coordinator.specs.declared.Coordinator.{Coordinator}

-- the tests of the row of the place
unfoldable pub ack_row_tests : ℕ → Row → ℤ → ℤ → ℕ → List Test
ack_row_tests flushed row pid epoch position =
    -- "10 … (Ack: place or pid)"
    refuse unknown_producer (free row || not (eq_z pid (pos row.pid))) ∷
    -- "11 epoch differs"
    refuse wrong_epoch (not (eq_z epoch (pos row.epoch))) ∷
    -- "12 not flushed"
    refuse not_flushed (unflushed flushed row) ∷
    -- "status other than 2, 3 is 13"
    refuse wrong_status (not (is_prepare row.status)) ∷
    -- "18 position not joined"
    refuse not_joined (not (member row.joined position)) ∷
    []

unfoldable pub ack_tests : Coordinator → ℕ → ℕ → ℤ → ℤ → ℕ → List Test
ack_tests s n place pid epoch position =
    refuse invalid_length (not (admits s n)) ∷
    -- "3 … or such a position"
    refuse invalid_set (not (member s.catalogue.all position)) ∷
    ack_row_tests s.flushed (row_at s.table place) pid epoch position

-- "the last one outstanding": no other is left
abbrev pub last_outstanding : Row → Bool
last_outstanding row = eqb (count (outstanding row)) 1

-- "a position already acknowledged is done, nothing changes"; "the last one outstanding appends COMPLETE_COMMIT or COMPLETE_ABORT"
unfoldable pub ack_action : Coordinator → ℕ → ℕ → Row → Action
ack_action s place position row =
    cond (member row.acknowledged position) keep
    (cond (last_outstanding row) (append place (completed row s.clock)) (acknowledge place position))

unfoldable pub ack : Coordinator → ℕ → ℕ → ℤ → ℤ → ℕ → Decision Answer Action
ack s n place pid epoch position =
    unless (first_refusal (ack_tests s n place pid epoch position)) Refused keep
    (record { answer = Done; action = ack_action s place position (row_at s.table place) })
