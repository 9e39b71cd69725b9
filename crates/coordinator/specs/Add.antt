-- Add(name, pid, epoch, set, time): partitions join a transaction, which begins with the first of them.
use Rattle.std.specs.Prelude.{ℕ, Bool, cond, not, ◌&&◌, ◌||◌, List, [], ◌∷◌, eqb, ℤ, pos}
use Rattle.bits.specs.Bits.{subset}
use Rattle.numbers.specs.Signed.{eq_z}
use Rattle.record.specs.Record.{name_fits}
use Rattle.row.specs.Limits.{epoch_max}
use Rattle.row.specs.Row.{is_begin, is_prepare}
use Rattle.row.specs.Steps.{begun, widened}
use Rattle.row.specs.declared.Row.{Row}
use Rattle.table.specs.Table.{id_count}
use Rattle.answers.specs.Numbers.{invalid_name, invalid_set, invalid_length, unknown_producer, wrong_epoch, not_flushed, busy, no_log_room}
use Rattle.answers.specs.Refusals.{Test, refuse, first_refusal, Decision, unless}
use Rattle.answers.specs.Answer.{Answer}
use Rattle.answers.specs.Answer.{Done, Refused}
use Rattle.coordinator.specs.Coordinator.{admits, place_of_name, row_of, not_held, unflushed, clock_at, log_full, Action, keep, advance, append}
use Rattle.coordinator.specs.declared.Coordinator.{Coordinator}

-- "nothing is appended if all are joined"
unfoldable pub all_joined : Row → ℕ → Bool
all_joined row set = is_begin row.status && subset set row.joined

-- "status 0, 4, 5 begins; 1 widens"
unfoldable pub add_row : Row → ℕ → ℕ → Row
add_row row set clock = cond (is_begin row.status) (widened row set clock) (begun row set clock)

-- the tests of the row that holds the name
unfoldable pub add_row_tests : Coordinator → Row → ℤ → ℕ → ℤ → List Test
add_row_tests s row epoch set time =
    -- "11 epoch differs"; "Epoch 32767 is refusal 11."
    refuse wrong_epoch (not (eq_z epoch (pos row.epoch)) || eq_z epoch (pos epoch_max)) ∷
    -- "12 not flushed"
    refuse not_flushed (unflushed s.flushed row) ∷
    -- "Status 2, 3: 14."
    refuse busy (is_prepare row.status) ∷
    -- "17: … an Add that appends …"
    refuse no_log_room (not (all_joined row set) && log_full s (add_row row set (clock_at s time)) (id_count s.table)) ∷
    []

unfoldable pub add_tests : Coordinator → ℕ → List ℕ → ℤ → ℤ → ℕ → ℤ → List Test
add_tests s n name pid epoch set time =
    refuse invalid_length (not (admits s n)) ∷
    refuse invalid_name (not (name_fits name)) ∷
    -- "3 set empty or outside the catalogue"
    refuse invalid_set (eqb set 0 || not (subset set s.catalogue.all)) ∷
    -- "10 name not held or pid differs"
    refuse unknown_producer (not_held s name pid) ∷
    add_row_tests s (row_of s name) epoch set time

-- the clock goes on whether a record is appended or not
unfoldable pub add_action : Coordinator → List ℕ → ℕ → ℤ → Action
add_action s name set time =
    cond (all_joined (row_of s name) set) (advance (clock_at s time)) (append (place_of_name s name) (add_row (row_of s name) set (clock_at s time)))

unfoldable pub add : Coordinator → ℕ → List ℕ → ℤ → ℤ → ℕ → ℤ → Decision Answer Action
add s n name pid epoch set time =
    unless (first_refusal (add_tests s n name pid epoch set time)) Refused keep (record { answer = Done; action = add_action s name set time })
