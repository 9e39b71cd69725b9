-- Init(name, timeout, time): a producer takes a name, with a new epoch or a new pid.
use Rattle.std.specs.Prelude.{ℕ, ◌+◌, Bool, cond, not, ◌&&◌, ◌||◌, List, [], ◌∷◌, leb, ltb, ℤ, pos}
use Rattle.std.specs.Int.{w16, w64}
use Rattle.numbers.specs.Signed.{in_range, signed_of, to_nat}
use Rattle.numbers.specs.Padded.{padded}
use Rattle.record.specs.Limits.{name_max, timeout_max}
use Rattle.record.specs.Record.{name_fits}
use Rattle.record.specs.declared.Status.TheVariants.{PrepareAbort}
use Rattle.row.specs.Limits.{epoch_last}
use Rattle.row.specs.Row.{is_begin, is_prepare}
use Rattle.row.specs.Steps.{initialized, prepared, fenced, raise}
use Rattle.row.specs.declared.Row.{Row}
use Rattle.answers.specs.Limits.{places}
use Rattle.table.specs.Table.{place_for, lowest_free, id_count}
use Rattle.answers.specs.Numbers.{invalid_name, invalid_timeout, invalid_length, not_flushed, busy, too_many_names, pids_spent, no_log_room}
use Rattle.answers.specs.Refusals.{Test, refuse, first_refusal, Decision, unless}
use Rattle.answers.specs.InitAnswer.{InitAnswer}
use Rattle.answers.specs.InitAnswer.{Given, Aborting, Refused}
use Rattle.coordinator.specs.Coordinator.{admits, row_of, holds_name, unflushed, clock_at, new_pid, log_full, Action, keep, append}
use Rattle.coordinator.specs.declared.Coordinator.{Coordinator}

-- "same pid and epoch one higher while the held epoch is below 32766, else a pid above all earlier ones with epoch 0"
abbrev pub needs_pid : Bool → Row → Bool
needs_pid known row = not known || leb epoch_last row.epoch

-- the record of status 0 that Init appends, of a padded name, for what is held of it
unfoldable pub init_row : Coordinator → List ℕ → Bool → Row → ℤ → ℤ → Row
init_row s name known row timeout time =
    cond (needs_pid known row)
    (initialized name (new_pid s) 0 (to_nat timeout) (clock_at s time))
    (initialized name row.pid (row.epoch + 1) (to_nat timeout) (clock_at s time))

-- how many ids are held then
abbrev pub ids_then : Coordinator → Bool → ℕ
ids_then s known = cond known 0 1 + id_count s.table

-- the tests of a padded name, for what is held of it; 15, 16 and 17 are not for status 1
unfoldable pub init_row_tests : Coordinator → List ℕ → Bool → Row → ℤ → ℤ → List Test
init_row_tests s name known row timeout time =
    -- "12 not flushed"
    refuse not_flushed (unflushed s.flushed row) ∷
    -- "Status 2, 3: refusal 14."
    refuse busy (is_prepare row.status) ∷
    -- "15 a 33rd name"
    refuse too_many_names (not known && not (ltb (lowest_free s.table) places)) ∷
    -- "16 pids spent"
    refuse pids_spent (not (is_begin row.status) && needs_pid known row && ltb s.last (new_pid s)) ∷
    -- "17: Init (outside status 1) …"
    refuse no_log_room (not (is_begin row.status) && log_full s (init_row s name known row timeout time) (ids_then s known)) ∷
    []

unfoldable pub init_tests : Coordinator → ℕ → List ℕ → ℤ → ℤ → List Test
init_tests s n name timeout time =
    refuse invalid_length (not (admits s n)) ∷
    -- "1 name"
    refuse invalid_name (not (name_fits name)) ∷
    -- "2 timeout not 1..900000"
    refuse invalid_timeout (not (in_range (pos 1) (pos timeout_max) timeout)) ∷
    init_row_tests s (padded name_max name) (holds_name s name) (row_of s name) timeout time

-- "answer pid, epoch"
abbrev pub given : ℕ → Row → Decision InitAnswer Action
given place row = record { answer = Given (signed_of w64 row.pid) (signed_of w16 row.epoch); action = append place row }

-- "Status 1: PREPARE_ABORT, epoch one higher, answer ABORTING."
abbrev pub aborting : ℕ → Row → ℕ → Decision InitAnswer Action
aborting place row clock = record { answer = Aborting; action = append place (prepared row PrepareAbort (raise fenced row.epoch) clock) }

-- "unknown name, or status 0, 4, 5: status 0 as above"
unfoldable pub init_accepted : Coordinator → List ℕ → ℤ → ℤ → Decision InitAnswer Action
init_accepted s name timeout time =
    let place = place_for s.table (padded name_max name) in
    cond (is_begin (row_of s name).status)
    (aborting place (row_of s name) (clock_at s time))
    (given place (init_row s (padded name_max name) (holds_name s name) (row_of s name) timeout time))

unfoldable pub init : Coordinator → ℕ → List ℕ → ℤ → ℤ → Decision InitAnswer Action
init s n name timeout time = unless (first_refusal (init_tests s n name timeout time)) Refused keep (init_accepted s name timeout time)
