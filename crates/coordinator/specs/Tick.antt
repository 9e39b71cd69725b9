-- Tick(time): the lowest transaction that outlived its timeout is aborted.
use Rattle.std.specs.Prelude.{ℕ, ◌-◌, Bool, cond, not, ◌&&◌, List, [], ◌∷◌, ltb, ℤ}
use Rattle.search.specs.Search.{first_where}
use Rattle.record.specs.declared.Status.TheVariants.{PrepareAbort}
use Rattle.row.specs.Row.{is_begin}
use Rattle.row.specs.Steps.{prepared, fenced, raise}
use Rattle.row.specs.declared.Row.{Row}
use Rattle.answers.specs.Limits.{places}
use Rattle.table.specs.Table.{row_at}
use Rattle.answers.specs.Numbers.{invalid_length}
use Rattle.answers.specs.Refusals.{Test, refuse, first_refusal, Decision, unless}
use Rattle.answers.specs.TickAnswer.{TickAnswer}
use Rattle.answers.specs.TickAnswer.{Aborted, NoneDue, Refused}
use Rattle.coordinator.specs.Coordinator.{admits, unflushed, clock_at, Action, keep, advance, append}
use Rattle.coordinator.specs.declared.Coordinator.{Coordinator}

-- what the age of a transaction is counted from; document 02, 2: "Tick now compares the clock with the start time."
abbrev pub age_from : Row → ℕ
age_from row = row.start

-- "a flushed BEGIN and clock − last update above its timeout", with the start time in place of the last update
unfoldable pub overdue : ℕ → ℕ → Row → Bool
overdue flushed clock row = is_begin row.status && not (unflushed flushed row) && ltb row.timeout (clock - age_from row)

-- "the lowest place"; 32 where there is none
unfoldable pub overdue_place : Coordinator → ℕ → ℕ
overdue_place s clock = first_where (overdue s.flushed clock) s.table.rows

unfoldable pub tick_tests : Coordinator → ℕ → List Test
tick_tests s n = refuse invalid_length (not (admits s n)) ∷ []

-- "gets PREPARE_ABORT, epoch one higher, answer its place"
abbrev pub aborted : Coordinator → ℕ → ℕ → Decision TickAnswer Action
aborted s place clock =
    record {
      answer = Aborted place;
      action = append place (prepared (row_at s.table place) PrepareAbort (raise fenced (row_at s.table place).epoch) clock);
    }

-- "none only if there is none"
unfoldable pub tick_accepted : Coordinator → ℤ → Decision TickAnswer Action
tick_accepted s time =
    let clock = clock_at s time in
    let place = overdue_place s clock in
    cond (ltb place places) (aborted s place clock) (record { answer = NoneDue; action = advance clock })

unfoldable pub tick : Coordinator → ℕ → ℤ → Decision TickAnswer Action
tick s n time = unless (first_refusal (tick_tests s n)) Refused keep (tick_accepted s time)
