-- Parts of Add and End, over the place that was found for the name: what the functions that do their work are held to.
use Rattle.std.specs.Prelude.{ℕ, Bool, cond, not, ◌&&◌, ℤ}
use Rattle.row.specs.Row.{is_begin}
use Rattle.row.specs.Steps.{prepared, prepare_of, ended, raise}
use Rattle.row.specs.declared.Row.{Row}
use Rattle.table.specs.Table.{row_at, id_count}
use Rattle.coordinator.specs.Coordinator.{clock_at, log_full, Action, advance, append}
use Rattle.coordinator.specs.Add.{all_joined, add_row}
use Rattle.coordinator.specs.declared.Coordinator.{Coordinator}

-- 17 of Add
abbrev pub add_full : Coordinator → Row → ℕ → ℤ → Bool
add_full s row set time = not (all_joined row set) && log_full s (add_row row set (clock_at s time)) (id_count s.table)

-- what Add does
unfoldable pub add_at : Coordinator → ℕ → ℕ → ℤ → Action
add_at s place set time =
    let row = row_at s.table place in cond (all_joined row set) (advance (clock_at s time)) (append place (add_row row set (clock_at s time)))

-- what End does
unfoldable pub end_at : Coordinator → ℕ → ℕ → ℤ → Action
end_at s place verdict time =
    let row = row_at s.table place in
    cond (is_begin row.status) (append place (prepared row (prepare_of verdict) (raise ended row.epoch) (clock_at s time))) (advance (clock_at s time))
