-- Parts of Init, over what was found for it: what the functions that do its work are held to.
use Rattle.std.specs.Prelude.{ℕ, ◌+◌, Bool, cond, List, ltb, ℤ}
use Rattle.std.specs.Int.{w16, w64}
use Rattle.numbers.specs.Signed.{to_nat, signed_of}
use Rattle.record.specs.declared.Status.TheVariants.{PrepareAbort}
use Rattle.row.specs.Row.{is_begin}
use Rattle.row.specs.Steps.{initialized, prepared, fenced, raise}
use Rattle.row.specs.declared.Row.{Row}
use Rattle.answers.specs.Limits.{places}
use Rattle.answers.specs.InitAnswer.{InitAnswer}
use Rattle.answers.specs.InitAnswer.{Given, Aborting}
use Rattle.table.specs.declared.Held.{Held}
use Rattle.coordinator.specs.Coordinator.{Action, append}
use Rattle.coordinator.specs.Init.{needs_pid}

-- the record: a new pid, or the next epoch of the same
unfoldable pub init_row_with : List ℕ → Bool → Row → ℕ → ℤ → ℕ → Row
init_row_with name known row pid timeout clock =
    cond (needs_pid known row) (initialized name pid 0 (to_nat timeout) clock) (initialized name row.pid (row.epoch + 1) (to_nat timeout) clock)

-- what Init does, for the place and row that were found, a free place, the new record and the clock
abbrev pub init_at : Held → ℕ → Row → ℕ → Action
init_at held free new clock =
    cond (is_begin held.row.status)
    (append held.place (prepared held.row PrepareAbort (raise fenced held.row.epoch) clock))
    (append (cond (ltb held.place places) held.place free) new)

-- what Init answers, for the row that was found and the new record
abbrev pub init_answer_at : Row → Row → InitAnswer
init_answer_at row new = cond (is_begin row.status) Aborting (Given (signed_of w64 new.pid) (signed_of w16 new.epoch))
