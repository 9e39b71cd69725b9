-- Request 4 of document 02: which flags of the table of status moves are set, and that every record a call appends makes a move whose flag is set.
use Rattle.std.specs.Prelude.{ℕ, ◌<◌, ◌≡◌, Bool, true, false, List, ◌↔◌}
use Rattle.catalogue.specs.Catalogue.{parse}
use Rattle.record.specs.Record.{status_code, well_formed}
use Rattle.record.specs.declared.Record.{Record}
use Rattle.record.specs.declared.Status.TheVariants.{Empty}
use Rattle.row.specs.declared.Row.{Row}
use Rattle.succession.specs.Moves.{statuses, move_flag}
use Rattle.table.specs.Next.{may_come}
use Rattle.table.specs.Table.{row_at, place_of, holds}
use Rattle.table.specs.declared.Table.{Table}
use Rattle.coordinator.specs.Calls.{CoordinatorCall, call_typed, action_of}
use Rattle.coordinator.specs.Coordinator.{append}
use Rattle.writable_logs.specs.Writer.{WriterItem, writes, AcceptedOpening, writer_from}

-- the table of an accepted opening
abbrev pub opened_table : (text : List ℕ) (n : ℕ) → AcceptedOpening text n → Table
opened_table text n log = (writer_from text n log).state.table

-- the code of the status that a table holds of a name
abbrev pub held_status : Table → List ℕ → ℕ
held_status t name = status_code (row_at t (place_of t name)).status

-- ---- the rule of the table

-- document 02, 4: "where the succession lets the column's status follow the row's": an accepted log that holds a name in the one status, and a well-formed
-- record of that name in the other that may be the log's next
pub record LetsFollow (held new : ℕ) : Type 0 where
  pub text : List ℕ
  pub n : ℕ
  pub log : AcceptedOpening text n
  pub next : Record
  pub name-held : holds (opened_table text n log) next.name ≡ true
  pub status-held : held_status (opened_table text n log) next.name ≡ held
  pub status-new : status_code next.status ≡ new
  pub well-formed : well_formed (parse text).catalogue next ≡ true
  pub may-come : may_come (opened_table text n log) next ≡ true

-- "six rows of six flags, set exactly where …", of any table that has a flag for each row and column
abbrev pub SetExactly : (ℕ → ℕ → Bool) → Type 0
SetExactly flag = (held new : ℕ) → held < statuses → new < statuses → (flag held new ≡ true) ↔ LetsFollow held new

-- ---- what the calls append

-- the record of a row, beside what a table holds of its name
pub record MakesSetMove (t : Table) (row : Row) : Type 0 where
  -- of a name that is held
  pub flag-set : holds t row.name ≡ true → move_flag (held_status t row.name) (status_code row.status) ≡ true
  -- of a new name, which makes no move. Document 01: "first: status 0"
  pub first-empty : holds t row.name ≡ false → row.status ≡ Empty

-- in every state that an accepted opening and any calls, cuts and openings lead to, whatever call it is and whatever buffer it is lent
abbrev pub AppendsSetMoves : Type 0
AppendsSetMoves =
    (text : List ℕ) (n : ℕ) (o : AcceptedOpening text n) (items : List WriterItem) → let s = (writes text items (writer_from text n o)).state in
    (c : CoordinatorCall) → call_typed c ≡ true → (lent place : ℕ) (row : Row) → action_of c s lent ≡ append place row → MakesSetMove s.table row

-- ---- the statement

pub record StatusMoves : Type 0 where
  -- Not met by a table in which COMPLETE_ABORT may follow PREPARE_COMMIT, nor by one in which nothing begins after COMPLETE_ABORT.
  pub set-exactly : SetExactly move_flag
  -- Not met by a call that writes what the table forbids.
  pub appends-set-moves : AppendsSetMoves
