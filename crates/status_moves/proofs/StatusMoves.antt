-- The theorem of request 4 of document 02: the rule of the table of status moves, and that what the calls append keeps to it.
use Prim.Native.Nat.{ℕ, ◌<◌}
use mathlib.Core.Path.{◌≡◌, refl, sym, ap, ap₂, ◌∙◌}
use mathlib.Core.Bool.{Bool, true}
use lib.Dec.{ltb}
use native.Mathlib.Omega.{arith}
use Rattle.numbers.proofs.Tests.{not-both, and_left, same_test}
use Rattle.record.specs.Record.{status_code}
use Rattle.record.specs.declared.Record.{Record}
use Rattle.record.specs.declared.Status.TheVariants.{PrepareCommit, CompleteAbort}
use Rattle.record.proofs.Statuses.{of-codes}
use Rattle.row.specs.Row.{record_of}
use Rattle.row.specs.declared.Row.{Row}
use Rattle.succession.specs.Moves.{may_follow_status, statuses, move_flag}
use Rattle.succession.specs.Succession.{keeps, follows}
use Rattle.succession.proofs.Laws.{first-new}
use Rattle.succession.proofs.Moves.{moves_are}
use Rattle.answers.specs.Limits.{places}
use Rattle.table.specs.Next.{may_come}
use Rattle.table.specs.Table.{row_at, place_of, holds}
use Rattle.table.specs.declared.Table.{Table}
use Rattle.table.proofs.Laws.{come-either}
use Rattle.table.proofs.Unacknowledged.{unacknowledged, plain_row, plain-place}
use Rattle.coordinator.specs.Coordinator.{append}
use Rattle.writable_logs.specs.Writer.{writes, writer_from}
use Rattle.writable_logs.proofs.Decisions.{by_call}
use Rattle.writable_logs.proofs.Lawful.{decided-lawful}
use Rattle.writable_logs.proofs.Reached.{opened-ready}
use Rattle.status_moves.specs.StatusMoves.{opened_table, held_status, LetsFollow, SetExactly, MakesSetMove, AppendsSetMoves, StatusMoves}
use Rattle.status_moves.proofs.Witnesses.{set-follows}

-- ---- a record that may come next for a name that is held has its flag set

follows-set : (next : ℕ) (row : Row) (r : Record) → follows next row r ≡ true → move_flag (status_code row.status) (status_code r.status) ≡ true
unfolding follows
follows-set next row r f =
    moves_are row.status r.status ∙ and_left (may_follow_status row.status r.status) (keeps r.status next row r) f

come-set : (t : Table) (r : Record) → may_come t r ≡ true → holds t r.name ≡ true → move_flag (held_status t r.name) (status_code r.status) ≡ true
come-set t r m h = come-either t r m (λ _ f. follows-set t.next (row_at t (place_of t r.name)) r f) (λ n _ _. not-both n h)

-- ---- the rule

set-exactly : SetExactly move_flag
set-exactly held new h k = (
  of-codes (λ x. move_flag x new ≡ true → LetsFollow x new)
      (λ a. of-codes (λ y. move_flag (status_code a) y ≡ true → LetsFollow (status_code a) y) (set-follows a) new (omega (arith, k))) held (omega (arith, h)),
  λ x.
      sym (ap₂ move_flag x.status-held x.status-new) ∙ come-set (opened_table x.text x.n x.log) x.next x.may-come x.name-held,
)

-- no other table is set exactly so: the rule fixes every flag
pub only-table : (flag : ℕ → ℕ → Bool) → SetExactly flag → (held new : ℕ) → held < statuses → new < statuses → flag held new ≡ move_flag held new
only-table flag x held new h k =
    let ours = set-exactly held new h k in
    let other = x held new h k in
    same_test (flag held new) (move_flag held new) (λ e. ours.1 (other.0 e)) (λ e. other.1 (ours.0 e))

-- ---- what the calls append

-- a record that may come next in the table without its acknowledgements makes a set move in the table itself
come-moves : (t : Table) (row : Row) → may_come (unacknowledged t) (record_of row) ≡ true → MakesSetMove t row
come-moves t row m =
    record {
      flag-set = λ h. ap₂ move_flag (sym status-same) refl ∙ come-set (unacknowledged t) (record_of row) m (same-holds ∙ h);
      first-empty = λ n. come-either (unacknowledged t) (record_of row) m (λ h _. not-both n (sym same-holds ∙ h)) (λ _ f _. (first-new (unacknowledged t).next (record_of row) f).0);
    }
  where
    same_place : place_of (unacknowledged t) row.name ≡ place_of t row.name
    same_place = plain-place t row.name

    same-holds : holds (unacknowledged t) row.name ≡ holds t row.name
    same-holds = ap (λ (k : ℕ). ltb k places) same_place

    status-same : held_status (unacknowledged t) row.name ≡ held_status t row.name
    status-same =
        ap (λ (k : ℕ). status_code (row_at (unacknowledged t) k).status) same_place
        ∙ ap (λ (x : Row). status_code x.status) (plain_row t (place_of t row.name))

appends-set-moves : AppendsSetMoves
appends-set-moves text n o items c typed lent place row e =
    let s = (writes text items (writer_from text n o)).state in
    come-moves s.table row (decided-lawful s (opened-ready text n o items) lent (append place row) (by_call c typed (sym e))).comes

pub status-moves : StatusMoves
status-moves = record { set-exactly = set-exactly; appends-set-moves = appends-set-moves }

-- the move that document 000 misprints, COMPLETE_ABORT after PREPARE_COMMIT, is not one that a call may make
pub misprint-not-made : (t : Table) (row : Row) → holds t row.name ≡ true → held_status t row.name ≡ status_code PrepareCommit → row.status ≡ CompleteAbort → MakesSetMove t row → ⊥
misprint-not-made t row h e f m = not-both {b = move_flag (status_code PrepareCommit) (status_code CompleteAbort)} refl (sym (ap₂ move_flag e (ap status_code f)) ∙ m.flag-set h)
