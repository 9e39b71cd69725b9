-- The times of what is held are in order: every record that comes keeps them so, and the clock is never before the last update.
use Prim.Native.Nat.{ℕ}
use mathlib.Core.Path.{◌≡◌, sym, subst}
use mathlib.Core.Bool.{false}
use native.Mathlib.Omega.{arith}
use Rattle.record.specs.Record.{idle}
use Rattle.table.specs.Table.{empty_table, row_at}
use Rattle.table.proofs.Times.{Timed, kept-timed, timed-empty}
use Rattle.table.proofs.Unacknowledged.{unacknowledged, plain_row, plain-updated}
use Rattle.log_reader.proofs.TableSays.{along}
use Rattle.coordinator.specs.declared.Coordinator.{Coordinator}
use Rattle.runs.specs.History.{records_of, contents}
use Rattle.runs.specs.World.{up, World, catalogue_of}
use Rattle.agreement.proofs.Invariant.{Invariant}
use Rattle.agreement.proofs.Preserves.{log-of}
use Rattle.runs.specs.Timeouts.{TimesInOrder}

pub times-in-order : (w : World) → Invariant w → (s : Coordinator) → w.phase ≡ up s → (place : ℕ) → idle (row_at s.table place).status ≡ false
    → TimesInOrder s.clock (row_at s.table place)
times-in-order w i s u place busy =
    let c = catalogue_of w in
    let side = log-of w i s u in
    let records = contents (records_of w.history) in
    let timed : Timed (unacknowledged s.table) =
    subst Timed (sym side.written.table_is) (along c Timed (kept-timed c) empty_table timed-empty records side.written.come) in
    let h = rw (plain_row s.table place, plain-updated s.table) at (timed place) in
    record { started = h.started busy; updated-by = omega (arith, h.updated-by, side.written.updated-by) }
