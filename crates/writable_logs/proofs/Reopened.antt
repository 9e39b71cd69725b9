-- The state after a log was opened again with a block of one pid, and what it takes for its table to be taken over.
use Prim.Native.Nat.{ℕ, ◌+◌, ◌≤◌}
use lib.IntN.{ℤ, pos}
use Rattle.catalogue.specs.declared.Catalogue.{Catalogue}
use Rattle.table.specs.Table.{row_at, reserved}
use Rattle.table.specs.declared.Table.{Table}
use Rattle.table.proofs.Valid.{Valid}
use Rattle.coordinator.specs.Open.{taken_over}
use Rattle.coordinator.specs.declared.Coordinator.{Coordinator}

abbrev pub reopened : Catalogue → Table → ℕ → ℤ → Coordinator
reopened c t room pid = taken_over c t room (pos 0) pid pid

-- the table is that of records, none of its rows ends past it, and a buffer of this length meets the reserve
pub record Reopens (c : Catalogue) (t : Table) (room : ℕ) : Type 0 where
  pub valid : Valid c t
  pub ends : (place : ℕ) → (row_at t place).end ≤ t.end
  pub reserve-met : t.end + reserved t ≤ room
