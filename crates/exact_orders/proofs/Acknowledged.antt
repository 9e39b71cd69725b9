-- The acknowledged sets of a state are those of its history: what is to be shown of every moment of a run.
use Prim.Native.Nat.{ℕ, ◌<◌}
use mathlib.Core.Path.{◌≡◌}
use mathlib.Core.Bool.{true}
use mathlib.Core.List.{[]}
use mathlib.Core.Option.{some}
use lib.ListN.{length}
use Rattle.bits.specs.Bits.{member}
use Rattle.search.specs.Search.{Each}
use Rattle.row.specs.Row.{is_prepare}
use Rattle.coordinator.specs.declared.Coordinator.{Coordinator}
use Rattle.runs.specs.History.{Order, History, Logged, latest_of}
use Rattle.runs.specs.World.{Phase, up, down}
use Rattle.runs.specs.ExactOrders.{acknowledged_orders, is_acknowledged}
use Rattle.agreement.proofs.LatestRows.{row_of_name}

-- the acknowledged set in the row of a record's name is that record's
abbrev pub RowAcknowledged : Coordinator → History → Logged → Type 0
RowAcknowledged s h p = (x : ℕ) → member (row_of_name s p.content.name).acknowledged x ≡ is_acknowledged p h x

-- of a prepare that is its name's latest record; while the coordinator is down nothing is acknowledged
abbrev pub RowsAcknowledged : Phase → History → Type 0
RowsAcknowledged (up s) h = (p : Logged) → latest_of p.content.name h ≡ some p → is_prepare p.content.status ≡ true → RowAcknowledged s h p
RowsAcknowledged (down n before) h = acknowledged_orders h ≡ []

-- an acknowledged order is for a record that was appended before
abbrev pub OrdersBelow : History → Type 0
OrdersBelow h = Each (λ (o : Order). o.for < length h) (acknowledged_orders h)

pub record Acknowledged (phase : Phase) (h : History) : Type 0 where
  pub rows : RowsAcknowledged phase h
  pub below : OrdersBelow h
