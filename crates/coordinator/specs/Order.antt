-- Order(set of partitions that are up): the next marker to be written.
use Rattle.std.specs.Prelude.{ℕ, Bool, cond, not, ◌&&◌, eqb, ltb}
use Rattle.std.specs.Int.{w16, w32, w64}
use Rattle.bits.specs.Bits.{intersection, lowest}
use Rattle.numbers.specs.Signed.{signed_of}
use Rattle.search.specs.Search.{first_where}
use Rattle.row.specs.Row.{is_prepare, outstanding}
use Rattle.row.specs.Steps.{verdict_of}
use Rattle.row.specs.declared.Row.{Row}
use Rattle.answers.specs.Limits.{places}
use Rattle.table.specs.Table.{row_at}
use Rattle.answers.specs.OrderAnswer.{OrderAnswer}
use Rattle.answers.specs.OrderAnswer.{Order, NoOrder}
use Rattle.coordinator.specs.Coordinator.{unflushed}
use Rattle.coordinator.specs.declared.Coordinator.{Coordinator}

-- "joined, unacknowledged, up"
abbrev pub due : Row → ℕ → ℕ
due row up = intersection (outstanding row) up

-- a flushed prepare with such a position
unfoldable pub ordered : ℕ → ℕ → Row → Bool
ordered flushed up row = is_prepare row.status && not (unflushed flushed row) && not (eqb (due row up) 0)

-- "from the lowest place with a flushed prepare …; else the next place"; 32 where there is none
unfoldable pub order_place : Coordinator → ℕ → ℕ
order_place s up = first_where (ordered s.flushed up) s.table.rows

-- "It carries place, pid, epoch, verdict, position, coordinator epoch."
abbrev pub order_from : Coordinator → ℕ → ℕ → Row → OrderAnswer
order_from s up place row =
    Order place (signed_of w64 row.pid) (signed_of w16 row.epoch) (verdict_of row.status) (lowest (due row up)) (signed_of w32 s.epoch)

-- document 01: "the lowest joined, unacknowledged, up position". Order changes nothing and refuses nothing.
unfoldable pub order : Coordinator → ℕ → OrderAnswer
order s up =
    let place = order_place s up in
    cond (ltb place places) (order_from s up place (row_at s.table place)) NoOrder
