-- How far the completion of a place's transaction is, for a display.
use Rattle.std.specs.Prelude.{ℕ, cond}
use Rattle.bits.specs.Bits.{count}
use Rattle.row.specs.Row.{is_prepare, outstanding}
use Rattle.table.specs.Table.{row_at}
use Rattle.coordinator.specs.declared.Coordinator.{Coordinator}

-- 02: "Our display shows a roll-forward's progress as the number of ones left in the set": of the partitions of the place's prepare, flushed or not,
-- those that are not acknowledged; 0 for a place without a prepare
unfoldable pub left : Coordinator → ℕ → ℕ
left s place =
    let row = row_at s.table place in
    cond (is_prepare row.status) (count (outstanding row)) 0
