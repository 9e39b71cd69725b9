-- `producer_ids::init_row` meets its contract.
use lib.Dec.{ltb}
use Rattle.answers.specs.Limits.{places}
use Rattle.coordinator.proofs.Named.{clock-is}
use Rattle.producer_ids.proofs.InitSteps.{init-row-is}
use Rattle.producer_ids.proofs.init_row.Goals as goal

pub returns : goal.returns
returns c =
    let a = c.args in
    record {
      row = init-row-is a.s.now a.name (ltb a.held.place places) a.held.row a.timeout a.time c.ranges.timeout (clock-is a.s.now c.ranges.time c.later-clock.ensures) c.new_pid.ensures (rw c.is_place.ensures.place at c.init_row_with.ensures);
      rows = c.is_place.ensures.rows;
    }
