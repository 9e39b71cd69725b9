-- The theorem of timeouts: in every run the times of what is held are in order, and a Tick aborts what outlived its timeout, counted from its beginning.
use Rattle.runs.specs.Timeouts.{Timeouts}
use Rattle.runs.specs.World.{start, run}
use Rattle.agreement.proofs.Steps.{always}
use Rattle.timeouts.proofs.InOrder.{times-in-order}
use Rattle.timeouts.proofs.Ticks.{world-ticks}
use Rattle.timeouts.proofs.EndsInTime.{in-time}

pub timeouts : Timeouts
timeouts o a items s e =
    let w = run items (start o) in
    let i = always o a items in
    record {
      in_order = times-in-order w i s e;
      ticks = world-ticks w i s e;
      ends-in-time = λ time timed. in-time _ _ _ _ (world-ticks w i s e time timed);
    }
