-- The answer of Tick: the place that was aborted, or that none was due.
use Rattle.std.specs.Prelude.{ℕ}

pub data TickAnswer : Type 0 where
  Aborted : ℕ → TickAnswer
  NoneDue : TickAnswer
  Refused : ℕ → TickAnswer
