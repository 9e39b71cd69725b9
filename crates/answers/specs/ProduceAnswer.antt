-- The answer of Produce: the offset of the entry.
use Rattle.std.specs.Prelude.{ℕ}

pub data ProduceAnswer : Type 0 where
  Written : ℕ → ProduceAnswer
  Refused : ℕ → ProduceAnswer
