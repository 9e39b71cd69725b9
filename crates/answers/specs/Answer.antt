-- The answer of Add, End, Flush, Ack and Marker.
use Rattle.std.specs.Prelude.{ℕ}

pub data Answer : Type 0 where
  Done : Answer
  Refused : ℕ → Answer
