-- The answer of Order: place, pid, epoch, verdict, position and coordinator epoch; or that there is none to give.
use Rattle.std.specs.Prelude.{ℕ, ℤ}

pub data OrderAnswer : Type 0 where
  Order : ℕ → ℤ → ℤ → ℕ → ℕ → ℤ → OrderAnswer
  NoOrder : OrderAnswer
