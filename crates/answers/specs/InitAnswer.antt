-- The answer of Init: the pid and epoch of the producer, or that its transaction is being aborted.
use Rattle.std.specs.Prelude.{ℕ, ℤ}

pub data InitAnswer : Type 0 where
  Given : ℤ → ℤ → InitAnswer
  Aborting : InitAnswer
  Refused : ℕ → InitAnswer
