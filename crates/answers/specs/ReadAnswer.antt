-- The answer of Read: how many payloads were copied, and the next offset.
use Rattle.std.specs.Prelude.{ℕ}

pub data ReadAnswer : Type 0 where
  Copied : ℕ → ℕ → ReadAnswer
  Refused : ℕ → ReadAnswer
