-- How long a decimal is.
use Rattle.std.specs.Prelude.{ℕ}

-- the digits of the greatest number of 64 bits, 18446744073709551615
abbrev pub digits_max : ℕ
digits_max = 20
