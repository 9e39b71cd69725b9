-- How many fields of a line are kept.
use Rattle.std.specs.Prelude.{ℕ}

-- `put`, the command that has the most: its word, name, pid, epoch, position, sequence and payload
abbrev pub fields_max : ℕ
fields_max = 7
