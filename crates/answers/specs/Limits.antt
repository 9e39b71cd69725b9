-- How many places there are, for ids in the table and for producers in a partition.
use Rattle.std.specs.Prelude.{ℕ}

-- document 01: "At most 32 ids."
abbrev pub places : ℕ
places = 32
