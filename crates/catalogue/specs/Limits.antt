-- The limits of a catalogue.
use Rattle.std.specs.Prelude.{ℕ, ◌*◌}

-- document 01: "1 to 8 lines"
abbrev pub topics_max : ℕ
topics_max = 8

-- "Names: 1 to 16 bytes"
abbrev pub topic_name_max : ℕ
topic_name_max = 16

-- "one digit 1 to 8 (its partitions)"
abbrev pub partitions_max : ℕ
partitions_max = 8

-- eight topics of eight partitions
abbrev pub positions : ℕ
positions = topics_max * partitions_max
