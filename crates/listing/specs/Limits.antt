-- How long a line is at most.
use Rattle.std.specs.Prelude.{ℕ, ◌+◌, ◌*◌}
use Rattle.text.specs.Limits.{digits_max}

-- a number behind a tab
abbrev pub field_max : ℕ
field_max = 1 + digits_max

-- three numbers, or so many payloads
abbrev pub results_max : ℕ → ℕ
results_max payloads = (3 + payloads) * field_max

-- the word with the line feed, the number, the two lengths, and three results
abbrev pub fields_fixed : ℕ
fields_fixed = 7

-- a line with at most so many payloads
abbrev pub line_max : ℕ → ℕ
line_max payloads = (fields_fixed + payloads) * field_max
