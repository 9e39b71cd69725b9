-- How long the word of a command is, and how many commands there are.
use Rattle.std.specs.Prelude.{ℕ}

-- `flush` and `carry`, the longest words
abbrev pub word_max : ℕ
word_max = 5

-- the ten commands
abbrev pub commands : ℕ
commands = 10
