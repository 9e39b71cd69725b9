-- How long an answer is.
use Rattle.std.specs.Prelude.{ℕ}

-- the fields behind the word: two of one digit, or one of at most three, each behind a tab
abbrev pub answer_fields_max : ℕ
answer_fields_max = 4

-- a line: `race`, these fields and a line feed
abbrev pub answer_max : ℕ
answer_max = 9
