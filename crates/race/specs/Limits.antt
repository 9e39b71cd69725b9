-- The numbers of a board, and that of its refusal.
use Rattle.std.specs.Prelude.{ℕ, ◌≤◌}
use Rattle.race.specs.declared.Board.{Board}

-- "1 to 6 partitions"
abbrev pub partitions_max : ℕ
partitions_max = 6

-- "and 0 to 12 each of rounds until its timeout, rounds in all and blocks"
abbrev pub count_max : ℕ
count_max = 12

-- "Turned away: 30, a board outside these numbers."
abbrev pub invalid_board : ℕ
invalid_board = 30

-- a board of these numbers
pub record Inside (board : Board) : Type 0 where
  pub some-partition : 1 ≤ board.partitions
  pub partitions : board.partitions ≤ partitions_max
  pub timeout : board.timeout ≤ count_max
  pub rounds : board.rounds ≤ count_max
  pub blocks : board.blocks ≤ count_max
