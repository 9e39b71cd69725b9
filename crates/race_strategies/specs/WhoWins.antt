-- What the answer to a board says of the game, as one statement.
use Rattle.std.specs.Prelude.{ℕ, ◌+◌, ◌≤◌, ◌<◌, ◌≡◌, ◌↔◌, ◌⊎◌}
use Rattle.race.specs.declared.Board.{Board}
use Rattle.race.specs.Search.{Forced, NotForced, Refused, race_answer}
use Rattle.race.specs.Limits.{invalid_board, Inside}
use Rattle.race.specs.Game.{BenchForces, LinePrevents}

-- the same board, with more blocks
abbrev pub with_more_blocks : Board → ℕ → Board
with_more_blocks board more =
    record { partitions = board.partitions; timeout = board.timeout; rounds = board.rounds; blocks = board.blocks + more }

-- a board of any numbers, and its answer
pub record WhoWins (board : Board) : Type 0 where
  -- it is won by one side, and not by both
  pub determined : BenchForces board ⊎ LinePrevents board
  pub one-winner : BenchForces board → LinePrevents board → ⊥
  -- "The answer says whether the bench can force a completed commit within the rounds, proved against every play of both sides"
  pub forced : Inside board → (race_answer board ≡ Forced) ↔ BenchForces board
  pub not-forced : Inside board → (race_answer board ≡ NotForced) ↔ LinePrevents board
  -- "Turned away: 30, a board outside these numbers."
  pub turned-away : (race_answer board ≡ Refused invalid_board) ↔ (Inside board → ⊥)
  -- "More blocks never help the bench."
  pub more-blocks : (more : ℕ) → race_answer (with_more_blocks board more) ≡ Forced → race_answer board ≡ Forced
  -- the answer without a search: a block is a round, lost before the timeout and of all rounds
  pub closed-form : Inside board → (race_answer board ≡ Forced) ↔ ((board.blocks < board.timeout) × (1 + board.partitions + board.blocks ≤ board.rounds))
