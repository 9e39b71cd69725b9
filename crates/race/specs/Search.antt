-- The search for who wins a board, which counts the rounds down, and the answer to a board of any numbers.
use Rattle.std.specs.Prelude.{ℕ, zero, suc, ◌-◌, Bool, false, cond, ◌&&◌, ◌||◌, eqb, ltb, leb}
use Rattle.race.specs.Limits.{partitions_max, count_max, invalid_board}
use Rattle.race.specs.declared.Board.{Board}

-- The search leaves out moves that help neither side: a block on the log once ended, a block on a partition before that, and a bench that waits though it can end or carry.
-- That nothing is lost by this is the law WhoWins of the crate race_strategies, which speaks of every play.

-- the partitions left after a round in which one of them was blocked: the bench has served another, if there is one
abbrev pub left_after_block : ℕ → ℕ
left_after_block left = cond (leb left 1) left (left - 1)

-- once ended, by the rounds, partitions and blocks left: the line spends no block and the bench carries an order, or the line spends one on a partition that is left
unfoldable pub can_serve : ℕ → ℕ → ℕ → Bool
can_serve zero left blocks = eqb left 0
can_serve (suc rounds) left blocks =
    eqb left 0 || (can_serve rounds (left - 1) blocks && (eqb blocks 0 || can_serve rounds (left_after_block left) (blocks - 1)))

-- not ended, by the rounds left, those left until the timeout, and the partitions and blocks left: the line spends no block and the bench ends the run, or the line spends one on the log
unfoldable pub can_force : ℕ → ℕ → ℕ → ℕ → Bool
can_force zero until left blocks = false
can_force (suc rounds) until left blocks =
    ltb 0 until && (can_serve rounds left blocks && (eqb blocks 0 || can_force rounds (until - 1) left (blocks - 1)))

-- "1 to 6 partitions, and 0 to 12 each of rounds until its timeout, rounds in all and blocks"
abbrev pub inside : Board → Bool
inside board =
    leb 1 board.partitions
    && leb board.partitions partitions_max
    && leb board.timeout count_max
    && leb board.rounds count_max
    && leb board.blocks count_max

-- whether the bench can force a completed commit; or the board is refused with a number
pub data RaceAnswer : Type 0 where
  Forced : RaceAnswer
  NotForced : RaceAnswer
  Refused : ℕ → RaceAnswer

-- "The answer says whether the bench can force a completed commit within the rounds"; "Turned away: 30, a board outside these numbers."
abbrev pub race_answer : Board → RaceAnswer
race_answer board =
    cond (inside board)
    (cond (can_force board.rounds board.timeout board.partitions board.blocks) Forced NotForced)
    (Refused invalid_board)
