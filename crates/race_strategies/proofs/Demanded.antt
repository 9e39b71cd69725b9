-- What request 14 of document 02 asks for, taken from the statement alone: a weaker statement would not give it.
use Prim.Native.Nat.{◌+◌, ◌≤◌, ◌<◌}
use mathlib.Core.Path.{◌≡◌}
use mathlib.Core.Logic.{◌⊎◌, ⊎_map}
use Rattle.race.specs.declared.Board.{Board}
use Rattle.race.specs.Search.{Forced, NotForced, Refused, race_answer}
use Rattle.race.specs.Limits.{Inside}
use Rattle.race.specs.Game.{BenchForces, LinePrevents}
use Rattle.race_strategies.specs.WhoWins.{with_more_blocks, WhoWins}

-- inside the limits the answer is yes and the bench can force it, or no and the line can prevent it
pub demanded-answer : (board : Board) → WhoWins board → Inside board
    → ((race_answer board ≡ Forced) × BenchForces board) ⊎ ((race_answer board ≡ NotForced) × LinePrevents board)
demanded-answer board w i = ⊎_map (λ f. ((w.forced i).1 f, f)) (λ k. ((w.not-forced i).1 k, k)) w.determined

-- a yes that can be forced, and a no that cannot
pub demanded-yes : (board : Board) → WhoWins board → Inside board → race_answer board ≡ Forced → BenchForces board
demanded-yes board w i e = (w.forced i).0 e

pub demanded-no : (board : Board) → WhoWins board → Inside board → race_answer board ≡ NotForced → BenchForces board → ⊥
demanded-no board w i e f = w.one-winner f ((w.not-forced i).0 e)

-- outside the limits it is 30, and inside it is not
pub demanded-refusal : (board : Board) → WhoWins board → (Inside board → ⊥) → race_answer board ≡ Refused 30
demanded-refusal board w n = w.turned-away.1 n

pub demanded-no-refusal : (board : Board) → WhoWins board → Inside board → race_answer board ≡ Refused 30 → ⊥
demanded-no-refusal board w i e = w.turned-away.0 e i

-- yes with one block more is yes
pub demanded-fewer-blocks : (board : Board) → WhoWins board → race_answer (with_more_blocks board 1) ≡ Forced → race_answer board ≡ Forced
demanded-fewer-blocks board w e = w.more-blocks 1 e

-- the closed form, both ways
pub demanded-enough : (board : Board) → WhoWins board → Inside board
    → board.blocks < board.timeout → 1 + board.partitions + board.blocks ≤ board.rounds → race_answer board ≡ Forced
demanded-enough board w i t r = (w.closed-form i).1 (t, r)

pub demanded-needed : (board : Board) → WhoWins board → Inside board
    → race_answer board ≡ Forced → (board.blocks < board.timeout) × (1 + board.partitions + board.blocks ≤ board.rounds)
demanded-needed board w i e = (w.closed-form i).0 e
