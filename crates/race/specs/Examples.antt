-- Examples of request 14: plays and whether they are allowed and completed, boards and who wins them, by the search and by trying every move.
use Rattle.std.specs.Prelude.{ℕ, zero, suc, Bool, true, false, not, ◌&&◌, ◌||◌, List, [], ◌∷◌, reverse}
use Rattle.search.specs.Search.{all, find, is_found}
use Rattle.race.specs.declared.Board.{Board}
use Rattle.race.specs.Search.{RaceAnswer, Forced, NotForced, Refused}
use Rattle.race.specs.Game.{completed, LineMove, no_block, block_log, block_partition, BenchMove, end, carry, wait, line_may, Round, position, legal}

abbrev pub board : ℕ → ℕ → ℕ → ℕ → Board
board partitions timeout rounds blocks = record { partitions = partitions; timeout = timeout; rounds = rounds; blocks = blocks }

abbrev pub round : LineMove → BenchMove → Round
round line bench = record { line = line; bench = bench }

-- ---- plays

-- rounds in the order in which they were played, whether each move was allowed, and whether the commit is completed behind them
pub record Play : Type 0 where
  pub board : Board
  pub rounds : List Round
  pub allowed : Bool
  pub completed : Bool

abbrev pub play : Board → List Round → Bool → Bool → Play
play b rounds allowed completed = record { board = b; rounds = rounds; allowed = allowed; completed = completed }

-- what the game says of the rounds of a play
abbrev pub played : Play → Play
played x =
    let rounds = reverse x.rounds in
    play x.board x.rounds (legal x.board rounds) (completed (position x.board rounds))

abbrev pub plays : List Play
plays =
    -- the end takes a round and each order takes one
    play (board 1 1 2 0) (round no_block end ∷ round no_block (carry 0) ∷ []) true true ∷
    play (board 2 1 3 0) (round no_block end ∷ round no_block (carry 1) ∷ round no_block (carry 0) ∷ []) true true ∷
    play (board 1 1 2 0) (round no_block end ∷ []) true false ∷
    play (board 2 1 3 0) (round no_block end ∷ round no_block (carry 0) ∷ []) true false ∷
    -- no order before the end, none twice, none to another partition, and no second end
    play (board 1 2 3 0) (round no_block (carry 0) ∷ []) false false ∷
    play (board 2 1 3 0) (round no_block end ∷ round no_block (carry 0) ∷ round no_block (carry 0) ∷ []) false false ∷
    play (board 1 1 2 0) (round no_block end ∷ round no_block (carry 1) ∷ []) false false ∷
    play (board 1 2 2 0) (round no_block end ∷ round no_block end ∷ []) false false ∷
    -- "round, from 0, below the timeout"
    play (board 1 2 3 0) (round no_block wait ∷ round no_block end ∷ round no_block (carry 0) ∷ []) true true ∷
    play (board 1 1 3 0) (round no_block wait ∷ round no_block end ∷ round no_block (carry 0) ∷ []) false true ∷
    play (board 1 0 2 0) (round no_block end ∷ round no_block (carry 0) ∷ []) false true ∷
    -- orders go on behind the timeout
    play (board 1 1 4 0) (round no_block end ∷ round no_block wait ∷ round no_block wait ∷ round no_block (carry 0) ∷ []) true true ∷
    -- a block on the log, "for that round"
    play (board 1 2 3 1) (round block_log end ∷ []) false false ∷
    play (board 1 2 3 1) (round block_log wait ∷ round no_block end ∷ round no_block (carry 0) ∷ []) true true ∷
    play (board 1 1 3 1) (round no_block end ∷ round block_log (carry 0) ∷ []) true true ∷
    -- a block on a partition, "for that round"
    play (board 2 1 4 1) (round no_block end ∷ round (block_partition 1) (carry 1) ∷ []) false false ∷
    play (board 2 1 4 1) (round no_block end ∷ round (block_partition 1) (carry 0) ∷ round no_block (carry 1) ∷ []) true true ∷
    play (board 1 1 2 1) (round (block_partition 0) end ∷ round no_block (carry 0) ∷ []) true true ∷
    -- a block is spent once, on the log or on a partition of the board, be it served or not
    play (board 1 3 4 0) (round block_log wait ∷ []) false false ∷
    play (board 1 3 4 0) (round (block_partition 0) wait ∷ []) false false ∷
    play (board 1 3 4 1) (round block_log wait ∷ round block_log wait ∷ []) false false ∷
    play (board 1 3 4 1) (round (block_partition 0) wait ∷ round block_log wait ∷ []) false false ∷
    play (board 1 3 4 2) (round block_log wait ∷ round block_log wait ∷ []) true false ∷
    play (board 1 3 4 1) (round (block_partition 1) wait ∷ []) false false ∷
    play (board 1 1 3 1) (round no_block end ∷ round no_block (carry 0) ∷ round (block_partition 0) wait ∷ []) true true ∷
    []

-- ---- boards

-- a board and its answer
pub record Answered : Type 0 where
  pub board : Board
  pub answer : RaceAnswer

abbrev pub answered : Board → RaceAnswer → Answered
answered b answer = record { board = b; answer = answer }

-- boards of one and two partitions, at each limit of what the bench can force
abbrev pub small_boards : List Answered
small_boards =
    -- rounds for the end and for each partition, and a timeout behind the first
    answered (board 1 1 2 0) Forced ∷
    answered (board 1 1 1 0) NotForced ∷
    answered (board 1 0 2 0) NotForced ∷
    answered (board 1 12 0 0) NotForced ∷
    answered (board 2 1 3 0) Forced ∷
    answered (board 2 1 2 0) NotForced ∷
    -- each block takes a round, before the timeout and of them all
    answered (board 1 2 3 1) Forced ∷
    answered (board 1 2 2 1) NotForced ∷
    answered (board 1 1 3 1) NotForced ∷
    answered (board 2 2 4 1) Forced ∷
    answered (board 2 2 3 1) NotForced ∷
    answered (board 2 1 4 1) NotForced ∷
    answered (board 1 3 4 2) Forced ∷
    answered (board 1 3 3 2) NotForced ∷
    answered (board 1 2 4 2) NotForced ∷
    []

-- large boards, and boards outside the limits
abbrev pub other_boards : List Answered
other_boards =
    answered (board 6 6 12 5) Forced ∷
    answered (board 6 12 12 6) NotForced ∷
    answered (board 6 5 12 5) NotForced ∷
    answered (board 6 12 11 5) NotForced ∷
    answered (board 1 12 12 10) Forced ∷
    answered (board 1 12 12 11) NotForced ∷
    answered (board 1 12 12 12) NotForced ∷
    answered (board 0 1 12 0) (Refused 30) ∷
    answered (board 7 1 12 0) (Refused 30) ∷
    answered (board 1 13 12 0) (Refused 30) ∷
    answered (board 1 1 13 0) (Refused 30) ∷
    answered (board 1 1 12 13) (Refused 30) ∷
    []

-- every move there is on a board of at most two partitions
abbrev pub line_moves : List LineMove
line_moves = no_block ∷ block_log ∷ block_partition 0 ∷ block_partition 1 ∷ []

abbrev pub bench_moves : List BenchMove
bench_moves = end ∷ carry 0 ∷ carry 1 ∷ wait ∷ []

-- whether the bench can complete a play in the rounds left, by trying every move: for each that the line may make it has one that is legal and leads on
unfoldable pub every_move : Board → ℕ → List Round → Bool
every_move b zero seen = completed (position b seen)
every_move b (suc rounds) seen =
    all (λ (line : LineMove).
    not (line_may (position b seen) line)
    || is_found (find (λ (bench : BenchMove). legal b (round line bench ∷ seen) && every_move b rounds (round line bench ∷ seen)) bench_moves))
    line_moves

abbrev pub forced_by_every_move : Board → Bool
forced_by_every_move b = every_move b b.rounds []

-- ---- once ended

-- the rounds, partitions and blocks left behind an end, and whether the bench can serve the partitions
pub record Served : Type 0 where
  pub rounds : ℕ
  pub left : ℕ
  pub blocks : ℕ
  pub answer : Bool

abbrev pub served : ℕ → ℕ → ℕ → Bool → Served
served rounds left blocks answer = record { rounds = rounds; left = left; blocks = blocks; answer = answer }

-- each block takes a round where the line keeps it for the last partition left
abbrev pub endings : List Served
endings =
    served 0 0 2 true ∷
    served 0 1 0 false ∷
    served 1 1 0 true ∷
    served 1 1 1 false ∷
    served 2 1 1 true ∷
    served 2 1 2 false ∷
    served 3 1 2 true ∷
    served 1 2 0 false ∷
    served 2 2 0 true ∷
    served 2 2 1 false ∷
    served 3 2 1 true ∷
    served 3 2 2 false ∷
    []

-- the same by every move, on a board whose run was ended in its first round
abbrev pub served_by_every_move : Served → Bool
served_by_every_move x = every_move (board x.left 1 (suc x.rounds) x.blocks) x.rounds (round no_block end ∷ [])

-- ---- a strategy

-- it ends the run in the first round where the log is not blocked, and then carries to partition 1 where partition 0 is blocked
abbrev pub avoids_blocks : List Round → LineMove → BenchMove
avoids_blocks [] block_log = wait
avoids_blocks [] no_block = end
avoids_blocks [] (block_partition q) = end
avoids_blocks (r ∷ seen) (block_partition zero) = carry 1
avoids_blocks (r ∷ seen) (block_partition (suc q)) = carry 0
avoids_blocks (r ∷ seen) block_log = carry 0
avoids_blocks (r ∷ seen) no_block = carry 0
