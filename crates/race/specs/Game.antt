-- The game of request 14 of document 02, from its words and not from the search: the positions, the moves of both sides, the plays, and what each side can bring about.
-- The line and the bench are the document's words: the network, which blocks, and the rig with its server, which wants the commit.
use Rattle.std.specs.Prelude.{ℕ, ◌+◌, ◌-◌, ◌≡◌, Bool, true, false, not, ◌&&◌, List, [], ◌∷◌, eqb, ltb, length, get_or, set, replicate}
use Rattle.search.specs.Search.{all}
use Rattle.race.specs.declared.Board.{Board}

-- ---- positions

-- where a play stands when a round begins: of each partition whether it is not yet served, whether the run is ended, the round, "from 0", and the blocks left
pub record Position : Type 0 where
  pub unserved : List Bool
  pub ended : Bool
  pub round : ℕ
  pub blocks : ℕ

-- "one BEGIN": no partition is served, and the run is not ended
abbrev pub start : Board → Position
start board = record { unserved = replicate board.partitions true; ended = false; round = 0; blocks = board.blocks }

-- "a completed commit": the run is ended and each partition is served
abbrev pub completed : Position → Bool
completed p = p.ended && all not p.unserved

-- ---- moves

-- "Each round the line may spend one block on the log or on one partition"
pub data LineMove : Type 0 where
  no_block : LineMove
  block_log : LineMove
  block_partition : ℕ → LineMove

-- "then the bench ends the run …, carries one order to an unblocked partition …, or waits"
pub data BenchMove : Type 0 where
  end : BenchMove
  carry : ℕ → BenchMove
  wait : BenchMove

-- how many blocks a move spends
abbrev pub spent : LineMove → ℕ
spent no_block = 0
spent block_log = 1
spent (block_partition q) = 1

-- what it blocks, "for that round"
abbrev pub log_blocked : LineMove → Bool
log_blocked no_block = false
log_blocked block_log = true
log_blocked (block_partition q) = false

abbrev pub partition_blocked : LineMove → ℕ → Bool
partition_blocked no_block partition = false
partition_blocked block_log partition = false
partition_blocked (block_partition q) partition = eqb q partition

-- a block is spent only while there is one, and on a partition of the board
abbrev pub line_may : Position → LineMove → Bool
line_may p no_block = true
line_may p block_log = ltb 0 p.blocks
line_may p (block_partition q) = ltb 0 p.blocks && ltb q (length p.unserved)

-- "ends the run (log unblocked, round, from 0, below the timeout …), carries one order to an unblocked partition once ended, or waits".
-- "A run not ended at its timeout is aborted": from then on the bench can only wait. There is an order for each partition that is not served.
abbrev pub bench_may : Board → Position → LineMove → BenchMove → Bool
bench_may board p line end = not p.ended && not (log_blocked line) && ltb p.round board.timeout
bench_may board p line (carry q) = p.ended && not (partition_blocked line q) && get_or p.unserved q false
bench_may board p line wait = true

abbrev pub unserved_after : BenchMove → List Bool → List Bool
unserved_after end unserved = unserved
unserved_after (carry q) unserved = set unserved q false
unserved_after wait unserved = unserved

-- "this counts as flushed": what is ended stays ended
abbrev pub ended_after : BenchMove → Bool → Bool
ended_after end ended = true
ended_after (carry q) ended = ended
ended_after wait ended = ended

-- ---- plays

-- what both did in a round
pub record Round : Type 0 where
  pub line : LineMove
  pub bench : BenchMove

abbrev pub after : Position → Round → Position
after p r =
    record {
      unserved = unserved_after r.bench p.unserved;
      ended = ended_after r.bench p.ended;
      round = p.round + 1;
      blocks = p.blocks - spent r.line;
    }

-- where a play has led; its rounds stand newest first
abbrev pub position : Board → List Round → Position
position board [] = start board
position board (r ∷ play) = after (position board play) r

-- each move of either side was allowed where it was made
abbrev pub legal : Board → List Round → Bool
legal board [] = true
legal board (r ∷ play) = legal board play && line_may (position board play) r.line && bench_may board (position board play) r.line r.bench

-- ---- strategies: functions of all that was seen

-- the line has seen the rounds so far
abbrev pub LineStrategy : Type 0
LineStrategy = List Round → LineMove

-- the bench has seen them, and the line's move of this round too
abbrev pub BenchStrategy : Type 0
BenchStrategy = List Round → LineMove → BenchMove

-- the line's moves of a play are those of a strategy
abbrev pub LinePlays : LineStrategy → List Round → Type 0
LinePlays s [] = Unit {0}
LinePlays s (r ∷ play) = LinePlays s play × (r.line ≡ s play)

-- the bench's moves of a play are those of a strategy
abbrev pub BenchPlays : BenchStrategy → List Round → Type 0
BenchPlays s [] = Unit {0}
BenchPlays s (r ∷ play) = BenchPlays s play × (r.bench ≡ s play r.line)

-- "the bench can force a completed commit within the rounds": with some strategy, whose moves are allowed whatever the line does, every play of all the rounds is completed
pub record BenchForces (board : Board) : Type 0 where
  pub strategy : BenchStrategy
  pub allowed : (play : List Round) → legal board play ≡ true → BenchPlays strategy play
      → (line : LineMove) → line_may (position board play) line ≡ true → bench_may board (position board play) line (strategy play line) ≡ true
  pub completes : (play : List Round) → legal board play ≡ true → BenchPlays strategy play → length play ≡ board.rounds
      → completed (position board play) ≡ true

-- the line can prevent it: with some strategy, whose moves are allowed whatever the bench does, no play of all the rounds is completed
pub record LinePrevents (board : Board) : Type 0 where
  pub strategy : LineStrategy
  pub allowed : (play : List Round) → legal board play ≡ true → LinePlays strategy play → line_may (position board play) (strategy play) ≡ true
  pub never : (play : List Round) → legal board play ≡ true → LinePlays strategy play → length play ≡ board.rounds
      → completed (position board play) ≡ false
