-- A strategy of the bench: it ends the run as soon as it may, and then carries to the first partition that is left, if that one is not blocked.
-- With blocks below the timeout and rounds enough, each round that it loses has cost the line a block.
use Prim.Native.Nat.{ℕ, zero, suc, ◌+◌, ◌-◌, ◌≤◌, ◌<◌}
use mathlib.Core.Path.{◌≡◌, refl, sym, subst}
use mathlib.Core.Bool.{Bool, true, false, cond, not}
use mathlib.Core.List.{List, [], ◌∷◌}
use native.Mathlib.Omega.{arith}
use lib.Dec.{ltb}
use lib.ListN.{length, get_or}
use borrow.Author.Tests.{ltb-true, ltb-false}
use Rattle.numbers.proofs.Tests.{by_cases, not-both, and_left, and_right}
use Rattle.race.specs.declared.Board.{Board}
use Rattle.race.specs.Game.{Position, completed, LineMove, no_block, block_log, block_partition, BenchMove, end, carry, wait, partition_blocked, line_may, bench_may, Round, after, position, legal, BenchStrategy, BenchPlays, BenchForces}
use Rattle.race_strategies.proofs.Plays.{round_is, legal-before, line-allowed}
use Rattle.race_strategies.proofs.Left.{left, all_left, one_fewer, none_left, first, first-left}

-- what holds of a play by the strategy: rounds enough for the partitions and blocks left and, before the end, for the end too
abbrev BenchInvariant : Board → Bool → List Bool → ℕ → ℕ → Type 0
BenchInvariant board true unserved round blocks = left unserved ≤ board.rounds - round - blocks
BenchInvariant board false unserved round blocks = (blocks + round < board.timeout) × (1 + left unserved + blocks + round ≤ board.rounds)

abbrev BenchInvariantAt : Board → Position → Type 0
BenchInvariantAt board p = BenchInvariant board p.ended p.unserved p.round p.blocks

-- the move that leads on
abbrev intended : Bool → List Bool → BenchMove
intended true unserved = carry (first unserved)
intended false unserved = end

-- it is made where it is allowed
abbrev reply : Board → Position → LineMove → BenchMove
reply board p line = let m = intended p.ended p.unserved in cond (bench_may board p line m) m wait

reply-allowed : (board : Board) (p : Position) (line : LineMove) → bench_may board p line (reply board p line) ≡ true
reply-allowed board p line =
    by_cases (λ (m : BenchMove). bench_may board p line m ≡ true) (bench_may board p line (intended p.ended p.unserved)) (λ e. e) (λ _. refl)

module _ (board : Board) (l : List Bool) (n b : ℕ) where
  abbrev at : Bool → Position
  at ended = record { unserved = l; ended = ended; round = n; blocks = b }

  -- the bench waits because of a block, or because all is served
  waits-ended : (line : LineMove) → BenchInvariantAt board (at true) → line_may (at true) line ≡ true → bench_may board (at true) line (carry (first l)) ≡ false
      → BenchInvariantAt board (after (at true) (record { line = line; bench = wait }))
  waits-ended no_block h may f = served (left l) refl
    where
      served : (k : ℕ) → left l ≡ k → left l ≤ board.rounds - (n + 1) - (b - 0)
      served zero e = omega arith
      served (suc k) e = not-both f (first-left l (omega arith))
  waits-ended block_log h may f = omega (arith, ltb-true 0 b may)
  waits-ended (block_partition q) h may f = omega (arith, ltb-true 0 b (and_left (ltb 0 b) (ltb q (length l)) may))

  waits-open : (line : LineMove) → BenchInvariantAt board (at false) → line_may (at false) line ≡ true → bench_may board (at false) line end ≡ false
      → BenchInvariantAt board (after (at false) (record { line = line; bench = wait }))
  waits-open no_block h may f = absurd (omega (arith, ltb-false n board.timeout f))
  waits-open block_log h may f = omega (arith, ltb-true 0 b may)
  waits-open (block_partition q) h may f = absurd (omega (arith, ltb-false n board.timeout f))

  bench-round : (ended : Bool) (line : LineMove) → BenchInvariantAt board (at ended) → line_may (at ended) line ≡ true
      → BenchInvariantAt board (after (at ended) (record { line = line; bench = reply board (at ended) line }))
  bench-round true line h may =
      by_cases (λ (m : BenchMove). BenchInvariantAt board (after (at true) (record { line = line; bench = m }))) (bench_may board (at true) line (carry (first l)))
      (λ e. omega (arith, one_fewer l (first l) (and_right (not (partition_blocked line (first l))) (get_or l (first l) false) e)))
      (waits-ended line h may)
  bench-round false line h may =
      by_cases (λ (m : BenchMove). BenchInvariantAt board (after (at false) (record { line = line; bench = m }))) (bench_may board (at false) line end)
      (λ e. omega arith) (waits-open line h may)

  -- after the last round
  bench-last : (ended : Bool) → BenchInvariantAt board (at ended) → n ≡ board.rounds → completed (at ended) ≡ true
  bench-last true h e = none_left l (omega arith)
  bench-last false h e = absurd (omega arith)

module _ (board : Board) (in-time : board.blocks < board.timeout) (enough : 1 + board.partitions + board.blocks ≤ board.rounds) where
  abbrev end_and_carry : BenchStrategy
  end_and_carry play line = reply board (position board play) line

  bench-invariant : (play : List Round) → legal board play ≡ true → BenchPlays end_and_carry play → BenchInvariantAt board (position board play)
  bench-invariant [] ok by = omega (arith, all_left board.partitions)
  bench-invariant (r ∷ play) ok by =
      let p = position board play in
      subst (λ (m : BenchMove). BenchInvariantAt board (after p (record { line = r.line; bench = m }))) (sym by.1)
      (bench-round board p.unserved p.round p.blocks p.ended r.line (bench-invariant play (legal-before board r play ok) by.0) (line-allowed board r play ok))

  pub bench-forces : BenchForces board
  bench-forces =
      record {
        strategy = end_and_carry;
        allowed = λ play ok by line may. reply-allowed board (position board play) line;
        completes = λ play ok by all. let p = position board play in
            bench-last board p.unserved p.round p.blocks p.ended (bench-invariant play ok by) (omega (arith, round_is board play));
      }
