-- A strategy of the line: it blocks the log while it has blocks. Then the run ends too late for the timeout or for the rounds.
use Prim.Native.Nat.{ℕ, ◌+◌, ◌<◌}
use mathlib.Core.Path.{◌≡◌, refl, sym, subst}
use mathlib.Core.Bool.{Bool, true, false, cond, not}
use mathlib.Core.List.{List, [], ◌∷◌}
use native.Mathlib.Omega.{arith}
use lib.Dec.{ltb}
use lib.ListN.{get_or}
use borrow.Author.Tests.{ltb-true, ltb-false}
use Rattle.numbers.proofs.Tests.{by_cases, not-both, and_right}
use Rattle.race.specs.declared.Board.{Board}
use Rattle.race.specs.Game.{Position, completed, LineMove, no_block, block_log, BenchMove, end, carry, wait, partition_blocked, line_may, bench_may, Round, after, position, legal, LineStrategy, LinePlays, LinePrevents}
use Rattle.race_strategies.proofs.Left.{left, all_left, one_fewer, some_left}
use Rattle.race_strategies.proofs.Plays.{round_is, legal-before, bench-allowed}

-- what holds of a play by the strategy: too few rounds for the partitions left or, before the end, for an end that comes before the timeout
abbrev LineInvariant : Board → Bool → List Bool → ℕ → ℕ → Type 0
LineInvariant board true unserved round blocks = board.rounds < left unserved + round
LineInvariant board false unserved round blocks = blocks + round < board.timeout → board.rounds < 1 + left unserved + blocks + round

abbrev LineInvariantAt : Board → Position → Type 0
LineInvariantAt board p = LineInvariant board p.ended p.unserved p.round p.blocks

-- a block on the log, while there is one
abbrev blocking : Position → LineMove
blocking p = cond (ltb 0 p.blocks) block_log no_block

blocking-allowed : (p : Position) → line_may p (blocking p) ≡ true
blocking-allowed p = by_cases (λ (m : LineMove). line_may p m ≡ true) (ltb 0 p.blocks) (λ e. e) (λ _. refl)

module _ (board : Board) (l : List Bool) (n b : ℕ) where
  abbrev at : Bool → Position
  at ended = record { unserved = l; ended = ended; round = n; blocks = b }

  line-round : (ended : Bool) (bench : BenchMove) → LineInvariantAt board (at ended) → bench_may board (at ended) (blocking (at ended)) bench ≡ true
      → LineInvariantAt board (after (at ended) (record { line = blocking (at ended); bench = bench }))
  line-round true end h may = not-both refl may
  line-round true (carry q) h may =
      omega (arith, one_fewer l q (and_right (not (partition_blocked (blocking (at true)) q)) (get_or l q false) may))
  line-round true wait h may = omega arith
  line-round false end h may =
      by_cases (λ (line : LineMove). bench_may board (at false) line end ≡ true → LineInvariantAt board (after (at false) (record { line = line; bench = end }))) (ltb 0 b)
      (λ t m. not-both refl m)
      (λ t m. omega (arith, h (omega (arith, ltb-false 0 b t, ltb-true n board.timeout m)), ltb-false 0 b t))
      may
  line-round false (carry q) h may = not-both refl may
  line-round false wait h may =
      by_cases (λ (line : LineMove). LineInvariantAt board (after (at false) (record { line = line; bench = wait }))) (ltb 0 b)
      (λ t soon. let some-blocks = ltb-true 0 b t in omega (arith, h (omega arith)))
      (λ t soon. let no_blocks = ltb-false 0 b t in omega (arith, h (omega arith)))

  -- after the last round
  line-last : (ended : Bool) → LineInvariantAt board (at ended) → n ≡ board.rounds → completed (at ended) ≡ false
  line-last true h e = some_left l (omega arith)
  line-last false h e = refl

module _ (board : Board) (late : board.blocks < board.timeout → board.rounds < 1 + board.partitions + board.blocks) where
  abbrev block_the_log : LineStrategy
  block_the_log play = blocking (position board play)

  line-invariant : (play : List Round) → legal board play ≡ true → LinePlays block_the_log play → LineInvariantAt board (position board play)
  line-invariant [] ok by = λ soon. omega (arith, all_left board.partitions, late (omega arith))
  line-invariant (r ∷ play) ok by =
      let p = position board play in
      subst (λ (m : LineMove). LineInvariantAt board (after p (record { line = m; bench = r.bench }))) (sym by.1)
      (line-round board p.unserved p.round p.blocks p.ended r.bench (line-invariant play (legal-before board r play ok) by.0)
      (subst (λ (m : LineMove). bench_may board p m r.bench ≡ true) by.1 (bench-allowed board r play ok)))

  pub line-prevents : LinePrevents board
  line-prevents =
      record {
        strategy = block_the_log;
        allowed = λ play ok by. blocking-allowed (position board play);
        never = λ play ok by all. let p = position board play in
            line-last board p.unserved p.round p.blocks p.ended (line-invariant play ok by) (omega (arith, round_is board play));
      }
