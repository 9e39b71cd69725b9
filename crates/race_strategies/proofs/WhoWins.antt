-- Who wins a board: the meaning of its answer.
use Prim.Native.Nat.{ℕ, zero, suc, ◌+◌, ◌≤◌, ◌<◌}
use mathlib.Core.Path.{◌≡◌, refl, ap}
use mathlib.Core.Bool.{Bool, true, false, cond, ◌&&◌}
use mathlib.Core.List.{List, [], ◌∷◌}
use mathlib.Core.Logic.{inl, inr}
use native.Mathlib.Omega.{arith}
use lib.Dec.{ltb, leb}
use lib.ListN.{length}
use borrow.Author.Tests.{ltb-true, ltb-false, le-leb, leb-true}
use Rattle.numbers.proofs.Tests.{either, not-both, and_left, and_right, and_both}
use Rattle.race.specs.declared.Board.{Board}
use Rattle.race.specs.Search.{Forced, NotForced, Refused, can_force, inside, race_answer}
use Rattle.race.specs.Limits.{partitions_max, count_max, invalid_board, Inside}
use Rattle.race.specs.Game.{Round, position, line_may, bench_may, legal, LinePlays, BenchPlays, LineStrategy, BenchStrategy, BenchForces, LinePrevents}
use Rattle.race_strategies.specs.WhoWins.{with_more_blocks, WhoWins}
use Rattle.race_strategies.proofs.ClosedForm.{force-enough, force-needs}
use Rattle.race_strategies.proofs.Bench.{bench-forces}
use Rattle.race_strategies.proofs.Line.{line-prevents}

-- ---- no board is won by both

-- the play of two strategies
abbrev against : BenchStrategy → LineStrategy → ℕ → List Round
against s t zero = []
against s t (suc n) = let play = against s t n in record { line = t play; bench = s play (t play) } ∷ play

-- it is legal, by both strategies, and of so many rounds
record Met (board : Board) (s : BenchStrategy) (t : LineStrategy) (n : ℕ) : Type 0 where
  allowed : legal board (against s t n) ≡ true
  bench : BenchPlays s (against s t n)
  line : LinePlays t (against s t n)
  long : length (against s t n) ≡ n

module _ (board : Board) (f : BenchForces board) (k : LinePrevents board) where
  met : (n : ℕ) → Met board f.strategy k.strategy n
  met zero = record { allowed = refl; bench = tt; line = tt; long = refl }
  met (suc n) =
      let play = against f.strategy k.strategy n in
      let p = position board play in
      let m = met n in
      let may = k.allowed play m.allowed m.line in
      record {
        allowed =
            and_both (legal board play && line_may p (k.strategy play)) (bench_may board p (k.strategy play) (f.strategy play (k.strategy play)))
            (and_both (legal board play) (line_may p (k.strategy play)) m.allowed may)
            (f.allowed play m.allowed m.bench (k.strategy play) may);
        bench = (m.bench, refl);
        line = (m.line, refl);
        long = ap suc m.long;
      }

  one-winner : ⊥
  one-winner =
      let m = met board.rounds in
      let play = against f.strategy k.strategy board.rounds in
      not-both (k.never play m.allowed m.line m.long) (f.completes play m.allowed m.bench m.long)

-- ---- the limits

module _ (board : Board) where
  abbrev partitions-within : Bool
  partitions-within = leb 1 board.partitions && leb board.partitions partitions_max

  abbrev timeout-within : Bool
  timeout-within = partitions-within && leb board.timeout count_max

  abbrev rounds-within : Bool
  rounds-within = timeout-within && leb board.rounds count_max

  inside-true : Inside board → inside board ≡ true
  inside-true i =
      rw (
        le-leb 1 board.partitions i.some-partition,
        le-leb board.partitions partitions_max i.partitions,
        le-leb board.timeout count_max i.timeout,
        le-leb board.rounds count_max i.rounds,
        le-leb board.blocks count_max i.blocks,
      )

  true-inside : inside board ≡ true → Inside board
  true-inside e =
      let r = and_left rounds-within (leb board.blocks count_max) e in
      let t = and_left timeout-within (leb board.rounds count_max) r in
      let p = and_left partitions-within (leb board.timeout count_max) t in
      record {
        some-partition = leb-true 1 board.partitions (and_left (leb 1 board.partitions) (leb board.partitions partitions_max) p);
        partitions = leb-true board.partitions partitions_max (and_right (leb 1 board.partitions) (leb board.partitions partitions_max) p);
        timeout = leb-true board.timeout count_max (and_right partitions-within (leb board.timeout count_max) t);
        rounds = leb-true board.rounds count_max (and_right timeout-within (leb board.rounds count_max) r);
        blocks = leb-true board.blocks count_max (and_right rounds-within (leb board.blocks count_max) e);
      }

-- ---- the answers

-- which tests led to an answer
answer-forced : (i f : Bool) → cond i (cond f Forced NotForced) (Refused invalid_board) ≡ Forced → (i ≡ true) × (f ≡ true)
answer-forced true true e = (refl, refl)
answer-forced true false e = (cc, cc)
answer-forced false f e = (cc, cc)

answer-not-forced : (i f : Bool) → cond i (cond f Forced NotForced) (Refused invalid_board) ≡ NotForced → f ≡ false
answer-not-forced true true e = cc
answer-not-forced true false e = refl
answer-not-forced false f e = cc

answer-refused : (i f : Bool) → cond i (cond f Forced NotForced) (Refused invalid_board) ≡ Refused invalid_board → i ≡ false
answer-refused true true e = cc
answer-refused true false e = cc
answer-refused false f e = refl

module _ (board : Board) where
  abbrev found : Bool
  found = can_force board.rounds board.timeout board.partitions board.blocks

  -- what the bench needs, in closed form
  abbrev Enough : Type 0
  Enough = (board.blocks < board.timeout) × (1 + board.partitions + board.blocks ≤ board.rounds)

  found-enough : found ≡ true → Enough
  found-enough = force-needs board.rounds board.timeout board.partitions board.blocks

  enough-found : Enough → found ≡ true
  enough-found h = force-enough board.rounds board.timeout board.partitions board.blocks h.0 h.1

  bench-wins : found ≡ true → BenchForces board
  bench-wins e = let h = found-enough e in bench-forces board h.0 h.1

  line-wins : found ≡ false → LinePrevents board
  line-wins e = line-prevents board late
    where
      late : board.blocks < board.timeout → board.rounds < 1 + board.partitions + board.blocks
      late h =
          either (ltb board.rounds (1 + board.partitions + board.blocks))
          (λ t. ltb-true board.rounds (1 + board.partitions + board.blocks) t)
          (λ t. not-both e (enough-found (h, ltb-false board.rounds (1 + board.partitions + board.blocks) t)))

  -- what one side can bring about, the search finds: else the other side could prevent it
  forced-found : BenchForces board → found ≡ true
  forced-found f = either found (λ t. t) (λ t. absurd (one-winner board f (line-wins t)))

  prevented-found : LinePrevents board → found ≡ false
  prevented-found k = either found (λ t. absurd (one-winner board (bench-wins t) k)) (λ t. t)

-- with fewer blocks a board stays inside the limits
fewer-inside : (board : Board) (more : ℕ) → Inside (with_more_blocks board more) → Inside board
fewer-inside board more i =
    let fewer = i.blocks in
    record { some-partition = i.some-partition; partitions = i.partitions; timeout = i.timeout; rounds = i.rounds; blocks = omega arith }

fewer-forced : (board : Board) (more : ℕ) → race_answer (with_more_blocks board more) ≡ Forced → race_answer board ≡ Forced
fewer-forced board more e =
    let blocked = with_more_blocks board more in
    let a = answer-forced (inside blocked) (found blocked) e in
    let h = found-enough blocked a.1 in
    rw (inside-true board (fewer-inside board more (true-inside blocked a.0)), enough-found board (omega arith, omega arith))

pub who-wins : (board : Board) → WhoWins board
who-wins board =
    record {
      determined = either (found board) (λ t. inl (bench-wins board t)) (λ t. inr (line-wins board t));
      one-winner = one-winner board;
      forced = λ i.
          (λ e. bench-wins board (answer-forced (inside board) (found board) e).1, λ f. rw (inside-true board i, forced-found board f));
      not-forced = λ i.
          (λ e. line-wins board (answer-not-forced (inside board) (found board) e), λ k. rw (inside-true board i, prevented-found board k));
      turned-away = (
        λ e i. not-both (answer-refused (inside board) (found board) e) (inside-true board i),
        λ n. either (inside board) (λ t. absurd (n (true-inside board t))) (λ t. rw t),
      );
      more-blocks = fewer-forced board;
      closed-form = λ i.
          (λ e. found-enough board (answer-forced (inside board) (found board) e).1, λ h. rw (inside-true board i, enough-found board h));
    }
