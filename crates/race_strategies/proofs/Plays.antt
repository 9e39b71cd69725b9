-- Laws of plays: their rounds are counted, what is completed stays completed, what is not ended at the timeout never ends, and no partition is served before the end.
use Prim.Native.Nat.{ℕ, zero, suc, ◌≤◌}
use mathlib.Core.Path.{◌≡◌, refl}
use mathlib.Core.Bool.{Bool, true, false, not, ◌&&◌}
use mathlib.Core.List.{List, [], ◌∷◌, ◌++◌}
use native.Mathlib.Omega.{arith}
use lib.Dec.{ltb}
use lib.ListN.{length, get_or, set, replicate}
use borrow.Author.Tests.{ltb-true}
use Rattle.numbers.proofs.Tests.{not-both, and_left, and_right, and_both}
use Rattle.search.specs.Search.{all}
use Rattle.race.specs.declared.Board.{Board}
use Rattle.race.specs.Game.{Position, completed, LineMove, BenchMove, end, carry, wait, log_blocked, partition_blocked, line_may, bench_may, unserved_after, ended_after, Round, position, legal}

-- ---- what a legal play says of its last round

module _ (board : Board) (r : Round) (play : List Round) (ok : legal board (r ∷ play) ≡ true) where
  abbrev p : Position
  p = position board play

  abbrev line-may : Bool
  line-may = line_may p r.line

  pub legal-before : legal board play ≡ true
  legal-before = and_left (legal board play) line-may (and_left (legal board play && line-may) (bench_may board p r.line r.bench) ok)

  pub line-allowed : line_may (position board play) r.line ≡ true
  line-allowed = and_right (legal board play) line-may (and_left (legal board play && line-may) (bench_may board p r.line r.bench) ok)

  pub bench-allowed : bench_may board (position board play) r.line r.bench ≡ true
  bench-allowed = and_right (legal board play && line-may) (bench_may board p r.line r.bench) ok

-- the round of a play is the number of its rounds
pub round_is : (board : Board) (play : List Round) → (position board play).round ≡ length play
round_is board [] = refl
round_is board (r ∷ play) = omega (arith, round_is board play)

-- ---- "within the rounds": what is completed after some round is completed after the last

still-ended : (m : BenchMove) (ended : Bool) → ended ≡ true → ended_after m ended ≡ true
still-ended end ended e = refl
still-ended (carry q) ended e = e
still-ended wait ended e = e

set-served : (l : List Bool) (q : ℕ) → all not l ≡ true → all not (set l q false) ≡ true
unfolding all
set-served [] q e = refl
set-served (x ∷ l) zero e = and_right (not x) (all not l) e
set-served (x ∷ l) (suc q) e = and_both (not x) (all not (set l q false)) (and_left (not x) (all not l) e) (set-served l q (and_right (not x) (all not l) e))

still-served : (m : BenchMove) (l : List Bool) → all not l ≡ true → all not (unserved_after m l) ≡ true
still-served end l e = e
still-served (carry q) l e = set-served l q e
still-served wait l e = e

pub completed-stays : (board : Board) (more play : List Round) → completed (position board play) ≡ true → completed (position board (more ++ play)) ≡ true
completed-stays board [] play c = c
completed-stays board (r ∷ more) play c =
    let p = position board (more ++ play) in
    let before = completed-stays board more play c in
    and_both (ended_after r.bench p.ended) (all not (unserved_after r.bench p.unserved))
    (still-ended r.bench p.ended (and_left p.ended (all not p.unserved) before))
    (still-served r.bench p.unserved (and_right p.ended (all not p.unserved) before))

-- ---- "A run not ended at its timeout is aborted."

still_open_lem : (board : Board) (p : Position) (line : LineMove) → board.timeout ≤ p.round → p.ended ≡ false → (m : BenchMove) → bench_may board p line m ≡ true
    → ended_after m p.ended ≡ false
still_open_lem board p line late e end may =
    absurd (omega (arith, ltb-true p.round board.timeout (and_right (not p.ended && not (log_blocked line)) (ltb p.round board.timeout) may)))
still_open_lem board p line late e (carry q) may = e
still_open_lem board p line late e wait may = e

pub aborted-stays : (board : Board) (more play : List Round) → legal board (more ++ play) ≡ true → board.timeout ≤ length play
    → (position board play).ended ≡ false → (position board (more ++ play)).ended ≡ false
aborted-stays board [] play ok late e = e
aborted-stays board (r ∷ more) play ok late e =
    still_open_lem board (position board (more ++ play)) r.line (omega (arith, round_is board (more ++ play), longer more))
    (aborted-stays board more play (legal-before board r (more ++ play) ok) late e) r.bench (bench-allowed board r (more ++ play) ok)
  where
    longer : (more : List Round) → length play ≤ length (more ++ play)
    longer [] = omega arith
    longer (x ∷ more) = omega (arith, longer more)

-- ---- "carries one order … once ended"

still-unserved : (board : Board) (p : Position) (line : LineMove) (l : List Bool) (m : BenchMove) → bench_may board p line m ≡ true
    → (p.ended ≡ false → p.unserved ≡ l) → ended_after m p.ended ≡ false → unserved_after m p.unserved ≡ l
still-unserved board p line l end may h e = not-both e refl
still-unserved board p line l (carry q) may h e =
    not-both e (and_left p.ended (not (partition_blocked line q)) (and_left (p.ended && not (partition_blocked line q)) (get_or p.unserved q false) may))
still-unserved board p line l wait may h e = h e

pub unserved-until-ended : (board : Board) (play : List Round) → legal board play ≡ true → (position board play).ended ≡ false
    → (position board play).unserved ≡ replicate board.partitions true
unserved-until-ended board [] ok e = refl
unserved-until-ended board (r ∷ play) ok e =
    still-unserved board (position board play) r.line (replicate board.partitions true) r.bench (bench-allowed board r play ok)
    (unserved-until-ended board play (legal-before board r play ok)) e
