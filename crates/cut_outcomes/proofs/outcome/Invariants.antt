-- `cut_outcomes::outcome`: what its loops keep. The loop's invariant: the set is the outcome at the places passed.
use mathlib.Core.Path.{◌≡◌}
use Rattle.cut_outcomes.specs.Outcomes.{outcome_below}
use Rattle.cut_outcomes.proofs.outcome.Given as goal

abbrev pub invariant-loop-place : goal.invariant-loop-place
invariant-loop-place l = l.set ≡ outcome_below l.place l.flushed l.before l.after
