-- In none of these worlds is each pid given once and to one name.
use Prim.Native.Nat.{ℕ}
use mathlib.Core.Path.{refl, ap}
use mathlib.Core.List.{List}
use lib.ListN.{get_or}
use Rattle.runs.specs.History.{records_of}
use Rattle.runs.specs.InEveryRun.{PidsOnce}
use Rattle.false_worlds.specs.Histories.{with_history}
use Rattle.false_worlds.specs.Pids.{GivenAgain, to_another, to_the_same, again_in}
use Rattle.false_worlds.proofs.Differ.{differ}

pub not-once : (x : GivenAgain) → PidsOnce (with_history (again_in x)) → ⊥
unfolding records_of
not-once to_another = λ p. differ 56 55 refl refl (ap (λ (name : List ℕ). get_or name 3 0) (p.one_name.0.1.0 refl))
not-once to_the_same = λ p. differ 2 1 refl refl (p.given-once.0.1.0 (record { status = refl; epoch = refl }) (record { status = refl; epoch = refl }) refl)
