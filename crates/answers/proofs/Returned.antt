-- Laws of what the functions return.
use Prim.Native.Nat.{ℕ}
use mathlib.Core.Path.{◌≡◌, refl, sym, ap}
use mathlib.Core.Bool.{Bool, true, false, cond}
use Rattle.std.specs.Result.{IsErr, IsErrAnd, result_and}
use Rattle.std.specs.declared.result.Result.{Result}
use Rattle.std.specs.declared.result.Result.TheVariants.{Ok, Err}
use native.Mathlib.Omega.{arith}
use borrow.Author.Tests.{ne_eqb}
use Rattle.answers.specs.Refusals.{or_refuse}
use Rattle.answers.specs.Returned.{number_of, refusal_of, refused_if}
use Rattle.answers.specs.declared.Refusal.{Refusal}
use Rattle.answers.specs.declared.Refusal.TheVariants.{InvalidName, InvalidTimeout, InvalidSet, InvalidVerdict, InvalidCatalogue, InvalidNumber, InvalidLength, UnknownProducer, WrongEpoch, NotFlushed, WrongStatus, Busy, TooManyNames, PidsSpent, NoLogRoom, NotJoined, SequenceGap, RepeatedSequence, StaleCoordinator, NoPartitionRoom}

-- no refusal has the number 0
pub number-positive : (e : Refusal) → number_of e ≡ 0 → ⊥
number-positive InvalidName h = omega (arith, h)
number-positive InvalidTimeout h = omega (arith, h)
number-positive InvalidSet h = omega (arith, h)
number-positive InvalidVerdict h = omega (arith, h)
number-positive InvalidCatalogue h = omega (arith, h)
number-positive InvalidNumber h = omega (arith, h)
number-positive InvalidLength h = omega (arith, h)
number-positive UnknownProducer h = omega (arith, h)
number-positive WrongEpoch h = omega (arith, h)
number-positive NotFlushed h = omega (arith, h)
number-positive WrongStatus h = omega (arith, h)
number-positive Busy h = omega (arith, h)
number-positive TooManyNames h = omega (arith, h)
number-positive PidsSpent h = omega (arith, h)
number-positive NoLogRoom h = omega (arith, h)
number-positive NotJoined h = omega (arith, h)
number-positive SequenceGap h = omega (arith, h)
number-positive RepeatedSequence h = omega (arith, h)
number-positive StaleCoordinator h = omega (arith, h)
number-positive NoPartitionRoom h = omega (arith, h)

-- ---- the tests of a call, one after the other

-- the first of them
pub refused_first : {q : Result (Unit {0}) Refusal} (applies : Bool) (refusal : Refusal) → q ≡ refused_if applies refusal → refusal_of q ≡ or_refuse 0 (number_of refusal) applies
unfolding or_refuse
refused_first true refusal e = rw e refl
refused_first false refusal e = rw e refl

-- one more behind others
pub refused_next : (r : Result (Unit {0}) Refusal) {q both : Result (Unit {0}) Refusal} (applies : Bool) (refusal : Refusal) → q ≡ refused_if applies refusal → both ≡ result_and r q
    → refusal_of both ≡ or_refuse (refusal_of r) (number_of refusal) applies
unfolding or_refuse
refused_next (Ok x) true refusal e b = rw (b, e) refl
refused_next (Ok x) false refusal e b = rw (b, e) refl
refused_next (Err refusal) applies next e b = rw (b, ne_eqb (number_of refusal) 0 (number-positive refusal)) refl

-- ---- what `?` passes on is the error

pub error_passed : {A E : Type 0} (r : Result A E) (e : E) → IsErr r × IsErrAnd r (λ x. x ≡ e) → r ≡ Err e
error_passed (Ok x) e h = absurd h.1
error_passed (Err x) e h = ap Err h.1
