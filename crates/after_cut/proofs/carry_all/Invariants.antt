-- `after_cut::carry_all`: what its loop keeps. What is left of the rounds leads to the same memory.
use Prim.Native.Nat.{◌-◌}
use mathlib.Core.Path.{◌≡◌}
use Rattle.session.specs.Memory.{memory}
use Rattle.after_cut.specs.AfterCut.{carries_max, carried_all}
use Rattle.after_cut.proofs.carry_all.Given as goal

abbrev pub invariant-loop : goal.invariant-loop
invariant-loop l =
    carried_all (carries_max - l.counter) (memory l.s l.log l.words l.payloads) ≡ carried_all carries_max (memory l.initial.s l.initial.log l.initial.words l.initial.payloads)
