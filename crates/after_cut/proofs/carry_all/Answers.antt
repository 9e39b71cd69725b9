-- `after_cut::carry_all` meets its contract.
use Prim.Native.Nat.{◌-◌, ◌+◌}
use mathlib.Core.Path.{refl, sym, ◌∙◌}
use native.Mathlib.Omega.{arith}
use Rattle.session.specs.Memory.{memory}
use Rattle.after_cut.specs.AfterCut.{carries_max}
use Rattle.after_cut.proofs.Rounds.{carried_none, carried-end, carried_on}
use Rattle.after_cut.proofs.carry_all.Goals as goal

pub loop-init : goal.loop-init
loop-init c = refl

pub returns-then-not-is_left : goal.returns-then-not-is_left
returns-then-not-is_left c =
    let l = c.loop in
    sym (carried_none (carries_max - l.counter) (memory l.s l.log l.words l.payloads) (sym c.is_left.ensures ∙ c.if-not-is_left.true)) ∙ l.invariant

pub loop-preserved : goal.loop-preserved
loop-preserved c =
    let l = c.loop in
    carried_on (carries_max - (l.counter + 1)) (memory l.s l.log l.words l.payloads) _ (omega (arith, c.loop-test.true)) (sym c.is_left.ensures ∙ c.if-not-is_left.false) c.carry_one.ensures ∙ l.invariant

pub returns : goal.returns
returns c =
    let l = c.loop in
    sym (carried-end (carries_max - l.counter) (memory l.s l.log l.words l.payloads) (omega (arith, c.loop-test.false))) ∙ l.invariant
