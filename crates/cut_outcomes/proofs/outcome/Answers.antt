-- `cut_outcomes::outcome` meets its contract. The loop's invariant: the set is the outcome at the places passed.
use mathlib.Core.Path.{refl, ap, sym, ◌∙◌}
use Prim.Native.Nat.{ℕ}
use native.Mathlib.Omega.{arith}
use Rattle.cut_outcomes.proofs.Laws.{below-followed, below_left}
use Rattle.cut_outcomes.specs.Outcomes.{outcome_below}
use Rattle.cut_outcomes.proofs.outcome.Goals as goal
use Rattle.cut_outcomes.proofs.outcome.Goals.{then-is_followed, else-is_followed}

pub loop-place-init : goal.loop-place-init
unfolding outcome_below
loop-place-init c = refl

pub loop-place-preserved : goal.loop-place-preserved
loop-place-preserved c =
    let a = c.args in
    let l = c.loop-place in
    elim c.if-is_followed.branch [
      | then-is_followed w ↦ below-followed l.place a.flushed a.before.now a.after.now l.set l.invariant _ c.row_at.ensures _ w.row_at-then-is_followed.ensures (sym c.is_followed.ensures ∙ w.if-is_followed.true) c.if-is_followed.set (w.set-is ∙ w.with_ending-set.ensures)
      | else-is_followed w ↦ below_left l.place a.flushed a.before.now a.after.now l.set l.invariant _ c.row_at.ensures (sym c.is_followed.ensures ∙ w.if-is_followed.false) c.if-is_followed.set w.set-is
    ]

pub returns : goal.returns
returns c =
    let l = c.loop-place in
    l.invariant ∙ ap (λ (k : ℕ). outcome_below k c.args.flushed c.args.before.now c.args.after.now) (omega (arith, l.auto.place-end))
