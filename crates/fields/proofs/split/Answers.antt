-- `fields::split` meets its contract.
use mathlib.Core.Path.{◌≡◌, refl, sym, ◌∙◌}
use native.Mathlib.Omega.{arith}
use lib.ListN.{length, replicate, length-set}
use Rattle.fields.specs.Limits.{fields_max}
use Rattle.fields.specs.Fields.{blank}
use Rattle.fields.proofs.Splitting.{passed_none, passed-parted, passed_on, split-full, split-end}
use Rattle.fields.proofs.split.Goals as goal
use Rattle.fields.proofs.split.Goals.{then-separates+else-count-eq-FIELDS_MAX, else-separates}

pub loop-i-init : goal.loop-i-init
loop-i-init c = (omega arith, omega arith, refl, passed_none c.args.line.now (replicate fields_max blank))

pub invariant_of-result : goal.invariant_of-result
invariant_of-result c =
    let i = c.loop-i.invariant in
    record {
      split = split-full c.args.line.now c.loop-i.parts c.loop-i.count c.loop-i.from c.loop-i.i i.2 i.1 i.0 i.3 (omega arith) c.if-count-eq-FIELDS_MAX.true
          (sym c.separates.ensures ∙ c.if-separates.true);
    }

pub loop-i-preserved : goal.loop-i-preserved
loop-i-preserved c =
    let i = c.loop-i.invariant in
    let line = c.args.line.now in
    let e = c.separates.ensures in
    elim c.if-separates.branch [
      | then-separates+else-count-eq-FIELDS_MAX w ↦ rw (w.parts-is, w.count-is, w.from-is) (
        omega arith,
        omega arith,
        length-set c.loop-i.parts c.loop-i.count _ ∙ i.2,
        passed-parted line c.loop-i.parts c.loop-i.count c.loop-i.from c.loop-i.i i.2 i.1 i.0 i.3 (omega arith) (sym e ∙ w.if-separates.true),
      )
      | else-separates w ↦ rw (w.parts-is, w.count-is, w.from-is) (
        omega arith,
        i.1,
        i.2,
        passed_on line c.loop-i.parts c.loop-i.count c.loop-i.from c.loop-i.i i.2 i.1 i.0 i.3 (omega arith) (sym e ∙ w.if-separates.false),
      )
    ]

pub invariant_of-result-2 : goal.invariant_of-result-2
invariant_of-result-2 c =
    let i = c.loop-i.invariant in
    let end : c.loop-i.i ≡ length c.args.line.now = omega arith in
    record { split = rw end at (split-end c.args.line.now c.loop-i.parts c.loop-i.count c.loop-i.from c.loop-i.i i.2 i.1 i.0 i.3 (omega arith)) }
