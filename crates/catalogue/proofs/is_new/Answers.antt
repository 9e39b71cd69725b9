-- `catalogue::is_new` meets its contract.
use mathlib.Core.Path.{sym, ◌∙◌}
use native.Mathlib.Omega.{arith}
use Rattle.catalogue.proofs.Names.{new_none, new-more, new-never}
use Rattle.catalogue.proofs.is_new.Goals as goal

pub loop-u-init : goal.loop-u-init
loop-u-init c = new_none c.args.c.now c.args.t

pub returns-then-same_name : goal.returns-then-same_name
returns-then-same_name c =
    sym (new-never c.args.c.now c.args.t c.loop-u.u c.args.t (omega arith) (sym c.same_name.ensures ∙ c.if-same_name.true))

pub loop-u-preserved : goal.loop-u-preserved
loop-u-preserved c = new-more c.args.c.now c.args.t c.loop-u.u c.loop-u.invariant (sym c.same_name.ensures ∙ c.if-same_name.false)
