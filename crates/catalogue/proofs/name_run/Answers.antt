-- `catalogue::name_run` meets its contract.
use mathlib.Core.Path.{sym, ◌∙◌}
use native.Mathlib.Omega.{arith}
use Rattle.catalogue.proofs.Reading.{run-here, run_on, run_end}
use Rattle.catalogue.proofs.name_run.Goals as goal

pub returns-then-not-name_byte : goal.returns-then-not-name_byte
returns-then-not-name_byte c =
    omega (arith, c.loop-n.invariant, run-here c.args.text.now c.loop-n.n (omega arith) (sym c.name_byte.ensures ∙ c.if-not-name_byte.true))

pub loop-n-preserved : goal.loop-n-preserved
loop-n-preserved c =
    sym (run_on c.args.text.now c.loop-n.n (omega arith) (sym c.name_byte.ensures ∙ c.if-not-name_byte.false)) ∙ c.loop-n.invariant

pub returns : goal.returns
returns c = omega (arith, c.loop-n.invariant, run_end c.args.text.now c.loop-n.n (omega arith))
