-- `producer_ids::init_row_with` meets its contract.
use mathlib.Core.Path.{◌≡◌, sym, ◌∙◌}
use Prim.Native.Nat.{◌<◌}
use native.Mathlib.Omega.{arith}
use mir.Syntax.{w32}
use Rattle.numbers.specs.Signed.{to_nat}
use Rattle.numbers.proofs.Signed.{passed}
use Rattle.row.specs.Limits.{epoch_last}
use Rattle.producer_ids.proofs.InitSteps.{init-row-new, init-row-next, epoch-below}
use Rattle.producer_ids.proofs.init_row_with.Goals as goal
use Rattle.producer_ids.proofs.init_row_with.Goals.{After-natural-timeout, Else-needs_pid}

timed : (c : After-natural-timeout) → c.natural-timeout.result ≡ to_nat c.args.timeout
timed c = passed w32 c.args.timeout c.ranges.timeout c.natural-timeout.ensures

below : (c : Else-needs_pid) → c.args.row.epoch < epoch_last
below c = let a = c.args in epoch-below a.known a.row (sym c.needs_pid.ensures ∙ c.if-needs_pid.false)

pub returns-then-needs_pid : goal.returns-then-needs_pid
returns-then-needs_pid c =
    let a = c.args in
    init-row-new a.name a.known a.row a.pid a.timeout a.clock (timed (goal.at.returns-then-needs_pid c).After-natural-timeout) (sym c.needs_pid.ensures ∙ c.if-needs_pid.true) c.initialized.ensures

pub overflow_add-row : goal.overflow_add-row
overflow_add-row c = omega (arith, below (goal.at.overflow_add-row c).Else-needs_pid)

pub returns : goal.returns
returns c =
    let a = c.args in
    init-row-next a.name a.known a.row a.pid a.timeout a.clock (timed (goal.at.returns c).After-natural-timeout) (sym c.needs_pid.ensures ∙ c.if-needs_pid.false) c.initialized-2.ensures
