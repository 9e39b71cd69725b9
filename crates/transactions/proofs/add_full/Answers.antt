-- `transactions::add_full` meets its contract.
use mathlib.Core.Path.{sym, ◌∙◌}
use native.Mathlib.Omega.{arith}
use Rattle.coordinator.proofs.Named.{clock-is}
use Rattle.transactions.proofs.AddSteps.{add-full-not, add-full-is}
use Rattle.transactions.proofs.add_full.Goals as goal

pub returns-then-all_joined : goal.returns-then-all_joined
returns-then-all_joined c =
    let a = c.args in
    add-full-not a.s.now a.row a.set a.time (sym c.all_joined.ensures ∙ c.if-all_joined.true)

pub log_full-requires : goal.log_full-requires
log_full-requires c = omega arith

pub returns : goal.returns
returns c =
    let a = c.args in
    add-full-is a.s.now a.row a.set a.time (sym c.all_joined.ensures ∙ c.if-all_joined.false) (clock-is a.s.now c.ranges.time c.later-clock.ensures) c.add_row.ensures c.id_count.ensures.0 c.log_full.ensures
