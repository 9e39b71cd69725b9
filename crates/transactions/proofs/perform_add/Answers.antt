-- `transactions::perform_add` meets its contract.
use mathlib.Core.Path.{refl}
use Rattle.coordinator.proofs.Named.{clock-is}
use Rattle.transactions.proofs.AddSteps.{add-advances, add-fits, add-appends}
use Rattle.transactions.proofs.perform_add.Goals as goal

pub returns-then-all_joined : goal.returns-then-all_joined
returns-then-all_joined c =
    let a = c.args in
    add-advances a.s.now a.held.place a.set a.time a.log.now (clock-is a.s.now c.ranges.time c.later-clock.ensures) c.requires.1 c.all_joined.ensures c.if-all_joined.true refl

pub append-requires : goal.append-requires
append-requires c =
    let a = c.args in
    add-fits a.s.now a.held.place a.set a.time a.log.now (clock-is a.s.now c.ranges.time c.later-clock.ensures) c.requires.1 c.all_joined.ensures c.if-all_joined.false c.add_row.ensures _ c.requires.0 c.requires.2

pub returns : goal.returns
returns c =
    let a = c.args in
    add-appends a.s.now a.held.place a.set a.time a.log.now (clock-is a.s.now c.ranges.time c.later-clock.ensures) c.requires.1 c.all_joined.ensures c.if-all_joined.false c.add_row.ensures c.append.ensures.0 c.append.ensures.1
