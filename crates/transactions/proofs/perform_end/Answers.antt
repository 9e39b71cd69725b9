-- `transactions::perform_end` meets its contract.
use mathlib.Core.Path.{refl}
use Rattle.row.specs.Row.{is_begin}
use Rattle.row.specs.declared.Row.{Row}
use Rattle.coordinator.proofs.Laws.{fits-begun}
use Rattle.coordinator.proofs.Named.{clock-is, tested_at}
use Rattle.transactions.proofs.EndSteps.{end-advances, end-appends}
use Rattle.transactions.proofs.perform_end.Goals as goal

pub returns-then-not-is_begin : goal.returns-then-not-is_begin
returns-then-not-is_begin c =
    let a = c.args in
    end-advances a.s.now a.held.place a.verdict a.time a.log.now (clock-is a.s.now c.ranges.time c.later-clock.ensures) c.requires.1 c.is_begin.ensures c.if-not-is_begin.true refl

pub append-requires : goal.append-requires
append-requires c =
    let a = c.args in
    fits-begun a.s.now _ c.requires.0 a.held.place (tested_at (λ (x : Row). is_begin x.status) c.requires.1 c.is_begin.ensures c.if-not-is_begin.false) c.prepared.result

pub returns : goal.returns
returns c =
    let a = c.args in
    end-appends a.s.now a.held.place a.verdict a.time a.log.now (clock-is a.s.now c.ranges.time c.later-clock.ensures) c.requires.1 c.is_begin.ensures c.if-not-is_begin.false
    c.prepare_of-prepare.ensures c.prepared.ensures c.append.ensures.0 c.append.ensures.1
