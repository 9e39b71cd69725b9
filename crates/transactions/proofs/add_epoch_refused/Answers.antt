-- `transactions::add_epoch_refused` meets its contract.
use mir.Syntax.{w16, w64}
use borrow.Author.Rules.{sfits_of}
use Rattle.row.specs.Limits.{epoch_max}
use Rattle.coordinator.proofs.Held.{compared-wide}
use Rattle.transactions.proofs.AddSteps.{barred-is}
use Rattle.transactions.proofs.add_epoch_refused.Goals as goal

pub returns : goal.returns
returns c =
    let a = c.args in
    barred-is a.epoch a.row c.ranges.epoch (compared-wide w16 w64 a.epoch epoch_max c.ranges.epoch (sfits_of {w = w64} {z = c.from.result} c.from.type_inv) c.from.ensures c.equals-last.ensures) c.same_epoch.ensures
