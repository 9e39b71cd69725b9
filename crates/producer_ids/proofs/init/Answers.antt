-- `producer_ids::init` meets its contract.
use mathlib.Core.Path.{◌≡◌, refl}
use mathlib.Core.Bool.{true}
use lib.Dec.{ltb}
use lib.ListN.{length}
use Rattle.numbers.specs.Padded.{padded}
use Rattle.record.specs.Limits.{name_max}
use Rattle.record.specs.Record.{name_fits}
use Rattle.answers.specs.Limits.{places}
use Rattle.answers.proofs.Returned.{error_passed}
use Rattle.coordinator.specs.Init.{init_row}
use Rattle.coordinator.specs.Named.{FoundFor}
use Rattle.coordinator.proofs.Named.{found-for}
use Rattle.producer_ids.proofs.InitSteps.{init-made, init-number, init-admitted, init-refuses, init-performs}
use Rattle.producer_ids.proofs.init.Goals as goal
use Rattle.producer_ids.proofs.init.Goals.{After-find-held, After-init_row-new}

held-is : (c : After-find-held) → let a = c.args in FoundFor a.s.now a.name.now c.find-held.result
held-is c =
    let a = c.args in
    found-for a.s.now a.name.now c.padded_name-own.ensures c.find-held.ensures

-- the new record, of a name that fits
made : (c : After-init_row-new) → let held = c.find-held.result in
    name_fits c.args.name.now ≡ true → c.init_row-new.result ≡ init_row c.args.s.now (padded name_max c.args.name.now) (ltb held.place places) held.row c.args.timeout c.args.time
made c =
    let a = c.args in
    let held = c.find-held.result in
    init-made a.s.now (length a.log.now) a.name.now a.timeout a.time c.ranges.timeout c.ranges.time c.padded_name-own.ensures (ltb held.place places) held.row c.init_row-new.ensures.row

pub check_init-requires : goal.check_init-requires
check_init-requires c = (c.lowest_free-free.ensures, held-is (goal.at.check_init-requires c).After-find-held)

pub returns-in_err-check_init : goal.returns-in_err-check_init
returns-in_err-check_init c =
    let a = c.args in
    let held = c.find-held.result in
    let n = length a.log.now in
    let number = init-number a.s.now n a.name.now a.timeout a.time c.ranges.timeout c.ranges.time c.padded_name-own.ensures (ltb held.place places) held.row c.init_row-new.ensures.row c.in_err-check_init.ensures in
    rw (error_passed _ _ c.from_residual.ensures) (init-refuses a.s.now n a.name.now a.timeout a.time number (held-is (goal.at.returns-in_err-check_init c).After-find-held) (made (goal.at.returns-in_err-check_init c).After-init_row-new) _ refl a.log.now)

pub perform_init-requires : goal.perform_init-requires
perform_init-requires c =
    let a = c.args in
    let held = c.find-held.result in
    let n = length a.log.now in
    let number = init-number a.s.now n a.name.now a.timeout a.time c.ranges.timeout c.ranges.time c.padded_name-own.ensures (ltb held.place places) held.row c.init_row-new.ensures.row c.in_ok-check_init.ensures in
    init-admitted a.s.now n a.name.now a.timeout a.time number (held-is (goal.at.perform_init-requires c).After-find-held) (made (goal.at.perform_init-requires c).After-init_row-new) refl

pub returns : goal.returns
returns c =
    let a = c.args in
    let held = c.find-held.result in
    let n = length a.log.now in
    let number = init-number a.s.now n a.name.now a.timeout a.time c.ranges.timeout c.ranges.time c.padded_name-own.ensures (ltb held.place places) held.row c.init_row-new.ensures.row c.in_ok-check_init.ensures in
    init-performs a.s.now n a.name.now a.timeout a.time number (held-is (goal.at.returns c).After-find-held) (made (goal.at.returns c).After-init_row-new) refl c.init_row-new.ensures.rows c.lowest_free-free.ensures c.ranges.time a.log.now
    c.perform_init.ensures.answer c.perform_init.ensures.action
