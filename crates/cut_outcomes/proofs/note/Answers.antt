-- `cut_outcomes::note` meets its contract.
use mathlib.Core.Path.{◌≡◌, sym, ◌∙◌}
use native.Mathlib.Omega.{arith}
use lib.Seq.{length-take-le}
use Rattle.cut_outcomes.proofs.Laws.{contains-is, noted-known, noted-new}
use Rattle.cut_outcomes.proofs.note.Goals as goal
use Rattle.cut_outcomes.proofs.note.Goals.{After-contains}
use Rattle.answers.specs.Refusals.{among}
use lib.ListN.{take}

seen : (c : After-contains) → let a = c.args in among a.outcome (take a.count a.store.now) ≡ c.contains.result
seen c = let a = c.args in sym (c.contains.ensures.value ∙ contains-is a.outcome (take a.count a.store.now))

pub returns-then-store-count : goal.returns-then-store-count
returns-then-store-count c h = absurd (omega arith)

pub slice_bounds-contains-end-2 : goal.slice_bounds-contains-end-2
slice_bounds-contains-end-2 c = let a = c.args in sym (length-take-le a.count a.store.now (omega arith))

pub returns-then-contains : goal.returns-then-contains
returns-then-contains c h =
    let a = c.args in
    noted-known a.store.now a.count a.outcome h (seen (goal.at.returns-then-contains c).After-contains ∙ c.if-contains.true)

pub returns : goal.returns
returns c h =
    let a = c.args in
    noted-new a.store.now a.count a.outcome h (seen (goal.at.returns c).After-contains ∙ c.if-contains.false)
