-- `calls::opening` meets its contract.
use mathlib.Core.Path.{◌≡◌, ◌∙◌}
use mir.Syntax.{w32, w64}
use mir.Val.{of_z, to_z}
use Rattle.coordinator.specs.Open.{opening, opened_of}
use Rattle.calls.proofs.Laws.{opening-meets}
use borrow.Author.Rules.{rules}
use Rattle.calls.proofs.opening.Goals as goal

pub returns : goal.returns
returns c =
    let a = c.args in
    let epoch : to_z w32 (of_z w32 a.epoch) ≡ a.epoch = search rules in
    let first : to_z w64 (of_z w64 a.first) ≡ a.first = search rules in
    let last : to_z w64 (of_z w64 a.last) ≡ a.last = search rules in
    opening-meets a.text.now a.log.now a.n a.epoch a.first a.last (opened_of c.opening.result)
    (c.opening.ensures ∙ (λ i. opening a.text.now a.log.now a.n (epoch i) (first i) (last i)))
