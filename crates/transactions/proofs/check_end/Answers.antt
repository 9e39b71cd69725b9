-- `transactions::check_end` meets its contract.
use mathlib.Core.Path.{refl, ap, ◌∙◌}
use lib.IntN.{ℤ, pos}
use Rattle.numbers.specs.Signed.{eq_z}
use Rattle.numbers.proofs.Signed.{passed_on}
use Rattle.answers.specs.Returned.{refusal_of}
use Rattle.answers.proofs.Returned.{number-positive, refused_first, refused_next, error_passed}
use Rattle.coordinator.specs.Named.{not_held_at}
use Rattle.transactions.proofs.EndSteps.{end-named, end-tested}
use Rattle.transactions.proofs.check_end.Goals as goal

pub returns-in_err-check_name : goal.returns-in_err-check_name
returns-in_err-check_name c =
    let a = c.args in
    ap refusal_of (error_passed _ _ c.from_residual.ensures) ∙ end-named a.s.now a.n a.name.now a.pid a.epoch a.verdict c.in_err-check_name.ensures (number-positive _)

pub returns : goal.returns
returns c =
    let a = c.args in
    end-tested a.s.now a.n a.name.now a.pid a.epoch a.verdict c.in_ok-check_name.ensures refl c.requires
    (refused_first _ _ c.refuse_if.ensures)
    (passed_on (not_held_at a.held.place a.held.row) c.ranges.pid c.not_held-unheld.ensures) (refused_next _ _ _ c.refuse_if-2.ensures c.and.ensures)
    (passed_on (λ (z : ℤ). eq_z z (pos a.held.row.epoch)) c.ranges.epoch c.same_epoch-same.ensures) (refused_next _ _ _ c.refuse_if-3.ensures c.and-2.ensures)
    (refused_next _ _ _ c.refuse_if-4.ensures c.and-3.ensures)
    c.end_fits-fits.ensures (refused_next _ _ _ c.refuse_if-5.ensures c.and-4.ensures)
    c.is_prepare-prepare.ensures (refused_next _ _ _ c.refuse_if-6.ensures c.and-5.ensures)
