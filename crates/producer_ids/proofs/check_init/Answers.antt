-- `producer_ids::check_init` meets its contract.
use mathlib.Core.Path.{refl, ap, ◌∙◌}
use Rattle.answers.specs.Returned.{refusal_of}
use Rattle.answers.proofs.Returned.{number-positive, refused_first, refused_next, error_passed}
use Rattle.producer_ids.proofs.InitSteps.{init-named, init-tested}
use Rattle.producer_ids.proofs.check_init.Goals as goal

pub returns-in_err-check_name : goal.returns-in_err-check_name
returns-in_err-check_name c =
    λ time made.
    let a = c.args in
    ap refusal_of (error_passed _ _ c.from_residual.ensures) ∙ init-named a.s.now a.n a.name.now a.timeout time c.in_err-check_name.ensures (number-positive _)

pub ids_then-requires : goal.ids_then-requires
ids_then-requires c = c.id_count.ensures.1

pub returns : goal.returns
returns c =
    λ time made.
    let a = c.args in
    init-tested a.s.now a.n a.name.now a.timeout time c.in_ok-check_name.ensures refl c.requires.1 c.ranges.timeout
    c.timeout_fits.ensures (refused_first _ _ c.refuse_if.ensures)
    (refused_next _ _ _ c.refuse_if-2.ensures c.and.ensures)
    c.is_prepare-prepare.ensures (refused_next _ _ _ c.refuse_if-3.ensures c.and-2.ensures)
    c.requires.0 c.place_for-place.ensures (refused_next _ _ _ c.refuse_if-4.ensures c.and-3.ensures)
    c.is_begin-begin.ensures c.needs_pid-needed.ensures c.new_pid.ensures (refused_next _ _ _ c.refuse_if-5.ensures c.and-4.ensures)
    made c.id_count.ensures.0 c.ids_then.ensures.0 c.log_full-full.ensures (refused_next _ _ _ c.refuse_if-6.ensures c.and-5.ensures)
