-- `producer_ids::perform_init` meets its contract.
use mathlib.Core.Path.{sym, ap, ◌∙◌}
use Rattle.record.specs.declared.Status.TheVariants.{PrepareAbort}
use Rattle.row.specs.Row.{is_begin}
use Rattle.row.specs.Steps.{prepared, fenced, raise}
use Rattle.row.specs.declared.Row.{Row}
use Rattle.coordinator.specs.Coordinator.{clock_at}
use Rattle.coordinator.proofs.Laws.{fits-begun}
use Rattle.coordinator.proofs.Named.{clock-is, tested_at}
use Rattle.producer_ids.proofs.InitSteps.{init-fences, init-appends}
use Rattle.producer_ids.proofs.perform_init.Goals as goal

pub append-requires : goal.append-requires
append-requires c =
    let a = c.args in
    fits-begun a.s.now _ c.requires.0 a.held.place (tested_at (λ (r : Row). is_begin r.status) c.requires.1 c.is_begin.ensures c.if-is_begin.true) c.fence-fenced.result

pub returns-then-is_begin : goal.returns-then-is_begin
returns-then-is_begin c =
    let a = c.args in
    record {
      answer = rw (sym c.is_begin.ensures ∙ c.if-is_begin.true);
      action =
          init-fences a.s.now a.held a.free a.new (clock_at a.s.now a.time) a.log.now c.is_begin.ensures c.if-is_begin.true
          (c.fence-fenced.ensures ∙ ap (prepared a.held.row PrepareAbort (raise fenced a.held.row.epoch)) (clock-is a.s.now c.ranges.time c.later.ensures)) c.append.ensures.0 c.append.ensures.1;
    }

pub append-requires-2 : goal.append-requires-2
append-requires-2 c = c.requires.2 (sym c.is_begin.ensures ∙ c.if-is_begin.false)

pub returns : goal.returns
returns c =
    let a = c.args in
    record {
      answer = rw (sym c.is_begin.ensures ∙ c.if-is_begin.false) c.given.ensures;
      action = init-appends a.s.now a.held a.free a.new (clock_at a.s.now a.time) a.log.now c.is_begin.ensures c.if-is_begin.false c.place_for.ensures c.append-2.ensures.0 c.append-2.ensures.1;
    }
