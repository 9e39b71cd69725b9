-- `carry_command::carry` meets its contract.
use mathlib.Core.Path.{refl, sym, ◌∙◌}
use Rattle.std.specs.declared.result.Result.TheVariants.{Ok}
use Rattle.session.specs.declared.Results.TheVariants.{Nothing}
use Rattle.session.specs.Memory.{memory}
use Rattle.session.proofs.CommandSteps.{carried-order, carried_none}
use Rattle.carry_command.proofs.carry.Goals as goal

pub returns-in_default : goal.returns-in_default
returns-in_default c payloads =
    let a = c.args in
    carried_none (memory a.s.now a.log.now a.words.now payloads) (Ok Nothing) a.s.now (sym c.in_default.ensures) (refl, refl)

pub returns : goal.returns
returns c payloads =
    let a = c.args in
    let o = c.in-Some.order in
    carried-order o.place o.verdict o.position (memory a.s.now a.log.now a.words.now payloads) c.deliver.result c.deliver.new.s (sym c.in-Some.ensures) refl refl refl (c.deliver.ensures payloads)
