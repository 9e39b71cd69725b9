-- `after_cut::after_cut` meets its contract.
use Prim.Native.Nat.{ℕ}
use mathlib.Core.Path.{ap, ◌∙◌}
use mathlib.Core.List.{[]}
use Rattle.command.specs.declared.Command.TheVariants.{Cut}
use Rattle.session.specs.Memory.{memory}
use Rattle.session.specs.Commands.{performed}
use Rattle.after_cut.specs.AfterCut.{carries_max, carried_all}
use Rattle.after_cut.proofs.after_cut.Goals as goal

pub returns : goal.returns
returns c =
    let a = c.args in
    let opened = ap (λ (k : ℕ). (performed (Cut k) [] (memory a.s.now a.log.now a.words.now a.payloads.now)).memory) c.saturating_sub-kept.ensures in
    c.carry_all.ensures ∙ ap (carried_all carries_max) (c.perform.ensures ∙ opened)
