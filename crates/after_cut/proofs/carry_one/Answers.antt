-- `after_cut::carry_one` meets its contract.
use mathlib.Core.Path.{ap, ◌∙◌}
use mathlib.Core.List.{[]}
use Rattle.command.specs.declared.Command.TheVariants.{Flush}
use Rattle.session.specs.Memory.{Memory}
use Rattle.session.specs.Commands.{performed}
use Rattle.after_cut.proofs.carry_one.Goals as goal

pub returns : goal.returns
returns c = c.perform-2.ensures ∙ ap (λ (m : Memory). (performed Flush [] m).memory) c.perform.ensures
