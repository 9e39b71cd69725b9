-- `command::is_word` meets its contract.
use mathlib.Core.Path.{◌∙◌}
use Rattle.numbers.proofs.Bytes.{compared}
use Rattle.command.proofs.is_word.Goals as goal

pub returns : goal.returns
returns c = c.eq.ensures ∙ compared c.args.run.now c.args.word.now
