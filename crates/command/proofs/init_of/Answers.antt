-- `command::init_of` meets its contract.
use mathlib.Core.Path.{sym, ◌∙◌}
use borrow.Author.Rules.{rules}
use mir.Syntax.{w32, w64}
use Rattle.command.specs.Command.{init_of}
use Rattle.command.proofs.Values.{signed-is}
use Rattle.command.proofs.init_of.Goals as goal

pub returns : goal.returns
unfolding init_of
returns c =
    rw (
      sym c.has_exactly.ensures ∙ c.if-not-has_exactly.false,
      c.part.ensures,
      signed-is w32 c.signed_32.ensures (c.in_ok-signed_32.was {u = tt}) (search rules),
      signed-is w64 c.signed_64.ensures (c.in_ok-signed_64.was {u = tt}) (search rules),
    )
