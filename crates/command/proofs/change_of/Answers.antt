-- `command::change_of` meets its contract.
use mathlib.Core.Path.{sym, ◌∙◌}
use borrow.Author.Rules.{rules}
use mir.Syntax.{w16, w64}
use Rattle.command.proofs.Values.{signed-is, unsigned-is}
use Rattle.command.proofs.change_of.Goals as goal

pub returns : goal.returns
returns c f =
    rw (
      sym c.has_exactly.ensures ∙ c.if-not-has_exactly.false,
      signed-is w64 c.signed_64.ensures (c.in_ok-signed_64.was {u = tt}) (search rules),
      signed-is w16 c.signed_16.ensures (c.in_ok-signed_16.was {u = tt}) (search rules),
      unsigned-is c.unsigned_64.ensures (c.in_ok-unsigned_64.was {u = tt}),
      signed-is w64 c.signed_64-2.ensures (c.in_ok-signed_64-2.was {u = tt}) (search rules),
    )
