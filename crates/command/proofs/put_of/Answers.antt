-- `command::put_of` meets its contract.
use mathlib.Core.Path.{sym, ◌∙◌}
use borrow.Author.Rules.{rules}
use mir.Syntax.{w16, w32, w64}
use Rattle.command.specs.Command.{put_of}
use Rattle.command.proofs.Values.{signed-is, unsigned-is}
use Rattle.command.proofs.put_of.Goals as goal

pub returns : goal.returns
unfolding put_of
returns c =
    rw (
      sym c.has_exactly.ensures ∙ c.if-not-has_exactly.false,
      c.part.ensures,
      signed-is w64 c.signed_64.ensures (c.in_ok-signed_64.was {u = tt}) (search rules),
      signed-is w16 c.signed_16.ensures (c.in_ok-signed_16.was {u = tt}) (search rules),
      unsigned-is c.unsigned_64.ensures (c.in_ok-unsigned_64.was {u = tt}),
      signed-is w32 c.signed_32.ensures (c.in_ok-signed_32.was {u = tt}) (search rules),
      unsigned-is c.unsigned_64-2.ensures (c.in_ok-unsigned_64-2.was {u = tt}),
    )
