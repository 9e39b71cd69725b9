-- `text::write_field` meets its contract.
use Prim.Native.Char.{code}
use mathlib.Core.List.{[], ◌∷◌}
use Rattle.text.proofs.Lines.{then-wrote}
use Rattle.text.proofs.write_field.Goals as goal

pub returns : goal.returns
returns g c =
    then-wrote c.args.out.now c.args.at (code "\t" ∷ []) (g.T.Text.text c.args.x) c.requires c.write_bytes-next.ensures c.write.ensures
