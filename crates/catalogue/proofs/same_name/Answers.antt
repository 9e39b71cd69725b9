-- `catalogue::same_name` meets its contract.
use mathlib.Core.Path.{◌≡◌, ◌∙◌}
use Prim.Native.Nat.{ℕ, ◌+◌, ◌-◌, ◌*◌}
use native.Mathlib.Omega.{arith}
use Rattle.catalogue.specs.Catalogue.{name_field}
use Rattle.catalogue.proofs.Names.{slices-same}
use Rattle.catalogue.proofs.same_name.Goals as goal

pub returns : goal.returns
returns c =
    let whole : (n : ℕ) → n + 16 - n ≡ 16 = λ n. omega arith in
    c.eq.ensures ∙ rw (whole (16 * c.args.u), whole (16 * c.args.t)) (slices-same (name_field c.args.c.now c.args.u) (name_field c.args.c.now c.args.t))
