-- `catalogue::with_topic` meets its contract.
use mathlib.Core.Path.{◌≡◌}
use Prim.Native.Nat.{◌+◌, ◌*◌, ◌^◌, ◌≤◌}
use native.Mathlib.Omega.{arith}
use lib.ListN.{length}
use lib.Pow.{pow_pos, pow_mono}
use borrow.Author.Rules.{rules}
use Rattle.catalogue.proofs.Names.{shifted, placed, all-grows, made}
use Rattle.catalogue.proofs.with_topic.Goals as goal

pub copy-requires : goal.copy-requires
copy-requires c =
    let sized : length c.args.c.names ≡ 128 = search rules in
    omega arith

pub overflow_sub-set : goal.overflow_sub-set
overflow_sub-set c =
    let a = c.args in
    omega (arith, shifted a.partitions (omega arith), pow_pos a.partitions)

pub overflow_add-result : goal.overflow_add-result
overflow_add-result c =
    let a = c.args in
    let most : 2 ^ (8 * (a.t + 1)) ≤ 2 ^ 64 = pow_mono {j = 64} (omega arith) in
    omega (arith, placed a.t a.partitions (omega arith) (omega arith), all-grows a.c.all a.t a.partitions (omega arith) (omega arith))

pub returns : goal.returns
returns c =
    let a = c.args in
    made _ _ a.c.all _ _ c.copy.ensures (placed a.t a.partitions (omega arith) (omega arith))
