-- `lines::move_to_front` meets its contract.
use Prim.Native.Nat.{◌+◌, ◌-◌}
use mathlib.Core.Path.{◌≡◌}
use native.Mathlib.Omega.{arith}
use lib.ListN.{length, take, drop, length-drop}
use lib.Seq.{length-take-le}
use Rattle.numbers.specs.Bytes.{overwrite}
use Rattle.lines.proofs.move_to_front.Goals as goal

pub returns : goal.returns
unfolding overwrite
returns c =
    let b = c.args.buffer.now in
    let l : length (take c.args.n (drop c.args.from b)) ≡ c.args.n = length-take-le c.args.n (drop c.args.from b) (rw (length-drop c.args.from b) (omega arith)) in
    let m : c.args.from + c.args.n - c.args.from ≡ c.args.n = omega arith in
    rw (l, c.copy_within.ensures.after, m)
