-- `bits::insert` meets its contract: the digit shifted to a position below 64 is not lost.
use mathlib.Core.Path.{ap, sym, ◌∙◌}
use native.Mathlib.Nat.{one-mul}
use native.Mathlib.Omega.{arith}
use Prim.Native.Nat.{◌^◌}
use lib.Bits.{bit_or}
use lib.Pow.{shl_exact}
use Rattle.bits.proofs.Laws.{insert-in, insert-past}
use Rattle.bits.proofs.insert.Goals as goal

pub returns-then-p-lt64 : goal.returns-then-p-lt64
returns-then-p-lt64 c =
    let x = c.args.x in
    let p = c.args.p in
    ap (bit_or x) (shl_exact 1 p 64 (omega arith) (omega arith) ∙ one-mul (2 ^ p)) ∙ sym (insert-in x p (omega arith))

pub returns-else-p-lt64 : goal.returns-else-p-lt64
returns-else-p-lt64 c = sym (insert-past c.args.x c.args.p (omega arith))
