-- `session::words_start` meets its contract.
use native.Mathlib.Omega.{arith}
use native.Mathlib.Nat.{mul-le-mul_right}
use mathlib.Core.Path.{refl}
use Prim.Native.Nat.{◌*◌, ◌/◌, ◌≤◌}
use Rattle.session.proofs.words_start.Goals as goal
use Rattle.session.proofs.words_start.Goals.{Start}

most : (c : Start) → c.args.index * (c.args.n / 3) ≤ 2 * (c.args.n / 3)
most c = mul-le-mul_right (c.args.n / 3) (omega (arith, c.requires))

pub overflow_mul-result : goal.overflow_mul-result
overflow_mul-result c = record { fits = omega (arith, most c) }

pub returns : goal.returns
returns c = (refl, omega (arith, most c))
