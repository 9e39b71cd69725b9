-- `text::write_decimal` meets its contract.
use Prim.Native.Nat.{ℕ, ◌+◌, ◌-◌}
use mathlib.Core.Path.{◌≡◌}
use mathlib.Core.List.{List}
use native.Mathlib.Omega.{arith}
use lib.ListN.{length, length-set, replicate, length-replicate}
use borrow.Author.Rules.{rules}
use Rattle.text.specs.Limits.{digits_max}
use Rattle.text.proofs.Decimal.{length-long, digits-most}
use Rattle.text.proofs.Spelling.{whole, more_left, spelled-more, spelled_part}
use Rattle.text.proofs.write_decimal.Goals as goal

pub overflow_sub-start : goal.overflow_sub-start
overflow_sub-start c = omega arith

pub loop-rest-init : goal.loop-rest-init
loop-rest-init c =
    let zeros : List ℕ = replicate digits_max 0 in
    let l : length zeros ≡ digits_max = length-replicate {A = ℕ} digits_max 0 in
    (omega arith, l, digits-most c.args.x (search rules), whole c.args.x zeros l)

pub overflow_sub-start-in-loop-rest : goal.overflow_sub-start-in-loop-rest
overflow_sub-start-in-loop-rest c = more_left c.loop-rest.rest c.loop-rest.start c.loop-rest-test.true c.loop-rest.invariant.2

pub loop-rest-smaller : goal.loop-rest-smaller
loop-rest-smaller c =
    omega (arith, more_left c.loop-rest.rest c.loop-rest.start c.loop-rest-test.true c.loop-rest.invariant.2)

pub loop-rest-preserved : goal.loop-rest-preserved
loop-rest-preserved c =
    let l = c.loop-rest in
    let m = more_left l.rest l.start c.loop-rest-test.true l.invariant.2 in
    let e : l.start - 1 + 1 ≡ l.start = omega arith in (
      omega arith,
      simp length-set l.invariant.1,
      omega (arith, length-long l.rest c.loop-rest-test.true, l.invariant.2),
      rw e (spelled-more c.args.x l.rest l.start l.digits (omega arith) l.invariant.3 c.loop-rest-test.true),
    )

pub write_bytes-requires : goal.write_bytes-requires
write_bytes-requires c =
    let l = c.loop-rest in
    rw (spelled_part c.args.x l.rest l.start l.digits (omega arith) l.invariant.3 l.invariant.1 c.loop-rest-test.false) c.requires

pub returns : goal.returns
returns c =
    let l = c.loop-rest in
    rw (spelled_part c.args.x l.rest l.start l.digits (omega arith) l.invariant.3 l.invariant.1 c.loop-rest-test.false) at c.write_bytes.ensures
