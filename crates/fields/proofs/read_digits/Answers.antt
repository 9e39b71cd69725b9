-- `fields::read_digits` meets its contract.
use Prim.Native.Nat.{◌+◌, ◌-◌, ◌*◌}
use Prim.Native.Char.{code}
use mathlib.Core.Path.{◌≡◌, sym, ◌∙◌}
use mathlib.Core.Bool.{false}
use native.Mathlib.Omega.{arith}
use lib.Dec.{eqb}
use lib.ListN.{length, get_or}
use Rattle.fields.proofs.Decimals.{value-more, value-above, digit-more, digit-none, value-end, digits-end, digits-none, digits-bad, digits-large, digits_value}
use Rattle.fields.proofs.read_digits.Goals as goal
use Rattle.fields.proofs.read_digits.Goals.{Else-is_empty}

filled : (c : Else-is_empty) → eqb (length c.args.s.now) 0 ≡ false
filled c = sym c.is_empty.ensures ∙ c.if-is_empty.false

pub returns-then-is_empty : goal.returns-then-is_empty
returns-then-is_empty c = digits-none c.args.s.now (sym c.is_empty.ensures ∙ c.if-is_empty.true)

pub returns-then-not-is_ascii_digit : goal.returns-then-not-is_ascii_digit
returns-then-not-is_ascii_digit c =
    let s = c.args.s.now in
    digits-bad s (filled (goal.at.returns-then-not-is_ascii_digit c).Else-is_empty)
    (sym c.loop-b.invariant.2 ∙ digit-none s c.loop-b.b-index c.loop-b-test.true (sym c.is_ascii_digit.ensures.value ∙ c.if-not-is_ascii_digit.true))

pub returns-in_err-checked_mul : goal.returns-in_err-checked_mul
returns-in_err-checked_mul c =
    let s = c.args.s.now in
    c.from_residual.ensures
    ∙ digits-large s (filled (goal.at.returns-in_err-checked_mul c).Else-is_empty)
    (omega (arith, value-above s c.loop-b.b-index c.loop-b-test.true c.loop-b.value, c.loop-b.invariant.1, c.in_err-checked_mul.ensures {u = tt}))

pub returns-in_err-value : goal.returns-in_err-value
returns-in_err-value c =
    let s = c.args.s.now in
    c.from_residual-in_err-value.ensures
    ∙ digits-large s (filled (goal.at.returns-in_err-value c).Else-is_empty)
    (omega (arith, value-above s c.loop-b.b-index c.loop-b-test.true c.loop-b.value, c.loop-b.invariant.1, c.in_ok-checked_mul.ensures {u = tt}, c.in_err-value.ensures {u = tt}))

pub loop-b-preserved : goal.loop-b-preserved
loop-b-preserved c =
    let s = c.args.s.now in
    let i = c.loop-b.invariant in
    let v : c.in_ok-value.value ≡ c.loop-b.value * 10 + (get_or s c.loop-b.b-index 0 - code "0") =
    omega (arith, c.in_ok-value.ensures {u = tt}, c.in_ok-checked_mul.ensures {u = tt}) in (
      omega (arith, c.in_ok-value.ensures {u = tt}),
      rw v (sym (value-more s c.loop-b.b-index c.loop-b-test.true c.loop-b.value) ∙ i.1),
      sym (digit-more s c.loop-b.b-index c.loop-b-test.true (sym c.is_ascii_digit.ensures.value ∙ c.if-not-is_ascii_digit.false)) ∙ i.2,
    )

pub returns : goal.returns
returns c =
    let s = c.args.s.now in
    digits_value s (filled (goal.at.returns c).Else-is_empty) (sym c.loop-b.invariant.2 ∙ digits-end s c.loop-b.b-index (omega arith))
    (sym (value-end s c.loop-b.b-index c.loop-b.value (omega arith)) ∙ c.loop-b.invariant.1) c.loop-b.invariant.0
