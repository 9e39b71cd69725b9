-- `fields::read_number` meets its contract.
use mathlib.Core.Path.{◌≡◌, sym, ◌∙◌}
use native.Mathlib.Omega.{arith}
use borrow.Author.Rules.{rules}
use lib.IntN.{pos, neg_ℤ}
use mir.Syntax.{w128}
use mir.Val.{to_z, of_z}
use lib.IntN.{◌-ℤ◌}
use Rattle.fields.specs.Numbers.{integer_of, natural_of, negated, natural}
use Rattle.fields.proofs.Ranges.{integer-sign, integer-natural, sign_fits, sign-past, sign-bad, digits-fit, digits-past, digits-bad}
use Rattle.fields.proofs.read_number.Goals as goal
use Rattle.fields.proofs.read_number.Goals.{In-Some, In_default}

-- behind a sign, and without one
behind : (c : In-Some) → integer_of c.args.s.now ≡ negated (natural_of c.in-Some.digits.now)
behind c = let e = c.in-Some.ensures {u = tt} in rw e.1 (integer-sign c.args.s.now e.0)

alone : (c : In_default) → integer_of c.args.s.now ≡ natural (natural_of c.args.s.now)
alone c = integer-natural c.args.s.now (c.in_default.ensures {u = tt})

pub returns-in_err-n : goal.returns-in_err-n
returns-in_err-n c =
    let a = c.args in
    rw (behind (goal.at.returns-in_err-n c).In-Some)
    (c.from_residual.ensures ∙ sign-bad a.below a.most (natural_of c.in-Some.digits.now) (omega arith) (sym c.read_digits.ensures ∙ c.in_err-n.was {u = tt}))

pub returns-then-below-n : goal.returns-then-below-n
returns-then-below-n c =
    let a = c.args in
    rw (behind (goal.at.returns-then-below-n c).In-Some)
    (sign-past a.below a.most (natural_of c.in-Some.digits.now) (sym c.read_digits.ensures ∙ c.in_ok-n.was {u = tt}) c.if-below-n.true)

pub returns-in-Some : goal.returns-in-Some
returns-in-Some c =
    let a = c.args in
    let n = c.in_ok-n.n in
    let z : to_z w128 (of_z w128 (pos 0 -ℤ to_z w128 n)) ≡ neg_ℤ (pos n) = search rules in
    rw (behind (goal.at.returns-in-Some c).In-Some, z)
    (sign_fits a.below a.most (natural_of c.in-Some.digits.now) (sym c.read_digits.ensures ∙ c.in_ok-n.was {u = tt}) c.if-below-n.false)

pub returns-in_err-n-2 : goal.returns-in_err-n-2
returns-in_err-n-2 c =
    let a = c.args in
    rw (alone (goal.at.returns-in_err-n-2 c).In_default)
    (c.from_residual-in_err-n-2.ensures ∙ digits-bad a.below a.most (natural_of a.s.now) (omega arith) (sym c.read_digits-2.ensures ∙ c.in_err-n-2.was {u = tt}))

pub returns-then-most-n : goal.returns-then-most-n
returns-then-most-n c =
    let a = c.args in
    rw (alone (goal.at.returns-then-most-n c).In_default)
    (digits-past a.below a.most (natural_of a.s.now) (sym c.read_digits-2.ensures ∙ c.in_ok-n-2.was {u = tt}) c.if-most-n.true)

pub returns : goal.returns
returns c =
    let a = c.args in
    let n = c.in_ok-n-2.n in
    let z : to_z w128 n ≡ pos n = search rules in
    rw (alone (goal.at.returns c).In_default, z)
    (digits-fit a.below a.most (natural_of a.s.now) (sym c.read_digits-2.ensures ∙ c.in_ok-n-2.was {u = tt}) c.if-most-n.false)
