-- `listing::write_signed` meets its contract.
use mathlib.Core.Path.{refl, ◌∙◌}
use native.Mathlib.Omega.{arith}
use borrow.Author.Rules.{rules}
use lib.IntN.{pos}
use lib.ListN.{get_or}
use mir.Syntax.{w64}
use mir.Val.{SFits}
use mir.Facts.{to_z-of_z}
use Rattle.text.specs.Decimal.{signed_decimal}
use Rattle.listing.proofs.Writing.{signed-short}
use Rattle.listing.proofs.Payloads.{none_yet, one_more}
use Rattle.listing.proofs.write_signed.Goals as goal

pub loop-number-init : goal.loop-number-init
loop-number-init c = (none_yet signed_decimal c.args.numbers.now c.args.out.now c.args.at, omega arith, refl)

pub write_field-next-requires : goal.write_field-next-requires
write_field-next-requires c =
    let l = c.loop-number in
    let x = get_or c.args.numbers.now l.number-index (pos 0) in
    let f : SFits w64 x = search rules in
    rw (to_z-of_z f) (omega (arith, signed-short x f, l.invariant.1, l.invariant.2, c.requires, c.loop-number-test.true))

pub loop-number-preserved : goal.loop-number-preserved
loop-number-preserved c =
    let l = c.loop-number in
    let i = l.invariant in
    let p = c.args.numbers.now in
    let x = get_or p l.number-index (pos 0) in
    let f : SFits w64 x = search rules in
    let d = signed-short x f in
    let e = rw (to_z-of_z f) at c.write_field-next.ensures in (
      one_more signed_decimal p c.args.out.now c.args.at (pos 0) l.number-index c.loop-number-test.true i.0 e (omega (arith, d, e.0, i.1, c.requires, c.loop-number-test.true)),
      omega (arith, d, e.0, i.1),
      c.write_field-next.auto.out ∙ i.2,
    )
