-- `listing::write_payloads` meets its contract.
use mathlib.Core.Path.{refl, ◌∙◌}
use native.Mathlib.Omega.{arith}
use lib.ListN.{get_or}
use Rattle.text.specs.Decimal.{decimal}
use Rattle.listing.proofs.Writing.{decimal-short}
use Rattle.listing.proofs.Payloads.{none_yet, one_more}
use Rattle.listing.proofs.write_payloads.Goals as goal

pub loop-payload-init : goal.loop-payload-init
loop-payload-init c = (none_yet decimal c.args.payloads.now c.args.out.now c.args.at, omega arith, refl)

pub write_field-next-requires : goal.write_field-next-requires
write_field-next-requires c =
    let l = c.loop-payload in
    let x = get_or c.args.payloads.now l.payload-index 0 in
    omega (arith, decimal-short x (omega (arith, c.type_inv.payloads l.payload-index)), l.invariant.1, l.invariant.2, c.requires, c.loop-payload-test.true)

pub loop-payload-preserved : goal.loop-payload-preserved
loop-payload-preserved c =
    let l = c.loop-payload in
    let i = l.invariant in
    let p = c.args.payloads.now in
    let d = decimal-short (get_or p l.payload-index 0) (omega (arith, c.type_inv.payloads l.payload-index)) in
    let e = c.write_field-next.ensures in (
      one_more decimal p c.args.out.now c.args.at 0 l.payload-index c.loop-payload-test.true i.0 e (omega (arith, d, e.0, i.1, c.requires, c.loop-payload-test.true)),
      omega (arith, d, e.0, i.1),
      c.write_field-next.auto.out ∙ i.2,
    )
