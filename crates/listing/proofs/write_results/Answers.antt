-- `listing::write_results` meets its contract.
use borrow.Author.Rules.{rules}
use native.Mathlib.Omega.{arith}
use mir.Syntax.{w64}
use mir.Val.{SFits}
use mir.Facts.{to_z-of_z}
use Rattle.text.specs.Lines.{fields}
use Rattle.text.proofs.Lines.{none-wrote, last-wrote}
use Rattle.listing.specs.Listing.{none}
use Rattle.listing.proofs.write_results.Goals as goal

pub returns-in-Empty : goal.returns-in-Empty
unfolding fields
returns-in-Empty c = (rw c.in-Empty.is (none-wrote c.args.out.now c.args.at), omega arith)

pub returns-in-Absent : goal.returns-in-Absent
returns-in-Absent c =
    let a = c.args in
    (rw c.in-Absent.is (last-wrote none a.out.now a.at c.write_field.ensures), omega (arith, c.write_field.ensures.0))

pub returns-in-One : goal.returns-in-One
returns-in-One c =
    let v = c.write_signed.ensures in
    let f : SFits w64 c.in-One.a = search rules in
    (rw c.in-One.is (rw (to_z-of_z f) at v.0), omega (arith, v.1))

pub returns-in-Two : goal.returns-in-Two
returns-in-Two c =
    let v = c.write_signed-in-Two.ensures in
    let f : SFits w64 c.in-Two.a = search rules in
    let g : SFits w64 c.in-Two.b = search rules in
    (rw c.in-Two.is (rw (to_z-of_z f, to_z-of_z g) at v.0), omega (arith, v.1))

pub returns-in-Three : goal.returns-in-Three
returns-in-Three c =
    let v = c.write_signed-in-Three.ensures in
    let f : SFits w64 c.in-Three.first = search rules in
    let g : SFits w64 c.in-Three.second = search rules in
    let h : SFits w64 c.in-Three.third = search rules in
    (rw c.in-Three.is (rw (to_z-of_z f, to_z-of_z g, to_z-of_z h) at v.0), omega (arith, v.1))

pub returns-in-Payloads : goal.returns-in-Payloads
returns-in-Payloads c =
    let v = c.write_read.ensures in
    (rw c.in-Payloads.is v.0, v.1)
