-- `listing::write_number` meets its contract.
use borrow.Author.Rules.{rules}
use native.Mathlib.Omega.{arith}
use Rattle.listing.proofs.Writing.{decimal-short}
use Rattle.listing.proofs.write_number.Goals as goal

pub write_field-requires-in-Answered : goal.write_field-requires-in-Answered
write_field-requires-in-Answered c = rw c.from.ensures (omega (arith, decimal-short c.in-Answered.number (search rules), c.requires))

pub returns-in-Unknown : goal.returns-in-Unknown
returns-in-Unknown c = (rw c.in-Unknown.is c.write_field.ensures, omega (arith, c.write_field.ensures.0))

pub returns-in-Answered : goal.returns-in-Answered
returns-in-Answered c =
    let e = rw c.from.ensures at c.write_field-in-Answered.ensures in
    (rw c.in-Answered.is e, omega (arith, decimal-short c.in-Answered.number (search rules), e.0))
