-- `session::index_of` meets its contract.
use native.Mathlib.Omega.{arith}
use borrow.Author.Tests.{eq-eqb, ne_eqb}
use Rattle.session.proofs.index_of.Goals as goal

pub returns-then-position-eq1 : goal.returns-then-position-eq1
returns-then-position-eq1 c = (rw (eq-eqb _ _ c.if-position-eq1.true), omega arith)

pub returns-then-position-eq8 : goal.returns-then-position-eq8
returns-then-position-eq8 c = (rw (ne_eqb _ _ c.if-position-eq1.false, eq-eqb _ _ c.if-position-eq8.true), omega arith)

pub returns : goal.returns
returns c = (rw (ne_eqb _ _ c.if-position-eq1.false, ne_eqb _ _ c.if-position-eq8.false), omega arith)
