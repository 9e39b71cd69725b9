-- `race::can_force` meets its contract.
use native.Mathlib.Omega.{arith}
use borrow.Author.Tests.{eq-eqb, ne_eqb}
use Rattle.race.proofs.Search.{force-over, force-round}
use Rattle.race.proofs.+can_force.Goals as goal
use Rattle.race.proofs.+can_force.Goals.{then-until-ne0, else-until-ne0}

pub returns-then-blocks-eq0 : goal.returns-then-blocks-eq0
returns-then-blocks-eq0 t c =
    let a = c.args in
    elim c.if-until-ne0.branch [
      | then-until-ne0 w ↦ rw (force-round a.rounds a.until a.left a.blocks w.if-until-ne0.true.0 w.if-until-ne0.true.1, ← w.can_serve.ensures, ← w.value-is, c.if-can_serve.true, eq-eqb a.blocks 0 c.if-blocks-eq0.true)
      | else-until-ne0 w ↦ grind (arith, w.value-is, w.if-until-ne0.either, c.if-can_serve.true)
    ]

pub returns-else-blocks-eq0 : goal.returns-else-blocks-eq0
returns-else-blocks-eq0 t c =
    let a = c.args in
    elim c.if-until-ne0.branch [
      | then-until-ne0 w ↦ rw (force-round a.rounds a.until a.left a.blocks w.if-until-ne0.true.0 w.if-until-ne0.true.1, ← w.can_serve.ensures, ← w.value-is, c.if-can_serve.true, ne_eqb a.blocks 0 c.if-blocks-eq0.false, ← c.can_force.ensures)
      | else-until-ne0 w ↦ grind (arith, w.value-is, w.if-until-ne0.either, c.if-can_serve.true)
    ]

pub returns-else-can_serve : goal.returns-else-can_serve
returns-else-can_serve t c =
    let a = c.args in
    elim c.if-until-ne0.branch [
      | then-until-ne0 w ↦ rw (force-round a.rounds a.until a.left a.blocks w.if-until-ne0.true.0 w.if-until-ne0.true.1, ← w.can_serve.ensures, ← w.value-is, c.if-can_serve.false)
      | else-until-ne0 w ↦ rw (force-over a.rounds a.until a.left a.blocks w.if-until-ne0.either, c.if-can_serve.false)
    ]
