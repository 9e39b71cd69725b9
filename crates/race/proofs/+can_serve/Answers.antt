-- `race::can_serve` meets its contract.
use native.Mathlib.Omega.{arith}
use borrow.Author.Tests.{eq-eqb, ne_eqb}
use Rattle.race.proofs.Search.{serve-none, serve-late, serve-round}
use Rattle.race.proofs.+can_serve.Goals as goal
use Rattle.race.proofs.+can_serve.Goals.{then-rounds-ne0, else-rounds-ne0}

pub returns-then-left-eq0 : goal.returns-then-left-eq0
returns-then-left-eq0 t c = let a = c.args in rw (serve-none a.rounds a.left a.blocks c.if-left-eq0.true, eq-eqb a.left 0 c.if-left-eq0.true)

pub returns-then-blocks-eq0 : goal.returns-then-blocks-eq0
returns-then-blocks-eq0 t c =
    let a = c.args in
    elim c.if-rounds-ne0.branch [
      | then-rounds-ne0 w ↦ rw (serve-round a.rounds a.left a.blocks c.if-left-eq0.false w.if-rounds-ne0.true, ← w.can_serve.ensures, ← w.value-is, c.if-can_serve.true, eq-eqb a.blocks 0 c.if-blocks-eq0.true)
      | else-rounds-ne0 w ↦ grind (arith, w.value-is, w.if-rounds-ne0.false, c.if-can_serve.true, eq-eqb a.rounds 0 w.if-rounds-ne0.false)
    ]

pub returns-else-blocks-eq0 : goal.returns-else-blocks-eq0
returns-else-blocks-eq0 t c =
    let a = c.args in
    elim c.if-rounds-ne0.branch [
      | then-rounds-ne0 w ↦ rw (serve-round a.rounds a.left a.blocks c.if-left-eq0.false w.if-rounds-ne0.true, ← w.can_serve.ensures, ← w.value-is, c.if-can_serve.true, ne_eqb a.blocks 0 c.if-blocks-eq0.false, ← c.left_after_block.ensures, ← c.can_serve-else-blocks-eq0.ensures)
      | else-rounds-ne0 w ↦ grind (arith, w.value-is, w.if-rounds-ne0.false, c.if-can_serve.true, eq-eqb a.rounds 0 w.if-rounds-ne0.false)
    ]

pub returns-else-can_serve : goal.returns-else-can_serve
returns-else-can_serve t c =
    let a = c.args in
    elim c.if-rounds-ne0.branch [
      | then-rounds-ne0 w ↦ rw (serve-round a.rounds a.left a.blocks c.if-left-eq0.false w.if-rounds-ne0.true, ← w.can_serve.ensures, ← w.value-is, c.if-can_serve.false)
      | else-rounds-ne0 w ↦ rw (serve-late a.rounds a.left a.blocks c.if-left-eq0.false w.if-rounds-ne0.false, c.if-can_serve.false)
    ]
