-- `fields::Parts::part` meets its contract.
use native.Mathlib.Omega.{arith}
use Rattle.fields.proofs.Held.{part-past, part_held}
use Rattle.fields.proofs.Parts.part.Goals as goal
use Rattle.fields.proofs.Parts.part.Goals.{then-k-ge-FIELDS_MAX-via-then-k-ge-FIELDS_MAX, then-k-ge-FIELDS_MAX-via-else-k-ge-FIELDS_MAX+then-self-k}

pub returns-then-k-ge-FIELDS_MAX : goal.returns-then-k-ge-FIELDS_MAX
returns-then-k-ge-FIELDS_MAX c =
    let a = c.args in
    elim c.then-k-ge-FIELDS_MAX.branch [
      | then-k-ge-FIELDS_MAX-via-then-k-ge-FIELDS_MAX w ↦ part-past a.self.now a.k (omega arith)
      | then-k-ge-FIELDS_MAX-via-else-k-ge-FIELDS_MAX+then-self-k w ↦ part-past a.self.now a.k (omega arith)
    ]

pub returns : goal.returns
returns c = let a = c.args in part_held a.self.now a.k (omega arith) (omega arith)
