-- `fields::split`: what its loops keep.
use Prim.Native.Nat.{◌≤◌, ◌<◌}
use mathlib.Core.Path.{◌≡◌}
use lib.ListN.{length}
use Rattle.fields.specs.Limits.{fields_max}
use Rattle.fields.proofs.Splitting.{Passed}
use Rattle.fields.proofs.split.Given as goal

abbrev pub invariant-loop-i : goal.invariant-loop-i
invariant-loop-i l = (l.from ≤ l.i) × (l.count < fields_max) × (length l.parts ≡ fields_max) × Passed l.line l.parts l.count l.from l.i
