-- `text::write_decimal`: what its loops keep.
use Prim.Native.Nat.{◌+◌, ◌≤◌, ◌<◌}
use mathlib.Core.Path.{◌≡◌}
use lib.ListN.{length}
use Rattle.text.specs.Decimal.{decimal}
use Rattle.text.specs.Limits.{digits_max}
use Rattle.text.proofs.Spelling.{Spelled}
use Rattle.text.proofs.write_decimal.Given as goal

abbrev pub invariant-loop-rest : goal.invariant-loop-rest
invariant-loop-rest l = (l.start < digits_max) × (length l.digits ≡ digits_max) × (length (decimal l.rest) ≤ l.start + 1) × Spelled l.x l.rest l.start l.digits

abbrev pub decreases-loop-rest : goal.decreases-loop-rest
decreases-loop-rest l = l.start
