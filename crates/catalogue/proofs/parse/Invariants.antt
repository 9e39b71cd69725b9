-- `catalogue::parse`: what its loops keep. The loop's invariant: what the lines that are left give is what the text gives.
use mathlib.Core.Path.{◌≡◌}
use Prim.Native.Nat.{◌*◌, ◌^◌, ◌≤◌, ◌<◌}
use lib.ListN.{length}
use Rattle.catalogue.specs.Catalogue.{parse}
use Rattle.catalogue.proofs.Reading.{onward}
use Rattle.catalogue.proofs.parse.Given as goal

abbrev pub invariant-loop-rest : goal.invariant-loop-rest
invariant-loop-rest l = (l.t ≤ 8) × (l.c.all < 2 ^ (8 * l.t)) × (parse l.text ≡ onward l.t l.c l.rest)

abbrev pub decreases-loop-rest : goal.decreases-loop-rest
decreases-loop-rest l = length l.rest
