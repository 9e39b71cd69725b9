-- `catalogue::name_run`: what its loop keeps: what was passed are name bytes, so the count goes on from n.
use mathlib.Core.Path.{◌≡◌}
use Prim.Native.Nat.{◌+◌}
use lib.ListN.{length, drop}
use Rattle.catalogue.specs.Catalogue.{name_run}
use Rattle.catalogue.proofs.name_run.Given as goal

abbrev pub invariant-loop-n : goal.invariant-loop-n
invariant-loop-n l = l.n + length (name_run (drop l.n l.text)) ≡ length (name_run l.text)
