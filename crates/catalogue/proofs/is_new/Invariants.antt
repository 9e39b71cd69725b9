-- `catalogue::is_new`: what its loop keeps: no topic that was passed has the name.
use mathlib.Core.Path.{◌≡◌}
use mathlib.Core.Bool.{true}
use Rattle.catalogue.specs.Catalogue.{is_new}
use Rattle.catalogue.proofs.is_new.Given as goal

abbrev pub invariant-loop-u : goal.invariant-loop-u
invariant-loop-u l = is_new l.c l.t l.u ≡ true
