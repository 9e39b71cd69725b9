-- `catalogue::partitions_in` meets its contract: no position of 64 bits is of a topic past the last.
use mathlib.Core.Path.{sym}
use Rattle.catalogue.specs.Limits.{topics_max}
use Rattle.catalogue.proofs.Positions.{partitions-past}
use Rattle.catalogue.proofs.partitions_in.Goals as goal

pub returns-then-t-ge-TOPICS_MAX : goal.returns-then-t-ge-TOPICS_MAX
returns-then-t-ge-TOPICS_MAX c = sym (partitions-past c.args.set topics_max c.args.t c.ranges.set.fits c.if-t-ge-TOPICS_MAX.true)
