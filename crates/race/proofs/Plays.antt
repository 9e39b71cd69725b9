-- The examples of plays hold, by computation.
use mathlib.Core.Path.{◌≡◌, refl}
use mathlib.Core.List.{[], ◌∷◌, map}
use Rattle.search.specs.Search.{all}
use Rattle.race.specs.Game.{no_block, block_log, block_partition, end, carry, wait, BenchPlays}
use Rattle.race.specs.Examples.{played, plays, round, avoids_blocks}

-- what is allowed, and what is completed
pub plays-hold : map played plays ≡ plays
unfolding all
plays-hold = refl

-- the bench has seen the line's move of the round: it waits, or makes another move
pub block-is-seen : BenchPlays avoids_blocks (round block_log wait ∷ []) × BenchPlays avoids_blocks (round (block_partition 0) (carry 1) ∷ round no_block end ∷ [])
block-is-seen = ((tt, refl), ((tt, refl), refl))
