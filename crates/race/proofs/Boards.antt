-- The examples of boards hold, by computation.
use mathlib.Core.Path.{◌≡◌, refl}
use mathlib.Core.Bool.{cond}
use mathlib.Core.List.{map}
use Rattle.search.specs.Search.{all, find}
use Rattle.race.specs.Search.{can_serve, can_force, Forced, NotForced, race_answer}
use Rattle.race.specs.Examples.{Answered, answered, small_boards, other_boards, every_move, forced_by_every_move, Served, served, endings, served_by_every_move}

-- the search
pub boards-hold : (map (λ (x : Answered). answered x.board (race_answer x.board)) small_boards ≡ small_boards)
    × (map (λ (x : Answered). answered x.board (race_answer x.board)) other_boards ≡ other_boards)
unfolding can_serve can_force
boards-hold = (refl, refl)

-- the game itself, by every move of both sides
pub every-move-holds : map (λ (x : Answered). answered x.board (cond (forced_by_every_move x.board) Forced NotForced)) small_boards ≡ small_boards
unfolding all find every_move
every-move-holds = refl

-- once ended: the search, and the game
pub endings-hold : (map (λ (x : Served). served x.rounds x.left x.blocks (can_serve x.rounds x.left x.blocks)) endings ≡ endings)
    × (map (λ (x : Served). served x.rounds x.left x.blocks (served_by_every_move x)) endings ≡ endings)
unfolding can_serve all find every_move
endings-hold = (refl, refl)
