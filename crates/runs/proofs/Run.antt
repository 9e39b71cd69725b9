-- Laws of runs, whatever the items do: two lists one after the other, and what every item keeps.
use mathlib.Core.Path.{◌≡◌, refl}
use mathlib.Core.List.{List, [], ◌∷◌, ◌++◌}
use Rattle.search.specs.Search.{Each}
use Rattle.runs.specs.World.{World, Item, step, run}

pub run-append : (xs ys : List Item) (w : World) → run (xs ++ ys) w ≡ run ys (run xs w)
unfolding run
run-append [] ys w = refl
run-append (x ∷ xs) ys w = run-append xs ys (step x w)

-- what these items keep, a list of them keeps
pub run-keeps-of : (I : Item → Type 0) (P : World → Type 0) → ((x : Item) (w : World) → I x → P w → P (step x w))
    → (items : List Item) (w : World) → Each I items → P w → P (run items w)
unfolding run
run-keeps-of I P f [] w i p = p
run-keeps-of I P f (x ∷ items) w (i, is) p = run-keeps-of I P f items (step x w) is (f x w i p)

-- what every item keeps, every list keeps
pub run-keeps : (P : World → Type 0) → ((x : Item) (w : World) → P w → P (step x w)) → (items : List Item) (w : World) → P w → P (run items w)
unfolding run
run-keeps P f [] w p = p
run-keeps P f (x ∷ items) w p = run-keeps P f items (step x w) (f x w p)
