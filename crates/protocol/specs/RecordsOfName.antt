-- What a list of records says of a name: its latest record and its prepares, and what holds at every cut.
-- No reader has to believe what is defined here: it serves the invariant, and no promise is stated with it.
use Rattle.std.specs.Prelude.{ℕ, ◌≤◌, ◌<◌, Bool, cond, ◌&&◌, List, [], ◌∷◌, eqb}
use Rattle.std.proofs.Math.Option.{Option, none, some}
use Rattle.search.specs.Search.{find, count_where}
use Rattle.row.specs.Row.{is_prepare}
use Rattle.runs.specs.History.{History, Logged, ending_by, records_of, flushed_of, is_of}

-- the latest record of a name among these
abbrev pub latest_in : List ℕ → List Logged → Option Logged
latest_in name records = find (is_of name) records

abbrev pub is_prepare_of : List ℕ → Logged → Bool
is_prepare_of name x = is_of name x && is_prepare x.content.status

-- how many prepares of a name there are
unfoldable pub prepares_in : List ℕ → List Logged → ℕ
prepares_in name records = count_where (is_prepare_of name) records

-- the prepare of a name that has this many before it
unfoldable pub nth_prepare : List ℕ → ℕ → List Logged → Option Logged
nth_prepare name n [] = none
nth_prepare name n (x ∷ records) = cond (is_prepare_of name x && eqb (prepares_in name records) n) (some x) (nth_prepare name n records)

-- this holds of what every cut from the flushed length on leaves: after a flush or a cut there are fewer such cuts
abbrev pub AtEveryCut : History → (List Logged → Type 0) → Type 0
AtEveryCut h P = (k : ℕ) → flushed_of h ≤ k → P (ending_by k (records_of h))

-- the numbers of records fall from the newest to the oldest, and are below a number
abbrev pub NumberedBelow : ℕ → List Logged → Type 0
NumberedBelow n [] = Unit {0}
NumberedBelow n (x ∷ records) = (x.number < n) × NumberedBelow x.number records
