-- A call by name: the tests with which each of them begins, and what was found for the name.
use Rattle.std.specs.Prelude.{ℕ, ◌≡◌, Bool, true, not, ◌||◌, List, [], ◌∷◌, ltb, ℤ, pos}
use Rattle.numbers.specs.Signed.{eq_z}
use Rattle.record.specs.Record.{name_fits}
use Rattle.row.specs.declared.Row.{Row}
use Rattle.answers.specs.Limits.{places}
use Rattle.answers.specs.Numbers.{invalid_name, invalid_length}
use Rattle.answers.specs.Refusals.{Test, refuse}
use Rattle.table.specs.Table.{row_at}
use Rattle.table.specs.declared.Held.{Held}
use Rattle.coordinator.specs.Coordinator.{admits, place_of_name}
use Rattle.coordinator.specs.declared.Coordinator.{Coordinator}

-- the two tests with which each of these calls begins
abbrev pub name_tests : Coordinator → ℕ → List ℕ → List Test
name_tests s n name = refuse invalid_length (not (admits s n)) ∷ refuse invalid_name (not (name_fits name)) ∷ []

-- what a name's place and row were found to be: nothing is said of the place of a name that does not fit
abbrev pub FoundFor : Coordinator → List ℕ → Held → Type 0
FoundFor s name held = (name_fits name ≡ true → held.place ≡ place_of_name s name) × (held.row ≡ row_at s.table held.place)

-- 10, for the row of the place that was found
abbrev pub not_held_at : ℕ → Row → ℤ → Bool
not_held_at place row pid = not (ltb place places) || not (eq_z pid (pos row.pid))
