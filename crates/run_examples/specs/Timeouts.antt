-- Runs of a transaction that begins at 100 with timeout 50 and is widened at 140, and which place is due at 150 and at 151 by their histories.
use Rattle.std.specs.Prelude.{ℕ, List, [], ◌∷◌, ◌++◌, pos}
use Rattle.server.specs.Lines.{rig7}
use Rattle.coordinator.specs.Calls.{init_call, add_call, end_call}
use Rattle.runs.specs.History.{History}
use Rattle.runs.specs.Timeouts.{due_place}
use Rattle.runs.specs.World.{World, start, own, Item, call, cut, run}
use Rattle.run_examples.specs.Runs.{opened, flushing, reopening}

-- Add of a set at a time
abbrev join_at : ℕ → ℕ → Item
join_at set time = call own (add_call rig7 (pos 1000) (pos 0) set (pos time))

-- the widening is appended, and ends at 191
abbrev pub widened : List Item
widened = call own (init_call rig7 (pos 50) (pos 100)) ∷ flushing 53 ∷ join_at 1 100 ∷ flushing 120 ∷ join_at 2 140 ∷ []

pub data AfterWidening : Type 0 where
  -- the widening is not flushed; is flushed but for one byte; is flushed
  not_flushed short_flush flushed : AfterWidening
  -- a cut leaves it whole; takes its last byte
  cut_behind cut_inside : AfterWidening
  -- it is prepared, and that is flushed
  prepared : AfterWidening

abbrev pub items_of : AfterWidening → List Item
items_of not_flushed = widened
items_of short_flush = widened ++ (flushing 190 ∷ [])
items_of flushed = widened ++ (flushing 191 ∷ [])
items_of cut_behind = widened ++ (cut 191 ∷ reopening ∷ [])
items_of cut_inside = widened ++ (cut 190 ∷ reopening ∷ [])
items_of prepared = widened ++ (flushing 191 ∷ call own (end_call rig7 (pos 1000) (pos 0) 0 (pos 145)) ∷ flushing 262 ∷ [])

-- the moment at which it is flushed
abbrev pub after_widening : World
after_widening = run (items_of flushed) (start opened)

abbrev pub dues : History → List ℕ
dues h = due_place 150 h ∷ due_place 151 h ∷ []

-- place 0, or 1 where none is due
abbrev pub expected_dues : AfterWidening → List ℕ
expected_dues not_flushed = 1 ∷ 1 ∷ []
expected_dues short_flush = 1 ∷ 1 ∷ []
expected_dues flushed = 1 ∷ 0 ∷ []
expected_dues cut_behind = 1 ∷ 0 ∷ []
expected_dues cut_inside = 1 ∷ 0 ∷ []
expected_dues prepared = 1 ∷ 1 ∷ []
