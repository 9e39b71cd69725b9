-- How the transactions whose prepares were flushed before a cut have ended after it, and the different ways that were seen.
use Rattle.std.specs.Prelude.{ℕ, zero, suc, ◌+◌, ◌≡◌, Bool, true, false, cond, List, [], ◌∷◌, ◌++◌, length, take}
use Rattle.bits.specs.Bits.{insert}
use Rattle.record.specs.declared.Status.{Status}
use Rattle.record.specs.declared.Status.TheVariants.{Empty, Begin, PrepareCommit, PrepareAbort, CompleteCommit, CompleteAbort}
use Rattle.row.specs.Row.{is_prepare}
use Rattle.row.specs.declared.Row.{Row}
use Rattle.answers.specs.Limits.{places}
use Rattle.answers.specs.Refusals.{among}
use Rattle.table.specs.Table.{row_at}
use Rattle.table.specs.declared.Table.{Table}
use Rattle.coordinator.specs.Coordinator.{unflushed}

-- "4 COMPLETE_COMMIT, 5 COMPLETE_ABORT"
abbrev pub is_complete : Status → Bool
is_complete Empty = false
is_complete Begin = false
is_complete PrepareCommit = false
is_complete PrepareAbort = false
is_complete CompleteCommit = true
is_complete CompleteAbort = true

-- whether the latest flushed record of an id is a prepare: its row is a flushed prepare, or the complete record behind one, which is not flushed
unfoldable pub followed : ℕ → Row → Bool
followed flushed row = cond (unflushed flushed row) (is_complete row.status) (is_prepare row.status)

-- an outcome is a set: the place of each id that ended in COMPLETE_COMMIT, and 32 more than the place of each that ended in COMPLETE_ABORT
abbrev pub with_ending : ℕ → ℕ → Status → ℕ
with_ending set place Empty = set
with_ending set place Begin = set
with_ending set place PrepareCommit = set
with_ending set place PrepareAbort = set
with_ending set place CompleteCommit = insert set place
with_ending set place CompleteAbort = insert set (places + place)

-- the outcome at the places below k, of a table with this flushed length before a cut and of the table after it
unfoldable pub outcome_below : ℕ → ℕ → Table → Table → ℕ
outcome_below zero flushed before after = 0
outcome_below (suc k) flushed before after =
    let set = outcome_below k flushed before after in cond (followed flushed (row_at before k)) (with_ending set k (row_at after k).status) set

-- at all places
abbrev pub outcome : ℕ → Table → Table → ℕ
outcome flushed before after = outcome_below places flushed before after

-- the outcomes that were seen, with one more if it is new
abbrev pub noted : List ℕ → ℕ → List ℕ
noted seen o = cond (among o seen) seen (seen ++ (o ∷ []))

-- what is left in a store, of which so many words were outcomes, and how many are outcomes now
pub record Noted (store : List ℕ) (count o : ℕ) (left : List ℕ) (now : ℕ) : Type 0 where
  pub seen : take now left ≡ noted (take count store) o
  pub counted : now ≡ length (noted (take count store) o)
