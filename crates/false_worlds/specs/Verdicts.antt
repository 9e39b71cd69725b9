-- Worlds in which an entry of a completed transaction does not stand under its verdict, one for each way.
use Rattle.std.specs.Prelude.{ℕ, List, [], ◌∷◌, ◌++◌}
use Rattle.record.specs.declared.Status.TheVariants.{PrepareCommit, PrepareAbort, CompleteCommit, CompleteAbort}
use Rattle.record.specs.declared.Status.{Status}
use Rattle.runs.specs.History.{Event, History, record_appended, log_flushed, marker_written, entry_written}
use Rattle.runs.specs.World.{World}
use Rattle.false_worlds.specs.Histories.{record_of7, begun, order7, entry7, with_history}

pub data Misjudged : Type 0 where
  -- a Marker that writes nothing, for a commit and for an abort
  no_commit no_abort : Misjudged
  -- ABORT over a commit's entry, COMMIT over an abort's
  abort_over_commit commit_over_abort : Misjudged
  -- completed one acknowledgement early: the other partition has no marker
  one_early : Misjudged
  -- the only marker is another pid's, or stands before the entry
  marker_of_pid marker_before : Misjudged

-- an entry at partition 0, event 3; the prepare of a status, event 4, flushed; these events; and the complete record of a status
abbrev pub completing : Status → List Event → Status → History
completing prepare events complete =
    record_appended (record_of7 complete 1000 0 0) 260 ∷
    (events
    ++ (log_flushed 190 ∷
    record_appended (record_of7 prepare 1000 0 3) 190 ∷
    entry_written (entry7 0 0 501 0) ∷
    begun))

-- the marker of a pid with a verdict at a position
abbrev pub marker : ℕ → ℕ → ℕ → List Event
marker pid verdict position = marker_written (order7 4 pid 0 verdict position) ∷ []

abbrev pub misjudged : Misjudged → World
misjudged no_commit = with_history (completing PrepareCommit [] CompleteCommit)
misjudged no_abort = with_history (completing PrepareAbort [] CompleteAbort)
misjudged abort_over_commit = with_history (completing PrepareCommit (marker 1000 1 0) CompleteCommit)
misjudged commit_over_abort = with_history (completing PrepareAbort (marker 1000 0 0) CompleteAbort)
misjudged one_early = with_history (completing PrepareCommit (marker 1000 0 1) CompleteCommit)
misjudged marker_of_pid = with_history (completing PrepareCommit (marker 1001 0 0) CompleteCommit)
misjudged marker_before =
    with_history
    (record_appended (record_of7 CompleteCommit 1000 0 0) 260 ∷
    log_flushed 190 ∷
    record_appended (record_of7 PrepareCommit 1000 0 3) 190 ∷
    entry_written (entry7 0 0 501 0) ∷
    marker_written (order7 4 1000 0 0 0) ∷
    begun)
