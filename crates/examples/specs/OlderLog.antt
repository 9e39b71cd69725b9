-- A log that a reader of document 01 accepts, and calls that fill a log up to the room that is kept.
use Rattle.std.specs.Prelude.{ℕ, List, [], ◌∷◌, ◌++◌, pos, replicate}
use Rattle.record.specs.Longest.{widest_text}
use Rattle.record.specs.declared.Status.TheVariants.{Empty, Begin}
use Rattle.row.specs.declared.Row.{Row}
use Rattle.coordinator.specs.declared.Coordinator.{Coordinator}
use Rattle.server.specs.Admitted.{Next, makes, opened_with, after_each}
use Rattle.examples.specs.Starts.{record_for, flushed, frames_in_order}
use Rattle.examples.specs.NameLines.{name_of, init_of, add_all}

-- document 01: "An id's name is 1 to 32 bytes": a longest one in EMPTY, then in BEGIN of partition 0 of `scan`; the frames end at 81 and 176
abbrev pub older_records : List Row
older_records = record_for (name_of 32) 1000 0 60000 Empty 0 100 0 ∷ record_for (name_of 32) 1000 0 60000 Begin 1 110 110 ∷ []

-- the log, with n bytes behind its end
abbrev pub older_log : ℕ → List ℕ
older_log n = frames_in_order older_records ++ replicate n 0

-- the longest name comes into BEGIN of all 64 positions; the log ends at 658
abbrev pub begins_longest : List Next
begins_longest = makes (init_of (name_of 64)) ∷ makes (flushed 113) ∷ makes add_all ∷ makes (flushed 658) ∷ []

-- in a buffer that then has 1,090 bytes left
abbrev pub filled_up : Coordinator
filled_up = (after_each begins_longest (opened_with widest_text (replicate 1748 0) 0 (pos 1) (pos 1000) (pos 1999) [] [])).coordinator
