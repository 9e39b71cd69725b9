-- Histories and worlds made by hand, of `rig7` with pid 1000 and of two partitions of `scan`.
use Rattle.std.specs.Prelude.{ℕ, cond, List, [], ◌∷◌, length, pos, negsuc}
use Rattle.numbers.specs.Padded.{padded}
use Rattle.record.specs.Limits.{name_max}
use Rattle.record.specs.Record.{idle}
use Rattle.record.specs.declared.Record.{Record}
use Rattle.record.specs.declared.Status.{Status}
use Rattle.record.specs.declared.Status.TheVariants.{Begin, PrepareCommit}
use Rattle.catalogue.specs.Catalogue.{parse}
use Rattle.row.specs.declared.Row.{Row}
use Rattle.coordinator.specs.Open.{blank_state}
use Rattle.coordinator.specs.declared.Coordinator.{Coordinator}
use Rattle.partition.specs.declared.Producer.{Producer}
use Rattle.server.specs.Lines.{rig7, scan_text}
use Rattle.runs.specs.History.{Order, Produced, record_appended, log_flushed, log_opened, History, Logged}
use Rattle.runs.specs.World.{Leader, World, Phase, up, Carrying, nothing}

abbrev pub name7 : List ℕ
name7 = padded name_max rig7

-- a record by name, pid and timeout; then by status, epoch, set, last update and start
abbrev pub record_by : List ℕ → ℕ → ℕ → Status → ℕ → ℕ → ℕ → ℕ → Record
record_by name pid timeout status epoch joined updated start =
    record {
      name = name;
      pid = pos pid;
      epoch = pos epoch;
      timeout = pos timeout;
      status = status;
      joined = joined;
      updated = pos updated;
      start = cond (idle status) (negsuc 0) (pos start);
    }

-- one of `rig7`, by status, pid, epoch, set and last update
abbrev pub record_at : Status → ℕ → ℕ → ℕ → ℕ → Record
record_at status pid epoch joined updated = record_by name7 pid 60000 status epoch joined updated 110

-- the same at 120
abbrev pub record_of7 : Status → ℕ → ℕ → ℕ → Record
record_of7 status pid epoch joined = record_at status pid epoch joined 120

-- an opening, which is event 0, and a flushed BEGIN of both partitions, event 1, which ends at 120
abbrev pub begun : History
begun = log_flushed 120 ∷ record_appended (record_of7 Begin 1000 0 3) 120 ∷ log_opened (pos 1) ∷ []

-- then this record, event 3, flushed; it ends at 190
abbrev pub then : Record → History
then r = log_flushed 190 ∷ record_appended r 190 ∷ begun

-- the prepare of COMMIT, and it flushed
abbrev pub commits : Record
commits = record_of7 PrepareCommit 1000 0 3

abbrev pub committing : History
committing = then commits

-- as it was flushed
abbrev pub prepare : Logged
prepare = record { number = 3; content = commits; end = 190 }

-- then the next record, event 5, which ends at 260
abbrev pub followed : Record → History
followed r = record_appended r 260 ∷ committing

-- a world that has this history, and nothing else
abbrev pub with_history : History → World
with_history h = record { text = scan_text; log = []; phase = up blank_state; leaders = []; carrying = nothing; history = h }

-- ---- orders and entries

-- an order for the record of a number: pid, epoch, verdict and position; of place 0, with coordinator epoch 1
abbrev pub order7 : ℕ → ℕ → ℕ → ℕ → ℕ → Order
order7 for pid epoch verdict position =
    record { place = 0; pid = pos pid; epoch = pos epoch; verdict = verdict; position = position; coordinator = pos 1; for = for }

-- an entry of pid 1000 in epoch 0 at a position, with this sequence, payload and offset
abbrev pub entry7 : ℕ → ℕ → ℕ → ℕ → Produced
entry7 position sequence payload offset =
    record { name = name7; pid = pos 1000; epoch = pos 0; position = position; sequence = pos sequence; payload = payload; offset = offset }

-- ---- parties

-- a coordinator whose table has these rows, with the log's end and the flushed length, opened with a buffer of this length
abbrev pub state : List Row → ℕ → ℕ → ℕ → Coordinator
state rows end flushed room =
    record {
      catalogue = (parse scan_text).catalogue;
      table = record { rows = rows; next = 0; updated = 0; end = end };
      room = room;
      flushed = flushed;
      clock = 0;
      epoch = 1;
      first = 0;
      last = 0;
    }

-- what it holds of `rig7`, by status, set and acknowledged set; its record ends at 190
abbrev pub row_in : Status → ℕ → ℕ → Row
row_in status joined acknowledged =
    record {
      name = name7;
      pid = 1000;
      epoch = 0;
      timeout = 60000;
      status = status;
      joined = joined;
      updated = 120;
      start = 110;
      end = 190;
      acknowledged = acknowledged;
    }

-- a partition leader with these words, of which this many are entries, these producers and this coordinator epoch
abbrev pub leader_of : List ℕ → ℕ → List Producer → ℕ → Leader
leader_of words end producers coordinator =
    record { partition = record { room = length words; end = end; producers = producers; coordinator = coordinator }; words = words }

-- a world of these parts
abbrev pub world_of : List ℕ → Phase → List Leader → Carrying → History → World
world_of log phase leaders carrying h = record { text = scan_text; log = log; phase = phase; leaders = leaders; carrying = carrying; history = h }
