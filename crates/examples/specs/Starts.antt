-- The states and calls that the lines of the further tables start from.
use Rattle.std.specs.Prelude.{ℕ, zero, suc, ◌+◌, true, false, List, [], ◌∷◌, ◌++◌, ℤ, pos, length, replicate}
use Rattle.numbers.specs.Ascii.{ascii}
use Rattle.answers.specs.Limits.{places}
use Rattle.catalogue.specs.Catalogue.{parse}
use Rattle.numbers.specs.Padded.{padded}
use Rattle.record.specs.Frame.{frame}
use Rattle.record.specs.Limits.{name_max}
use Rattle.record.specs.declared.Status.{Status}
use Rattle.record.specs.declared.Status.TheVariants.{Empty, Begin}
use Rattle.row.specs.Row.{record_of, with_end}
use Rattle.row.specs.declared.Row.{Row}
use Rattle.table.specs.Table.{empty_table, apply}
use Rattle.table.specs.declared.Table.{Table}
use Rattle.coordinator.specs.Open.{blank_state, taken_over}
use Rattle.partition.specs.Partition.{open_partition, no_producer}
use Rattle.partition.specs.declared.Partition.{Partition}
use Rattle.partition.specs.declared.Producer.{Producer}
use Rattle.coordinator.specs.Calls.{init_call, add_call, end_call, tick_call, flush_call, ack_call}
use Rattle.server.specs.Calls.{Server, Call, open_log, open_words, call, produce_call, marker_call}
use Rattle.server.specs.Lines.{Line, line_from, catalogue_text, rig7, opened, init7, join, begins, put, lab3}

-- ---- calls of `rig7`, which comes first and has place 0 and pid 1000

-- an opening of the first n bytes that the log buffer holds, with the next coordinator epoch
abbrev pub reopened : ℕ → Call
reopened n = open_log catalogue_text n (pos 2) (pos 1000) (pos 1999)

-- Add of this set in epoch 0
abbrev pub add7 : ℕ → Call
add7 set = call (add_call rig7 (pos 1000) (pos 0) set (pos 110))

-- End with this verdict in epoch 0
abbrev pub end7 : ℕ → Call
end7 verdict = call (end_call rig7 (pos 1000) (pos 0) verdict (pos 120))

-- Produce with this sequence at partition 0 of `scan` in epoch 0
abbrev pub put_at : ℤ → Call
put_at sequence = produce_call rig7 (pos 1000) (pos 0) 0 sequence 502

-- its second entry
abbrev pub put_next : Call
put_next = produce_call rig7 (pos 1000) (pos 0) 0 (pos 1) 503

-- the marker of this verdict, and the acknowledgement of partition 0 of `scan`
abbrev pub mark : ℕ → Call
mark verdict = marker_call 0 (pos 1000) (pos 0) verdict (pos 1)

abbrev pub ack7 : Call
ack7 = call (ack_call 0 (pos 1000) (pos 0) 0)

-- the calls that bring it into EMPTY, flushed; its record ends at 53
abbrev pub holds7 : List Call
holds7 = opened ∷ open_words ∷ init7 (pos 50) ∷ call (flush_call 53) ∷ []

-- into a prepare of this verdict, of one partition, flushed; an entry is written before; its record ends at 187
abbrev pub prepares : ℕ → List Call
prepares verdict = begins (pos 50) ++ (put ∷ end7 verdict ∷ call (flush_call 187) ∷ [])

-- into the complete record of this verdict, flushed; it ends at 240
abbrev pub completes : ℕ → List Call
completes verdict = prepares verdict ++ (mark verdict ∷ ack7 ∷ call (flush_call 240) ∷ [])

-- into a prepare of COMMIT of two partitions, `scan` 0 and `cert` 0, flushed; it ends at 215
abbrev pub prepares_two : List Call
prepares_two = holds7 ++ (add7 257 ∷ call (flush_call 134) ∷ end7 0 ∷ call (flush_call 215) ∷ [])

-- the same calls with their own epoch and time
abbrev pub init_at : ℕ → ℕ → Call
init_at timeout time = call (init_call rig7 (pos timeout) (pos time))

abbrev pub add_at : ℕ → ℕ → ℕ → Call
add_at epoch set time = call (add_call rig7 (pos 1000) (pos epoch) set (pos time))

abbrev pub end_at : ℕ → ℕ → ℕ → Call
end_at epoch verdict time = call (end_call rig7 (pos 1000) (pos epoch) verdict (pos time))

abbrev pub ack_at : ℕ → ℕ → Call
ack_at epoch position = call (ack_call 0 (pos 1000) (pos epoch) position)

abbrev pub tick_at : ℕ → Call
tick_at time = call (tick_call (pos time))

abbrev pub flushed : ℕ → Call
flushed n = call (flush_call n)

-- ---- calls of `lab3`, which comes second and has place 1 and pid 1001

abbrev pub init3 : Call
init3 = call (init_call lab3 (pos 50) (pos 100))

abbrev pub add3 : ℕ → Call
add3 set = call (add_call lab3 (pos 1001) (pos 0) set (pos 100))

abbrev pub end3 : ℕ → Call
end3 verdict = call (end_call lab3 (pos 1001) (pos 0) verdict (pos 120))

abbrev pub put3 : Call
put3 = produce_call lab3 (pos 1001) (pos 0) 0 (pos 0) 504

abbrev pub mark3 : ℕ → Call
mark3 verdict = marker_call 1 (pos 1001) (pos 0) verdict (pos 1)

-- both names in EMPTY, flushed; the log ends at 106
abbrev pub holds_both : List Call
holds_both = opened ∷ open_words ∷ init7 (pos 50) ∷ init3 ∷ call (flush_call 106) ∷ []

-- both in a flushed BEGIN, `rig7` of partition 0 of `scan` and `lab3` of one partition; the log ends at 240
abbrev pub begins_both : ℕ → List Call
begins_both set = holds_both ++ (join ∷ add3 set ∷ call (flush_call 240) ∷ [])

-- both in a flushed prepare, `rig7` of COMMIT and `lab3`, of partition 0 of `cert`, of ABORT; the log ends at 374
abbrev pub prepares_both : List Call
prepares_both = begins_both 256 ++ (end7 0 ∷ end3 1 ∷ call (flush_call 374) ∷ [])

-- ---- Init of a third name, `bay2`

abbrev pub init2 : Call
init2 = call (init_call (ascii "bay2") (pos 50) (pos 100))

-- ---- states given directly

-- a record by name, pid, epoch, timeout, status, set, last update and start
abbrev pub record_for : List ℕ → ℕ → ℕ → ℕ → Status → ℕ → ℕ → ℕ → Row
record_for name pid epoch timeout status joined updated start =
    record {
      name = padded name_max name;
      pid = pid;
      epoch = epoch;
      timeout = timeout;
      status = status;
      joined = joined;
      updated = updated;
      start = start;
      end = 0;
      acknowledged = 0;
    }

-- a record of `rig7` in this status with this epoch, set, last update and start
abbrev pub record7 : Status → ℕ → ℕ → ℕ → ℕ → Row
record7 status epoch joined updated start = record_for rig7 1000 epoch 60000 status joined updated start

-- the table that holds `rig7` alone, in this status with this epoch and set; its record ends at 53
abbrev pub rig_table : Status → ℕ → ℕ → Table
rig_table status epoch joined = apply empty_table 0 (with_end (record7 status epoch joined 90 0) 53)

-- the table that holds `rig7` alone in a BEGIN of this epoch, of partition 0 of `scan`, started at 80 and last updated at 90
abbrev pub begin_table : ℕ → Table
begin_table epoch = apply empty_table 0 (with_end (record7 Begin epoch 1 90 80) 53)

-- the table with every place taken, none of them by `rig7` or `lab3`
abbrev pub full_table : Table
full_table = record { rows = replicate places (with_end (record_for (ascii "a") 7 0 60000 Empty 0 90 0) 53); next = 8; updated = 90; end = 53 }

-- a producer of this pid with this epoch and last sequence, whose transaction is closed
abbrev pub closed_producer : ℕ → ℕ → ℕ → Producer
closed_producer pid epoch sequence = record { pid = pid; epoch = epoch; sequence = sequence; ongoing = false; first = 0 }

-- the same with its transaction open from offset 0 on
abbrev pub open_producer : ℕ → ℕ → ℕ → Producer
open_producer pid epoch sequence = record { pid = pid; epoch = epoch; sequence = sequence; ongoing = true; first = 0 }

-- a partition of this many words and entries, with this producer at place 0
abbrev pub partition_of : ℕ → ℕ → Producer → Partition
partition_of room end q = record { room = room; end = end; producers = q ∷ replicate 31 no_producer; coordinator = 0 }

-- a coordinator over this table, opened with 2,560 bytes, and a partition of forty words, one entry of which is written, with this producer at place 0: lent a log buffer and a slice of these lengths
abbrev pub lending : ℕ → ℕ → Table → Producer → Server
lending bytes words t q =
    record {
      coordinator = taken_over (parse catalogue_text).catalogue t 2560 (pos 1) (pos 1000) (pos 1999);
      log = replicate bytes 0;
      partition = partition_of 40 1 q;
      words = replicate words 0;
      out = [];
    }

-- the same, lent what they were opened with
abbrev pub holding : Table → Producer → Server
holding = lending 2560 40

-- a line from such a server
abbrev pub from : Table → Producer → List Call → Call → ℕ → List ℤ → ℕ → ℕ → Line
from t q = line_from (holding t q)

-- a coordinator over this table with a log buffer of n bytes and no pid left
abbrev pub tight : Table → ℕ → Server
tight t n =
    record {
      coordinator = taken_over (parse catalogue_text).catalogue t n (pos 1) (pos 7) (pos 7);
      log = replicate n 0;
      partition = open_partition 0;
      words = [];
      out = [];
    }

-- no coordinator, and such a partition
abbrev pub partition_alone : ℕ → ℕ → Producer → Server
partition_alone room end q = record { coordinator = blank_state; log = []; partition = partition_of room end q; words = replicate room 0; out = [] }

-- ---- logs made of records

-- an EMPTY record of `rig7`, and a BEGIN of partition 0 of `scan`
abbrev pub empty7 : Row
empty7 = record7 Empty 0 0 100 0

abbrev pub begin7 : Row
begin7 = record7 Begin 0 1 100 100

-- EMPTY records of n names of one byte, from this byte on, which is the pid too
unfoldable pub empty_records : ℕ → ℕ → List Row
empty_records zero byte = []
empty_records (suc n) byte = record_for (byte ∷ []) byte 0 60000 Empty 0 100 0 ∷ empty_records n (byte + 1)

-- the frames of records, one behind the other
unfoldable pub frames_in_order : List Row → List ℕ
frames_in_order [] = []
frames_in_order (row ∷ rows) = frame (parse catalogue_text).catalogue (record_of row) ++ frames_in_order rows

-- before any call: a log buffer that holds these records and n bytes behind them
abbrev pub lent_log : ℕ → List Row → Server
lent_log n rows =
    record { coordinator = blank_state; log = frames_in_order rows ++ replicate n 0; partition = open_partition 0; words = []; out = [] }

-- a line whose only call opens a log of these records in such a buffer; the last number is the log's end that it finds
abbrev pub opens : ℕ → List Row → ℕ → List ℤ → ℕ → ℕ → Line
opens n rows = line_from (lent_log n rows) [] (open_log catalogue_text (length (frames_in_order rows)) (pos 1) (pos 1000) (pos 1999))
