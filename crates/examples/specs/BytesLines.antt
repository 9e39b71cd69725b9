-- Lines of bytes: the frames of records, and the lent buffers after calls, each to its last byte and word.
use Rattle.std.specs.Prelude.{ℕ, ◌-◌, List, [], ◌∷◌, ◌++◌, pos, length, replicate}
use Rattle.catalogue.specs.Catalogue.{parse}
use Rattle.record.specs.Frame.{frame}
use Rattle.record.specs.declared.Status.TheVariants.{Empty, Begin, PrepareCommit, PrepareAbort, CompleteCommit}
use Rattle.row.specs.Row.{record_of}
use Rattle.row.specs.declared.Row.{Row}
use Rattle.coordinator.specs.Open.{blank_state}
use Rattle.partition.specs.Partition.{open_partition}
use Rattle.server.specs.Calls.{Server, Call, open_words, order_call, read_call}
use Rattle.server.specs.Lines.{catalogue_text, opened, init7, put, after_all}
use Rattle.examples.specs.Starts.{reopened, add_at, end_at, ack_at, tick_at, flushed, mark, record_for, record7, empty7, frames_in_order}

-- ---- frames

-- a record, and its frame under the catalogue of `scan` with two partitions and `cert` with one
pub record FrameLine : Type 0 where
  pub row : Row
  pub bytes : List ℕ

unfoldable pub frame_then : FrameLine → List ℕ
frame_then l = frame (parse catalogue_text).catalogue (record_of l.row)

-- "A frame is key length and value length (int32 each), key, value; all numbers big-endian two's complement", a field to a line: `rig7` in EMPTY, with the start −1
abbrev pub empty_bytes : List ℕ
empty_bytes =
    0 ∷ 0 ∷ 0 ∷ 8 ∷
    0 ∷ 0 ∷ 0 ∷ 37 ∷
    0 ∷ 0 ∷
    0 ∷ 4 ∷
    114 ∷ 105 ∷ 103 ∷ 55 ∷
    0 ∷ 0 ∷
    0 ∷ 0 ∷ 0 ∷ 0 ∷ 0 ∷ 0 ∷ 3 ∷ 232 ∷
    0 ∷ 0 ∷
    0 ∷ 0 ∷ 234 ∷ 96 ∷
    0 ∷
    0 ∷ 0 ∷ 0 ∷ 0 ∷
    0 ∷ 0 ∷ 0 ∷ 0 ∷ 0 ∷ 0 ∷ 0 ∷ 100 ∷
    255 ∷ 255 ∷ 255 ∷ 255 ∷ 255 ∷ 255 ∷ 255 ∷ 255 ∷
    []

-- the same of the name `!` in PREPARE_ABORT, with numbers whose bytes differ: "Topics are in catalogue order, partitions rising"
abbrev pub abort_bytes : List ℕ
abort_bytes =
    0 ∷ 0 ∷ 0 ∷ 5 ∷
    0 ∷ 0 ∷ 0 ∷ 69 ∷
    0 ∷ 0 ∷
    0 ∷ 1 ∷
    33 ∷
    0 ∷ 0 ∷
    1 ∷ 2 ∷ 3 ∷ 4 ∷ 5 ∷ 6 ∷ 7 ∷ 8 ∷
    1 ∷ 2 ∷
    0 ∷ 1 ∷ 2 ∷ 3 ∷
    3 ∷
    0 ∷ 0 ∷ 0 ∷ 2 ∷
    0 ∷ 4 ∷ 115 ∷ 99 ∷ 97 ∷ 110 ∷
    0 ∷ 0 ∷ 0 ∷ 2 ∷
    0 ∷ 0 ∷ 0 ∷ 0 ∷
    0 ∷ 0 ∷ 0 ∷ 1 ∷
    0 ∷ 4 ∷ 99 ∷ 101 ∷ 114 ∷ 116 ∷
    0 ∷ 0 ∷ 0 ∷ 1 ∷
    0 ∷ 0 ∷ 0 ∷ 0 ∷
    17 ∷ 18 ∷ 19 ∷ 20 ∷ 21 ∷ 22 ∷ 23 ∷ 24 ∷
    9 ∷ 8 ∷ 7 ∷ 6 ∷ 5 ∷ 4 ∷ 3 ∷ 2 ∷
    []

abbrev pub frame_lines : List FrameLine
frame_lines =
    record { row = empty7; bytes = empty_bytes } ∷
    record { row = record_for (33 ∷ []) 72623859790382856 258 66051 PrepareAbort 259 1230066625199609624 650777868590383874; bytes = abort_bytes } ∷
    []

-- ---- buffers

-- before any call: 1,300 bytes and twelve words, each of them 7
abbrev pub filled : Server
filled =
    record { coordinator = blank_state; log = replicate 1300 7; partition = open_partition 0; words = replicate 12 7; out = 7 ∷ [] }

-- the calls, the records that the log buffer then starts with and the words of the entries; every byte and word behind them is still 7
pub record BufferLine : Type 0 where
  pub calls : List Call
  pub records : List Row
  pub entries : List ℕ

pub record Buffers : Type 0 where
  pub log : List ℕ
  pub words : List ℕ

unfoldable pub buffers_then : BufferLine → Buffers
buffers_then l = let s = after_all l.calls filled in record { log = s.log; words = s.words }

abbrev pub buffers_expected : BufferLine → Buffers
buffers_expected l =
    let log = frames_in_order l.records in
    record { log = log ++ replicate (1300 - length log) 7; words = l.entries ++ replicate (12 - length l.entries) 7 }

abbrev pub opens : List Call
opens = opened ∷ open_words ∷ []

abbrev pub writes_one : List Call
writes_one = opens ++ (init7 (pos 60000) ∷ flushed 53 ∷ add_at 0 257 110 ∷ flushed 134 ∷ put ∷ [])

abbrev pub prepares_marked : List Call
prepares_marked = writes_one ++ (end_at 0 0 120 ∷ flushed 215 ∷ order_call 257 ∷ mark 0 ∷ mark 0 ∷ read_call 0 ∷ ack_at 0 0 ∷ [])

abbrev pub begin257 : Row
begin257 = record7 Begin 0 257 110 110

abbrev pub prepare257 : Row
prepare257 = record7 PrepareCommit 0 257 120 110

abbrev pub buffer_lines : List BufferLine
buffer_lines =
    -- opening "writes nothing"; a partition "opens empty", and its words stay
    record { calls = opens; records = []; entries = [] } ∷
    -- Init, Add and Produce write their record or entry; Flush writes nothing
    record { calls = writes_one; records = empty7 ∷ begin257 ∷ []; entries = 1000 ∷ 0 ∷ 0 ∷ 502 ∷ [] } ∷
    -- nor do an Add of what is joined and a Tick with none
    record { calls = writes_one ++ (add_at 0 256 115 ∷ tick_at 118 ∷ []); records = empty7 ∷ begin257 ∷ []; entries = 1000 ∷ 0 ∷ 0 ∷ 502 ∷ [] } ∷
    -- End and Marker write; Order, a second Marker, Read and an Ack that is not the last write nothing
    record { calls = prepares_marked; records = empty7 ∷ begin257 ∷ prepare257 ∷ []; entries = 1000 ∷ 0 ∷ 0 ∷ 502 ∷ 1000 ∷ 1 ∷ 1 ∷ 0 ∷ [] } ∷
    -- the last Ack writes its record; an opening that drops a part of it writes nothing
    record {
      calls = prepares_marked ++ (ack_at 0 8 ∷ reopened 250 ∷ []);
      records = empty7 ∷ begin257 ∷ prepare257 ∷ record7 CompleteCommit 0 0 120 0 ∷ [];
      entries = 1000 ∷ 0 ∷ 0 ∷ 502 ∷ 1000 ∷ 1 ∷ 1 ∷ 0 ∷ [];
    } ∷
    []
