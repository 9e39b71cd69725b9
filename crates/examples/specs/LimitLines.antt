-- Lines at the limits: every byte of a topic name, eight topics of eight partitions, position 63, the lengths of a torn rest, and place 31.
use Rattle.std.specs.Prelude.{ℕ, List, [], ◌∷◌, ◌++◌, map, ℤ, pos}
use Rattle.numbers.specs.Ascii.{ascii}
use Rattle.record.specs.Longest.{widest_text}
use Rattle.record.specs.declared.Status.{Status}
use Rattle.record.specs.declared.Status.TheVariants.{Begin, PrepareCommit}
use Rattle.row.specs.Row.{with_end}
use Rattle.table.specs.Table.{empty_table, apply}
use Rattle.table.specs.declared.Table.{Table}
use Rattle.coordinator.specs.Open.{blank_state}
use Rattle.coordinator.specs.Calls.{ack_call}
use Rattle.partition.specs.Partition.{open_partition, no_producer}
use Rattle.server.specs.Calls.{Call, open_log, call, order_call, marker_call}
use Rattle.server.specs.Lines.{Line, line, line_from, writes, catalogue_text, init7, put}
use Rattle.examples.specs.Starts.{record7, from, add_at, end_at, ack_at, tick_at, flushed}

-- ---- catalogues

-- an opening of the empty log under a text
abbrev pub under : List ℕ → Call
under text = open_log text 0 (pos 1) (pos 1000) (pos 1999)

-- a text that is refused with 5
abbrev pub no_catalogue : List ℕ → Line
no_catalogue text = line 2560 0 [] (under text) 5 [] 0 0

abbrev pub catalogue_texts : List Line
catalogue_texts =
    line 2560 0 [] (under widest_text) 0 [] 0 0 ∷
    -- a ninth line, a name of 17 bytes, no name, and a name again behind another
    no_catalogue (widest_text ++ ascii "z\t1\n") ∷
    no_catalogue (ascii "abcdefghijklmnopq\t1\n") ∷
    no_catalogue (ascii "\t1\n") ∷
    no_catalogue (ascii "scan\t2\ncert\t1\nscan\t1\n") ∷
    -- a space for the tab, two digits, a carriage return, and an empty line
    no_catalogue (ascii "scan 2\n") ∷
    no_catalogue (ascii "scan\t12\n") ∷
    no_catalogue (ascii "scan\t2\r\n") ∷
    no_catalogue (ascii "scan\t2\n\n") ∷
    -- the bytes before and behind those of names
    map (λ (byte : ℕ). no_catalogue (byte ∷ ascii "\t1\n")) (32 ∷ 44 ∷ 47 ∷ 58 ∷ 64 ∷ 91 ∷ 94 ∷ 96 ∷ 123 ∷ 225 ∷ [])

-- ---- the last position

-- `rig7` in EMPTY, and in BEGIN of partition 7 of the eighth topic, flushed; the log ends at 132
abbrev pub joins_last : List Call
joins_last = under widest_text ∷ init7 (pos 50) ∷ flushed 53 ∷ add_at 0 9223372036854775808 100 ∷ flushed 132 ∷ []

-- its prepare, flushed; the log ends at 211
abbrev pub prepares_last : List Call
prepares_last = joins_last ++ (end_at 0 0 120 ∷ flushed 211 ∷ [])

abbrev pub last_position : List Line
last_position =
    -- "Partition p of the t-th topic (both from 0) has position 8×t+p": 26 bytes for a name of 16 and one partition
    line 2560 0 (under widest_text ∷ init7 (pos 50) ∷ flushed 53 ∷ []) (add_at 0 9223372036854775808 100) 0 [] 1 79 ∷
    line 2560 0 joins_last (open_log widest_text 132 (pos 2) (pos 1000) (pos 1999)) 0 [] 1 0 ∷
    line 2560 0 prepares_last (order_call 9223372036854775808) 0 (pos 0 ∷ pos 1000 ∷ pos 0 ∷ pos 0 ∷ pos 63 ∷ pos 1 ∷ []) 1 0 ∷
    line 2560 0 prepares_last (ack_at 0 64) 3 [] 1 0 ∷
    []

-- ---- a torn rest

-- an opening of eight bytes
abbrev pub rest_of : List ℕ → ℕ → List ℤ → Line
rest_of bytes number results =
    line_from (record { coordinator = blank_state; log = bytes; partition = open_partition 0; words = []; out = [] }) []
    (open_log catalogue_text 8 (pos 1) (pos 1000) (pos 1999)) number results 0 0

-- "Lengths outside 5..36 and 37..469 are refusal 6, tested before the frame's end."; document 02, 1: "The key length limit becomes 68"
abbrev pub rest_lengths : List Line
rest_lengths =
    rest_of (0 ∷ 0 ∷ 0 ∷ 5 ∷ 0 ∷ 0 ∷ 0 ∷ 37 ∷ []) 0 [] ∷
    rest_of (0 ∷ 0 ∷ 0 ∷ 37 ∷ 0 ∷ 0 ∷ 0 ∷ 37 ∷ []) 0 [] ∷
    rest_of (0 ∷ 0 ∷ 0 ∷ 68 ∷ 0 ∷ 0 ∷ 1 ∷ 213 ∷ []) 0 [] ∷
    rest_of (0 ∷ 0 ∷ 0 ∷ 4 ∷ 0 ∷ 0 ∷ 0 ∷ 37 ∷ []) 6 (pos 0 ∷ []) ∷
    rest_of (0 ∷ 0 ∷ 0 ∷ 69 ∷ 0 ∷ 0 ∷ 0 ∷ 37 ∷ []) 6 (pos 0 ∷ []) ∷
    rest_of (0 ∷ 0 ∷ 0 ∷ 5 ∷ 0 ∷ 0 ∷ 0 ∷ 36 ∷ []) 6 (pos 0 ∷ []) ∷
    rest_of (0 ∷ 0 ∷ 0 ∷ 5 ∷ 0 ∷ 0 ∷ 1 ∷ 214 ∷ []) 6 (pos 0 ∷ []) ∷
    rest_of (255 ∷ 255 ∷ 255 ∷ 255 ∷ 0 ∷ 0 ∷ 0 ∷ 37 ∷ []) 6 (pos 0 ∷ []) ∷
    rest_of (0 ∷ 0 ∷ 0 ∷ 5 ∷ 255 ∷ 255 ∷ 255 ∷ 255 ∷ []) 6 (pos 0 ∷ []) ∷
    []

-- ---- the last place

-- the table that holds `rig7` at place 31, in this status, of partition 0 of `scan`
abbrev pub last_place : Status → Table
last_place status = apply empty_table 31 (with_end (record7 status 0 1 90 80) 53)

abbrev pub last_places : List Line
last_places =
    from (last_place Begin) no_producer [] (tick_at 60091) 0 (pos 31 ∷ []) 1 67 ∷
    from (last_place PrepareCommit) no_producer [] (order_call 1) 0 (pos 31 ∷ pos 1000 ∷ pos 0 ∷ pos 0 ∷ pos 0 ∷ pos 1 ∷ []) 1 0 ∷
    from (last_place PrepareCommit) no_producer [] (call (ack_call 31 (pos 1000) (pos 0) 0)) 0 [] 1 53 ∷
    writes (1000 ∷ 1 ∷ 1 ∷ 0 ∷ []) (from (last_place Begin) no_producer (put ∷ []) (marker_call 31 (pos 1000) (pos 0) 0 (pos 1)) 0 [] 1 0) ∷
    []
