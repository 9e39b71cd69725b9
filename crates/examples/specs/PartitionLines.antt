-- Lines of partitions: coordinator epochs and places of markers, other pids at a place, the oldest open transaction, words that no call has written, and
-- the last sequence of a new pid.
use Rattle.std.specs.Prelude.{ℕ, List, [], ◌∷◌, ◌++◌, pos, length, replicate}
use Rattle.record.specs.declared.Status.TheVariants.{Begin}
use Rattle.partition.specs.Partition.{no_producer}
use Rattle.partition.specs.declared.Producer.{Producer}
use Rattle.coordinator.specs.Open.{blank_state}
use Rattle.server.specs.Calls.{Server, Call, open_words, produce_call, marker_call, read_call}
use Rattle.server.specs.Lines.{Line, line, line_from, writes, reads, rig7, begins, put}
use Rattle.examples.specs.Starts.{put_at, put_next, mark, prepares, put3, mark3, begins_both, rig_table, closed_producer, open_producer, from}

-- no coordinator, and a partition of forty words with one entry, whose thirty-two places are these
abbrev pub partition_with : List Producer → Server
partition_with producers =
    record { coordinator = blank_state; log = []; partition = record { room = 40; end = 1; producers = producers; coordinator = 0 }; words = replicate 40 0; out = [] }

-- no coordinator, and a partition with this many entries, no open transaction, and these words, which no call has written
abbrev pub words_alone : ℕ → List ℕ → Server
words_alone end words =
    record {
      coordinator = blank_state;
      log = [];
      partition = record { room = length words; end = end; producers = replicate 32 no_producer; coordinator = 0 };
      words = words;
      out = [];
    }

-- an open transaction at place 31 alone
abbrev pub last_place_open : Server
last_place_open = partition_with (replicate 31 no_producer ++ (open_producer 1000 0 9 ∷ []))

-- the marker of `rig7` with this coordinator epoch
abbrev pub mark_by : ℕ → Call
mark_by coordinator = marker_call 0 (pos 1000) (pos 0) 0 (pos coordinator)

-- a marker that finds nobody at place 9, with this coordinator epoch
abbrev pub mark_nobody : ℕ → Call
mark_nobody coordinator = marker_call 9 (pos 999) (pos 0) 0 (pos coordinator)

-- `rig7` produces in epoch 1
abbrev pub put_one : ℕ → Call
put_one sequence = produce_call rig7 (pos 1000) (pos 1) 0 (pos sequence) 502

abbrev pub marker_places : List Line
marker_places =
    -- "the partition's coordinator epoch (at first 0)": 0 is not below it, with and without an open transaction, and again
    line 2560 8 (begins (pos 50)) (mark_by 0) 0 [] 1 0 ∷
    line 2560 8 (open_words ∷ []) (mark_by 0) 0 [] 0 0 ∷
    writes (1000 ∷ 1 ∷ 0 ∷ 0 ∷ []) (line 2560 8 (begins (pos 50) ++ (put ∷ [])) (mark_by 0) 0 [] 1 0) ∷
    line 2560 8 (begins (pos 50) ++ (put ∷ mark_by 0 ∷ [])) (mark_by 0) 0 [] 1 0 ∷
    -- the greatest
    writes (1000 ∷ 1 ∷ 2147483647 ∷ 0 ∷ []) (line 2560 8 (prepares 0) (mark_by 2147483647) 0 [] 1 0) ∷
    line 2560 8 (prepares 0 ++ (mark_nobody 2147483647 ∷ [])) (mark_by 2147483646) 21 [] 1 0 ∷
    -- "raises … to its own", also where the pid at the place is another, or the transaction is closed
    line 2560 8 (prepares 0 ++ (marker_call 0 (pos 999) (pos 0) 0 (pos 5) ∷ [])) (mark_by 4) 21 [] 1 0 ∷
    line 2560 8 (prepares 0 ++ (mark 0 ∷ mark_by 5 ∷ [])) (mark_by 4) 21 [] 1 0 ∷
    line 2560 8 (begins (pos 50) ++ (mark_by 5 ∷ [])) (mark_by 4) 21 [] 1 0 ∷
    -- Produce leaves it alone
    line 2560 40 (begins (pos 50) ++ (mark_nobody 5 ∷ put ∷ put_next ∷ [])) (mark_by 4) 21 [] 1 0 ∷
    writes (1000 ∷ 1 ∷ 5 ∷ 0 ∷ []) (line 2560 40 (begins (pos 50) ++ (mark_nobody 5 ∷ put ∷ put_next ∷ [])) (mark_by 5) 0 [] 1 0) ∷
    writes (1000 ∷ 1 ∷ 0 ∷ 0 ∷ []) (from (rig_table Begin 0 1) no_producer (put ∷ []) (mark_by 0) 0 [] 1 0) ∷
    -- "a row of thirty-two producers by place": 31 is the last, and above it is 7
    writes (1000 ∷ 1 ∷ 1 ∷ 0 ∷ []) (line_from last_place_open [] (marker_call 31 (pos 1000) (pos 0) 0 (pos 1)) 0 [] 0 0) ∷
    line_from last_place_open [] (marker_call 30 (pos 1000) (pos 0) 0 (pos 1)) 0 [] 0 0 ∷
    line_from last_place_open [] (marker_call 32 (pos 1000) (pos 0) 0 (pos 1)) 7 [] 0 0 ∷
    line_from last_place_open [] (marker_call 33 (pos 1000) (pos 0) 0 (pos 1)) 7 [] 0 0 ∷
    line_from last_place_open [] (marker_call 18446744073709551615 (pos 1000) (pos 0) 0 (pos 1)) 7 [] 0 0 ∷
    line_from last_place_open (marker_call 30 (pos 1000) (pos 0) 0 (pos 1) ∷ []) (read_call 1) 7 [] 0 0 ∷
    line_from last_place_open (marker_call 31 (pos 1000) (pos 0) 0 (pos 1) ∷ []) (marker_call 31 (pos 1000) (pos 0) 0 (pos 1)) 0 [] 0 0 ∷
    -- pid 0 where there is no producer yet, and where there is another
    line 2560 8 (begins (pos 50)) (marker_call 0 (pos 0) (pos 0) 0 (pos 1)) 0 [] 1 0 ∷
    line 2560 8 (prepares 0) (marker_call 0 (pos 0) (pos 0) 0 (pos 1)) 0 [] 1 0 ∷
    writes (1000 ∷ 1 ∷ 1 ∷ 0 ∷ []) (line 2560 8 (prepares 0 ++ (marker_call 0 (pos 0) (pos 0) 1 (pos 1) ∷ [])) (mark 0) 0 [] 1 0) ∷
    -- "another pid at that place …: done, no entry": a lower and a higher one, with a higher epoch; the row stays as it was
    line 2560 8 (prepares 0) (marker_call 0 (pos 999) (pos 7) 1 (pos 1)) 0 [] 1 0 ∷
    line 2560 8 (prepares 0) (marker_call 0 (pos 1001) (pos 7) 1 (pos 1)) 0 [] 1 0 ∷
    writes (1000 ∷ 1 ∷ 1 ∷ 0 ∷ []) (line 2560 8 (prepares 0 ++ (marker_call 0 (pos 999) (pos 7) 1 (pos 1) ∷ [])) (mark 0) 0 [] 1 0) ∷
    writes (1000 ∷ 1 ∷ 1 ∷ 0 ∷ []) (line 2560 8 (prepares 0 ++ (marker_call 0 (pos 1001) (pos 7) 1 (pos 1) ∷ [])) (mark 0) 0 [] 1 0) ∷
    writes (1000 ∷ 0 ∷ 10 ∷ 502 ∷ []) (from (rig_table Begin 0 1) (open_producer 1000 0 9) (marker_call 0 (pos 999) (pos 7) 1 (pos 1) ∷ []) (put_at (pos 10)) 0 (pos 1 ∷ []) 1 0) ∷
    writes (1000 ∷ 0 ∷ 10 ∷ 502 ∷ []) (from (rig_table Begin 0 1) (closed_producer 1000 0 9) (marker_call 0 (pos 1001) (pos 7) 1 (pos 1) ∷ []) (put_at (pos 10)) 0 (pos 1 ∷ []) 1 0) ∷
    -- a marker closes the transaction of its place alone
    line 2560 40 (begins_both 1 ++ (put ∷ put3 ∷ mark 0 ∷ [])) (read_call 2) 7 [] 2 0 ∷
    writes (1001 ∷ 2 ∷ 1 ∷ 0 ∷ []) (line 2560 40 (begins_both 1 ++ (put ∷ put3 ∷ mark 0 ∷ [])) (mark3 1) 0 [] 2 0) ∷
    []

abbrev pub entry_lines : List Line
entry_lines =
    -- "The stable end is the first offset of the oldest open transaction": which is at place 1
    line 2560 40 (begins_both 1 ++ (put3 ∷ put ∷ [])) (read_call 0) 0 (pos 0 ∷ pos 0 ∷ []) 2 0 ∷
    line 2560 40 (begins_both 1 ++ (put3 ∷ put ∷ [])) (read_call 1) 7 [] 2 0 ∷
    line 2560 40 (begins_both 1 ++ (put3 ∷ put ∷ mark 0 ∷ [])) (read_call 1) 7 [] 2 0 ∷
    reads (7 ∷ 7 ∷ []) (504 ∷ 7 ∷ []) (line 2560 40 (begins_both 1 ++ (put3 ∷ put ∷ mark3 0 ∷ [])) (read_call 0) 0 (pos 1 ∷ pos 1 ∷ []) 2 0) ∷
    line 2560 40 (begins_both 1 ++ (put3 ∷ put ∷ mark3 0 ∷ [])) (read_call 2) 7 [] 2 0 ∷
    -- a first offset above 0 is kept by later entries
    reads (7 ∷ 7 ∷ []) (504 ∷ 7 ∷ []) (line 2560 40 (begins_both 1 ++ (put3 ∷ mark3 0 ∷ put ∷ put_next ∷ [])) (read_call 0) 0 (pos 1 ∷ pos 2 ∷ []) 2 0) ∷
    line 2560 40 (begins_both 1 ++ (put3 ∷ mark3 0 ∷ put ∷ put_next ∷ [])) (read_call 2) 0 (pos 0 ∷ pos 2 ∷ []) 2 0 ∷
    line 2560 40 (begins_both 1 ++ (put3 ∷ mark3 0 ∷ put ∷ put_next ∷ [])) (read_call 3) 7 [] 2 0 ∷
    line 2560 40 (begins_both 1 ++ (put3 ∷ mark3 0 ∷ put ∷ put_next ∷ [])) (read_call 4) 7 [] 2 0 ∷
    -- the next transaction of the same producer has a first offset of its own
    reads (7 ∷ 7 ∷ []) (502 ∷ 7 ∷ []) (line 2560 40 (begins (pos 50) ++ (put ∷ mark 0 ∷ put_next ∷ [])) (read_call 0) 0 (pos 1 ∷ pos 2 ∷ []) 1 0) ∷
    line 2560 40 (begins (pos 50) ++ (put ∷ mark 0 ∷ put_next ∷ [])) (read_call 3) 7 [] 1 0 ∷
    -- "whose next marker of that pid is COMMIT": another pid's lies between an entry and its own
    reads (7 ∷ 7 ∷ []) (504 ∷ 7 ∷ []) (line 2560 40 (begins_both 1 ++ (put ∷ put3 ∷ mark3 0 ∷ mark 1 ∷ [])) (read_call 0) 0 (pos 1 ∷ pos 4 ∷ []) 2 0) ∷
    reads (7 ∷ 7 ∷ []) (502 ∷ 7 ∷ []) (line 2560 40 (begins_both 1 ++ (put3 ∷ put ∷ mark 0 ∷ mark3 1 ∷ [])) (read_call 0) 0 (pos 1 ∷ pos 4 ∷ []) 2 0) ∷
    reads (7 ∷ 7 ∷ 7 ∷ []) (502 ∷ 504 ∷ 7 ∷ []) (line 2560 40 (begins_both 1 ++ (put ∷ put3 ∷ mark3 0 ∷ mark 0 ∷ put_next ∷ mark 1 ∷ [])) (read_call 0) 0 (pos 2 ∷ pos 6 ∷ []) 2 0) ∷
    -- an entry under ABORT, then one under COMMIT of the same pid, read from the middle
    reads (7 ∷ []) (503 ∷ []) (line 2560 40 (begins (pos 50) ++ (put ∷ mark 1 ∷ put_next ∷ mark 0 ∷ [])) (read_call 1) 0 (pos 1 ∷ pos 4 ∷ []) 1 0) ∷
    -- "kind (0 data, 1 COMMIT, 2 ABORT)" in words that no call has written: an entry without a marker, and one of kind 3, which is neither data nor a marker
    reads (7 ∷ []) (7 ∷ []) (line_from (words_alone 1 (1000 ∷ 0 ∷ 0 ∷ 501 ∷ [])) [] (read_call 0) 0 (pos 0 ∷ pos 1 ∷ []) 0 0) ∷
    reads (7 ∷ []) (7 ∷ []) (line_from (words_alone 2 (1000 ∷ 3 ∷ 0 ∷ 501 ∷ 1000 ∷ 1 ∷ 1 ∷ 0 ∷ [])) [] (read_call 0) 0 (pos 0 ∷ pos 2 ∷ []) 0 0) ∷
    reads (7 ∷ []) (501 ∷ []) (line_from (words_alone 3 (1000 ∷ 0 ∷ 0 ∷ 501 ∷ 1000 ∷ 3 ∷ 1 ∷ 0 ∷ 1000 ∷ 1 ∷ 1 ∷ 0 ∷ [])) [] (read_call 0) 0 (pos 1 ∷ pos 3 ∷ []) 0 0) ∷
    -- "next sequence is 0, with no last, for a new pid or higher epoch": 2147483647 is ahead, and equal to no last
    from (rig_table Begin 0 1) no_producer [] (put_at (pos 2147483647)) 19 [] 1 0 ∷
    from (rig_table Begin 0 1) (closed_producer 999 0 5) [] (put_at (pos 2147483647)) 19 [] 1 0 ∷
    from (rig_table Begin 0 1) (closed_producer 999 0 2147483647) [] (put_at (pos 2147483647)) 19 [] 1 0 ∷
    from (rig_table Begin 0 1) (closed_producer 1001 0 2147483646) [] (put_at (pos 2147483647)) 19 [] 1 0 ∷
    from (rig_table Begin 1 1) (closed_producer 1000 0 2147483647) [] (put_one 2147483647) 19 [] 1 0 ∷
    from (rig_table Begin 1 1) (closed_producer 1000 0 2147483647) (marker_call 0 (pos 1000) (pos 1) 1 (pos 1) ∷ []) (put_one 2147483647) 19 [] 1 0 ∷
    from (rig_table Begin 0 1) no_producer [] (put_at (pos 1)) 19 [] 1 0 ∷
    from (rig_table Begin 1 1) (closed_producer 1000 0 9) [] (put_one 1) 19 [] 1 0 ∷
    -- "0 after 2147483647", and then on
    from (rig_table Begin 0 1) (open_producer 1000 0 2147483646) (put_at (pos 2147483647) ∷ put_at (pos 0) ∷ []) (put_at (pos 0)) 20 [] 1 0 ∷
    writes (1000 ∷ 0 ∷ 1 ∷ 502 ∷ []) (from (rig_table Begin 0 1) (open_producer 1000 0 2147483646) (put_at (pos 2147483647) ∷ put_at (pos 0) ∷ []) (put_at (pos 1)) 0 (pos 3 ∷ []) 1 0) ∷
    -- a payload is any u64
    writes (1000 ∷ 0 ∷ 0 ∷ 18446744073709551615 ∷ []) (line 2560 8 (begins (pos 50)) (produce_call rig7 (pos 1000) (pos 0) 0 (pos 0) 18446744073709551615) 0 (pos 0 ∷ []) 1 0) ∷
    -- a refused Produce leaves the last sequence and the room alone
    writes (1000 ∷ 0 ∷ 1 ∷ 503 ∷ []) (line 2560 12 (begins (pos 50) ++ (put ∷ put_at (pos 5) ∷ put_at (pos 0) ∷ [])) put_next 0 (pos 1 ∷ []) 1 0) ∷
    []
