-- Lines like T1 to T12 for the refusals: each number of each call, in a state in which, where one can be had, the tests behind it would refuse too.
use Rattle.std.specs.Prelude.{ℕ, cond, List, [], ◌∷◌, ◌++◌, eqb, pos, negsuc, replicate, take}
use Rattle.numbers.specs.Ascii.{ascii}
use Rattle.record.specs.declared.Status.TheVariants.{Empty, Begin, PrepareCommit, PrepareAbort, CompleteCommit, CompleteAbort}
use Rattle.table.specs.Table.{empty_table}
use Rattle.partition.specs.Partition.{no_producer}
use Rattle.coordinator.specs.Calls.{init_call, add_call, end_call, tick_call, flush_call, ack_call}
use Rattle.server.specs.Calls.{Call, open_log, open_words, call, order_call, produce_call, marker_call, read_call}
use Rattle.server.specs.Lines.{Line, line, line_from, reads, catalogue_text, rig7, opened, init7, join, begins, put, lab3}
use Rattle.examples.specs.Starts.{reopened, add7, end7, put_at, put_next, mark, ack7, holds7, prepares, completes, init3, put3, holds_both, begins_both, record7, record_for, rig_table, full_table, closed_producer, open_producer, from, tight, partition_alone, lending, empty7, begin7, empty_records, lent_log, opens}

-- "scan 9", "scan 0", and "scan" twice, as texts
abbrev pub nine_partitions : List ℕ
nine_partitions = ascii "scan\t9\n"

abbrev pub no_partition : List ℕ
no_partition = ascii "scan\t0\n"

abbrev pub same_twice : List ℕ
same_twice = ascii "scan\t2\nscan\t1\n"

-- opening; a buffer of 16 zero bytes is a bad log, and 17 is past it
abbrev pub opening_refusals : List Line
opening_refusals =
    -- "5 catalogue": no line, no last line feed, nine partitions, none, a name twice; 7 or 6 would apply too
    line 16 0 [] (open_log [] 17 (negsuc 0) (pos 1000) (pos 1999)) 5 [] 0 0 ∷
    line 16 0 [] (open_log (take 13 catalogue_text) 17 (pos 1) (pos 1000) (pos 1999)) 5 [] 0 0 ∷
    line 16 0 [] (open_log nine_partitions 16 (pos 1) (pos 1000) (pos 1999)) 5 [] 0 0 ∷
    line 16 0 [] (open_log no_partition 16 (pos 1) (pos 1000) (pos 1999)) 5 [] 0 0 ∷
    line 16 0 [] (open_log same_twice 16 (pos 1) (pos 1000) (pos 1999)) 5 [] 0 0 ∷
    -- "7 … a log length past the buffer (this one tested before 6)"
    line 16 0 [] (open_log catalogue_text 17 (pos 1) (pos 1000) (pos 1999)) 7 [] 0 0 ∷
    -- "6 log": lengths outside their limits, "tested before the frame's end"; the other 7 would apply too
    line 2560 0 [] (open_log catalogue_text 8 (negsuc 0) (pos 1000) (pos 1999)) 6 (pos 0 ∷ []) 0 0 ∷
    line 2560 0 [] (open_log catalogue_text 2560 (pos 1) (pos 1000) (pos 999)) 6 (pos 0 ∷ []) 0 0 ∷
    -- "with the offset of the first bad frame": in the second 17 would apply too
    line 2560 0 (opened ∷ init7 (pos 50) ∷ []) (reopened 61) 6 (pos 53 ∷ []) 1 0 ∷
    line_from (lent_log 1089 (empty7 ∷ begin7 ∷ [])) [] (reopened 128) 6 (pos 120 ∷ []) 0 0 ∷
    -- "first: status 0, epoch 0, pid above all earlier ones"
    opens 1090 (begin7 ∷ []) 6 (pos 0 ∷ []) 0 0 ∷
    opens 1090 (record7 Empty 1 0 100 0 ∷ []) 6 (pos 0 ∷ []) 0 0 ∷
    opens 1090 (empty7 ∷ record_for lab3 1000 0 60000 Empty 0 100 0 ∷ []) 6 (pos 53 ∷ []) 0 0 ∷
    -- "after 0, 4, 5: status 0 (same pid and epoch one higher …)"
    opens 1090 (empty7 ∷ empty7 ∷ []) 6 (pos 53 ∷ []) 0 0 ∷
    opens 1090 (empty7 ∷ record7 Empty 2 0 100 0 ∷ []) 6 (pos 53 ∷ []) 0 0 ∷
    opens 1090 (empty7 ∷ record_for rig7 1001 0 60000 Empty 0 100 0 ∷ []) 6 (pos 53 ∷ []) 0 0 ∷
    -- "or status 1 (same pid and epoch, …, start equal to last update)", no other, and the timeout held
    opens 1090 (empty7 ∷ record_for rig7 1001 0 60000 Begin 1 100 100 ∷ []) 6 (pos 53 ∷ []) 0 0 ∷
    opens 1090 (empty7 ∷ record7 Begin 1 1 100 100 ∷ []) 6 (pos 53 ∷ []) 0 0 ∷
    opens 1090 (empty7 ∷ record7 Begin 0 1 110 100 ∷ []) 6 (pos 53 ∷ []) 0 0 ∷
    opens 1090 (empty7 ∷ record_for rig7 1000 0 50 Begin 1 100 100 ∷ []) 6 (pos 53 ∷ []) 0 0 ∷
    opens 1090 (empty7 ∷ record7 PrepareCommit 0 1 100 100 ∷ []) 6 (pos 53 ∷ []) 0 0 ∷
    -- "after 1: status 1 with all its partitions and more; 2; or 3 with epoch equal or one higher; pid and start kept, …; set kept in 2 and 3"
    opens 1090 (empty7 ∷ begin7 ∷ record7 Begin 0 1 110 100 ∷ []) 6 (pos 120 ∷ []) 0 0 ∷
    opens 1090 (empty7 ∷ begin7 ∷ record7 Begin 0 2 110 100 ∷ []) 6 (pos 120 ∷ []) 0 0 ∷
    opens 1090 (empty7 ∷ begin7 ∷ record7 Begin 0 3 110 110 ∷ []) 6 (pos 120 ∷ []) 0 0 ∷
    opens 1090 (empty7 ∷ begin7 ∷ record7 PrepareCommit 1 1 110 100 ∷ []) 6 (pos 120 ∷ []) 0 0 ∷
    opens 1090 (empty7 ∷ begin7 ∷ record7 PrepareAbort 2 1 110 100 ∷ []) 6 (pos 120 ∷ []) 0 0 ∷
    opens 1090 (empty7 ∷ begin7 ∷ record7 PrepareCommit 0 3 110 100 ∷ []) 6 (pos 120 ∷ []) 0 0 ∷
    opens 1090 (empty7 ∷ begin7 ∷ record7 CompleteCommit 0 0 110 0 ∷ []) 6 (pos 120 ∷ []) 0 0 ∷
    -- "after 2: 4. After 3: 5. Pid and epoch kept."
    opens 1090 (empty7 ∷ begin7 ∷ record7 PrepareCommit 0 1 110 100 ∷ record7 CompleteAbort 0 0 110 0 ∷ []) 6 (pos 187 ∷ []) 0 0 ∷
    opens 1090 (empty7 ∷ begin7 ∷ record7 PrepareAbort 0 1 110 100 ∷ record7 CompleteCommit 0 0 110 0 ∷ []) 6 (pos 187 ∷ []) 0 0 ∷
    opens 1090 (empty7 ∷ begin7 ∷ record7 PrepareAbort 0 1 110 100 ∷ record7 CompleteAbort 1 0 110 0 ∷ []) 6 (pos 187 ∷ []) 0 0 ∷
    -- "Last updates … never fall along the log."
    opens 1090 (empty7 ∷ record_for lab3 1001 0 60000 Empty 0 99 0 ∷ []) 6 (pos 53 ∷ []) 0 0 ∷
    -- "more than 32 names too": the 33rd frame is bad
    opens 0 (empty_records 33 33) 6 (pos 1600 ∷ []) 0 0 ∷
    -- "7 … a negative coordinator epoch or first pid, last below first": 17 would apply too
    line_from (lent_log 1089 (empty7 ∷ begin7 ∷ [])) [] (open_log catalogue_text 120 (negsuc 0) (pos 1000) (pos 1999)) 7 [] 0 0 ∷
    line_from (lent_log 1089 (empty7 ∷ begin7 ∷ [])) [] (open_log catalogue_text 120 (pos 1) (negsuc 0) (pos 1999)) 7 [] 0 0 ∷
    line_from (lent_log 1089 (empty7 ∷ begin7 ∷ [])) [] (open_log catalogue_text 120 (pos 1) (pos 1000) (pos 999)) 7 [] 0 0 ∷
    -- 17, document 02, 1: "1,090 for each id or BEGIN and 545 for each prepare"
    opens 1089 (empty7 ∷ begin7 ∷ []) 17 [] 0 0 ∷
    opens 544 (empty7 ∷ begin7 ∷ record7 PrepareCommit 0 1 110 100 ∷ []) 17 [] 0 0 ∷
    opens 544 (empty7 ∷ begin7 ∷ record7 PrepareAbort 1 1 110 100 ∷ []) 17 [] 0 0 ∷
    opens 1634 (empty7 ∷ begin7 ∷ record7 PrepareCommit 0 1 110 100 ∷ record_for lab3 1001 0 50 Empty 0 110 0 ∷ record_for lab3 1001 0 50 Begin 256 110 110 ∷ []) 17 [] 0 0 ∷
    -- "Older logs open if their buffer meets the larger reserve.": in buffers that met 1,026 for a BEGIN and 513 for a prepare alone they do not
    opens 1026 (empty7 ∷ begin7 ∷ []) 17 [] 0 0 ∷
    opens 513 (empty7 ∷ begin7 ∷ record7 PrepareCommit 0 1 110 100 ∷ []) 17 [] 0 0 ∷
    []

-- Init
abbrev pub init_refusals : List Line
init_refusals =
    -- "8 log buffer … not of the length it was opened with", shorter or longer; 1 would apply too
    line_from (lending 2559 40 empty_table no_producer) [] (call (init_call [] (pos 0) (pos 100))) 8 [] 0 0 ∷
    line_from (lending 2561 40 empty_table no_producer) [] (call (init_call [] (pos 0) (pos 100))) 8 [] 0 0 ∷
    -- nor is a state admitted that no call has made: one without its reserve, or without an opening
    line_from (tight (rig_table Begin 0 1) 1142) [] (init7 (pos 50)) 8 [] 1 0 ∷
    line 2560 0 [] (init7 (pos 50)) 8 [] 0 0 ∷
    -- "1 name": 1 to 64 bytes by document 02, 1, each 33 to 126; 2 would apply too
    line 2560 0 (opened ∷ []) (call (init_call [] (pos 0) (pos 100))) 1 [] 0 0 ∷
    line 2560 0 (opened ∷ []) (call (init_call (replicate 65 97) (pos 0) (pos 100))) 1 [] 0 0 ∷
    line 2560 0 (opened ∷ []) (call (init_call (ascii "r ") (pos 0) (pos 100))) 1 [] 0 0 ∷
    line 2560 0 (opened ∷ []) (call (init_call (127 ∷ []) (pos 0) (pos 100))) 1 [] 0 0 ∷
    line 2560 0 (opened ∷ []) (call (init_call (114 ∷ 0 ∷ []) (pos 0) (pos 100))) 1 [] 0 0 ∷
    -- "2 timeout not 1..900000": 12 would apply too
    line 2560 0 (opened ∷ init7 (pos 50) ∷ []) (init7 (pos 0)) 2 [] 1 0 ∷
    line 2560 0 (opened ∷ init7 (pos 50) ∷ []) (init7 (negsuc 0)) 2 [] 1 0 ∷
    line 2560 0 (opened ∷ init7 (pos 50) ∷ []) (init7 (pos 900001)) 2 [] 1 0 ∷
    -- status 1, which does not use it
    line 2560 0 (begins (pos 50)) (init7 (pos 0)) 2 [] 1 0 ∷
    -- "12 not flushed": in status 2 and 3 14 would apply too, and 17 in the last
    line 2560 0 (begins (pos 50) ++ (end7 0 ∷ [])) (init7 (pos 50)) 12 [] 1 0 ∷
    line 2560 0 (begins (pos 50) ++ (end7 1 ∷ [])) (init7 (pos 50)) 12 [] 1 0 ∷
    line 2560 0 (holds7 ++ (join ∷ [])) (init7 (pos 50)) 12 [] 1 0 ∷
    line 1143 0 (opened ∷ init7 (pos 50) ∷ []) (init7 (pos 50)) 12 [] 1 0 ∷
    -- "Status 2, 3: refusal 14.": in the last two 16 and 17 would apply too
    line 2560 8 (prepares 0) (init7 (pos 50)) 14 [] 1 0 ∷
    line 2560 8 (prepares 1) (init7 (pos 50)) 14 [] 1 0 ∷
    line_from (tight (rig_table PrepareCommit 32766 1) 598) [] (init7 (pos 50)) 14 [] 1 0 ∷
    line_from (tight (rig_table PrepareAbort 32767 1) 598) [] (init7 (pos 50)) 14 [] 1 0 ∷
    -- "15 a 33rd name": 17 would apply too, and 16 in the second
    from full_table no_producer [] (init7 (pos 50)) 15 [] 32 0 ∷
    line_from (tight full_table 53) [] (init7 (pos 50)) 15 [] 32 0 ∷
    -- "16 pids spent": of an unknown name, and of a held one that needs a new pid; 17 would apply too
    line 1143 0 (open_log catalogue_text 0 (pos 1) (pos 1000) (pos 1000) ∷ init7 (pos 50) ∷ []) init3 16 [] 1 0 ∷
    line_from (tight (rig_table CompleteAbort 32766 0) 53) [] (init7 (pos 50)) 16 [] 1 0 ∷
    line_from (tight (rig_table CompleteAbort 32767 0) 53) [] (init7 (pos 50)) 16 [] 1 0 ∷
    -- a block that is wholly below the pids in the log
    line 2560 0 (holds7 ++ (open_log catalogue_text 53 (pos 2) (pos 5) (pos 7) ∷ [])) init3 16 [] 1 0 ∷
    -- "17: Init (outside status 1) …", by document 02, 1, "1,090 for each id": of an unknown name, a second one, a held one
    line 1142 0 (opened ∷ []) (init7 (pos 50)) 17 [] 0 0 ∷
    line 2285 0 holds7 init3 17 [] 1 0 ∷
    line 1195 0 holds7 (init7 (pos 50)) 17 [] 1 0 ∷
    -- of a name held among 32, which is no 15
    from full_table no_producer [] (call (init_call (ascii "a") (pos 50) (pos 100))) 17 [] 32 0 ∷
    []

-- Add
abbrev pub add_refusals : List Line
add_refusals =
    -- "8 log buffer": in the first 1 would apply too
    line_from (lending 2559 40 (rig_table Begin 0 1) no_producer) [] (call (add_call [] (pos 1000) (pos 0) 0 (pos 100))) 8 [] 1 0 ∷
    line_from (lending 2561 40 (rig_table Begin 0 1) no_producer) [] (call (add_call rig7 (pos 1000) (pos 0) 1 (pos 100))) 8 [] 1 0 ∷
    -- "1 name": 3 would apply too
    line 2560 0 (begins (pos 50)) (call (add_call [] (pos 1000) (pos 0) 0 (pos 100))) 1 [] 1 0 ∷
    line 2560 0 (begins (pos 50)) (call (add_call (replicate 65 97) (pos 1000) (pos 0) 4 (pos 100))) 1 [] 1 0 ∷
    -- "3 set empty or outside the catalogue": 10 would apply too
    line 2560 0 (begins (pos 50)) (call (add_call rig7 (pos 999) (pos 0) 0 (pos 100))) 3 [] 1 0 ∷
    line 2560 0 (begins (pos 50)) (call (add_call lab3 (pos 1000) (pos 0) 4 (pos 100))) 3 [] 1 0 ∷
    line 2560 0 (begins (pos 50)) (call (add_call rig7 (pos 999) (pos 0) 513 (pos 100))) 3 [] 1 0 ∷
    -- "10 name not held or pid differs": 11 would apply too, but in the second, which asks for what a free place holds
    line 2560 0 (begins (pos 50)) (call (add_call lab3 (pos 1000) (pos 7) 1 (pos 100))) 10 [] 1 0 ∷
    line 2560 0 (begins (pos 50)) (call (add_call lab3 (pos 0) (pos 0) 1 (pos 100))) 10 [] 1 0 ∷
    line 2560 0 (begins (pos 50)) (call (add_call rig7 (pos 999) (pos 7) 1 (pos 100))) 10 [] 1 0 ∷
    line 2560 0 (begins (pos 50)) (call (add_call rig7 (negsuc 999) (pos 0) 1 (pos 100))) 10 [] 1 0 ∷
    -- "11 epoch differs", higher, lower or negative: in the first two 12 would apply too
    line 2560 0 (opened ∷ init7 (pos 50) ∷ []) (call (add_call rig7 (pos 1000) (pos 1) 1 (pos 100))) 11 [] 1 0 ∷
    line 2560 0 (opened ∷ init7 (pos 50) ∷ []) (call (add_call rig7 (pos 1000) (negsuc 0) 1 (pos 100))) 11 [] 1 0 ∷
    line 2560 0 (holds7 ++ (init7 (pos 50) ∷ call (flush_call 106) ∷ [])) (call (add_call rig7 (pos 1000) (pos 0) 1 (pos 100))) 11 [] 1 0 ∷
    -- "Epoch 32767 is refusal 11.": of an idle id, of an unflushed one, where 12 would apply too, and in status 3, where 14 would
    from (rig_table CompleteAbort 32767 0) no_producer [] (call (add_call rig7 (pos 1000) (pos 32767) 1 (pos 100))) 11 [] 1 0 ∷
    from (rig_table PrepareAbort 32767 1) no_producer (call (ack_call 0 (pos 1000) (pos 32767) 0) ∷ []) (call (add_call rig7 (pos 1000) (pos 32767) 1 (pos 100))) 11 [] 1 0 ∷
    from (rig_table PrepareAbort 32767 1) no_producer [] (call (add_call rig7 (pos 1000) (pos 32767) 1 (pos 100))) 11 [] 1 0 ∷
    -- "12 not flushed": in status 2 and 3 14 would apply too; in status 1 with all joined nothing would be appended
    line 2560 0 (begins (pos 50) ++ (end7 0 ∷ [])) (add7 256) 12 [] 1 0 ∷
    line 2560 0 (begins (pos 50) ++ (end7 1 ∷ [])) (add7 256) 12 [] 1 0 ∷
    line 2560 0 (opened ∷ init7 (pos 50) ∷ []) (add7 1) 12 [] 1 0 ∷
    line 2560 0 (holds7 ++ (join ∷ [])) (add7 1) 12 [] 1 0 ∷
    -- "Status 2, 3: 14.": 17 would apply too, but in the last, of joined partitions
    line 1210 0 (begins (pos 50) ++ (end7 0 ∷ call (flush_call 187) ∷ [])) (add7 256) 14 [] 1 0 ∷
    line 1210 0 (begins (pos 50) ++ (end7 1 ∷ call (flush_call 187) ∷ [])) (add7 256) 14 [] 1 0 ∷
    line 2560 8 (prepares 0) (add7 1) 14 [] 1 0 ∷
    -- "17: … an Add that appends …": the first partition, a wider set, two ids
    line 1209 0 holds7 join 17 [] 1 0 ∷
    line 1290 0 (begins (pos 50)) (add7 256) 17 [] 1 0 ∷
    line 2352 0 holds_both join 17 [] 2 0 ∷
    []

-- End
abbrev pub end_refusals : List Line
end_refusals =
    -- "8 log buffer": in the first 1 would apply too
    line_from (lending 2559 40 (rig_table Begin 0 1) no_producer) [] (call (end_call [] (pos 1000) (pos 0) 2 (pos 120))) 8 [] 1 0 ∷
    line_from (lending 2561 40 (rig_table Begin 0 1) no_producer) [] (end7 0) 8 [] 1 0 ∷
    -- "1 name": 4 would apply too
    line 2560 0 (begins (pos 50)) (call (end_call [] (pos 1000) (pos 0) 2 (pos 120))) 1 [] 1 0 ∷
    line 2560 0 (begins (pos 50)) (call (end_call (replicate 65 97) (pos 1000) (pos 0) 2 (pos 120))) 1 [] 1 0 ∷
    -- "4 verdict not 0 or 1": 10 would apply too
    line 2560 0 (begins (pos 50)) (call (end_call lab3 (pos 1000) (pos 0) 2 (pos 120))) 4 [] 1 0 ∷
    line 2560 0 (begins (pos 50)) (call (end_call rig7 (pos 999) (pos 0) 256 (pos 120))) 4 [] 1 0 ∷
    -- "10 name not held or pid differs": 11 would apply too, but in the second, which asks for what a free place holds
    line 2560 0 (begins (pos 50)) (call (end_call lab3 (pos 1000) (pos 7) 0 (pos 120))) 10 [] 1 0 ∷
    line 2560 0 (begins (pos 50)) (call (end_call lab3 (pos 0) (pos 0) 0 (pos 120))) 10 [] 1 0 ∷
    line 2560 0 (begins (pos 50)) (call (end_call rig7 (pos 999) (pos 7) 0 (pos 120))) 10 [] 1 0 ∷
    -- "11 epoch differs": 12 would apply too
    line 2560 0 (opened ∷ init7 (pos 50) ∷ []) (call (end_call rig7 (pos 1000) (pos 1) 0 (pos 120))) 11 [] 1 0 ∷
    line 2560 0 (holds7 ++ (join ∷ [])) (call (end_call rig7 (pos 1000) (negsuc 0) 0 (pos 120))) 11 [] 1 0 ∷
    -- "12 not flushed": of status 0 13 would apply too, of status 2 and 3 13 or 14; a BEGIN, and an End that would only say done
    line 2560 0 (opened ∷ init7 (pos 50) ∷ []) (end7 0) 12 [] 1 0 ∷
    line 2560 0 (begins (pos 50) ++ (end7 0 ∷ [])) (end7 0) 12 [] 1 0 ∷
    line 2560 0 (begins (pos 50) ++ (end7 0 ∷ [])) (end7 1) 12 [] 1 0 ∷
    line 2560 0 (begins (pos 50) ++ (end7 1 ∷ [])) (end7 1) 12 [] 1 0 ∷
    line 2560 0 (holds7 ++ (join ∷ [])) (end7 0) 12 [] 1 0 ∷
    line 2560 8 (prepares 0 ++ (mark 0 ∷ ack7 ∷ [])) (end7 0) 12 [] 1 0 ∷
    -- "All else: 13.": status 0, and 2 to 5 of the other verdict
    line 2560 0 holds7 (end7 0) 13 [] 1 0 ∷
    line 2560 0 holds7 (end7 1) 13 [] 1 0 ∷
    line 2560 8 (prepares 0) (end7 1) 13 [] 1 0 ∷
    line 2560 8 (prepares 1) (end7 0) 13 [] 1 0 ∷
    line 2560 8 (completes 0) (end7 1) 13 [] 1 0 ∷
    line 2560 8 (completes 1) (end7 0) 13 [] 1 0 ∷
    -- "Status 2 or 3 of that verdict: 14."
    line 2560 8 (prepares 0) (end7 0) 14 [] 1 0 ∷
    line 2560 8 (prepares 1) (end7 1) 14 [] 1 0 ∷
    []

-- Tick
abbrev pub tick_refusals : List Line
tick_refusals =
    -- "8 log buffer", though a transaction is overdue
    line_from (lending 2559 40 (rig_table Begin 0 1) no_producer) [] (call (tick_call (pos 100000))) 8 [] 1 0 ∷
    line_from (lending 2561 40 (rig_table Begin 0 1) no_producer) [] (call (tick_call (pos 100000))) 8 [] 1 0 ∷
    []

-- Flush
abbrev pub flush_refusals : List Line
flush_refusals =
    -- "7 … in Flush below the flushed length or past the end"
    line 2560 0 holds7 (call (flush_call 52)) 7 [] 1 0 ∷
    line 2560 0 holds7 (call (flush_call 54)) 7 [] 1 0 ∷
    line 2560 0 (holds7 ++ (join ∷ [])) (call (flush_call 121)) 7 [] 1 0 ∷
    -- after a log cut inside its second frame the end is that of the first
    line 2560 0 (holds7 ++ (join ∷ reopened 119 ∷ [])) (call (flush_call 54)) 7 [] 1 0 ∷
    line 2560 0 (holds7 ++ (join ∷ reopened 119 ∷ [])) (call (flush_call 52)) 7 [] 1 0 ∷
    []

-- Ack
abbrev pub ack_refusals : List Line
ack_refusals =
    -- "8 log buffer": in the first 3 would apply too
    line_from (lending 2559 40 (rig_table PrepareCommit 0 1) no_producer) [] (call (ack_call 0 (pos 1000) (pos 0) 2)) 8 [] 1 0 ∷
    line_from (lending 2561 40 (rig_table PrepareCommit 0 1) no_producer) [] ack7 8 [] 1 0 ∷
    -- "3 … or such a position": 10 would apply too
    line 2560 8 (prepares 0) (call (ack_call 1 (pos 1000) (pos 0) 2)) 3 [] 1 0 ∷
    line 2560 8 (prepares 0) (call (ack_call 0 (pos 999) (pos 0) 64)) 3 [] 1 0 ∷
    -- "10 … (Ack: place or pid)": a place above 31, twice, a free one, another pid; in the last 11 would apply too
    line 2560 8 (prepares 0) (call (ack_call 32 (pos 1000) (pos 0) 0)) 10 [] 1 0 ∷
    line 2560 8 (prepares 0) (call (ack_call 32 (pos 0) (pos 0) 0)) 10 [] 1 0 ∷
    line 2560 8 (prepares 0) (call (ack_call 1 (pos 0) (pos 0) 0)) 10 [] 1 0 ∷
    line 2560 8 (prepares 0) (call (ack_call 0 (pos 999) (pos 7) 0)) 10 [] 1 0 ∷
    -- "11 epoch differs": 12 would apply too
    line 2560 0 (begins (pos 50) ++ (end7 0 ∷ [])) (call (ack_call 0 (pos 1000) (pos 1) 0)) 11 [] 1 0 ∷
    -- an order from before the fence
    line 2560 0 (begins (pos 50) ++ (call (tick_call (pos 151)) ∷ call (flush_call 187) ∷ [])) ack7 11 [] 1 0 ∷
    -- "12 not flushed": of a BEGIN 13 and 18 would apply too; a prepare; a repeated Ack after the complete record, where 13 would apply too
    line 2560 0 (holds7 ++ (join ∷ [])) (call (ack_call 0 (pos 1000) (pos 0) 8)) 12 [] 1 0 ∷
    line 2560 0 (begins (pos 50) ++ (end7 0 ∷ [])) ack7 12 [] 1 0 ∷
    line 2560 8 (prepares 0 ++ (mark 0 ∷ ack7 ∷ [])) ack7 12 [] 1 0 ∷
    -- "status other than 2, 3 is 13": 18 would apply too
    line 2560 0 holds7 ack7 13 [] 1 0 ∷
    line 2560 0 (begins (pos 50)) (call (ack_call 0 (pos 1000) (pos 0) 8)) 13 [] 1 0 ∷
    line 2560 8 (completes 0) ack7 13 [] 1 0 ∷
    line 2560 8 (completes 1) ack7 13 [] 1 0 ∷
    -- "18 position not joined"
    line 2560 8 (prepares 0) (call (ack_call 0 (pos 1000) (pos 0) 8)) 18 [] 1 0 ∷
    line 2560 8 (prepares 1) (call (ack_call 0 (pos 1000) (pos 0) 1)) 18 [] 1 0 ∷
    []

-- Produce
abbrev pub produce_refusals : List Line
produce_refusals =
    -- "8 … partition slice not of the length it was opened with": in the first 1 would apply too
    line_from (lending 2560 39 (rig_table Begin 0 1) no_producer) [] (produce_call [] (pos 1000) (pos 0) 2 (pos 0) 502) 8 [] 1 0 ∷
    line_from (lending 2560 41 (rig_table Begin 0 1) no_producer) [] put 8 [] 1 0 ∷
    -- "1 name": 3 would apply too
    line 2560 40 (begins (pos 50)) (produce_call [] (pos 1000) (pos 0) 2 (pos 0) 502) 1 [] 1 0 ∷
    line 2560 40 (begins (pos 50)) (produce_call (replicate 65 97) (pos 1000) (pos 0) 2 (pos 0) 502) 1 [] 1 0 ∷
    -- "3 … or such a position": 7 would apply too
    line 2560 40 (begins (pos 50)) (produce_call rig7 (pos 1000) (pos 0) 2 (negsuc 0) 502) 3 [] 1 0 ∷
    line 2560 40 (begins (pos 50)) (produce_call rig7 (pos 1000) (pos 0) 64 (negsuc 0) 502) 3 [] 1 0 ∷
    -- "7 … a negative sequence": in the first 10 would apply too
    line 2560 40 (begins (pos 50)) (produce_call lab3 (pos 1000) (pos 0) 0 (negsuc 0) 502) 7 [] 1 0 ∷
    line 2560 40 (begins (pos 50)) (put_at (negsuc 0)) 7 [] 1 0 ∷
    -- "10 name not held or pid differs": 11 would apply too, but in the second, which asks for what a free place holds
    line 2560 40 (begins (pos 50)) (produce_call lab3 (pos 1000) (pos 7) 0 (pos 0) 502) 10 [] 1 0 ∷
    line 2560 40 (begins (pos 50)) (produce_call lab3 (pos 0) (pos 0) 0 (pos 0) 502) 10 [] 1 0 ∷
    line 2560 40 (begins (pos 50)) (produce_call rig7 (pos 999) (pos 7) 0 (pos 0) 502) 10 [] 1 0 ∷
    -- "11 epoch differs": 12 would apply too
    line 2560 40 (holds7 ++ (join ∷ [])) (produce_call rig7 (pos 1000) (pos 1) 0 (pos 0) 502) 11 [] 1 0 ∷
    -- "Produce also: lower than the partition's for that pid": 12 would apply too in the second
    from (rig_table Begin 0 1) (closed_producer 1000 1 9) [] put 11 [] 1 0 ∷
    from (rig_table Begin 0 1) (open_producer 1000 1 9) (add7 2 ∷ []) put 11 [] 1 0 ∷
    -- "12 not flushed": of status 0 and 2 13 would apply too; of a BEGIN 18
    line 2560 40 (opened ∷ open_words ∷ init7 (pos 50) ∷ []) put 12 [] 1 0 ∷
    line 2560 40 (begins (pos 50) ++ (end7 0 ∷ [])) put 12 [] 1 0 ∷
    line 2560 40 (holds7 ++ (join ∷ [])) (produce_call rig7 (pos 1000) (pos 0) 8 (pos 0) 502) 12 [] 1 0 ∷
    -- "status 1", no other: 14 would apply too
    from (rig_table Empty 0 0) (open_producer 999 0 0) [] put 13 [] 1 0 ∷
    from (rig_table PrepareCommit 0 1) (open_producer 999 0 0) [] put 13 [] 1 0 ∷
    from (rig_table PrepareAbort 0 1) (open_producer 999 0 0) [] put 13 [] 1 0 ∷
    from (rig_table CompleteCommit 0 0) (open_producer 999 0 0) [] put 13 [] 1 0 ∷
    from (rig_table CompleteAbort 0 0) (open_producer 999 0 0) [] put 13 [] 1 0 ∷
    -- "Another pid's open transaction at that place: 14.": in the first 18 would apply too
    from (rig_table Begin 0 1) (open_producer 999 0 0) [] (produce_call rig7 (pos 1000) (pos 0) 8 (pos 0) 502) 14 [] 1 0 ∷
    from (rig_table Begin 0 1) (open_producer 1001 7 0) [] put 14 [] 1 0 ∷
    -- "18 position not joined": in the first 20 would apply too, in the second 19
    from (rig_table Begin 0 1) (closed_producer 1000 0 0) [] (produce_call rig7 (pos 1000) (pos 0) 8 (pos 0) 502) 18 [] 1 0 ∷
    from (rig_table Begin 0 1) (closed_producer 1000 0 0) [] (produce_call rig7 (pos 1000) (pos 0) 1 (pos 9) 502) 18 [] 1 0 ∷
    -- "20 sequence below the next or equal to the last (tested before 19)": in the first 19 would apply too, in the second 22
    from (rig_table Begin 0 1) (closed_producer 1000 0 2147483647) [] (put_at (pos 2147483647)) 20 [] 1 0 ∷
    line 2560 8 (begins (pos 50) ++ (put ∷ [])) put 20 [] 1 0 ∷
    from (rig_table Begin 0 1) (closed_producer 1000 0 9) [] (put_at (pos 9)) 20 [] 1 0 ∷
    from (rig_table Begin 0 1) (closed_producer 1000 0 9) [] (put_at (pos 3)) 20 [] 1 0 ∷
    -- the same after a marker of the same epoch
    line 2560 40 (completes 0 ++ (join ∷ call (flush_call 307) ∷ [])) put 20 [] 1 0 ∷
    -- "19 sequence ahead": in the first two 22 would apply too
    line 2560 4 (begins (pos 50)) (put_at (pos 1)) 19 [] 1 0 ∷
    line 2560 8 (begins (pos 50) ++ (put ∷ [])) (put_at (pos 2)) 19 [] 1 0 ∷
    from (rig_table Begin 0 1) (closed_producer 999 0 9) [] (put_at (pos 10)) 19 [] 1 0 ∷
    from (rig_table Begin 1 1) (closed_producer 1000 0 9) [] (produce_call rig7 (pos 1000) (pos 1) 0 (pos 10) 502) 19 [] 1 0 ∷
    -- next to "0 after 2147483647"
    from (rig_table Begin 0 1) (closed_producer 1000 0 2147483647) [] (put_at (pos 1)) 19 [] 1 0 ∷
    from (rig_table Begin 0 1) (closed_producer 1000 0 2147483647) [] (put_at (pos 2147483646)) 19 [] 1 0 ∷
    from (rig_table Begin 0 1) (closed_producer 1000 0 0) [] (put_at (pos 2147483647)) 19 [] 1 0 ∷
    -- "22: Produce needs, after its entry, as many entries left as transactions open there, its own included."; "words past the last full four are never used"
    line 2560 4 (begins (pos 50)) put 22 [] 1 0 ∷
    line 2560 7 (begins (pos 50)) put 22 [] 1 0 ∷
    line 2560 8 (begins (pos 50) ++ (put ∷ [])) put_next 22 [] 1 0 ∷
    line 2560 15 (begins_both 1 ++ (put ∷ [])) put3 22 [] 2 0 ∷
    []

-- Marker
abbrev pub marker_refusals : List Line
marker_refusals =
    -- "8 … partition slice": in the first 4 would apply too
    line_from (lending 2560 39 (rig_table Begin 0 1) (open_producer 1000 0 0)) [] (marker_call 32 (pos 1000) (pos 0) 2 (pos 1)) 8 [] 1 0 ∷
    line_from (lending 2560 41 (rig_table Begin 0 1) (open_producer 1000 0 0)) [] (mark 0) 8 [] 1 0 ∷
    -- nor is a state admitted that no call has made: one without an entry left for its open transaction
    line_from (partition_alone 4 1 (open_producer 1000 0 0)) [] (mark 0) 8 [] 0 0 ∷
    -- "4 verdict not 0 or 1": 7 would apply too
    line 2560 40 (begins (pos 50) ++ (put ∷ [])) (marker_call 32 (pos 1000) (pos 0) 2 (pos 1)) 4 [] 1 0 ∷
    line 2560 40 (begins (pos 50) ++ (put ∷ [])) (marker_call 0 (pos 1000) (negsuc 0) 2 (pos 1)) 4 [] 1 0 ∷
    -- "7 … in Marker a place above 31 or a negative pid, epoch or coordinator epoch": 21 would apply too
    line 2560 40 (begins (pos 50) ++ (put ∷ marker_call 1 (pos 999) (pos 0) 0 (pos 5) ∷ [])) (marker_call 32 (pos 1000) (pos 0) 0 (pos 4)) 7 [] 1 0 ∷
    line 2560 40 (begins (pos 50) ++ (put ∷ marker_call 1 (pos 999) (pos 0) 0 (pos 5) ∷ [])) (marker_call 0 (negsuc 0) (pos 0) 0 (pos 4)) 7 [] 1 0 ∷
    line 2560 40 (begins (pos 50) ++ (put ∷ marker_call 1 (pos 999) (pos 0) 0 (pos 5) ∷ [])) (marker_call 0 (pos 1000) (negsuc 0) 0 (pos 4)) 7 [] 1 0 ∷
    line 2560 40 (begins (pos 50) ++ (put ∷ marker_call 1 (pos 999) (pos 0) 0 (pos 5) ∷ [])) (marker_call 0 (pos 1000) (pos 0) 0 (negsuc 0)) 7 [] 1 0 ∷
    -- the same at a partition whose coordinator epoch is 0
    line 2560 40 (begins (pos 50) ++ (put ∷ [])) (marker_call 0 (pos 1000) (pos 0) 0 (negsuc 0)) 7 [] 1 0 ∷
    -- "21 Marker with a coordinator epoch below the partition's": 11 would apply too in the first
    line 2560 40 (begins (pos 50) ++ (put ∷ marker_call 0 (pos 1000) (pos 1) 1 (pos 5) ∷ [])) (marker_call 0 (pos 1000) (pos 0) 0 (pos 4)) 21 [] 1 0 ∷
    line 2560 40 (begins (pos 50) ++ (put ∷ marker_call 1 (pos 999) (pos 0) 0 (pos 5) ∷ [])) (mark 0) 21 [] 1 0 ∷
    -- "11 … (Marker: same pid, lower than held)": closed, and open
    line 2560 40 (begins (pos 50) ++ (put ∷ marker_call 0 (pos 1000) (pos 1) 1 (pos 5) ∷ [])) (marker_call 0 (pos 1000) (pos 0) 0 (pos 5)) 11 [] 1 0 ∷
    from (rig_table Begin 1 1) (open_producer 1000 1 0) [] (mark 0) 11 [] 1 0 ∷
    []

-- Read
abbrev pub read_refusals : List Line
read_refusals =
    -- "8 … partition slice": in the first 7 would apply too
    line_from (lending 2560 39 (rig_table Begin 0 1) (open_producer 1000 0 0)) [] (read_call 1) 8 [] 1 0 ∷
    line_from (lending 2560 41 (rig_table Begin 0 1) (closed_producer 1000 0 0)) [] (read_call 0) 8 [] 1 0 ∷
    -- "7 … a read offset past the stable end": past an open transaction's first offset, past the end, and of an empty partition
    line 2560 40 (begins (pos 50) ++ (put ∷ [])) (read_call 1) 7 [] 1 0 ∷
    line 2560 40 (begins (pos 50) ++ (put ∷ mark 0 ∷ [])) (read_call 3) 7 [] 1 0 ∷
    line 2560 40 (begins (pos 50)) (read_call 1) 7 [] 1 0 ∷
    -- also with no room to read into
    reads [] [] (line 2560 40 (begins (pos 50) ++ (put ∷ [])) (read_call 1) 7 [] 1 0) ∷
    []

abbrev pub refusal_lines : List Line
refusal_lines =
    opening_refusals ++ init_refusals ++ add_refusals ++ end_refusals ++ tick_refusals ++ flush_refusals ++ ack_refusals ++ produce_refusals ++ marker_refusals ++ read_refusals

-- ---- which refusals the table shows

-- which call it is, whatever its arguments
abbrev pub kind : Call → ℕ
kind (open_log text n epoch first last) = 0
kind open_words = 1
kind (call (init_call name timeout time)) = 2
kind (call (add_call name pid epoch set time)) = 3
kind (call (end_call name pid epoch verdict time)) = 4
kind (call (tick_call time)) = 5
kind (call (flush_call n)) = 6
kind (order_call up) = 7
kind (call (ack_call place pid epoch position)) = 8
kind (produce_call name pid epoch position sequence payload) = 9
kind (marker_call place pid epoch verdict coordinator) = 10
kind (read_call from) = 11

-- the numbers that the lines of such calls expect, in the table's order
unfoldable pub numbers_shown : ℕ → List Line → List ℕ
numbers_shown k [] = []
numbers_shown k (l ∷ ls) = let rest = numbers_shown k ls in cond (eqb (kind l.last) k) (l.expected.number ∷ rest) rest

-- behind a number: each run of one number as that number once
unfoldable pub runs_after : ℕ → List ℕ → List ℕ
runs_after a [] = []
runs_after a (b ∷ l) = let rest = runs_after b l in cond (eqb a b) rest (b ∷ rest)

-- the refusals that the table shows of a call, in its order
abbrev pub refusals_shown : Call → List ℕ
refusals_shown c = runs_after 0 (numbers_shown (kind c) refusal_lines)
