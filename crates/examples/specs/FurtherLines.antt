-- Further lines like T1 to T12: the readings that tempt, for each call the cases in which it is accepted, and refused calls that leave all as it was.
use Rattle.std.specs.Prelude.{List, [], ◌∷◌, ◌++◌, pos, negsuc, replicate}
use Rattle.record.specs.declared.Status.TheVariants.{Empty, Begin, PrepareCommit, PrepareAbort, CompleteCommit, CompleteAbort}
use Rattle.partition.specs.Partition.{no_producer}
use Rattle.coordinator.specs.Calls.{init_call, add_call, end_call, tick_call, flush_call, ack_call}
use Rattle.server.specs.Calls.{open_log, open_words, call, order_call, produce_call, marker_call, read_call}
use Rattle.server.specs.Lines.{Line, line, writes, reads, catalogue_text, rig7, opened, init7, join, begins, put, lab3}
use Rattle.examples.specs.Starts.{reopened, add7, end7, put_at, put_next, mark, ack7, holds7, prepares, completes, prepares_two, init3, add3, end3, put3, mark3, holds_both, begins_both, prepares_both, record7, record_for, rig_table, closed_producer, open_producer, from, empty7, begin7, opens}

-- document 01, Readings that tempt
abbrev pub tempting_lines : List Line
tempting_lines =
    -- "000's commit steps end in COMPLETE_ABORT; that is a misprint.": afterwards End of the same verdict is done, of the other 13
    line 2560 8 (prepares 0 ++ (mark 0 ∷ [])) ack7 0 [] 1 53 ∷
    line 2560 8 (completes 0) (end7 0) 0 [] 1 0 ∷
    line 2560 8 (completes 0) (end7 1) 13 [] 1 0 ∷
    -- "Giving an order once the prepare is appended, not flushed."
    line 2560 8 (begins (pos 50) ++ (put ∷ end7 0 ∷ [])) (order_call 257) 0 [] 1 0 ∷
    line 2560 8 (prepares 0) (order_call 257) 0 (pos 0 ∷ pos 1000 ∷ pos 0 ∷ pos 0 ∷ pos 0 ∷ pos 1 ∷ []) 1 0 ∷
    -- "Aborting a recovered prepare because its timeout has passed."
    line 2560 8 (prepares 0 ++ (reopened 187 ∷ [])) (call (tick_call (pos 100000))) 0 [] 1 0 ∷
    -- "Trusting acknowledgements from before a cut."
    line 2560 8 (prepares 0 ++ (mark 0 ∷ ack7 ∷ reopened 187 ∷ [])) (order_call 257) 0 (pos 0 ∷ pos 1000 ∷ pos 0 ∷ pos 0 ∷ pos 0 ∷ pos 2 ∷ []) 1 0 ∷
    line 2560 8 (prepares_two ++ (ack7 ∷ reopened 215 ∷ [])) (order_call 257) 0 (pos 0 ∷ pos 1000 ∷ pos 0 ∷ pos 0 ∷ pos 0 ∷ pos 2 ∷ []) 1 0 ∷
    -- "Letting Produce in on a widened set that isn't flushed.": at the new partition, and at the one that had joined before
    line 2560 8 (begins (pos 50) ++ (add7 256 ∷ [])) (produce_call rig7 (pos 1000) (pos 0) 8 (pos 0) 502) 12 [] 1 0 ∷
    line 2560 8 (begins (pos 50) ++ (add7 256 ∷ [])) put 12 [] 1 0 ∷
    []

-- opening
abbrev pub opening_lines : List Line
opening_lines =
    -- "a negative coordinator epoch or first pid, last below first" are refused: 0, and a block of one pid, are not
    line 2560 0 [] (open_log catalogue_text 0 (pos 0) (pos 0) (pos 0)) 0 [] 0 0 ∷
    -- "Fewer than 8 bytes left … is a torn tail and is dropped", whatever they hold
    line 2560 0 [] (open_log catalogue_text 7 (pos 1) (pos 1000) (pos 1999)) 0 [] 0 0 ∷
    -- a log cut before, inside and after its first frame, and inside and after its second
    line 2560 0 (holds7 ++ (join ∷ [])) (reopened 0) 0 [] 0 0 ∷
    line 2560 0 (holds7 ++ (join ∷ [])) (reopened 52) 0 [] 0 0 ∷
    line 2560 0 (holds7 ++ (join ∷ [])) (reopened 53) 0 [] 1 0 ∷
    line 2560 0 (holds7 ++ (join ∷ [])) (reopened 119) 0 [] 1 0 ∷
    line 2560 0 (holds7 ++ (join ∷ [])) (reopened 120) 0 [] 1 0 ∷
    -- the same seen by an Add: the name is not held, is in EMPTY, or is in BEGIN with all joined
    line 2560 0 (holds7 ++ (join ∷ reopened 52 ∷ [])) join 10 [] 0 0 ∷
    line 2560 0 (holds7 ++ (join ∷ reopened 53 ∷ [])) join 0 [] 1 67 ∷
    line 2560 0 (holds7 ++ (join ∷ reopened 60 ∷ [])) join 0 [] 1 67 ∷
    line 2560 0 (holds7 ++ (join ∷ reopened 61 ∷ [])) join 0 [] 1 67 ∷
    line 2560 0 (holds7 ++ (join ∷ reopened 119 ∷ [])) join 0 [] 1 67 ∷
    line 2560 0 (holds7 ++ (join ∷ reopened 120 ∷ [])) join 0 [] 1 0 ∷
    -- "the log's end and the flushed length are then the end of the last whole frame": a record that was not flushed before is flushed then
    line 2560 0 (opened ∷ init7 (pos 50) ∷ reopened 53 ∷ []) join 0 [] 1 67 ∷
    line 2560 0 (holds7 ++ (join ∷ reopened 119 ∷ [])) (call (flush_call 53)) 0 [] 1 0 ∷
    -- "it starts at the greatest last update in the log": 151 of the second name makes the first overdue, unless it is cut off
    line 2560 0 (begins (pos 50) ++ (call (init_call lab3 (pos 50) (pos 151)) ∷ reopened 173 ∷ [])) (call (tick_call (pos 0))) 0 (pos 0 ∷ []) 2 67 ∷
    line 2560 0 (begins (pos 50) ++ (call (init_call lab3 (pos 50) (pos 151)) ∷ reopened 172 ∷ [])) (call (tick_call (pos 0))) 0 [] 1 0 ∷
    -- "or 0": with no record in the log a BEGIN at time 0 is as old as the clock
    line 2560 0 (opened ∷ call (init_call rig7 (pos 50) (pos 0)) ∷ call (flush_call 53) ∷ call (add_call rig7 (pos 1000) (pos 0) 1 (pos 0)) ∷ call (flush_call 120) ∷ []) (call (tick_call (pos 50))) 0 [] 1 0 ∷
    line 2560 0 (opened ∷ call (init_call rig7 (pos 50) (pos 0)) ∷ call (flush_call 53) ∷ call (add_call rig7 (pos 1000) (pos 0) 1 (pos 0)) ∷ call (flush_call 120) ∷ []) (call (tick_call (pos 51))) 0 (pos 0 ∷ []) 1 67 ∷
    -- "Places run from 0 by first appearance in the log.", though the second name was prepared first
    line 2560 0 (begins_both 256 ++ (end3 1 ∷ end7 0 ∷ reopened 374 ∷ [])) (order_call 257) 0 (pos 0 ∷ pos 1000 ∷ pos 0 ∷ pos 0 ∷ pos 0 ∷ pos 2 ∷ []) 2 0 ∷
    line 2560 0 (begins_both 256 ++ (end3 1 ∷ end7 0 ∷ reopened 374 ∷ [])) (order_call 256) 0 (pos 1 ∷ pos 1001 ∷ pos 0 ∷ pos 1 ∷ pos 8 ∷ pos 2 ∷ []) 2 0 ∷
    -- "Pids come rising from a block …, from above every pid in the log": a block that starts lower, one that starts higher, and one wholly below
    line 2560 0 (holds7 ++ (open_log catalogue_text 53 (pos 2) (pos 5) (pos 1999) ∷ [])) init3 0 (pos 1001 ∷ pos 0 ∷ []) 2 53 ∷
    line 2560 0 (holds7 ++ (open_log catalogue_text 53 (pos 2) (pos 1500) (pos 1999) ∷ [])) init3 0 (pos 1500 ∷ pos 0 ∷ []) 2 53 ∷
    line 2560 0 holds7 (open_log catalogue_text 53 (pos 2) (pos 5) (pos 7)) 0 [] 1 0 ∷
    -- 17, document 02, 1: "1,090 for each id or BEGIN and 545 for each prepare"
    opens 1090 (empty7 ∷ begin7 ∷ []) 0 [] 1 120 ∷
    opens 545 (empty7 ∷ begin7 ∷ record7 PrepareCommit 0 1 110 100 ∷ []) 0 [] 1 187 ∷
    opens 545 (empty7 ∷ begin7 ∷ record7 PrepareAbort 1 1 110 100 ∷ []) 0 [] 1 187 ∷
    opens 1635 (empty7 ∷ begin7 ∷ record7 PrepareCommit 0 1 110 100 ∷ record_for lab3 1001 0 50 Empty 0 110 0 ∷ record_for lab3 1001 0 50 Begin 256 110 110 ∷ []) 0 [] 2 307 ∷
    opens 0 (empty7 ∷ begin7 ∷ record7 PrepareCommit 0 1 110 100 ∷ record7 CompleteCommit 0 0 110 0 ∷ []) 0 [] 1 240 ∷
    -- "Succession": a log of every step opens; "or 3 with epoch equal or one higher"
    opens 1090 (empty7 ∷ begin7 ∷ record7 Begin 0 257 110 100 ∷ record7 PrepareCommit 0 257 120 100 ∷ record7 CompleteCommit 0 0 130 0 ∷ record7 Begin 0 2 140 140 ∷ []) 0 [] 1 402 ∷
    opens 1090 (empty7 ∷ begin7 ∷ record7 PrepareAbort 0 1 120 100 ∷ record7 CompleteAbort 0 0 130 0 ∷ record7 Empty 1 0 140 0 ∷ record7 Empty 2 0 140 0 ∷ []) 0 [] 1 346 ∷
    opens 1090 (empty7 ∷ begin7 ∷ record7 PrepareAbort 1 1 120 100 ∷ record7 CompleteAbort 1 0 130 0 ∷ record7 Begin 1 1 140 140 ∷ []) 0 [] 1 307 ∷
    -- "Only status 0 changes the timeout"
    opens 1090 (empty7 ∷ record_for rig7 1000 1 50 Empty 0 100 0 ∷ []) 0 [] 1 106 ∷
    -- "pid above all earlier ones": with a gap too
    opens 1090 (empty7 ∷ record_for lab3 5000 0 60000 Empty 0 100 0 ∷ []) 0 [] 2 106 ∷
    []

-- Init
abbrev pub init_lines : List Line
init_lines =
    -- "each 33 to 126"; document 02, 1: "Names … run to 64 bytes."
    line 2560 0 (opened ∷ []) (call (init_call (33 ∷ []) (pos 1) (pos 100))) 0 (pos 1000 ∷ pos 0 ∷ []) 1 50 ∷
    line 2560 0 (opened ∷ []) (call (init_call (replicate 64 126) (pos 1) (pos 100))) 0 (pos 1000 ∷ pos 0 ∷ []) 1 113 ∷
    -- a second name gets the next pid, and need not wait for the first; a refused Init uses up no pid
    line 2560 0 (opened ∷ init7 (pos 50) ∷ []) init3 0 (pos 1001 ∷ pos 0 ∷ []) 2 53 ∷
    line 2560 0 (opened ∷ init7 (pos 0) ∷ []) init3 0 (pos 1000 ∷ pos 0 ∷ []) 1 53 ∷
    -- a negative time is below every clock
    line 2560 0 (opened ∷ []) (call (init_call rig7 (pos 50) (negsuc 99))) 0 (pos 1000 ∷ pos 0 ∷ []) 1 53 ∷
    -- a name held in status 0, 4, 5: "same pid and epoch one higher while the held epoch is below 32766"
    line 2560 8 holds7 (init7 (pos 50)) 0 (pos 1000 ∷ pos 1 ∷ []) 1 53 ∷
    line 2560 8 (completes 0) (init7 (pos 50)) 0 (pos 1000 ∷ pos 1 ∷ []) 1 53 ∷
    line 2560 8 (completes 1) (init7 (pos 50)) 0 (pos 1000 ∷ pos 1 ∷ []) 1 53 ∷
    from (rig_table Empty 32765 0) no_producer [] (init7 (pos 50)) 0 (pos 1000 ∷ pos 32766 ∷ []) 1 53 ∷
    -- "else a pid above all earlier ones with epoch 0"
    from (rig_table Empty 32766 0) no_producer [] (init7 (pos 50)) 0 (pos 1001 ∷ pos 0 ∷ []) 1 53 ∷
    from (rig_table CompleteCommit 32766 0) no_producer [] (init7 (pos 50)) 0 (pos 1001 ∷ pos 0 ∷ []) 1 53 ∷
    from (rig_table CompleteAbort 32767 0) no_producer [] (init7 (pos 50)) 0 (pos 1001 ∷ pos 0 ∷ []) 1 53 ∷
    -- no new pid is needed for a held name, and none is left
    line 2560 0 (holds7 ++ (open_log catalogue_text 53 (pos 2) (pos 5) (pos 7) ∷ [])) (init7 (pos 50)) 0 (pos 1000 ∷ pos 1 ∷ []) 1 53 ∷
    -- the new timeout is used: 70 in place of 50
    line 2560 0 (holds7 ++ (init7 (pos 70) ∷ call (flush_call 106) ∷ call (add_call rig7 (pos 1000) (pos 1) 1 (pos 100)) ∷ call (flush_call 173) ∷ [])) (call (tick_call (pos 170))) 0 [] 1 0 ∷
    line 2560 0 (holds7 ++ (init7 (pos 70) ∷ call (flush_call 106) ∷ call (add_call rig7 (pos 1000) (pos 1) 1 (pos 100)) ∷ call (flush_call 173) ∷ [])) (call (tick_call (pos 171))) 0 (pos 0 ∷ []) 1 67 ∷
    -- "Status 1: PREPARE_ABORT, epoch one higher, answer ABORTING."
    line 2560 0 (begins (pos 50)) (init7 (pos 70)) 0 [] 1 67 ∷
    line 2560 0 (begins (pos 50) ++ (init7 (pos 70) ∷ call (flush_call 187) ∷ [])) (order_call 257) 0 (pos 0 ∷ pos 1000 ∷ pos 1 ∷ pos 1 ∷ pos 0 ∷ pos 1 ∷ []) 1 0 ∷
    -- its log opens, so set, start and timeout are those of the BEGIN; then a fenced producer's calls are 11
    line 2560 0 (begins (pos 50) ++ (init7 (pos 70) ∷ [])) (reopened 187) 0 [] 1 0 ∷
    line 2560 0 (begins (pos 50) ++ (init7 (pos 70) ∷ call (flush_call 187) ∷ [])) (end7 1) 11 [] 1 0 ∷
    -- "17: Init (outside status 1) …": with the reserve alone left, Init in status 1 is accepted
    line 1210 0 (begins (pos 50)) (init7 (pos 50)) 0 [] 1 67 ∷
    -- "bytes left after their record for each id then held", by document 02, 1, "1,090 for each id": of a held name, and of a second one
    line 1196 0 holds7 (init7 (pos 50)) 0 (pos 1000 ∷ pos 1 ∷ []) 1 53 ∷
    line 2286 0 holds7 init3 0 (pos 1001 ∷ pos 0 ∷ []) 2 53 ∷
    []

-- Add
abbrev pub add_lines : List Line
add_lines =
    -- "status 0, 4, 5 begins": with two partitions 81 bytes, and after a complete record with the same pid and epoch
    line 2560 0 holds7 (add7 257) 0 [] 1 81 ∷
    line 2560 8 (completes 0) (add7 1) 0 [] 1 67 ∷
    line 2560 8 (completes 1) (add7 1) 0 [] 1 67 ∷
    -- the whole catalogue: `scan` 0 and 1, `cert` 0
    line 2560 0 holds7 (add7 259) 0 [] 1 85 ∷
    -- "1 widens": what was joined stays joined
    line 2560 0 (begins (pos 50)) (add7 256) 0 [] 1 81 ∷
    line 2560 0 (begins (pos 50)) (add7 257) 0 [] 1 81 ∷
    line 2560 0 (begins (pos 50)) (add7 2) 0 [] 1 71 ∷
    -- the log of a widened set opens, so the start was kept
    line 2560 0 (begins (pos 50) ++ (add7 256 ∷ [])) (reopened 201) 0 [] 1 0 ∷
    -- a widening at 110 does not renew the age: 100 and 50 are 150
    line 2560 0 (begins (pos 50) ++ (add7 256 ∷ call (flush_call 201) ∷ [])) (call (tick_call (pos 150))) 0 [] 1 0 ∷
    line 2560 0 (begins (pos 50) ++ (add7 256 ∷ call (flush_call 201) ∷ [])) (call (tick_call (pos 151))) 0 (pos 0 ∷ []) 1 81 ∷
    -- "nothing is appended if all are joined"
    line 2560 0 (begins (pos 50)) (add7 1) 0 [] 1 0 ∷
    line 2560 0 (begins (pos 50) ++ (add7 256 ∷ call (flush_call 201) ∷ [])) (add7 1) 0 [] 1 0 ∷
    line 2560 0 (begins (pos 50) ++ (add7 256 ∷ call (flush_call 201) ∷ [])) (add7 257) 0 [] 1 0 ∷
    -- "Every refusal leaves all as it was, clock included.": the transaction is not overdue after a refused Add of a late time, and is after an accepted one
    line 2560 0 (begins (pos 50) ++ (call (add_call rig7 (pos 1000) (pos 0) 0 (pos 1000)) ∷ [])) (call (tick_call (pos 0))) 0 [] 1 0 ∷
    line 2560 0 (begins (pos 50) ++ (call (add_call rig7 (pos 1000) (pos 0) 1 (pos 1000)) ∷ [])) (call (tick_call (pos 0))) 0 (pos 0 ∷ []) 1 67 ∷
    -- "epoch at most 32766": 32766 may begin
    from (rig_table CompleteAbort 32766 0) no_producer [] (call (add_call rig7 (pos 1000) (pos 32766) 1 (pos 100))) 0 [] 1 67 ∷
    -- the same of "an Add that appends"; one that appends nothing needs none
    line 1210 0 holds7 join 0 [] 1 67 ∷
    line 1210 0 (begins (pos 50)) (add7 1) 0 [] 1 0 ∷
    line 1291 0 (begins (pos 50)) (add7 256) 0 [] 1 81 ∷
    line 2353 0 holds_both join 0 [] 2 67 ∷
    []

-- End
abbrev pub end_lines : List Line
end_lines =
    -- "0 commit, 1 abort. Status 1 prepares."
    line 2560 0 (begins (pos 50)) (end7 0) 0 [] 1 67 ∷
    line 2560 0 (begins (pos 50)) (end7 1) 0 [] 1 67 ∷
    -- the epoch is kept in both
    line 2560 8 (prepares 1) (order_call 257) 0 (pos 0 ∷ pos 1000 ∷ pos 0 ∷ pos 1 ∷ pos 0 ∷ pos 1 ∷ []) 1 0 ∷
    -- the prepare needs no more than the reserve
    line 1210 0 (begins (pos 50)) (end7 0) 0 [] 1 67 ∷
    -- "Status 4 or 5 of that verdict: done, nothing appended."
    line 2560 8 (completes 1) (end7 1) 0 [] 1 0 ∷
    -- done moves the clock: the other name's BEGIN at 120 is overdue at 1000
    line 2560 8 (completes 0 ++ (init3 ∷ call (flush_call 293) ∷ add3 1 ∷ call (flush_call 360) ∷ [])) (call (tick_call (pos 0))) 0 [] 2 0 ∷
    line 2560 8 (completes 0 ++ (init3 ∷ call (flush_call 293) ∷ add3 1 ∷ call (flush_call 360) ∷ call (end_call rig7 (pos 1000) (pos 0) 0 (pos 1000)) ∷ [])) (call (tick_call (pos 0))) 0 (pos 1 ∷ []) 2 67 ∷
    []

-- Tick
abbrev pub tick_lines : List Line
tick_lines =
    -- "none only if there is none": no id, and one in EMPTY
    line 2560 0 (opened ∷ []) (call (tick_call (pos 100000))) 0 [] 0 0 ∷
    line 2560 0 holds7 (call (tick_call (pos 100000))) 0 [] 1 0 ∷
    -- "PREPARE_ABORT, epoch one higher"
    line 2560 0 (begins (pos 50) ++ (call (tick_call (pos 151)) ∷ call (flush_call 187) ∷ [])) (order_call 257) 0 (pos 0 ∷ pos 1000 ∷ pos 1 ∷ pos 1 ∷ pos 0 ∷ pos 1 ∷ []) 1 0 ∷
    line 2560 0 (begins (pos 50) ++ (call (tick_call (pos 151)) ∷ [])) (reopened 187) 0 [] 1 0 ∷
    -- "the lowest place", then the next
    line 2560 0 (begins_both 1) (call (tick_call (pos 151))) 0 (pos 0 ∷ []) 2 67 ∷
    line 2560 0 (begins_both 1 ++ (call (tick_call (pos 151)) ∷ [])) (call (tick_call (pos 151))) 0 (pos 1 ∷ []) 2 67 ∷
    line 2560 0 (begins_both 1 ++ (call (tick_call (pos 151)) ∷ call (tick_call (pos 151)) ∷ [])) (call (tick_call (pos 151))) 0 [] 2 0 ∷
    -- "a flushed BEGIN": one that is not flushed, or is widened and that is not, is passed over
    line 2560 0 (holds7 ++ (join ∷ [])) (call (tick_call (pos 100000))) 0 [] 1 0 ∷
    line 2560 0 (begins_both 1 ++ (add7 2 ∷ [])) (call (tick_call (pos 100000))) 0 (pos 1 ∷ []) 2 67 ∷
    -- none moves the clock: the transaction begins at 140, though the time given then is 0
    line 2560 0 (holds7 ++ (call (tick_call (pos 140)) ∷ call (add_call rig7 (pos 1000) (pos 0) 1 (pos 0)) ∷ call (flush_call 120) ∷ [])) (call (tick_call (pos 190))) 0 [] 1 0 ∷
    line 2560 0 (holds7 ++ (call (tick_call (pos 140)) ∷ call (add_call rig7 (pos 1000) (pos 0) 1 (pos 0)) ∷ call (flush_call 120) ∷ [])) (call (tick_call (pos 191))) 0 (pos 0 ∷ []) 1 67 ∷
    -- "The clock is the greater of its old value and the time given": after 151 a negative time is 151
    line 2560 0 (holds7 ++ (join ∷ call (tick_call (pos 151)) ∷ call (flush_call 120) ∷ [])) (call (tick_call (negsuc 99))) 0 (pos 0 ∷ []) 1 67 ∷
    -- the prepare needs no more than the reserve
    line 1210 0 (begins (pos 50)) (call (tick_call (pos 151))) 0 (pos 0 ∷ []) 1 67 ∷
    []

-- Flush
abbrev pub flush_lines : List Line
flush_lines =
    -- from the flushed length to the log's end
    line 2560 0 (opened ∷ init7 (pos 50) ∷ []) (call (flush_call 0)) 0 [] 1 0 ∷
    line 2560 0 (opened ∷ init7 (pos 50) ∷ []) (call (flush_call 53)) 0 [] 1 0 ∷
    line 2560 0 holds7 (call (flush_call 53)) 0 [] 1 0 ∷
    -- a flushed length inside a frame is accepted, and the frame counts as unflushed
    line 2560 0 (opened ∷ init7 (pos 50) ∷ []) (call (flush_call 52)) 0 [] 1 0 ∷
    line 2560 0 (opened ∷ init7 (pos 50) ∷ call (flush_call 52) ∷ []) join 12 [] 1 0 ∷
    line 2560 0 (opened ∷ init7 (pos 50) ∷ call (flush_call 52) ∷ call (flush_call 53) ∷ []) join 0 [] 1 67 ∷
    []

-- Order
abbrev pub order_lines : List Line
order_lines =
    -- none without a prepare
    line 2560 0 (opened ∷ []) (order_call 259) 0 [] 0 0 ∷
    line 2560 0 (begins (pos 50)) (order_call 259) 0 [] 1 0 ∷
    line 2560 8 (completes 0) (order_call 259) 0 [] 1 0 ∷
    -- "from the lowest place with a flushed prepare", whatever else is up
    line 2560 0 prepares_both (order_call 257) 0 (pos 0 ∷ pos 1000 ∷ pos 0 ∷ pos 0 ∷ pos 0 ∷ pos 1 ∷ []) 2 0 ∷
    line 2560 0 prepares_both (order_call 18446744073709551615) 0 (pos 0 ∷ pos 1000 ∷ pos 0 ∷ pos 0 ∷ pos 0 ∷ pos 1 ∷ []) 2 0 ∷
    -- "else the next place": a place whose partitions are down, an unflushed one, or a completed one is passed over
    line 2560 0 prepares_both (order_call 256) 0 (pos 1 ∷ pos 1001 ∷ pos 0 ∷ pos 1 ∷ pos 8 ∷ pos 1 ∷ []) 2 0 ∷
    line 2560 0 (begins_both 256 ++ (end3 1 ∷ end7 0 ∷ call (flush_call 307) ∷ [])) (order_call 257) 0 (pos 1 ∷ pos 1001 ∷ pos 0 ∷ pos 1 ∷ pos 8 ∷ pos 1 ∷ []) 2 0 ∷
    line 2560 0 (prepares_both ++ (ack7 ∷ [])) (order_call 257) 0 (pos 1 ∷ pos 1001 ∷ pos 0 ∷ pos 1 ∷ pos 8 ∷ pos 1 ∷ []) 2 0 ∷
    -- none if all are down
    line 2560 0 prepares_both (order_call 2) 0 [] 2 0 ∷
    line 2560 0 prepares_both (order_call 0) 0 [] 2 0 ∷
    -- "the lowest joined, unacknowledged, up position"
    line 2560 0 prepares_two (order_call 257) 0 (pos 0 ∷ pos 1000 ∷ pos 0 ∷ pos 0 ∷ pos 0 ∷ pos 1 ∷ []) 1 0 ∷
    line 2560 0 prepares_two (order_call 256) 0 (pos 0 ∷ pos 1000 ∷ pos 0 ∷ pos 0 ∷ pos 8 ∷ pos 1 ∷ []) 1 0 ∷
    line 2560 0 (prepares_two ++ (ack7 ∷ [])) (order_call 257) 0 (pos 0 ∷ pos 1000 ∷ pos 0 ∷ pos 0 ∷ pos 8 ∷ pos 1 ∷ []) 1 0 ∷
    line 2560 0 (prepares_two ++ (ack7 ∷ [])) (order_call 1) 0 [] 1 0 ∷
    []

-- Ack
abbrev pub ack_lines : List Line
ack_lines =
    -- "the last one outstanding appends COMPLETE_COMMIT or COMPLETE_ABORT", in either order of the two
    line 2560 0 prepares_two ack7 0 [] 1 0 ∷
    line 2560 0 (prepares_two ++ (ack7 ∷ [])) (call (ack_call 0 (pos 1000) (pos 0) 8)) 0 [] 1 53 ∷
    line 2560 0 (prepares_two ++ (call (ack_call 0 (pos 1000) (pos 0) 8) ∷ [])) ack7 0 [] 1 53 ∷
    line 2560 8 (prepares 1) ack7 0 [] 1 53 ∷
    -- "a position already acknowledged is done, nothing changes"
    line 2560 0 (prepares_two ++ (ack7 ∷ [])) ack7 0 [] 1 0 ∷
    line 2560 0 (prepares_two ++ (ack7 ∷ ack7 ∷ [])) (order_call 257) 0 (pos 0 ∷ pos 1000 ∷ pos 0 ∷ pos 0 ∷ pos 8 ∷ pos 1 ∷ []) 1 0 ∷
    -- of a fenced transaction, with the epoch that its order carries
    line 2560 0 (begins (pos 50) ++ (call (tick_call (pos 151)) ∷ call (flush_call 187) ∷ [])) (call (ack_call 0 (pos 1000) (pos 1) 0)) 0 [] 1 53 ∷
    -- "the set acknowledged since … that record": the next transaction of the same partitions starts with none
    line 2560 0 (prepares_two ++ (ack7 ∷ call (ack_call 0 (pos 1000) (pos 0) 8) ∷ call (flush_call 268) ∷ add7 257 ∷ call (flush_call 349) ∷ end7 0 ∷ call (flush_call 430) ∷ [])) (order_call 257) 0 (pos 0 ∷ pos 1000 ∷ pos 0 ∷ pos 0 ∷ pos 0 ∷ pos 1 ∷ []) 1 0 ∷
    -- the log of a completed transaction opens
    line 2560 8 (completes 0) (reopened 240) 0 [] 1 0 ∷
    line 2560 8 (completes 1) (reopened 240) 0 [] 1 0 ∷
    -- "Last update is the clock.", which Tick moved to 500: after an opening it makes the other name's BEGIN at 120 overdue
    line 2560 8 (prepares 0 ++ (init3 ∷ call (flush_call 240) ∷ add3 1 ∷ reopened 307 ∷ [])) (call (tick_call (pos 0))) 0 [] 2 0 ∷
    line 2560 8 (prepares 0 ++ (init3 ∷ call (flush_call 240) ∷ add3 1 ∷ call (tick_call (pos 500)) ∷ ack7 ∷ reopened 360 ∷ [])) (call (tick_call (pos 0))) 0 (pos 1 ∷ []) 2 67 ∷
    []

-- Produce
abbrev pub produce_lines : List Line
produce_lines =
    -- the offset of the entry, and its words: "pid; kind …; epoch×2^32 plus sequence …; payload"
    writes (1000 ∷ 0 ∷ 1 ∷ 503 ∷ []) (line 2560 40 (begins (pos 50) ++ (put ∷ [])) put_next 0 (pos 1 ∷ []) 1 0) ∷
    -- sequences go on after a marker of the same epoch
    writes (1000 ∷ 0 ∷ 1 ∷ 503 ∷ []) (line 2560 40 (completes 0 ++ (join ∷ call (flush_call 307) ∷ [])) put_next 0 (pos 2 ∷ []) 1 0) ∷
    -- "next sequence is 0, with no last, for a new pid or higher epoch"
    writes (1000 ∷ 0 ∷ 4294967296 ∷ 502 ∷ []) (line 2560 40 (completes 0 ++ (init7 (pos 50) ∷ call (flush_call 293) ∷ call (add_call rig7 (pos 1000) (pos 1) 1 (pos 120)) ∷ call (flush_call 360) ∷ [])) (produce_call rig7 (pos 1000) (pos 1) 0 (pos 0) 502) 0 (pos 2 ∷ []) 1 0) ∷
    writes (1000 ∷ 0 ∷ 0 ∷ 502 ∷ []) (from (rig_table Begin 0 1) (closed_producer 999 7 9) [] (put_at (pos 0)) 0 (pos 1 ∷ []) 1 0) ∷
    -- a higher epoch at the open transaction of the same pid joins it, and its first offset is kept
    writes (1000 ∷ 0 ∷ 4294967296 ∷ 502 ∷ []) (from (rig_table Begin 1 1) (open_producer 1000 0 9) [] (produce_call rig7 (pos 1000) (pos 1) 0 (pos 0) 502) 0 (pos 1 ∷ []) 1 0) ∷
    from (rig_table Begin 1 1) (open_producer 1000 0 9) (produce_call rig7 (pos 1000) (pos 1) 0 (pos 0) 502 ∷ []) (read_call 1) 7 [] 1 0 ∷
    -- "else last+1, and 0 after 2147483647"
    writes (1000 ∷ 0 ∷ 2147483647 ∷ 502 ∷ []) (from (rig_table Begin 0 1) (closed_producer 1000 0 2147483646) [] (put_at (pos 2147483647)) 0 (pos 1 ∷ []) 1 0) ∷
    writes (1000 ∷ 0 ∷ 0 ∷ 502 ∷ []) (from (rig_table Begin 0 1) (closed_producer 1000 0 2147483647) [] (put_at (pos 0)) 0 (pos 1 ∷ []) 1 0) ∷
    -- two transactions open at one partition: "as many entries left as transactions open there, its own included", and words past the last full four are not counted
    writes (1001 ∷ 0 ∷ 0 ∷ 504 ∷ []) (line 2560 16 (begins_both 1 ++ (put ∷ [])) put3 0 (pos 1 ∷ []) 2 0) ∷
    writes (1000 ∷ 0 ∷ 0 ∷ 502 ∷ []) (line 2560 11 (begins (pos 50)) put 0 (pos 0 ∷ []) 1 0) ∷
    -- a partition "opens empty": opened again, it starts at offset 0
    line 2560 8 (begins (pos 50) ++ (put ∷ [])) open_words 0 [] 1 0 ∷
    writes (1000 ∷ 0 ∷ 0 ∷ 502 ∷ []) (line 2560 8 (begins (pos 50) ++ (put ∷ open_words ∷ [])) put 0 (pos 0 ∷ []) 1 0) ∷
    []

-- Marker
abbrev pub marker_lines : List Line
marker_lines =
    -- "one marker entry": "1 COMMIT, 2 ABORT", "a marker has its order's epoch, and the coordinator epoch for sequence", "payload (0 for markers)"
    writes (1000 ∷ 1 ∷ 1 ∷ 0 ∷ []) (line 2560 8 (prepares 0) (mark 0) 0 [] 1 0) ∷
    writes (1000 ∷ 2 ∷ 1 ∷ 0 ∷ []) (line 2560 8 (prepares 1) (mark 1) 0 [] 1 0) ∷
    writes (1000 ∷ 2 ∷ 4294967303 ∷ 0 ∷ []) (line 2560 8 (begins (pos 50) ++ (put ∷ call (tick_call (pos 151)) ∷ call (flush_call 187) ∷ [])) (marker_call 0 (pos 1000) (pos 1) 1 (pos 7)) 0 [] 1 0) ∷
    -- "another pid at that place, or no open transaction there: done, no entry"
    line 2560 8 (prepares 0) (marker_call 0 (pos 999) (pos 0) 0 (pos 1)) 0 [] 1 0 ∷
    line 2560 8 (prepares 0) (marker_call 31 (pos 1000) (pos 0) 0 (pos 1)) 0 [] 1 0 ∷
    line 2560 8 (prepares 0 ++ (mark 0 ∷ [])) (mark 0) 0 [] 1 0 ∷
    line 2560 8 (begins (pos 50)) (mark 0) 0 [] 1 0 ∷
    -- after another pid's marker the transaction is still open; a lower epoch of another pid is no 11
    line 2560 8 (prepares 0 ++ (marker_call 0 (pos 999) (pos 0) 0 (pos 1) ∷ [])) (read_call 1) 7 [] 1 0 ∷
    from (rig_table Begin 1 1) (open_producer 1000 1 0) [] (marker_call 0 (pos 999) (pos 0) 0 (pos 1)) 0 [] 1 0 ∷
    -- a marker never puts its pid into the row: the first entry after it has sequence 0 and epoch 0
    writes (1000 ∷ 0 ∷ 0 ∷ 502 ∷ []) (line 2560 8 (begins (pos 50) ++ (marker_call 0 (pos 1000) (pos 7) 0 (pos 1) ∷ [])) put 0 (pos 0 ∷ []) 1 0) ∷
    -- "Each Marker not refused raises the partition's coordinator epoch … to its own": the same is accepted again, a lower one is 21
    writes (1000 ∷ 1 ∷ 5 ∷ 0 ∷ []) (line 2560 8 (prepares 0 ++ (marker_call 9 (pos 999) (pos 0) 0 (pos 5) ∷ [])) (marker_call 0 (pos 1000) (pos 0) 0 (pos 5)) 0 [] 1 0) ∷
    line 2560 8 (prepares 0 ++ (marker_call 9 (pos 999) (pos 0) 0 (pos 5) ∷ [])) (mark 0) 21 [] 1 0 ∷
    line 2560 8 (prepares 0 ++ (marker_call 0 (pos 1000) (pos 0) 0 (pos 5) ∷ [])) (mark 0) 21 [] 1 0 ∷
    -- "For the same pid a higher epoch is noted either way; its next sequence is then 0, with no last.": with its transaction closed, and open
    writes (1000 ∷ 0 ∷ 4294967296 ∷ 502 ∷ []) (from (rig_table Begin 1 1) (closed_producer 1000 0 9) (marker_call 0 (pos 1000) (pos 1) 1 (pos 1) ∷ []) (produce_call rig7 (pos 1000) (pos 1) 0 (pos 0) 502) 0 (pos 1 ∷ []) 1 0) ∷
    writes (1000 ∷ 0 ∷ 4294967296 ∷ 502 ∷ []) (from (rig_table Begin 1 1) (open_producer 1000 0 9) (marker_call 0 (pos 1000) (pos 1) 1 (pos 1) ∷ []) (produce_call rig7 (pos 1000) (pos 1) 0 (pos 0) 502) 0 (pos 2 ∷ []) 1 0) ∷
    from (rig_table Begin 1 1) (closed_producer 1000 0 9) (marker_call 0 (pos 1000) (pos 1) 1 (pos 1) ∷ []) (mark 1) 11 [] 1 0 ∷
    from (rig_table Begin 0 1) (closed_producer 1000 0 9) (marker_call 0 (pos 1000) (pos 1) 1 (pos 1) ∷ []) (put_at (pos 10)) 11 [] 1 0 ∷
    -- the same epoch leaves the last sequence as it is
    writes (1000 ∷ 0 ∷ 10 ∷ 502 ∷ []) (from (rig_table Begin 0 1) (closed_producer 1000 0 9) (mark 1 ∷ []) (put_at (pos 10)) 0 (pos 1 ∷ []) 1 0) ∷
    []

-- Read
abbrev pub read_lines : List Line
read_lines =
    -- "stops at the stable end": nothing is read before the marker; under COMMIT one payload, under ABORT none
    line 2560 8 (prepares 0) (read_call 0) 0 (pos 0 ∷ pos 0 ∷ []) 1 0 ∷
    reads (0 ∷ []) (502 ∷ []) (line 2560 8 (prepares 0 ++ (mark 0 ∷ [])) (read_call 0) 0 (pos 1 ∷ pos 2 ∷ []) 1 0) ∷
    line 2560 8 (prepares 1 ++ (mark 1 ∷ [])) (read_call 0) 0 (pos 0 ∷ pos 2 ∷ []) 1 0 ∷
    -- from the middle, and from the stable end
    line 2560 8 (prepares 0 ++ (mark 0 ∷ [])) (read_call 1) 0 (pos 0 ∷ pos 2 ∷ []) 1 0 ∷
    line 2560 8 (prepares 0 ++ (mark 0 ∷ [])) (read_call 2) 0 (pos 0 ∷ pos 2 ∷ []) 1 0 ∷
    -- "or before one that doesn't fit", and goes on from there
    reads (0 ∷ []) (502 ∷ []) (line 2560 40 (begins (pos 50) ++ (put ∷ put_next ∷ mark 0 ∷ [])) (read_call 0) 0 (pos 1 ∷ pos 1 ∷ []) 1 0) ∷
    reads (0 ∷ []) (503 ∷ []) (line 2560 40 (begins (pos 50) ++ (put ∷ put_next ∷ mark 0 ∷ [])) (read_call 1) 0 (pos 1 ∷ pos 3 ∷ []) 1 0) ∷
    reads [] [] (line 2560 40 (begins (pos 50) ++ (put ∷ mark 0 ∷ [])) (read_call 0) 0 (pos 0 ∷ pos 0 ∷ []) 1 0) ∷
    -- with no room left it still passes over what it need not copy
    reads [] [] (line 2560 40 (begins (pos 50) ++ (put ∷ mark 1 ∷ [])) (read_call 0) 0 (pos 0 ∷ pos 2 ∷ []) 1 0) ∷
    reads (0 ∷ []) (502 ∷ []) (line 2560 40 (begins (pos 50) ++ (put ∷ mark 0 ∷ put_next ∷ mark 1 ∷ [])) (read_call 0) 0 (pos 1 ∷ pos 4 ∷ []) 1 0) ∷
    -- "out past the count is untouched"
    reads (7 ∷ 7 ∷ 7 ∷ []) (502 ∷ 503 ∷ 7 ∷ []) (line 2560 40 (begins (pos 50) ++ (put ∷ put_next ∷ mark 0 ∷ [])) (read_call 0) 0 (pos 2 ∷ pos 3 ∷ []) 1 0) ∷
    reads (7 ∷ 7 ∷ []) (7 ∷ 7 ∷ []) (line 2560 40 (begins (pos 50) ++ (put ∷ [])) (read_call 0) 0 (pos 0 ∷ pos 0 ∷ []) 1 0) ∷
    -- "whose next marker of that pid is COMMIT": not a later one, and not another pid's
    reads (7 ∷ 7 ∷ []) (503 ∷ 7 ∷ []) (line 2560 40 (begins (pos 50) ++ (put ∷ mark 1 ∷ put_next ∷ mark 0 ∷ [])) (read_call 0) 0 (pos 1 ∷ pos 4 ∷ []) 1 0) ∷
    reads (7 ∷ 7 ∷ []) (502 ∷ 7 ∷ []) (line 2560 40 (begins_both 1 ++ (put ∷ put3 ∷ mark3 1 ∷ mark 0 ∷ [])) (read_call 0) 0 (pos 1 ∷ pos 4 ∷ []) 2 0) ∷
    -- "The stable end is the first offset of the oldest open transaction": the marker may stand past it
    reads (7 ∷ 7 ∷ []) (502 ∷ 7 ∷ []) (line 2560 40 (begins_both 1 ++ (put ∷ put3 ∷ mark 0 ∷ [])) (read_call 0) 0 (pos 1 ∷ pos 1 ∷ []) 2 0) ∷
    reads (7 ∷ 7 ∷ []) (7 ∷ 7 ∷ []) (line 2560 40 (begins_both 1 ++ (put ∷ put3 ∷ mark3 0 ∷ [])) (read_call 0) 0 (pos 0 ∷ pos 0 ∷ []) 2 0) ∷
    reads (7 ∷ 7 ∷ []) (502 ∷ 504 ∷ []) (line 2560 40 (begins_both 1 ++ (put ∷ put3 ∷ mark3 0 ∷ mark 0 ∷ [])) (read_call 0) 0 (pos 2 ∷ pos 4 ∷ []) 2 0) ∷
    -- an empty partition
    line 2560 8 (begins (pos 50)) (read_call 0) 0 (pos 0 ∷ pos 0 ∷ []) 1 0 ∷
    []

-- "Every refusal leaves all as it was": each refused call stands before one that would show a change
abbrev pub refused_lines : List Line
refused_lines =
    -- an Ack of another epoch, a Flush past the end, a Marker of verdict 2, a Marker of a lower epoch
    line 2560 8 (prepares 0 ++ (call (ack_call 0 (pos 1000) (pos 1) 0) ∷ [])) (order_call 257) 0 (pos 0 ∷ pos 1000 ∷ pos 0 ∷ pos 0 ∷ pos 0 ∷ pos 1 ∷ []) 1 0 ∷
    line 2560 8 (begins (pos 50) ++ (put ∷ end7 0 ∷ call (flush_call 188) ∷ [])) (order_call 257) 0 [] 1 0 ∷
    writes (1000 ∷ 1 ∷ 1 ∷ 0 ∷ []) (line 2560 8 (prepares 0 ++ (marker_call 0 (pos 1000) (pos 0) 2 (pos 9) ∷ [])) (mark 0) 0 [] 1 0) ∷
    writes (1000 ∷ 1 ∷ 4294967301 ∷ 0 ∷ []) (from (rig_table Begin 1 1) (open_producer 1000 1 0) (marker_call 0 (pos 1000) (pos 0) 0 (pos 9) ∷ []) (marker_call 0 (pos 1000) (pos 1) 0 (pos 5)) 0 [] 1 0) ∷
    []

abbrev pub further_lines : List Line
further_lines =
    tempting_lines ++ opening_lines ++ init_lines ++ add_lines ++ end_lines ++ tick_lines ++ flush_lines ++ order_lines ++ ack_lines ++ produce_lines ++ marker_lines ++ read_lines ++ refused_lines
