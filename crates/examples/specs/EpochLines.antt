-- Lines of transactions in epochs 1 and above: every step, the fence of 32766 to 32767, and Init with the pids spent.
use Rattle.std.specs.Prelude.{List, [], ◌∷◌, ◌++◌, pos, negsuc}
use Rattle.record.specs.declared.Status.TheVariants.{Empty, CompleteCommit, CompleteAbort}
use Rattle.partition.specs.Partition.{no_producer}
use Rattle.server.specs.Calls.{Call, order_call, produce_call, marker_call}
use Rattle.server.specs.Lines.{Line, line, line_from, writes, rig7}
use Rattle.examples.specs.Starts.{reopened, holds7, init_at, add_at, end_at, ack_at, tick_at, flushed, rig_table, begin_table, holding, from, tight, closed_producer}
use Rattle.examples.specs.Held.{HeldLine, held_from, held7, table_held7}

-- in EMPTY with epoch 1, flushed; the log ends at 106
abbrev pub holds_one : List Call
holds_one = holds7 ++ (init_at 50 100 ∷ flushed 106 ∷ [])

-- in BEGIN of partition 0 of `scan`, since 110, flushed; it ends at 173
abbrev pub begins_one : List Call
begins_one = holds_one ++ (add_at 1 1 110 ∷ flushed 173 ∷ [])

-- aborted by a Tick at 161, flushed; it ends at 240
abbrev pub ticks_one : List Call
ticks_one = begins_one ++ (tick_at 161 ∷ flushed 240 ∷ [])

-- that abort completed, flushed; it ends at 293
abbrev pub aborts_one : List Call
aborts_one = ticks_one ++ (ack_at 2 0 ∷ flushed 293 ∷ [])

-- prepared with COMMIT by its own End, flushed; it ends at 240
abbrev pub ends_one : List Call
ends_one = begins_one ++ (end_at 1 0 120 ∷ flushed 240 ∷ [])

-- the BEGIN of epoch 32766, aborted by a Tick; it ends at 120
abbrev pub ticks_last : List Call
ticks_last = tick_at 60091 ∷ flushed 120 ∷ []

-- and completed; it ends at 173
abbrev pub aborts_last : List Call
aborts_last = ticks_last ++ (ack_at 32767 0 ∷ flushed 173 ∷ [])

-- committed instead; it ends at 173
abbrev pub commits_last : List Call
commits_last = end_at 32766 0 100 ∷ flushed 120 ∷ ack_at 32766 0 ∷ flushed 173 ∷ []

abbrev pub epoch_lines : List Line
epoch_lines =
    -- "same pid and epoch one higher while the held epoch is below 32766"
    line 2560 0 holds_one (init_at 50 100) 0 (pos 1000 ∷ pos 2 ∷ []) 1 53 ∷
    -- Add: "11 epoch differs", then in that epoch it begins and widens
    line 2560 0 holds_one (add_at 0 1 110) 11 [] 1 0 ∷
    line 2560 0 holds_one (add_at 2 1 110) 11 [] 1 0 ∷
    line 2560 0 holds_one (add_at 1 1 110) 0 [] 1 67 ∷
    line 2560 0 begins_one (add_at 0 256 120) 11 [] 1 0 ∷
    line 2560 0 begins_one (add_at 1 256 120) 0 [] 1 81 ∷
    line 2560 0 (begins_one ++ (add_at 1 256 120 ∷ flushed 254 ∷ [])) (end_at 1 0 130) 0 [] 1 81 ∷
    line 2560 0 (begins_one ++ (add_at 1 256 120 ∷ flushed 254 ∷ [])) (end_at 0 0 130) 11 [] 1 0 ∷
    -- Tick: its age "above its timeout", "epoch one higher"
    line 2560 0 begins_one (tick_at 160) 0 [] 1 0 ∷
    line 2560 0 begins_one (tick_at 161) 0 (pos 0 ∷ []) 1 67 ∷
    line 2560 0 ticks_one (order_call 257) 0 (pos 0 ∷ pos 1000 ∷ pos 2 ∷ pos 1 ∷ pos 0 ∷ pos 1 ∷ []) 1 0 ∷
    line 2560 0 ticks_one (ack_at 1 0) 11 [] 1 0 ∷
    line 2560 0 ticks_one (ack_at 2 0) 0 [] 1 53 ∷
    line 2560 0 ticks_one (end_at 1 1 170) 11 [] 1 0 ∷
    line 2560 0 ticks_one (end_at 2 1 170) 14 [] 1 0 ∷
    -- Init: "PREPARE_ABORT, epoch one higher, answer ABORTING"
    line 2560 0 begins_one (init_at 70 130) 0 [] 1 67 ∷
    line 2560 0 (begins_one ++ (init_at 70 130 ∷ flushed 240 ∷ [])) (order_call 257) 0 (pos 0 ∷ pos 1000 ∷ pos 2 ∷ pos 1 ∷ pos 0 ∷ pos 1 ∷ []) 1 0 ∷
    -- End keeps the epoch
    line 2560 0 begins_one (end_at 0 0 120) 11 [] 1 0 ∷
    line 2560 0 begins_one (end_at 2 0 120) 11 [] 1 0 ∷
    line 2560 0 ends_one (order_call 257) 0 (pos 0 ∷ pos 1000 ∷ pos 1 ∷ pos 0 ∷ pos 0 ∷ pos 1 ∷ []) 1 0 ∷
    line 2560 0 (begins_one ++ (end_at 1 1 120 ∷ flushed 240 ∷ [])) (order_call 257) 0 (pos 0 ∷ pos 1000 ∷ pos 1 ∷ pos 1 ∷ pos 0 ∷ pos 1 ∷ []) 1 0 ∷
    line 2560 0 ends_one (ack_at 0 0) 11 [] 1 0 ∷
    line 2560 0 ends_one (ack_at 2 0) 11 [] 1 0 ∷
    line 2560 0 ends_one (ack_at 1 0) 0 [] 1 53 ∷
    -- after the abort that fenced it: the producer of the lower epoch is refused, the next Init is one higher again
    line 2560 0 aborts_one (add_at 1 1 170) 11 [] 1 0 ∷
    line 2560 0 aborts_one (add_at 2 1 170) 0 [] 1 67 ∷
    line 2560 0 aborts_one (end_at 1 1 170) 11 [] 1 0 ∷
    line 2560 0 aborts_one (end_at 2 1 170) 0 [] 1 0 ∷
    line 2560 0 aborts_one (end_at 2 0 170) 13 [] 1 0 ∷
    line 2560 0 aborts_one (init_at 50 170) 0 (pos 1000 ∷ pos 3 ∷ []) 1 53 ∷
    -- its entries and markers have the epoch: "epoch×2^32 plus sequence"
    writes (1000 ∷ 0 ∷ 8589934592 ∷ 502 ∷ []) (line 2560 40 (aborts_one ++ (add_at 2 1 170 ∷ flushed 360 ∷ [])) (produce_call rig7 (pos 1000) (pos 2) 0 (pos 0) 502) 0 (pos 0 ∷ []) 1 0) ∷
    line 2560 40 (aborts_one ++ (add_at 2 1 170 ∷ flushed 360 ∷ [])) (produce_call rig7 (pos 1000) (pos 1) 0 (pos 0) 502) 11 [] 1 0 ∷
    writes (1000 ∷ 0 ∷ 140728898420739 ∷ 502 ∷ []) (from (begin_table 32766) (closed_producer 1000 32766 2) [] (produce_call rig7 (pos 1000) (pos 32766) 0 (pos 3) 502) 0 (pos 1 ∷ []) 1 0) ∷
    writes (1000 ∷ 2 ∷ 140733193388033 ∷ 0 ∷ []) (from (begin_table 32766) (closed_producer 1000 32766 2) (produce_call rig7 (pos 1000) (pos 32766) 0 (pos 3) 502 ∷ []) (marker_call 0 (pos 1000) (pos 32767) 1 (pos 1)) 0 [] 1 0) ∷
    -- 32766 is fenced to 32767, by Tick and by Init; no transaction begins with it, and the next Init gives a new pid
    from (begin_table 32766) no_producer [] (tick_at 60080) 0 [] 1 0 ∷
    from (begin_table 32766) no_producer [] (tick_at 60081) 0 (pos 0 ∷ []) 1 67 ∷
    from (begin_table 32766) no_producer ticks_last (order_call 257) 0 (pos 0 ∷ pos 1000 ∷ pos 32767 ∷ pos 1 ∷ pos 0 ∷ pos 1 ∷ []) 1 0 ∷
    from (begin_table 32766) no_producer ticks_last (ack_at 32766 0) 11 [] 1 0 ∷
    from (begin_table 32766) no_producer ticks_last (ack_at 32767 0) 0 [] 1 53 ∷
    from (begin_table 32766) no_producer (init_at 70 100 ∷ flushed 120 ∷ []) (order_call 257) 0 (pos 0 ∷ pos 1000 ∷ pos 32767 ∷ pos 1 ∷ pos 0 ∷ pos 1 ∷ []) 1 0 ∷
    from (begin_table 32766) no_producer aborts_last (add_at 32767 1 60100) 11 [] 1 0 ∷
    from (begin_table 32766) no_producer aborts_last (end_at 32767 1 60100) 0 [] 1 0 ∷
    from (begin_table 32766) no_producer aborts_last (init_at 50 60100) 0 (pos 1001 ∷ pos 0 ∷ []) 1 53 ∷
    -- committed with 32766 it may begin again, and the next Init gives a new pid
    from (begin_table 32766) no_producer [] (end_at 32766 0 100) 0 [] 1 67 ∷
    from (begin_table 32766) no_producer commits_last (add_at 32766 1 110) 0 [] 1 67 ∷
    from (begin_table 32766) no_producer commits_last (init_at 50 110) 0 (pos 1001 ∷ pos 0 ∷ []) 1 53 ∷
    from (begin_table 32766) no_producer [] (add_at 32766 256 100) 0 [] 1 81 ∷
    -- 32765 is fenced to 32766, which may begin
    from (begin_table 32765) no_producer (init_at 70 100 ∷ flushed 120 ∷ ack_at 32766 0 ∷ flushed 173 ∷ []) (add_at 32766 1 110) 0 [] 1 67 ∷
    from (begin_table 32765) no_producer (init_at 70 100 ∷ flushed 120 ∷ ack_at 32766 0 ∷ flushed 173 ∷ []) (init_at 50 110) 0 (pos 1001 ∷ pos 0 ∷ []) 1 53 ∷
    from (rig_table CompleteAbort 32765 0) no_producer [] (init_at 50 110) 0 (pos 1000 ∷ pos 32766 ∷ []) 1 53 ∷
    from (rig_table CompleteCommit 32765 0) no_producer [] (init_at 50 110) 0 (pos 1000 ∷ pos 32766 ∷ []) 1 53 ∷
    -- in BEGIN no pid is needed: with the pids spent, at 32766 and at 0, and with the reserve alone left
    line_from (tight (begin_table 32766) 1143) [] (init_at 70 100) 0 [] 1 67 ∷
    line_from (tight (begin_table 0) 1143) [] (init_at 70 100) 0 [] 1 67 ∷
    -- nor for a held epoch below 32766; from there on it is 16
    line_from (tight (rig_table Empty 32765 0) 1196) [] (init_at 70 100) 0 (pos 1000 ∷ pos 32766 ∷ []) 1 53 ∷
    line_from (tight (rig_table Empty 32766 0) 1196) [] (init_at 70 100) 16 [] 1 0 ∷
    []

-- what is held after each step; where the log is opened again it is the same
abbrev pub epoch_held : List HeldLine
epoch_held =
    held7 holds_one 1 50 0 0 100 (negsuc 0) 0 100 ∷
    held7 begins_one 1 50 1 1 110 (pos 110) 0 110 ∷
    -- "pid and start kept …; set kept in 2 and 3", "Only status 0 changes the timeout": a Tick, and an Init with another timeout
    held7 (begins_one ++ (tick_at 161 ∷ [])) 2 50 3 1 161 (pos 110) 0 161 ∷
    held7 (begins_one ++ (tick_at 161 ∷ reopened 240 ∷ [])) 2 50 3 1 161 (pos 110) 0 161 ∷
    held7 (begins_one ++ (init_at 70 130 ∷ [])) 2 50 3 1 130 (pos 110) 0 130 ∷
    held7 (begins_one ++ (init_at 70 130 ∷ reopened 240 ∷ [])) 2 50 3 1 130 (pos 110) 0 130 ∷
    -- End of either verdict
    held7 (begins_one ++ (end_at 1 0 120 ∷ [])) 1 50 2 1 120 (pos 110) 0 120 ∷
    held7 (begins_one ++ (end_at 1 0 120 ∷ reopened 240 ∷ [])) 1 50 2 1 120 (pos 110) 0 120 ∷
    held7 (begins_one ++ (end_at 1 1 120 ∷ [])) 1 50 3 1 120 (pos 110) 0 120 ∷
    held7 (begins_one ++ (end_at 1 1 120 ∷ reopened 240 ∷ [])) 1 50 3 1 120 (pos 110) 0 120 ∷
    -- "after 2: 4. After 3: 5. Pid and epoch kept."
    held7 (ends_one ++ (ack_at 1 0 ∷ [])) 1 50 4 0 120 (negsuc 0) 0 120 ∷
    held7 (ends_one ++ (ack_at 1 0 ∷ reopened 293 ∷ [])) 1 50 4 0 120 (negsuc 0) 0 120 ∷
    held7 aborts_one 2 50 5 0 161 (negsuc 0) 0 161 ∷
    held7 (aborts_one ++ (reopened 293 ∷ [])) 2 50 5 0 161 (negsuc 0) 0 161 ∷
    -- the set is widened; the next transaction begins in the epoch of the fence; the next Init changes the timeout
    held7 (begins_one ++ (add_at 1 256 120 ∷ [])) 1 50 1 257 120 (pos 110) 0 120 ∷
    held7 (aborts_one ++ (add_at 2 1 170 ∷ [])) 2 50 1 1 170 (pos 170) 0 170 ∷
    held7 (aborts_one ++ (add_at 2 1 170 ∷ reopened 360 ∷ [])) 2 50 1 1 170 (pos 170) 0 170 ∷
    held7 (aborts_one ++ (init_at 70 180 ∷ [])) 3 70 0 0 180 (negsuc 0) 0 180 ∷
    held7 (aborts_one ++ (init_at 70 180 ∷ reopened 346 ∷ [])) 3 70 0 0 180 (negsuc 0) 0 180 ∷
    -- the same at 32766
    table_held7 (begin_table 32766) (tick_at 60091 ∷ []) 32767 60000 3 1 60091 (pos 80) 0 60091 ∷
    table_held7 (begin_table 32766) (init_at 70 100 ∷ []) 32767 60000 3 1 100 (pos 80) 0 100 ∷
    table_held7 (begin_table 32766) (end_at 32766 0 100 ∷ []) 32766 60000 2 1 100 (pos 80) 0 100 ∷
    table_held7 (begin_table 32766) (end_at 32766 1 100 ∷ []) 32766 60000 3 1 100 (pos 80) 0 100 ∷
    table_held7 (begin_table 32766) (add_at 32766 256 100 ∷ []) 32766 60000 1 257 100 (pos 80) 0 100 ∷
    table_held7 (begin_table 32766) aborts_last 32767 60000 5 0 60091 (negsuc 0) 0 60091 ∷
    table_held7 (begin_table 32766) commits_last 32766 60000 4 0 100 (negsuc 0) 0 100 ∷
    table_held7 (begin_table 32765) (init_at 70 100 ∷ []) 32766 60000 3 1 100 (pos 80) 0 100 ∷
    table_held7 (rig_table CompleteAbort 32766 0) (add_at 32766 2 100 ∷ []) 32766 60000 1 2 100 (pos 100) 0 100 ∷
    held_from (tight (begin_table 32766) 1143) (init_at 70 100 ∷ []) 0 1000 32767 60000 3 1 100 (pos 80) 0 100 ∷
    -- "same pid and epoch one higher while the held epoch is below 32766": 32765, with the pids spent
    held_from (tight (rig_table Empty 32765 0) 1196) (init_at 70 100 ∷ []) 0 1000 32766 70 0 0 100 (negsuc 0) 0 100 ∷
    -- "else a pid above all earlier ones with epoch 0": 32766, and 32767 after the fence
    held_from (holding (rig_table CompleteCommit 32766 0) no_producer) (init_at 70 100 ∷ []) 0 1001 0 70 0 0 100 (negsuc 0) 0 100 ∷
    held_from (holding (begin_table 32766) no_producer) (aborts_last ++ (init_at 70 60100 ∷ [])) 0 1001 0 70 0 0 60100 (negsuc 0) 0 60100 ∷
    []
