-- Lines of pids: none is given twice, pid 0, pids of 2^62 and above, and that the block outlives every call.
use Rattle.std.specs.Prelude.{List, [], ◌∷◌, ◌++◌, pos, negsuc}
use Rattle.numbers.specs.Ascii.{ascii}
use Rattle.record.specs.declared.Status.TheVariants.{Empty, CompleteAbort}
use Rattle.partition.specs.Partition.{no_producer}
use Rattle.coordinator.specs.Calls.{init_call, add_call, end_call, ack_call}
use Rattle.server.specs.Calls.{Call, open_log, open_words, call, order_call, produce_call, marker_call, read_call}
use Rattle.server.specs.Lines.{Line, line, line_from, writes, reads, catalogue_text, rig7, opened, init7, join, lab3}
use Rattle.examples.specs.Starts.{reopened, end7, ack7, holds7, holds_both, begins_both, init3, init2, tick_at, flushed, record7, record_for, rig_table, from, empty7, lent_log}

-- the first pid is 0: `rig7` has it, in EMPTY, flushed
abbrev pub holds_zero : List Call
holds_zero = open_log catalogue_text 0 (pos 1) (pos 0) (pos 5) ∷ open_words ∷ init7 (pos 50) ∷ flushed 53 ∷ []

abbrev pub add_zero : Call
add_zero = call (add_call rig7 (pos 0) (pos 0) 1 (pos 100))

abbrev pub put_zero : Call
put_zero = produce_call rig7 (pos 0) (pos 0) 0 (pos 0) 502

-- in BEGIN, flushed, with an entry
abbrev pub begins_zero : List Call
begins_zero = holds_zero ++ (add_zero ∷ flushed 120 ∷ put_zero ∷ [])

-- an opening whose pids are 2^62 and those above
abbrev pub opened_high : Call
opened_high = open_log catalogue_text 0 (pos 1) (pos 4611686018427387904) (pos 9223372036854775807)

abbrev pub holds_high : List Call
holds_high = opened_high ∷ open_words ∷ init7 (pos 50) ∷ flushed 53 ∷ []

abbrev pub add_high : Call
add_high = call (add_call rig7 (pos 4611686018427387904) (pos 0) 1 (pos 100))

-- an opening with the greatest pid alone
abbrev pub opened_greatest : Call
opened_greatest = open_log catalogue_text 0 (pos 1) (pos 9223372036854775807) (pos 9223372036854775807)

-- an opening with two pids, and all calls of a transaction of `rig7`; its log ends at 240
abbrev pub completes_of_two : List Call
completes_of_two =
    open_log catalogue_text 0 (pos 1) (pos 1000) (pos 1001) ∷
    init7 (pos 50) ∷
    flushed 53 ∷
    join ∷
    flushed 120 ∷
    end7 0 ∷
    flushed 187 ∷
    order_call 257 ∷
    ack7 ∷
    flushed 240 ∷
    tick_at 130 ∷
    []

-- a log of `rig7` opened with a block of two pids that starts higher, then an Add that begins, a widening, an End, and an Ack that is not the last
abbrev pub higher_block : List Call
higher_block =
    holds7
    ++ (open_log catalogue_text 53 (pos 2) (pos 1500) (pos 1501) ∷
    join ∷
    flushed 120 ∷
    call (add_call rig7 (pos 1000) (pos 0) 256 (pos 110)) ∷
    flushed 201 ∷
    end7 0 ∷
    flushed 282 ∷
    ack7 ∷
    [])

abbrev pub pid_lines : List Line
pid_lines =
    -- "Pids come rising from a block"
    line 4096 0 (opened ∷ init7 (pos 50) ∷ init3 ∷ []) init2 0 (pos 1002 ∷ pos 0 ∷ []) 3 53 ∷
    -- "from above every pid in the log": a record of a lower pid came last, by Init, by Add, by End, and in a log that is opened
    line 4096 0 (holds_both ++ (init7 (pos 50) ∷ [])) init2 0 (pos 1002 ∷ pos 0 ∷ []) 3 53 ∷
    line 4096 0 (holds_both ++ (join ∷ [])) init2 0 (pos 1002 ∷ pos 0 ∷ []) 3 53 ∷
    line 4096 0 (begins_both 256 ++ (end7 0 ∷ [])) init2 0 (pos 1002 ∷ pos 0 ∷ []) 3 53 ∷
    line 4096 0 (holds_both ++ (join ∷ reopened 173 ∷ [])) init2 0 (pos 1002 ∷ pos 0 ∷ []) 3 53 ∷
    line_from (lent_log 4096 (empty7 ∷ record_for lab3 5000 0 50 Empty 0 100 0 ∷ record7 Empty 1 0 100 0 ∷ [])) (open_log catalogue_text 159 (pos 1) (pos 1000) (pos 9999) ∷ []) init2 0 (pos 5001 ∷ pos 0 ∷ []) 3 53 ∷
    -- a name that was given a second pid has used it up, and its first pid is not given again
    from (rig_table CompleteAbort 32766 0) no_producer (init7 (pos 50) ∷ []) init3 0 (pos 1002 ∷ pos 0 ∷ []) 2 53 ∷
    -- pid 0 is a pid like any other
    line 2560 40 (open_log catalogue_text 0 (pos 1) (pos 0) (pos 5) ∷ []) (init7 (pos 50)) 0 (pos 0 ∷ pos 0 ∷ []) 1 53 ∷
    line 2560 40 holds_zero add_zero 0 [] 1 67 ∷
    line 2560 40 holds_zero (call (add_call rig7 (pos 1) (pos 0) 1 (pos 100))) 10 [] 1 0 ∷
    line 2560 40 holds_zero (call (add_call rig7 (negsuc 0) (pos 0) 1 (pos 100))) 10 [] 1 0 ∷
    line 2560 40 holds_zero init3 0 (pos 1 ∷ pos 0 ∷ []) 2 53 ∷
    line 2560 40 (holds_zero ++ (open_log catalogue_text 53 (pos 2) (pos 0) (pos 5) ∷ [])) init3 0 (pos 1 ∷ pos 0 ∷ []) 2 53 ∷
    line 2560 40 (holds_zero ++ (open_log catalogue_text 53 (pos 2) (pos 0) (pos 0) ∷ [])) init3 16 [] 1 0 ∷
    line 2560 40 (begins_zero ++ (call (end_call rig7 (pos 0) (pos 0) 0 (pos 120)) ∷ flushed 187 ∷ [])) (order_call 257) 0 (pos 0 ∷ pos 0 ∷ pos 0 ∷ pos 0 ∷ pos 0 ∷ pos 1 ∷ []) 1 0 ∷
    line 2560 40 (begins_zero ++ (call (end_call rig7 (pos 0) (pos 0) 0 (pos 120)) ∷ flushed 187 ∷ [])) (call (ack_call 0 (pos 0) (pos 0) 0)) 0 [] 1 53 ∷
    writes (0 ∷ 0 ∷ 0 ∷ 502 ∷ []) (line 2560 40 (holds_zero ++ (add_zero ∷ flushed 120 ∷ [])) put_zero 0 (pos 0 ∷ []) 1 0) ∷
    writes (0 ∷ 1 ∷ 1 ∷ 0 ∷ []) (line 2560 40 begins_zero (marker_call 0 (pos 0) (pos 0) 0 (pos 1)) 0 [] 1 0) ∷
    reads (0 ∷ []) (502 ∷ []) (line 2560 40 (begins_zero ++ (marker_call 0 (pos 0) (pos 0) 0 (pos 1) ∷ [])) (read_call 0) 0 (pos 1 ∷ pos 2 ∷ []) 1 0) ∷
    -- "producer id (pid, i64)": 2^62, and the greatest
    line 2560 40 (opened_high ∷ []) (init7 (pos 50)) 0 (pos 4611686018427387904 ∷ pos 0 ∷ []) 1 53 ∷
    line 2560 40 (opened_high ∷ init7 (pos 50) ∷ []) init3 0 (pos 4611686018427387905 ∷ pos 0 ∷ []) 2 53 ∷
    line 2560 40 holds_high add_high 0 [] 1 67 ∷
    line 2560 40 (holds_high ++ (add_high ∷ reopened 120 ∷ [])) add_high 0 [] 1 0 ∷
    line 2560 40 (holds_high ++ (add_high ∷ reopened 120 ∷ [])) init3 16 [] 1 0 ∷
    writes (4611686018427387904 ∷ 0 ∷ 0 ∷ 502 ∷ []) (line 2560 40 (holds_high ++ (add_high ∷ flushed 120 ∷ [])) (produce_call rig7 (pos 4611686018427387904) (pos 0) 0 (pos 0) 502) 0 (pos 0 ∷ []) 1 0) ∷
    writes (4611686018427387904 ∷ 2 ∷ 1 ∷ 0 ∷ []) (line 2560 40 (holds_high ++ (add_high ∷ flushed 120 ∷ produce_call rig7 (pos 4611686018427387904) (pos 0) 0 (pos 0) 502 ∷ [])) (marker_call 0 (pos 4611686018427387904) (pos 0) 1 (pos 1)) 0 [] 1 0) ∷
    line 2560 40 (opened_greatest ∷ []) (init7 (pos 50)) 0 (pos 9223372036854775807 ∷ pos 0 ∷ []) 1 53 ∷
    line 2560 40 (opened_greatest ∷ init7 (pos 50) ∷ []) init3 16 [] 1 0 ∷
    line 2560 40 (opened_greatest ∷ init7 (pos 50) ∷ flushed 53 ∷ []) (init7 (pos 50)) 0 (pos 9223372036854775807 ∷ pos 1 ∷ []) 1 53 ∷
    line 2560 40 (opened_greatest ∷ init7 (pos 50) ∷ reopened 53 ∷ []) init3 16 [] 1 0 ∷
    line 2560 40 (opened_greatest ∷ init7 (pos 50) ∷ open_log catalogue_text 53 (pos 1) (pos 9223372036854775807) (pos 9223372036854775807) ∷ []) init3 16 [] 1 0 ∷
    -- "a block (first, last) given at opening": its last outlives every call of a transaction
    line 4096 0 completes_of_two init3 0 (pos 1001 ∷ pos 0 ∷ []) 2 53 ∷
    line 4096 0 (completes_of_two ++ (init3 ∷ [])) init2 16 [] 2 0 ∷
    -- and so does its first, where the log's pids are below it
    line 4096 0 higher_block init3 0 (pos 1500 ∷ pos 0 ∷ []) 2 53 ∷
    line 4096 0 (higher_block ++ (flushed 282 ∷ init3 ∷ [])) init2 0 (pos 1501 ∷ pos 0 ∷ []) 3 53 ∷
    line 6000 0 (higher_block ++ (init3 ∷ init2 ∷ [])) (call (init_call (ascii "z") (pos 50) (pos 100))) 16 [] 3 0 ∷
    []
