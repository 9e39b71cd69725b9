-- Lines of the clock: which calls move it, and which last update a record has.
use Rattle.std.specs.Prelude.{List, [], ◌∷◌, ◌++◌, pos, negsuc}
use Rattle.coordinator.specs.Calls.{init_call, add_call, end_call, tick_call}
use Rattle.server.specs.Calls.{call, order_call, read_call}
use Rattle.server.specs.Lines.{Line, line, rig7, opened, begins, put, lab3}
use Rattle.examples.specs.Starts.{reopened, mark, ack7, holds7, prepares, completes, prepares_two, init_at, add_at, end_at, tick_at, flushed}
use Rattle.examples.specs.Held.{HeldLine, held7}

abbrev pub clock_held : List HeldLine
clock_held =
    -- "The clock is the greater of its old value and the time given", "Last update is the clock.": Init of an unknown name, of a held one, and one that fences
    held7 (opened ∷ init_at 50 300 ∷ []) 0 50 0 0 300 (negsuc 0) 0 300 ∷
    held7 (opened ∷ tick_at 300 ∷ init_at 50 100 ∷ []) 0 50 0 0 300 (negsuc 0) 0 300 ∷
    held7 (holds7 ++ (init_at 50 300 ∷ [])) 1 50 0 0 300 (negsuc 0) 0 300 ∷
    held7 (holds7 ++ (tick_at 300 ∷ init_at 50 100 ∷ [])) 1 50 0 0 300 (negsuc 0) 0 300 ∷
    held7 (begins (pos 50) ++ (init_at 50 300 ∷ [])) 1 50 3 1 300 (pos 100) 0 300 ∷
    held7 (begins (pos 50) ++ (tick_at 120 ∷ init_at 50 100 ∷ [])) 1 50 3 1 120 (pos 100) 0 120 ∷
    -- Add that begins ("start equal to last update"), widens, and appends nothing
    held7 (holds7 ++ (add_at 0 1 300 ∷ [])) 0 50 1 1 300 (pos 300) 0 300 ∷
    held7 (holds7 ++ (tick_at 300 ∷ add_at 0 1 100 ∷ [])) 0 50 1 1 300 (pos 300) 0 300 ∷
    held7 (begins (pos 50) ++ (add_at 0 256 300 ∷ [])) 0 50 1 257 300 (pos 100) 0 300 ∷
    held7 (begins (pos 50) ++ (tick_at 120 ∷ add_at 0 256 100 ∷ [])) 0 50 1 257 120 (pos 100) 0 120 ∷
    held7 (begins (pos 50) ++ (add_at 0 1 300 ∷ [])) 0 50 1 1 100 (pos 100) 0 300 ∷
    -- End that prepares, and one that is done
    held7 (begins (pos 50) ++ (end_at 0 0 300 ∷ [])) 0 50 2 1 300 (pos 100) 0 300 ∷
    held7 (begins (pos 50) ++ (end_at 0 1 300 ∷ [])) 0 50 3 1 300 (pos 100) 0 300 ∷
    held7 (begins (pos 50) ++ (tick_at 120 ∷ end_at 0 0 110 ∷ [])) 0 50 2 1 120 (pos 100) 0 120 ∷
    held7 (completes 0 ++ (end_at 0 0 500 ∷ [])) 0 50 4 0 120 (negsuc 0) 0 500 ∷
    held7 (completes 1 ++ (end_at 0 1 500 ∷ [])) 0 50 5 0 120 (negsuc 0) 0 500 ∷
    -- Tick with none, one that aborts, and one that aborts though the time given is lower
    held7 (begins (pos 50) ++ (tick_at 150 ∷ [])) 0 50 1 1 100 (pos 100) 0 150 ∷
    held7 (begins (pos 50) ++ (tick_at 151 ∷ [])) 1 50 3 1 151 (pos 100) 0 151 ∷
    held7 (begins (pos 50) ++ (tick_at 300 ∷ [])) 1 50 3 1 300 (pos 100) 0 300 ∷
    held7 (begins (pos 50) ++ (add_at 0 1 200 ∷ tick_at 0 ∷ [])) 1 50 3 1 200 (pos 100) 0 200 ∷
    -- an Ack has no time: the record that it appends has the clock as it is
    held7 (prepares 0 ++ (ack7 ∷ [])) 0 50 4 0 120 (negsuc 0) 0 120 ∷
    held7 (prepares 1 ++ (ack7 ∷ [])) 0 50 5 0 120 (negsuc 0) 0 120 ∷
    held7 (prepares 0 ++ (tick_at 500 ∷ [])) 0 50 2 1 120 (pos 100) 0 500 ∷
    held7 (prepares 0 ++ (tick_at 500 ∷ ack7 ∷ [])) 0 50 4 0 500 (negsuc 0) 0 500 ∷
    held7 (prepares_two ++ (ack7 ∷ [])) 0 50 2 257 120 (pos 110) 1 120 ∷
    held7 (prepares_two ++ (tick_at 500 ∷ ack7 ∷ ack7 ∷ [])) 0 50 2 257 120 (pos 110) 1 500 ∷
    -- a negative time is below every clock
    held7 (opened ∷ call (init_call rig7 (pos 50) (negsuc 0)) ∷ []) 0 50 0 0 0 (negsuc 0) 0 0 ∷
    held7 (holds7 ++ (call (init_call rig7 (pos 50) (negsuc 0)) ∷ [])) 1 50 0 0 100 (negsuc 0) 0 100 ∷
    held7 (holds7 ++ (call (add_call rig7 (pos 1000) (pos 0) 1 (negsuc 4)) ∷ [])) 0 50 1 1 100 (pos 100) 0 100 ∷
    held7 (begins (pos 50) ++ (call (end_call rig7 (pos 1000) (pos 0) 0 (negsuc 4)) ∷ [])) 0 50 2 1 100 (pos 100) 0 100 ∷
    held7 (begins (pos 50) ++ (call (tick_call (negsuc 4)) ∷ [])) 0 50 1 1 100 (pos 100) 0 100 ∷
    -- Produce, Order, Marker, Read and Flush leave the clock and the record alone
    held7 (begins (pos 50) ++ (put ∷ order_call 257 ∷ mark 1 ∷ read_call 0 ∷ flushed 120 ∷ [])) 0 50 1 1 100 (pos 100) 0 100 ∷
    -- "Every refusal leaves all as it was, clock included.": 14, 14, 13, 14, 2, 4, 11 and 11
    held7 (prepares 0 ++ (init_at 50 900 ∷ add_at 0 1 900 ∷ end_at 0 1 900 ∷ end_at 0 0 900 ∷ init_at 0 900 ∷ end_at 0 2 900 ∷ end_at 1 0 900 ∷ add_at 1 1 900 ∷ [])) 0 50 2 1 120 (pos 100) 0 120 ∷
    -- the greatest time, which a log keeps
    held7 (opened ∷ init_at 50 9223372036854775807 ∷ []) 0 50 0 0 9223372036854775807 (negsuc 0) 0 9223372036854775807 ∷
    held7 (opened ∷ init_at 50 9223372036854775807 ∷ reopened 53 ∷ []) 0 50 0 0 9223372036854775807 (negsuc 0) 0 9223372036854775807 ∷
    -- "it starts at the greatest last update in the log, or 0": of another name too, and no time that no record has
    held7 (begins (pos 50) ++ (call (init_call lab3 (pos 50) (pos 130)) ∷ tick_at 140 ∷ reopened 173 ∷ [])) 0 50 1 1 100 (pos 100) 0 130 ∷
    held7 (opened ∷ tick_at 140 ∷ reopened 0 ∷ init_at 50 90 ∷ []) 0 50 0 0 90 (negsuc 0) 0 90 ∷
    []

-- the same seen by the next call
abbrev pub clock_lines : List Line
clock_lines =
    -- Init moved it to 300: the BEGIN at 100 is overdue at any time given
    line 2560 0 (begins (pos 50) ++ (call (init_call lab3 (pos 50) (pos 300)) ∷ [])) (tick_at 0) 0 (pos 0 ∷ []) 2 67 ∷
    line 2560 0 (begins (pos 50) ++ (call (init_call lab3 (pos 50) (pos 150)) ∷ [])) (tick_at 0) 0 [] 2 0 ∷
    -- the age of a transaction that began at the greatest time is 0
    line 2560 0 (opened ∷ init_at 1 9223372036854775807 ∷ flushed 53 ∷ add_at 0 1 0 ∷ flushed 120 ∷ []) (tick_at 9223372036854775807) 0 [] 1 0 ∷
    -- and of one that began at 0 it is the clock
    line 2560 0 (opened ∷ init_at 900000 0 ∷ flushed 53 ∷ add_at 0 1 0 ∷ flushed 120 ∷ []) (tick_at 9223372036854775807) 0 (pos 0 ∷ []) 1 67 ∷
    []
