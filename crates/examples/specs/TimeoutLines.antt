-- Lines of timeouts. Document 02, 2: "Tick now compares the clock with the start time."
use Rattle.std.specs.Prelude.{List, [], ◌∷◌, ◌++◌, pos}
use Rattle.coordinator.specs.Calls.{add_call}
use Rattle.server.specs.Calls.{Call, open_words, call}
use Rattle.server.specs.Lines.{Line, line, opened, init7, join, begins, widens, widens_flushed, lab3}
use Rattle.examples.specs.Starts.{reopened, init3, add3, prepares, completes, begins_both, add_at, end_at, tick_at, flushed}
use Rattle.examples.specs.Held.{HeldLine, held7}

-- `rig7` with timeout 60000 and `lab3` with 50 in a flushed BEGIN at 100
abbrev pub begins_late : List Call
begins_late = opened ∷ open_words ∷ init7 (pos 60000) ∷ init3 ∷ flushed 106 ∷ join ∷ add3 1 ∷ flushed 240 ∷ []

abbrev pub timeout_lines : List Line
timeout_lines =
    -- a widening that is not flushed: Tick says none at any time, and Add and End meet 12; once it is flushed, a Tick aborts
    line 2560 0 (widens (pos 50)) (tick_at 151) 0 [] 1 0 ∷
    line 2560 0 (widens (pos 50)) (tick_at 100000) 0 [] 1 0 ∷
    line 2560 0 (widens (pos 50) ++ (tick_at 151 ∷ [])) (add_at 0 256 151) 12 [] 1 0 ∷
    line 2560 0 (widens (pos 50) ++ (tick_at 151 ∷ [])) (end_at 0 0 151) 12 [] 1 0 ∷
    line 2560 0 (widens (pos 50) ++ (tick_at 151 ∷ flushed 190 ∷ [])) (tick_at 151) 0 [] 1 0 ∷
    line 2560 0 (widens (pos 50) ++ (tick_at 151 ∷ flushed 191 ∷ [])) (tick_at 0) 0 (pos 0 ∷ []) 1 71 ∷
    -- an Add of what is joined moves the clock and no time of the transaction
    line 2560 0 (begins (pos 50) ++ (add_at 0 1 149 ∷ [])) (tick_at 150) 0 [] 1 0 ∷
    line 2560 0 (begins (pos 50) ++ (add_at 0 1 149 ∷ [])) (tick_at 151) 0 (pos 0 ∷ []) 1 67 ∷
    -- "the lowest place" of two that are overdue, though it was widened last; then the other, then none
    line 2560 0 (begins_both 1 ++ (add_at 0 2 140 ∷ flushed 311 ∷ [])) (tick_at 151) 0 (pos 0 ∷ []) 2 71 ∷
    line 2560 0 (begins_both 1 ++ (add_at 0 2 140 ∷ flushed 311 ∷ tick_at 151 ∷ [])) (tick_at 151) 0 (pos 1 ∷ []) 2 67 ∷
    line 2560 0 (begins_both 1 ++ (add_at 0 2 140 ∷ flushed 311 ∷ tick_at 151 ∷ tick_at 151 ∷ [])) (tick_at 151) 0 [] 2 0 ∷
    -- of two with the same start the one whose timeout has passed
    line 2560 0 begins_late (tick_at 150) 0 [] 2 0 ∷
    line 2560 0 begins_late (tick_at 151) 0 (pos 1 ∷ []) 2 67 ∷
    line 2560 0 (begins_late ++ (call (add_call lab3 (pos 1001) (pos 0) 2 (pos 140)) ∷ flushed 311 ∷ [])) (tick_at 151) 0 (pos 1 ∷ []) 2 71 ∷
    line 2560 0 begins_late (tick_at 60101) 0 (pos 0 ∷ []) 2 67 ∷
    -- a start that is equal to the clock, and the least timeout
    line 2560 0 (begins (pos 50)) (tick_at 100) 0 [] 1 0 ∷
    line 2560 0 (begins (pos 1)) (tick_at 100) 0 [] 1 0 ∷
    line 2560 0 (begins (pos 1)) (tick_at 101) 0 [] 1 0 ∷
    line 2560 0 (begins (pos 1)) (tick_at 102) 0 (pos 0 ∷ []) 1 67 ∷
    -- a BEGIN that is read after a cut: the start is the log's, with the widening and with the widening torn
    line 2560 0 (widens (pos 50) ++ (reopened 191 ∷ [])) (tick_at 150) 0 [] 1 0 ∷
    line 2560 0 (widens (pos 50) ++ (reopened 191 ∷ [])) (tick_at 151) 0 (pos 0 ∷ []) 1 71 ∷
    line 2560 0 (widens (pos 50) ++ (reopened 190 ∷ [])) (tick_at 150) 0 [] 1 0 ∷
    line 2560 0 (widens (pos 50) ++ (reopened 190 ∷ [])) (tick_at 151) 0 (pos 0 ∷ []) 1 67 ∷
    -- a prepare is not aborted, however late it is
    line 2560 8 (prepares 0) (tick_at 100000) 0 [] 1 0 ∷
    line 2560 8 (prepares 1) (tick_at 100000) 0 [] 1 0 ∷
    -- the next transaction has its own start
    line 2560 8 (completes 0 ++ (add_at 0 1 300 ∷ flushed 307 ∷ [])) (tick_at 350) 0 [] 1 0 ∷
    line 2560 8 (completes 0 ++ (add_at 0 1 300 ∷ flushed 307 ∷ [])) (tick_at 351) 0 (pos 0 ∷ []) 1 67 ∷
    []

abbrev pub timeout_held : List HeldLine
timeout_held =
    -- a widening keeps the start, and so does the Tick that aborts
    held7 (widens (pos 50)) 0 50 1 3 140 (pos 100) 0 140 ∷
    held7 (widens_flushed (pos 50) ++ (tick_at 150 ∷ [])) 0 50 1 3 140 (pos 100) 0 150 ∷
    held7 (widens_flushed (pos 50) ++ (tick_at 151 ∷ [])) 1 50 3 3 151 (pos 100) 0 151 ∷
    -- after a cut
    held7 (widens (pos 50) ++ (tick_at 145 ∷ reopened 191 ∷ [])) 0 50 1 3 140 (pos 100) 0 140 ∷
    held7 (widens (pos 50) ++ (reopened 190 ∷ [])) 0 50 1 1 100 (pos 100) 0 100 ∷
    []
