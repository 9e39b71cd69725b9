-- Lines of sets: a prepare of three partitions that are acknowledged one by one, and a set that is widened twice.
use Rattle.std.specs.Prelude.{List, [], ◌∷◌, ◌++◌, pos, negsuc}
use Rattle.server.specs.Calls.{Call, order_call}
use Rattle.server.specs.Lines.{Line, line, begins}
use Rattle.examples.specs.Starts.{reopened, holds7, init3, add_at, end_at, ack_at, tick_at, flushed}
use Rattle.examples.specs.Held.{HeldLine, held7}

-- a prepare of COMMIT of the whole catalogue, `scan` 0 and 1 and `cert` 0, flushed; it ends at 223
abbrev pub prepares_three : List Call
prepares_three = holds7 ++ (add_at 0 259 110 ∷ flushed 138 ∷ end_at 0 0 120 ∷ flushed 223 ∷ [])

-- the same of ABORT
abbrev pub aborts_three : List Call
aborts_three = holds7 ++ (add_at 0 259 110 ∷ flushed 138 ∷ end_at 0 1 120 ∷ flushed 223 ∷ [])

-- BEGIN of `scan` 0 at 100, with `scan` 1 at 110, flushed; it ends at 191
abbrev pub widens_once : List Call
widens_once = begins (pos 50) ++ (add_at 0 2 110 ∷ flushed 191 ∷ [])

-- then with `cert` 0 at 115, flushed; it ends at 276
abbrev pub widens_twice : List Call
widens_twice = widens_once ++ (add_at 0 256 115 ∷ flushed 276 ∷ [])

abbrev pub set_lines : List Line
set_lines =
    -- "the lowest joined, unacknowledged, up position"
    line 2560 0 prepares_three (order_call 259) 0 (pos 0 ∷ pos 1000 ∷ pos 0 ∷ pos 0 ∷ pos 0 ∷ pos 1 ∷ []) 1 0 ∷
    line 2560 0 prepares_three (order_call 258) 0 (pos 0 ∷ pos 1000 ∷ pos 0 ∷ pos 0 ∷ pos 1 ∷ pos 1 ∷ []) 1 0 ∷
    line 2560 0 (prepares_three ++ (ack_at 0 0 ∷ [])) (order_call 259) 0 (pos 0 ∷ pos 1000 ∷ pos 0 ∷ pos 0 ∷ pos 1 ∷ pos 1 ∷ []) 1 0 ∷
    line 2560 0 (prepares_three ++ (ack_at 0 1 ∷ [])) (order_call 259) 0 (pos 0 ∷ pos 1000 ∷ pos 0 ∷ pos 0 ∷ pos 0 ∷ pos 1 ∷ []) 1 0 ∷
    line 2560 0 (prepares_three ++ (ack_at 0 0 ∷ ack_at 0 1 ∷ [])) (order_call 259) 0 (pos 0 ∷ pos 1000 ∷ pos 0 ∷ pos 0 ∷ pos 8 ∷ pos 1 ∷ []) 1 0 ∷
    line 2560 0 (prepares_three ++ (ack_at 0 8 ∷ ack_at 0 0 ∷ [])) (order_call 259) 0 (pos 0 ∷ pos 1000 ∷ pos 0 ∷ pos 0 ∷ pos 1 ∷ pos 1 ∷ []) 1 0 ∷
    line 2560 0 (prepares_three ++ (ack_at 0 8 ∷ ack_at 0 1 ∷ [])) (order_call 259) 0 (pos 0 ∷ pos 1000 ∷ pos 0 ∷ pos 0 ∷ pos 0 ∷ pos 1 ∷ []) 1 0 ∷
    line 2560 0 (prepares_three ++ (ack_at 0 1 ∷ [])) (order_call 2) 0 [] 1 0 ∷
    -- Ack: "the last one outstanding appends", in any order, and no other
    line 2560 0 prepares_three (ack_at 0 8) 0 [] 1 0 ∷
    line 2560 0 (prepares_three ++ (ack_at 0 0 ∷ [])) (ack_at 0 1) 0 [] 1 0 ∷
    line 2560 0 (prepares_three ++ (ack_at 0 8 ∷ [])) (ack_at 0 0) 0 [] 1 0 ∷
    line 2560 0 (prepares_three ++ (ack_at 0 0 ∷ ack_at 0 1 ∷ [])) (ack_at 0 8) 0 [] 1 53 ∷
    line 2560 0 (prepares_three ++ (ack_at 0 8 ∷ ack_at 0 1 ∷ [])) (ack_at 0 0) 0 [] 1 53 ∷
    line 2560 0 (prepares_three ++ (ack_at 0 0 ∷ ack_at 0 8 ∷ [])) (ack_at 0 1) 0 [] 1 53 ∷
    line 2560 0 (aborts_three ++ (ack_at 0 0 ∷ ack_at 0 8 ∷ [])) (ack_at 0 1) 0 [] 1 53 ∷
    -- "a position already acknowledged is done, nothing changes": it is not counted twice
    line 2560 0 (prepares_three ++ (ack_at 0 8 ∷ ack_at 0 8 ∷ [])) (ack_at 0 8) 0 [] 1 0 ∷
    line 2560 0 (prepares_three ++ (ack_at 0 8 ∷ ack_at 0 8 ∷ [])) (ack_at 0 0) 0 [] 1 0 ∷
    line 2560 0 (prepares_three ++ (ack_at 0 8 ∷ ack_at 0 1 ∷ ack_at 0 8 ∷ [])) (ack_at 0 1) 0 [] 1 0 ∷
    -- a flush and another name's record come between
    line 2560 0 (prepares_three ++ (ack_at 0 8 ∷ flushed 223 ∷ init3 ∷ ack_at 0 1 ∷ flushed 276 ∷ [])) (ack_at 0 0) 0 [] 2 53 ∷
    -- "1 widens": 4 bytes for a partition of a topic that is there, 14 for the first of another
    line 2560 0 (begins (pos 50)) (add_at 0 2 110) 0 [] 1 71 ∷
    line 2560 0 widens_once (add_at 0 256 115) 0 [] 1 85 ∷
    line 2560 0 widens_once (add_at 0 257 115) 0 [] 1 85 ∷
    line 2560 0 widens_once (add_at 0 3 115) 0 [] 1 0 ∷
    line 2560 0 widens_twice (add_at 0 259 120) 0 [] 1 0 ∷
    line 2560 0 widens_twice (add_at 0 258 120) 0 [] 1 0 ∷
    line 2560 0 widens_twice (reopened 276) 0 [] 1 0 ∷
    line 2560 0 widens_twice (tick_at 150) 0 [] 1 0 ∷
    line 2560 0 widens_twice (tick_at 151) 0 (pos 0 ∷ []) 1 85 ∷
    line 2560 0 widens_twice (end_at 0 0 120) 0 [] 1 85 ∷
    []

abbrev pub set_held : List HeldLine
set_held =
    -- "the set acknowledged since opening or since that record, if later"
    held7 prepares_three 0 50 2 259 120 (pos 110) 0 120 ∷
    held7 (prepares_three ++ (ack_at 0 1 ∷ [])) 0 50 2 259 120 (pos 110) 2 120 ∷
    held7 (prepares_three ++ (ack_at 0 1 ∷ ack_at 0 8 ∷ [])) 0 50 2 259 120 (pos 110) 258 120 ∷
    held7 (prepares_three ++ (ack_at 0 8 ∷ ack_at 0 0 ∷ ack_at 0 8 ∷ [])) 0 50 2 259 120 (pos 110) 257 120 ∷
    held7 (prepares_three ++ (ack_at 0 8 ∷ ack_at 0 0 ∷ ack_at 0 1 ∷ [])) 0 50 4 0 120 (negsuc 0) 0 120 ∷
    held7 (aborts_three ++ (ack_at 0 1 ∷ ack_at 0 8 ∷ ack_at 0 0 ∷ [])) 0 50 5 0 120 (negsuc 0) 0 120 ∷
    -- it outlives a flush, another name's record and a Tick, and no opening
    held7 (prepares_three ++ (ack_at 0 8 ∷ flushed 223 ∷ init3 ∷ tick_at 130 ∷ order_call 259 ∷ [])) 0 50 2 259 120 (pos 110) 256 130 ∷
    held7 (prepares_three ++ (ack_at 0 8 ∷ reopened 223 ∷ [])) 0 50 2 259 120 (pos 110) 0 120 ∷
    held7 (prepares_three ++ (ack_at 0 8 ∷ reopened 223 ∷ ack_at 0 1 ∷ [])) 0 50 2 259 120 (pos 110) 2 120 ∷
    -- "status 1 with all its partitions and more; … start kept", and as the log has it
    held7 widens_once 0 50 1 3 110 (pos 100) 0 110 ∷
    held7 widens_twice 0 50 1 259 115 (pos 100) 0 115 ∷
    held7 (widens_once ++ (reopened 191 ∷ [])) 0 50 1 3 110 (pos 100) 0 110 ∷
    held7 (widens_twice ++ (reopened 276 ∷ [])) 0 50 1 259 115 (pos 100) 0 115 ∷
    held7 (widens_twice ++ (reopened 275 ∷ [])) 0 50 1 3 110 (pos 100) 0 110 ∷
    held7 (widens_once ++ (add_at 0 257 115 ∷ [])) 0 50 1 259 115 (pos 100) 0 115 ∷
    held7 (widens_twice ++ (end_at 0 0 120 ∷ reopened 361 ∷ [])) 0 50 2 259 120 (pos 100) 0 120 ∷
    held7 (widens_twice ++ (tick_at 166 ∷ reopened 361 ∷ [])) 1 50 3 259 166 (pos 100) 0 166 ∷
    []
