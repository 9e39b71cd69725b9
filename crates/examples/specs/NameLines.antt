-- Lines of long names. Document 02, 1: "Names … run to 64 bytes. … Turned away: a name of 65 bytes, by 1."
use Rattle.std.specs.Prelude.{ℕ, ◌+◌, ◌-◌, List, [], ◌∷◌, ◌++◌, pos, negsuc, replicate}
use Rattle.record.specs.Longest.{widest_text}
use Rattle.coordinator.specs.Calls.{init_call, add_call, end_call}
use Rattle.server.specs.Calls.{Call, open_log, open_words, call, produce_call}
use Rattle.server.specs.Lines.{Line, line, writes, lent, opened}
use Rattle.examples.specs.Starts.{reopened, holds7, tick_at, flushed}
use Rattle.examples.specs.Held.{HeldLine, held_from}
use Rattle.examples.specs.LimitLines.{under}

-- a name of n bytes, and one of 64 that has the first n bytes of those and then others
abbrev pub name_of : ℕ → List ℕ
name_of n = replicate n 97

abbrev pub other_after : ℕ → List ℕ
other_after n = replicate n 97 ++ replicate (64 - n) 98

-- ---- calls of a name in epoch 0, at partition 0 of `scan`

abbrev pub init_of : List ℕ → Call
init_of name = call (init_call name (pos 50) (pos 100))

abbrev pub add_of : List ℕ → ℕ → Call
add_of name pid = call (add_call name (pos pid) (pos 0) 1 (pos 100))

abbrev pub end_of : List ℕ → ℕ → Call
end_of name pid = call (end_call name (pos pid) (pos 0) 0 (pos 120))

abbrev pub put_of : List ℕ → ℕ → Call
put_of name pid = produce_call name (pos pid) (pos 0) 0 (pos 0) 502

-- a name of n bytes in EMPTY, flushed, where that ends; and in BEGIN, flushed, where that ends
abbrev pub holds_of : ℕ → ℕ → List Call
holds_of n end = opened ∷ open_words ∷ init_of (name_of n) ∷ flushed end ∷ []

abbrev pub begins_of : ℕ → ℕ → ℕ → List Call
begins_of n end next = holds_of n end ++ (add_of (name_of n) 1000 ∷ flushed next ∷ [])

-- ---- how long a name may be

-- every call that takes a name takes one of n bytes; its EMPTY, and its BEGIN and prepare of one partition, are so long
abbrev pub taken : ℕ → ℕ → ℕ → List Line
taken n empty begin =
    line 2560 8 (opened ∷ []) (init_of (name_of n)) 0 (pos 1000 ∷ pos 0 ∷ []) 1 empty ∷
    line 2560 8 (holds_of n empty) (add_of (name_of n) 1000) 0 [] 1 begin ∷
    line 2560 8 (begins_of n empty (empty + begin)) (end_of (name_of n) 1000) 0 [] 1 begin ∷
    writes (1000 ∷ 0 ∷ 0 ∷ 502 ∷ []) (line 2560 8 (begins_of n empty (empty + begin)) (put_of (name_of n) 1000) 0 (pos 0 ∷ []) 1 0) ∷
    []

abbrev pub name_lengths : List Line
name_lengths =
    taken 32 81 95
    ++ taken 33 82 96
    ++ taken 64 113 127
    -- 65 bytes, of which the first 64 are a name that is held: nothing else would apply
    ++ (line 2560 8 (opened ∷ []) (init_of (name_of 65)) 1 [] 0 0 ∷
    line 2560 8 (holds_of 64 113) (init_of (name_of 65)) 1 [] 1 0 ∷
    line 2560 8 (holds_of 64 113) (add_of (name_of 65) 1000) 1 [] 1 0 ∷
    line 2560 8 (begins_of 64 113 240) (end_of (name_of 65) 1000) 1 [] 1 0 ∷
    line 2560 8 (begins_of 64 113 240) (put_of (name_of 65) 1000) 1 [] 1 0 ∷
    [])

-- ---- names that start alike

-- a name of 64 bytes and this one of 64, in EMPTY, flushed; the log ends at 226
abbrev pub holds_alike : List ℕ → List Call
holds_alike name = opened ∷ open_words ∷ init_of (name_of 64) ∷ init_of name ∷ flushed 226 ∷ []

-- the second name is another id, which is not held before its Init, and has a pid of its own; and so it is read
abbrev pub apart : List ℕ → List Line
apart name =
    line 2560 8 (opened ∷ init_of (name_of 64) ∷ []) (init_of name) 0 (pos 1001 ∷ pos 0 ∷ []) 2 113 ∷
    line 2560 8 (holds_of 64 113) (add_of name 1000) 10 [] 1 0 ∷
    line 2560 8 (begins_of 64 113 240) (end_of name 1000) 10 [] 1 0 ∷
    line 2560 8 (begins_of 64 113 240) (put_of name 1000) 10 [] 1 0 ∷
    line 2560 8 (holds_alike name) (add_of name 1000) 10 [] 2 0 ∷
    line 2560 8 (holds_alike name) (add_of (name_of 64) 1001) 10 [] 2 0 ∷
    line 2560 8 (holds_alike name) (add_of name 1001) 0 [] 2 127 ∷
    line 2560 8 (holds_alike name ++ (reopened 226 ∷ [])) (add_of name 1000) 10 [] 2 0 ∷
    line 2560 8 (holds_alike name ++ (reopened 226 ∷ [])) (add_of name 1001) 0 [] 2 127 ∷
    []

abbrev pub alike_names : List Line
alike_names =
    -- alike in their first 32 bytes, and in their first 63
    apart (other_after 32)
    ++ apart (other_after 63)
    -- one is the start of the other
    ++ (line 2560 8 (opened ∷ init_of (name_of 32) ∷ []) (init_of (name_of 33)) 0 (pos 1001 ∷ pos 0 ∷ []) 2 82 ∷
    line 2560 8 (opened ∷ init_of (name_of 64) ∷ []) (init_of (name_of 63)) 0 (pos 1001 ∷ pos 0 ∷ []) 2 112 ∷
    line 2560 8 (holds_of 33 82) (add_of (name_of 32) 1000) 10 [] 1 0 ∷
    line 2560 8 (holds_of 64 113) (add_of (name_of 63) 1000) 10 [] 1 0 ∷
    [])

-- "Places run from 0 by first appearance in the log.": the first at place 0 and the second at place 1, before and after the log is opened again
abbrev pub places_apart : List ℕ → List HeldLine
places_apart name =
    held_from (lent 2560 8) (holds_alike name) 0 1000 0 50 0 0 100 (negsuc 0) 0 100 ∷
    held_from (lent 2560 8) (holds_alike name) 1 1001 0 50 0 0 100 (negsuc 0) 0 100 ∷
    held_from (lent 2560 8) (holds_alike name ++ (reopened 226 ∷ [])) 0 1000 0 50 0 0 100 (negsuc 0) 0 100 ∷
    held_from (lent 2560 8) (holds_alike name ++ (reopened 226 ∷ [])) 1 1001 0 50 0 0 100 (negsuc 0) 0 100 ∷
    []

abbrev pub name_held : List HeldLine
name_held = places_apart (other_after 32) ++ places_apart (other_after 63)

-- ---- a name that is cut

-- EMPTY of `rig7`, flushed, and of a name of 64 bytes, which starts at 53 and ends at 166; its name has the bytes 65 to 128
abbrev pub appends_long : List Call
appends_long = holds7 ++ (init_of (name_of 64) ∷ [])

-- a log of the first n bytes: the record before is held, and the torn rest is dropped
abbrev pub cut_at : ℕ → List Line
cut_at n =
    line 2560 8 appends_long (reopened n) 0 [] 1 0 ∷
    line 2560 8 (appends_long ++ (reopened n ∷ [])) (flushed 53) 0 [] 1 0 ∷
    line 2560 8 (appends_long ++ (reopened n ∷ [])) (flushed 54) 7 [] 1 0 ∷
    line 2560 8 (appends_long ++ (reopened n ∷ [])) (init_of (name_of 64)) 0 (pos 1001 ∷ pos 0 ∷ []) 2 113 ∷
    []

abbrev pub torn_names : List Line
torn_names =
    -- with 1, 32, 33 and 63 bytes of the name, and with all but the record's last byte
    cut_at 66
    ++ cut_at 97
    ++ cut_at 98
    ++ cut_at 128
    ++ cut_at 165
    -- and with the whole record
    ++ (line 2560 8 appends_long (reopened 166) 0 [] 2 0 ∷
    line 2560 8 (appends_long ++ (reopened 166 ∷ [])) (init_of (name_of 64)) 0 (pos 1001 ∷ pos 1 ∷ []) 2 113 ∷
    [])

-- ---- the longest frame

-- Add of all 64 positions of the widest catalogue
abbrev pub add_all : Call
add_all = call (add_call (name_of 64) (pos 1000) (pos 0) 18446744073709551615 (pos 100))

-- a name of 64 bytes in EMPTY under it, flushed; the log ends at 113
abbrev pub holds_widest : List Call
holds_widest = under widest_text ∷ init_of (name_of 64) ∷ flushed 113 ∷ []

-- and in BEGIN of all, flushed; the log ends at 658
abbrev pub begins_widest : List Call
begins_widest = holds_widest ++ (add_all ∷ flushed 658 ∷ [])

-- "the longest frame 545, the reserve of 17 becomes 1,090 for each id or BEGIN and 545 for each prepare"
abbrev pub longest_frames : List Line
longest_frames =
    -- Init and Add with their reserve, and with one byte less
    line 1203 0 (under widest_text ∷ []) (init_of (name_of 64)) 0 (pos 1000 ∷ pos 0 ∷ []) 1 113 ∷
    line 1202 0 (under widest_text ∷ []) (init_of (name_of 64)) 17 [] 0 0 ∷
    line 1748 0 holds_widest add_all 0 [] 1 545 ∷
    line 1747 0 holds_widest add_all 17 [] 1 0 ∷
    -- "So End, Tick, Ack never meet it.", and what they leave is opened in the same buffer
    line 1748 0 begins_widest (end_of (name_of 64) 1000) 0 [] 1 545 ∷
    line 1748 0 begins_widest (tick_at 151) 0 (pos 0 ∷ []) 1 545 ∷
    line 1748 0 begins_widest (open_log widest_text 658 (pos 2) (pos 1000) (pos 1999)) 0 [] 1 0 ∷
    line 1748 0 (begins_widest ++ (end_of (name_of 64) 1000 ∷ [])) (open_log widest_text 1203 (pos 2) (pos 1000) (pos 1999)) 0 [] 1 0 ∷
    []
