-- The same in a buffer: a cursor, the next line, and making room.
use Rattle.std.specs.Prelude.{ℕ, ◌+◌, ◌-◌, ◌≤◌, ◌<◌, min, Bool, true, false, cond, ◌||◌, List, eqb, ltb, length, take, drop, Option, Some, None}
use Rattle.numbers.specs.Bytes.{overwrite}
use Rattle.search.specs.Search.{first_where}
use Rattle.lines.specs.Text.{is_line_feed}
use Rattle.lines.specs.declared.Cursor.{Cursor}
use Rattle.lines.specs.declared.Next.{Next}
use Rattle.lines.specs.declared.Next.TheVariants.{Line, Long, More}
use Rattle.lines.specs.declared.Last.{Last}
use Rattle.lines.specs.declared.Last.TheVariants.{Line as LastLine, Long as LastLong, Nothing as LastNothing}

-- the first line feed of a part that starts at a place
abbrev pub found_in : ℕ → List ℕ → Option ℕ
found_in from part = let n = first_where is_line_feed part in cond (ltb n (length part)) (Some (from + n)) None

-- the first line feed of the `len` bytes from `from` on
unfoldable pub line_end : List ℕ → ℕ → ℕ → Option ℕ
line_end bytes from len = found_in from (take len (drop from bytes))

-- how many bytes of a buffer of n bytes are read and not handed on, and which; a cursor past the buffer is cut to it
abbrev pub pending_length : ℕ → Cursor → ℕ
pending_length n c = min n c.end - c.from

abbrev pub pending_bytes : List ℕ → Cursor → List ℕ
pending_bytes buffer c = take (pending_length (length buffer) c) (drop c.from buffer)

abbrev pub cursor : ℕ → ℕ → Bool → Cursor
cursor from end skipping = record { from = from; end = end; skipping = skipping }

-- a line feed ends the line, or the one that did not fit
abbrev pub next_at : Cursor → Option ℕ → Next
next_at c (Some place) =
    let rest = cursor (place + 1) c.end false in
    cond c.skipping (Long rest) (Line c.from (place - c.from) rest)
next_at c None = More

unfoldable pub next_of : List ℕ → Cursor → Next
next_of buffer c = next_at c (line_end buffer c.from (pending_length (length buffer) c))

-- the line lies in the buffer of n bytes, and what is left starts behind it
abbrev pub NextWithin : Cursor → Next → ℕ → Type 0
NextWithin c (Line from len rest) n = (from + len ≤ n) × (c.from < rest.from) × (rest.from ≤ n)
NextWithin c (Long rest) n = (c.from < rest.from) × (rest.from ≤ n)
NextWithin c More n = Unit {0}

-- whether what is left is dropped
abbrev pub drops : List ℕ → Cursor → Bool
drops buffer c = c.skipping || eqb (pending_length (length buffer) c) (length buffer)

unfoldable pub kept_cursor : List ℕ → Cursor → Cursor
kept_cursor buffer c = cond (drops buffer c) (cursor 0 0 true) (cursor 0 (pending_length (length buffer) c) false)

unfoldable pub kept_bytes : List ℕ → Cursor → List ℕ
kept_bytes buffer c = cond (drops buffer c) buffer (overwrite buffer 0 (pending_bytes buffer c))

-- at the end of the text
unfoldable pub last_of : List ℕ → Cursor → Last
last_of buffer c =
    let n = pending_length (length buffer) c in
    cond c.skipping LastLong (cond (eqb n 0) LastNothing (LastLine c.from n))

abbrev pub LastWithin : Last → ℕ → Type 0
LastWithin (LastLine from len) n = from + len ≤ n
LastWithin LastLong n = Unit {0}
LastWithin LastNothing n = Unit {0}
