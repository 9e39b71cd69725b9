-- The lines of a text, and what a reader makes of a text that it reads by parts.
use Rattle.std.specs.Prelude.{ℕ, ◌<◌, ◌≡◌, Bool, true, false, cond, ◌||◌, List, [], ◌∷◌, ◌++◌, map, eqb, ltb, leb, length}
use Prim.Native.Char.{code}

-- whether a byte ends a line
abbrev pub is_line_feed : ℕ → Bool
is_line_feed b = eqb b (code "\n")

-- ---- the lines of a text

-- a line that has started, and the text behind it; a last line needs no line feed
unfoldable pub lines_from : List ℕ → List ℕ → List (List ℕ)
lines_from line [] = cond (eqb (length line) 0) [] (line ∷ [])
lines_from line (b ∷ s) = cond (is_line_feed b) (line ∷ lines_from [] s) (lines_from (line ++ (b ∷ [])) s)

unfoldable pub lines_of : List ℕ → List (List ℕ)
lines_of text = lines_from [] text

-- a line as a reader hands it on: its bytes, or that it did not fit
pub data Line : Type 0 where
  whole : List ℕ → Line
  long : Line

-- a line fits a buffer that has room for it and a line feed
abbrev pub shown : ℕ → List ℕ → Line
shown room line = cond (ltb (length line) room) (whole line) long

-- ---- a reader with a buffer of so many bytes

-- what is read and not handed on: the start of a line, or, while skipping, a part of a line that did not fit
pub record Pending : Type 0 where
  pub bytes : List ℕ
  pub skipping : Bool

abbrev pub pending : List ℕ → Bool → Pending
pending bytes skipping = record { bytes = bytes; skipping = skipping }

-- a line that has ended
abbrev pub ended : ℕ → Bool → List ℕ → Line
ended room skipping line = cond skipping long (shown room line)

-- the lines that end in what is read, where a line has started; and what is left then
unfoldable pub lines_in : ℕ → Bool → List ℕ → List ℕ → List Line
lines_in room skipping line [] = []
lines_in room skipping line (b ∷ s) = cond (is_line_feed b) (ended room skipping line ∷ lines_in room false [] s) (lines_in room skipping (line ++ (b ∷ [])) s)

unfoldable pub rest_in : Bool → List ℕ → List ℕ → Pending
rest_in skipping line [] = pending line skipping
rest_in skipping line (b ∷ s) = cond (is_line_feed b) (rest_in false [] s) (rest_in skipping (line ++ (b ∷ [])) s)

-- before more is read: a line that fills the buffer, or goes on one that did, is dropped
abbrev pub kept : ℕ → Pending → Pending
kept room p = cond (p.skipping || leb room (length p.bytes)) (pending [] true) p

-- at the end of the text
abbrev pub last_lines : ℕ → Pending → List Line
last_lines room p = cond p.skipping (long ∷ []) (cond (eqb (length p.bytes) 0) [] (shown room p.bytes ∷ []))

-- the lines that a reader hands on of a text that comes by parts
unfoldable pub read_parts : ℕ → Pending → List (List ℕ) → List Line
read_parts room p [] = last_lines room (kept room p)
read_parts room p (part ∷ parts) =
    let q = kept room p in
    let s = q.bytes ++ part in
    lines_in room q.skipping [] s ++ read_parts room (rest_in q.skipping [] s) parts

-- the parts of a text, one behind the other
unfoldable pub joined : List (List ℕ) → List ℕ
joined [] = []
joined (part ∷ parts) = part ++ joined parts

-- a text that is read by parts, of any sizes, has the lines that it has as a whole: none is lost and no two are joined at the edge of a part,
-- one that does not fit is `long`, the next one is read rightly, and a last one needs no line feed
abbrev pub SameLines : Type 0
SameLines = (room : ℕ) (parts : List (List ℕ)) → 0 < room → read_parts room (pending [] false) parts ≡ map (shown room) (lines_of (joined parts))
