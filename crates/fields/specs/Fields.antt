-- The fields of a line.
use Rattle.std.specs.Prelude.{ℕ, ◌+◌, min, ◌≡◌, Bool, cond, ◌||◌, List, [], ◌∷◌, eqb, ltb, length, get_or, take, drop}
use Prim.Native.Char.{code}
use Rattle.fields.specs.Limits.{fields_max}
use Rattle.fields.specs.declared.Part.{Part}
use Rattle.fields.specs.declared.Parts.{Parts}

-- whether a byte parts two fields
abbrev pub separates : ℕ → Bool
separates b = eqb b (code "\t") || eqb b (code " ")

-- a part of a line
abbrev pub part : ℕ → ℕ → Part
part from len = record { from = from; len = len }

abbrev pub blank : Part
blank = part 0 0

-- the fields of what is left of a line; the first of them starts at `from`, and `len` bytes of it are passed
unfoldable pub fields_from : ℕ → ℕ → List ℕ → List Part
fields_from from len [] = part from len ∷ []
fields_from from len (b ∷ s) = cond (separates b) (part from len ∷ fields_from (from + len + 1) 0 s) (fields_from from (len + 1) s)

-- "Fields of a command are parted by one tab or one space": between two in a row stands an empty field
unfoldable pub fields_of : List ℕ → List Part
fields_of line = fields_from 0 0 line

-- how many fields a line has
abbrev pub count : List ℕ → ℕ
count line = length (fields_of line)

-- field k, where the word is field 0
abbrev pub part_at : List ℕ → ℕ → Part
part_at line k = get_or (fields_of line) k blank

-- the bytes of a part
abbrev pub bytes_of : List ℕ → Part → List ℕ
bytes_of line p = take p.len (drop p.from line)

-- the bytes of field k
abbrev pub field : List ℕ → ℕ → List ℕ
field line k = bytes_of line (part_at line k)

-- what an array holds of the fields of a line: all, or the first seven
abbrev pub SplitInto : List ℕ → List Part → ℕ → Type 0
SplitInto line parts n = (n ≡ min (count line) (fields_max + 1)) × (take n parts ≡ take fields_max (fields_of line))

-- where field k stands among the fields that are kept, and its bytes: an empty part past the last, and past the seventh
abbrev pub part_in : List ℕ → ℕ → Part
part_in line k = cond (ltb k fields_max) (part_at line k) blank

abbrev pub field_in : List ℕ → ℕ → List ℕ
field_in line k = bytes_of line (part_in line k)

-- where field k stands by any array of parts, and its bytes in any line: an empty part past the count, and past the seventh
abbrev pub part_by : Parts → ℕ → Part
part_by f k = get_or (take fields_max (take f.count f.parts)) k blank

abbrev pub field_by : List ℕ → Parts → ℕ → List ℕ
field_by line f k = bytes_of line (part_by f k)
