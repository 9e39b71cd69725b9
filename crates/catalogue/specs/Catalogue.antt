-- A catalogue, and the catalogue that a text gives.
use Rattle.std.specs.Prelude.{ℕ, zero, suc, ◌+◌, ◌-◌, ◌*◌, ◌/◌, ◌%◌, ◌^◌, ◌<◌, ◌≡◌, Bool, true, cond, not, ◌&&◌, ◌||◌, Option, Some, None, List, [], ◌∷◌, eqb, leb, length, get_or, take, drop, replicate}
use Rattle.numbers.specs.Bytes.{overwrite, same}
use Rattle.numbers.specs.Padded.{until_zero}
use Rattle.answers.specs.Numbers.{invalid_catalogue}
use Rattle.catalogue.specs.Limits.{topics_max, topic_name_max, partitions_max}
use Rattle.catalogue.specs.declared.Catalogue.{Catalogue}
use Rattle.catalogue.specs.declared.Line.{Line}

-- ---- what a catalogue holds

-- the catalogue of these names and positions
abbrev pub catalogue_of : List ℕ → ℕ → Catalogue
catalogue_of names all = record { names = names; all = all }

-- the sixteen bytes of topic t's name, padded with zeros
abbrev pub name_field : Catalogue → ℕ → List ℕ
name_field c t = take topic_name_max (drop (topic_name_max * t) c.names)

-- topic t's name
abbrev pub topic_name : Catalogue → ℕ → List ℕ
topic_name c t = until_zero (name_field c t)

-- "Partition p of the t-th topic (both from 0) has position 8×t+p"
abbrev pub position : ℕ → ℕ → ℕ
position t p = partitions_max * t + p

-- the partitions of topic t in a set of positions, as a set of numbers from 0
abbrev pub partitions_in : ℕ → ℕ → ℕ
partitions_in set t = set / 2 ^ (partitions_max * t) % 2 ^ partitions_max

-- topics that have partitions have different names
abbrev pub Distinct : Catalogue → Type 0
Distinct c = (t u : ℕ) → t < u → u < topics_max → 0 < partitions_in c.all t → 0 < partitions_in c.all u → topic_name c t ≡ topic_name c u → ⊥

-- the catalogue with no topic
abbrev pub blank : Catalogue
blank = record { names = replicate (topics_max * topic_name_max) 0; all = 0 }

-- the catalogue with topic t under a name, with so many partitions
abbrev pub with_topic : Catalogue → ℕ → List ℕ → ℕ → Catalogue
with_topic c t name partitions =
    record { names = overwrite c.names (topic_name_max * t) name; all = c.all + (2 ^ partitions - 1) * 2 ^ (partitions_max * t) }

-- ---- reading a text

abbrev pub tab : ℕ
tab = 9

abbrev pub line_feed : ℕ
line_feed = 10

-- the digit of a number below 10
abbrev pub digit : ℕ → ℕ
digit n = 48 + n

-- low ≤ b ≤ high
abbrev pub between : ℕ → ℕ → ℕ → Bool
between low high b = leb low b && leb b high

-- "letters, digits, `.`, `_`, `-`": a to z, A to Z, 0 to 9, and the three signs in that order
unfoldable pub name_byte : ℕ → Bool
name_byte b = between 97 122 b || between 65 90 b || between 48 57 b || eqb b 46 || eqb b 95 || eqb b 45

-- the name bytes that a list starts with
unfoldable pub name_run : List ℕ → List ℕ
name_run [] = []
name_run (b ∷ s) = cond (name_byte b) (b ∷ name_run s) []

-- the byte behind the name and the tab
abbrev pub digit_at : List ℕ → ℕ
digit_at s = get_or s (length (name_run s) + 1) 0

-- "each a topic name, a tab, one digit 1 to 8 (its partitions) and LF": the list starts with such a line
unfoldable pub is_line : List ℕ → Bool
is_line s =
    between 1 topic_name_max (length (name_run s))
    && eqb (get_or s (length (name_run s)) 0) tab
    && between (digit 1) (digit partitions_max) (digit_at s)
    && eqb (get_or s (length (name_run s) + 2) 0) line_feed

-- the line that a list starts with, as its name's length and its partitions
unfoldable pub line_at : List ℕ → Option Line
line_at s = cond (is_line s) (Some (record { name = length (name_run s); partitions = digit_at s - digit 0 })) None

-- the catalogue with the line that the list starts with as topic t, and what follows the line
abbrev pub with_line : Catalogue → ℕ → List ℕ → Catalogue
with_line c t s = with_topic c t (name_run s) (digit_at s - digit 0)

abbrev pub after_line : List ℕ → List ℕ
after_line s = drop (length (name_run s) + 3) s

-- "all different": no topic below u has the name of topic t
unfoldable pub is_new : Catalogue → ℕ → ℕ → Bool
is_new c t zero = true
is_new c t (suc u) = is_new c t u && not (same (name_field c u) (name_field c t))

-- refusal 0 with the catalogue, or 5 with a blank one
pub record Parsed : Type 0 where
  pub refusal : ℕ
  pub catalogue : Catalogue

-- the answer to a text that gives a catalogue
abbrev pub accepted : Catalogue → Parsed
accepted c = record { refusal = 0; catalogue = c }

-- refusal 5: "catalogue"
abbrev pub refused : Parsed
refused = record { refusal = invalid_catalogue; catalogue = blank }

-- the answer that goes with the catalogue of a text, or with none
abbrev pub parsed_of : Option Catalogue → Parsed
parsed_of None = refused
parsed_of (Some c) = accepted c

-- the lines of a text, of which t were read and at most k more may come
unfoldable pub lines : ℕ → ℕ → Catalogue → List ℕ → Parsed
lines zero t c [] = accepted c
lines zero t c (b ∷ s) = refused
lines (suc k) t c [] = accepted c
lines (suc k) t c (b ∷ s) =
    cond (is_line (b ∷ s) && is_new (with_line c t (b ∷ s)) t t) (lines k (t + 1) (with_line c t (b ∷ s)) (after_line (b ∷ s))) refused

-- "1 to 8 lines"
unfoldable pub parse : List ℕ → Parsed
parse [] = refused
parse (b ∷ s) = lines topics_max 0 blank (b ∷ s)
