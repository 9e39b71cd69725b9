-- What a catalogue's text is, line by line, apart from how it is read.
use Rattle.std.specs.Prelude.{ℕ, ◌+◌, ◌≤◌, ◌<◌, ◌≡◌, true, List, [], ◌∷◌, ◌++◌, length, get_or}
use Rattle.catalogue.specs.Limits.{topics_max, topic_name_max, partitions_max}
use Rattle.catalogue.specs.declared.Catalogue.{Catalogue}
use Rattle.catalogue.specs.Catalogue.{blank, with_topic, name_byte, tab, digit, line_feed}

-- a line: a topic name and its partitions
pub record TopicLine : Type 0 where
  pub name : List ℕ
  pub partitions : ℕ

abbrev pub no_line : TopicLine
no_line = record { name = []; partitions = 0 }

-- "a topic name, a tab, one digit 1 to 8 (its partitions) and LF"
abbrev pub line_text : TopicLine → List ℕ
line_text l = l.name ++ (tab ∷ digit l.partitions ∷ line_feed ∷ [])

unfoldable pub text_of : List TopicLine → List ℕ
text_of [] = []
text_of (l ∷ ls) = line_text l ++ text_of ls

-- "Names: 1 to 16 bytes of letters, digits, `.`, `_`, `-`"; "one digit 1 to 8"
pub record GoodLine (l : TopicLine) : Type 0 where
  pub named : 1 ≤ length l.name
  pub short : length l.name ≤ topic_name_max
  pub bytes : (i : ℕ) → i < length l.name → name_byte (get_or l.name i 0) ≡ true
  pub some : 1 ≤ l.partitions
  pub few : l.partitions ≤ partitions_max

-- the catalogue of lines, the first as topic t
unfoldable pub with_lines : Catalogue → ℕ → List TopicLine → Catalogue
with_lines c t [] = c
with_lines c t (l ∷ ls) = with_lines (with_topic c t l.name l.partitions) (t + 1) ls

-- the text is the rendering of the catalogue
pub record Renders (text : List ℕ) (c : Catalogue) : Type 0 where
  pub lines : List TopicLine
  pub some : 1 ≤ length lines
  pub few : length lines ≤ topics_max
  pub good : (i : ℕ) → i < length lines → GoodLine (get_or lines i no_line)
  pub different : (i j : ℕ) → i < j → j < length lines → (get_or lines i no_line).name ≡ (get_or lines j no_line).name → ⊥
  pub written : text ≡ text_of lines
  pub held : c ≡ with_lines blank 0 lines
