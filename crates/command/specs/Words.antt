-- The words of the commands.
use Rattle.std.specs.Prelude.{ℕ, List, [], ◌∷◌, get_or}
use Rattle.numbers.specs.Bytes.{same}
use Rattle.search.specs.Search.{first_where}
use Rattle.numbers.specs.Ascii.{ascii}

-- the words of document 01's listing, `tick`, and `left` of request 11 of document 02
abbrev pub words : List (List ℕ)
words =
    ascii "init" ∷ ascii "add" ∷ ascii "end" ∷ ascii "tick" ∷ ascii "flush" ∷ ascii "put" ∷ ascii "carry" ∷ ascii "read" ∷ ascii "cut" ∷ ascii "left" ∷ []

-- the word of a line that is no command
abbrev pub unknown : List ℕ
unknown = ascii "?"

-- the row of the command with this word, and the row behind the last command if there is none
abbrev pub row_of : List ℕ → ℕ
row_of run = first_where (same run) words

-- the word of a row: "each output line is the word, .."
abbrev pub word_at : ℕ → List ℕ
word_at row = get_or words row unknown
