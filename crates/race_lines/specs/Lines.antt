-- The lines of the program `rigrace`: what a line asks, and the line that answers it.
use Rattle.std.specs.Prelude.{ℕ, cond, ◌&&◌, List, [], ◌∷◌, eqb, ltb, ℤ, length, Option, None, Some}
use Rattle.numbers.specs.Ascii.{ascii}
use Rattle.numbers.specs.Bytes.{overwrite, same}
use Rattle.numbers.specs.Signed.{to_nat}
use Rattle.text.specs.Decimal.{decimal}
use Rattle.text.specs.Lines.{line}
use Rattle.fields.specs.Fields.{count, field}
use Rattle.fields.specs.Numbers.{unsigned}
use Rattle.race.specs.declared.Board.{Board}
use Rattle.race.specs.Search.{RaceAnswer, Forced, NotForced, Refused, race_answer}
use Rattle.race_lines.specs.Limits.{answer_max}

abbrev pub race_word : List ℕ
race_word = ascii "race"

-- ---- what a line asks

-- what a number makes of a line; a field that writes none makes it no request
abbrev pub given : Option ℤ → (ℕ → Option Board) → Option Board
given None f = None
given (Some z) f = f (to_nat z)

-- field k as a number of 64 bits
abbrev pub number : List ℕ → ℕ → (ℕ → Option Board) → Option Board
number text k f = given (unsigned (field text k)) f

-- the four numbers behind the word
abbrev pub board_of : List ℕ → Option Board
board_of text =
    number text 1 (λ partitions. number text 2 (λ timeout. number text 3 (λ rounds. number text 4 (λ blocks.
    Some (record { partitions = partitions; timeout = timeout; rounds = rounds; blocks = blocks })))))

-- the board whose winner a line asks for, or nothing that this program knows. `race N T R B`: partitions, rounds until the timeout, rounds, blocks; the fields are parted as those of `rigrun` are
unfoldable pub request_of : List ℕ → Option Board
request_of text = cond (eqb (count text) 5 && same (field text 0) race_word) (board_of text) None

-- ---- the line that answers it

-- 0 with 1 for yes and 0 for no, or the number of the refusal
abbrev pub answer_fields : RaceAnswer → List (List ℕ)
answer_fields Forced = decimal 0 ∷ decimal 1 ∷ []
answer_fields NotForced = decimal 0 ∷ decimal 0 ∷ []
answer_fields (Refused number) = decimal number ∷ []

-- the word, 0 or the refusal, and the result, parted by tabs; a line that asks nothing gets `?` and `-`, as in `rigrun`
abbrev pub answer_line : Option Board → List ℕ
answer_line (Some board) = line race_word (answer_fields (race_answer board))
answer_line None = line (ascii "?") (ascii "-" ∷ [])

-- any bytes are a line
unfoldable pub reply_line : List ℕ → List ℕ
reply_line text = answer_line (request_of text)

-- the same in a lent buffer: how many bytes were written, and the buffer; one that does not hold every answer is left as it was
unfoldable pub written : List ℕ → List ℕ → Option ℕ
written text out = cond (ltb (length out) answer_max) None (Some (length (reply_line text)))

unfoldable pub bytes_after : List ℕ → List ℕ → List ℕ
bytes_after text out = cond (ltb (length out) answer_max) out (overwrite out 0 (reply_line text))
