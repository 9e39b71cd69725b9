-- The answer lines of the listing.
use Rattle.std.specs.Prelude.{ℕ, ◌+◌, ◌≤◌, cond, List, [], ◌∷◌, map, ltb, length, take, Option, Some, None}
use Rattle.numbers.specs.Bytes.{overwrite}
use Rattle.numbers.specs.Ascii.{ascii}
use Rattle.text.specs.Decimal.{decimal, signed_decimal}
use Rattle.text.specs.Lines.{line}
use Rattle.command.specs.Words.{word_at}
use Rattle.listing.specs.Limits.{line_max}
use Rattle.listing.specs.declared.Results.{Results}
use Rattle.listing.specs.declared.Results.TheVariants.{Empty, Absent, One, Two, Three, Payloads}
use Rattle.listing.specs.declared.Reply.{Reply}
use Rattle.listing.specs.declared.Reply.TheVariants.{Unknown, Answered}

-- "`-` is none"
abbrev pub none : List ℕ
none = ascii "-"

-- "0 or refusal"; "A line that is no command gets `?`, `-` and the two lengths."
abbrev pub number_field : Reply → List ℕ
number_field Unknown = none
number_field (Answered number results) = decimal number

abbrev pub results_of : Reply → Results
results_of Unknown = Empty
results_of (Answered number results) = results

-- "read: payloads"; "`-` stands for .. a read without payloads"
abbrev pub payload_fields : List ℕ → List (List ℕ)
payload_fields [] = none ∷ []
payload_fields (x ∷ xs) = map decimal (x ∷ xs)

abbrev pub result_fields : Results → List ℕ → List (List ℕ)
result_fields Empty payloads = []
result_fields Absent payloads = none ∷ []
result_fields (One a) payloads = signed_decimal a ∷ []
result_fields (Two a b) payloads = signed_decimal a ∷ signed_decimal b ∷ []
result_fields (Three a b c) payloads = signed_decimal a ∷ signed_decimal b ∷ signed_decimal c ∷ []
result_fields (Payloads count) payloads = payload_fields (take count payloads)

-- "each output line is the word, 0 or refusal, log length, flushed length, results"; "Parted by tabs"
unfoldable pub reply_line : ℕ → Reply → ℕ → ℕ → List ℕ → List ℕ
reply_line row reply log flushed payloads =
    line (word_at row) (number_field reply ∷ decimal log ∷ decimal flushed ∷ result_fields (results_of reply) payloads)

-- the answer of the function, and the buffer; one that does not hold every line with so many payloads is left as it was
unfoldable pub render_answer : ℕ → Reply → ℕ → ℕ → List ℕ → List ℕ → ℕ → Option ℕ
render_answer row reply log flushed payloads out at =
    cond (ltb (length out) (at + line_max (length payloads))) None (Some (at + length (reply_line row reply log flushed payloads)))

unfoldable pub render_bytes : ℕ → Reply → ℕ → ℕ → List ℕ → List ℕ → ℕ → List ℕ
render_bytes row reply log flushed payloads out at =
    cond (ltb (length out) (at + line_max (length payloads))) out (overwrite out at (reply_line row reply log flushed payloads))

-- the line lies in a buffer of n bytes
abbrev pub Within : Option ℕ → ℕ → Type 0
Within (Some next) n = next ≤ n
Within None n = Unit {0}
