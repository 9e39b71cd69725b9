-- The answer line of a command: document 01, Listing, and docs/DECISIONS.md, The listing.
use Rattle.std.specs.Prelude.{ℕ, Bool, true, false, cond, List, [], ◌∷◌, map, eqb, ltb, ℤ}
use Rattle.text.specs.Decimal.{decimal, signed_decimal}
use Rattle.text.specs.Lines.{line}
use Rattle.answers.specs.Answers.{Reply}
use Rattle.coordinator.specs.Coordinator.{log_end}
use Rattle.command.specs.declared.Command.{Command}
use Rattle.command.specs.declared.Command.TheVariants.{Init, Add, End, Tick, Flush, Put, Carry, Read, Cut, Left, Unknown}
use Rattle.command.specs.Limits.{commands}
use Rattle.command.specs.Command.{row_of_command}
use Rattle.command.specs.Words.{word_at}
use Rattle.listing.specs.Listing.{none}
use Rattle.session.specs.Commands.{Outcome}

-- the word of any other line is `?`
abbrev pub is_command : Command → Bool
is_command command = ltb (row_of_command command) commands

-- "`-` stands for a carry without an order, a read without payloads and ABORTING", and for a tick by which nothing is due
abbrev pub shows_none : Command → Bool
shows_none (Init name timeout time) = true
shows_none (Add name pid epoch set time) = false
shows_none (End name pid epoch verdict time) = false
shows_none (Tick time) = true
shows_none Flush = false
shows_none (Put name pid epoch position sequence payload) = false
shows_none (Carry up) = true
shows_none (Read position) = true
shows_none (Cut kept) = false
shows_none (Left place) = false
shows_none Unknown = false

-- the results of an accepted command; `dash` says whether `-` stands where there is none
abbrev pub results_shown : Bool → List ℤ → List (List ℕ)
results_shown dash [] = cond dash (none ∷ []) []
results_shown dash (x ∷ xs) = map signed_decimal (x ∷ xs)

-- "A refused call has no results."
abbrev pub results_of : Bool → Reply → List (List ℕ)
results_of dash reply = cond (eqb reply.number 0) (results_shown dash reply.results) []

-- "0 or refusal, log length, flushed length, results"; "A line that is no command gets `?`, `-` and the two lengths."
abbrev pub fields_shown : Bool → Bool → Reply → ℕ → ℕ → List (List ℕ)
fields_shown known dash reply length flushed =
    cond known (decimal reply.number ∷ decimal length ∷ decimal flushed ∷ results_of dash reply) (none ∷ decimal length ∷ decimal flushed ∷ [])

-- "each output line is the word, 0 or refusal, log length, flushed length, results"; "Parted by tabs": the lengths are those after the command
abbrev pub line_shown : Command → Reply → ℕ → ℕ → List ℕ
line_shown command reply length flushed = line (word_at (row_of_command command)) (fields_shown (is_command command) (shows_none command) reply length flushed)

unfoldable pub answer_line : Command → Outcome → List ℕ
answer_line command o =
    let c = o.memory.session.coordinator in line_shown command o.reply (log_end c) c.flushed
