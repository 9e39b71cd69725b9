-- The command that a line is.
use Rattle.std.specs.Prelude.{ℕ, ◌≡◌, cond, List, [], ◌∷◌, eqb, ℤ, get_or, Option, Some, None}
use Rattle.std.specs.Int.{w16, w32, w64}
use Rattle.numbers.specs.Signed.{to_nat}
use Rattle.fields.specs.Fields.{count, part_at, field}
use Rattle.fields.specs.Numbers.{signed, unsigned}
use Rattle.command.specs.Words.{row_of}
use Rattle.command.specs.declared.Change.{Change}
use Rattle.command.specs.declared.Command.{Command}
use Rattle.command.specs.declared.Command.TheVariants.{Init, Add, End, Tick, Flush, Put, Carry, Read, Cut, Left, Unknown}

-- what a number makes a command of; a field that writes none makes the line no command
abbrev pub given : Option ℤ → (ℤ → Command) → Command
given None f = Unknown
given (Some z) f = f z

-- field k as a number of a type
abbrev pub int16 : List ℕ → ℕ → (ℤ → Command) → Command
int16 line k f = given (signed w16 (field line k)) f

abbrev pub int32 : List ℕ → ℕ → (ℤ → Command) → Command
int32 line k f = given (signed w32 (field line k)) f

abbrev pub int64 : List ℕ → ℕ → (ℤ → Command) → Command
int64 line k f = given (signed w64 (field line k)) f

abbrev pub uint64 : List ℕ → ℕ → (ℕ → Command) → Command
uint64 line k f = given (unsigned (field line k)) (λ z. f (to_nat z))

-- a line of so many fields, its word among them
abbrev pub of_fields : ℕ → List ℕ → Command → Command
of_fields n line c = cond (eqb (count line) n) c Unknown

-- `init NAME TIMEOUT TIME`
unfoldable pub init_of : List ℕ → Command
init_of line = of_fields 4 line (int32 line 2 (λ timeout. int64 line 3 (λ time. Init (part_at line 1) timeout time)))

-- Add and End have the same fields
abbrev pub change_of : List ℕ → (ℤ → ℤ → ℕ → ℤ → Command) → Command
change_of line f = of_fields 6 line (int64 line 2 (λ pid. int16 line 3 (λ epoch. uint64 line 4 (λ value. int64 line 5 (λ time. f pid epoch value time)))))

-- `add NAME PID EPOCH SET TIME`
unfoldable pub add_of : List ℕ → Command
add_of line = change_of line (λ pid epoch set time. Add (part_at line 1) pid epoch set time)

-- `end NAME PID EPOCH VERDICT TIME`
unfoldable pub end_of : List ℕ → Command
end_of line = change_of line (λ pid epoch verdict time. End (part_at line 1) pid epoch verdict time)

-- `tick TIME`
unfoldable pub tick_of : List ℕ → Command
tick_of line = of_fields 2 line (int64 line 1 (λ time. Tick time))

-- `flush`
unfoldable pub flush_of : List ℕ → Command
flush_of line = of_fields 1 line Flush

-- `put NAME PID EPOCH POSITION SEQUENCE PAYLOAD`
unfoldable pub put_of : List ℕ → Command
put_of line =
    of_fields 7 line
    (int64 line 2 (λ pid. int16 line 3 (λ epoch. uint64 line 4 (λ position. int32 line 5 (λ sequence. uint64 line 6 (λ payload.
    Put (part_at line 1) pid epoch position sequence payload))))))

-- "carry: the set that is up"
unfoldable pub carry_of : List ℕ → Command
carry_of line = of_fields 2 line (uint64 line 1 (λ up. Carry up))

-- "read: a position"
unfoldable pub read_of : List ℕ → Command
read_of line = of_fields 2 line (uint64 line 1 (λ position. Read position))

-- "`cut k`"
unfoldable pub cut_of : List ℕ → Command
cut_of line = of_fields 2 line (uint64 line 1 (λ kept. Cut kept))

-- `left PLACE`
unfoldable pub left_of : List ℕ → Command
left_of line = of_fields 2 line (uint64 line 1 (λ place. Left place))

-- a line under each word, in the order of the table
abbrev pub commands_of : List ℕ → List Command
commands_of line = init_of line ∷ add_of line ∷ end_of line ∷ tick_of line ∷ flush_of line ∷ put_of line ∷ carry_of line ∷ read_of line ∷ cut_of line ∷ left_of line ∷ []

-- the command of a line with the word in this row of the table; past it there is none
unfoldable pub command_at : ℕ → List ℕ → Command
command_at row line = get_or (commands_of line) row Unknown

-- the command that a line is
unfoldable pub command_of : List ℕ → Command
command_of line = command_at (row_of (field line 0)) line

-- ---- the same as the code has it: a number that stands alone behind the word, and what the numbers of a change make

abbrev pub one_number : List ℕ → Option ℤ
one_number line = cond (eqb (count line) 2) (unsigned (field line 1)) None

abbrev pub change_made : (ℤ → ℤ → ℕ → ℤ → Command) → Option Change → Command
change_made f (Some c) = f c.pid c.epoch c.value c.time
change_made f None = Unknown

-- the numbers of a change make of every command what the line makes of it
abbrev pub ReadsChange : List ℕ → Option Change → Type 0
ReadsChange line r = (f : ℤ → ℤ → ℕ → ℤ → Command) → change_made f r ≡ change_of line f

-- the row of a command's word
abbrev pub row_of_command : Command → ℕ
row_of_command (Init name timeout time) = 0
row_of_command (Add name pid epoch set time) = 1
row_of_command (End name pid epoch verdict time) = 2
row_of_command (Tick time) = 3
row_of_command Flush = 4
row_of_command (Put name pid epoch position sequence payload) = 5
row_of_command (Carry up) = 6
row_of_command (Read position) = 7
row_of_command (Cut kept) = 8
row_of_command (Left place) = 9
row_of_command Unknown = 10
