-- The word that is written back is the word that was read.
use Prim.Native.Nat.{ℕ, ◌<◌}
use mathlib.Core.Path.{◌≡◌, refl, sym, ap, ◌∙◌}
use mathlib.Core.Bool.{Bool, true, false, cond}
use mathlib.Core.List.{List}
use Rattle.std.specs.Prelude.{Option, None, Some}
use native.Mathlib.Nat.{zero-add}
use borrow.Author.Tests.{ltb-true, ltb-false}
use lib.Dec.{eqb, ltb}
use lib.IntN.{ℤ}
use lib.ListN.{length, get_or-eq_default}
use mir.Syntax.{w16, w32, w64}
use Rattle.numbers.specs.Signed.{to_nat}
use Rattle.numbers.specs.Bytes.{same}
use Rattle.fields.specs.Numbers.{signed, unsigned}
use Rattle.numbers.proofs.Bytes.{same_true}
use Rattle.search.specs.Search.{EachAt}
use Rattle.search.proofs.Laws.{first_found}
use Rattle.fields.specs.Fields.{count, part_at, field}
use Rattle.command.specs.Words.{words, unknown, row_of, word_at}
use Rattle.command.specs.Command.{given, of_fields, int16, int32, int64, uint64, init_of, add_of, end_of, tick_of, flush_of, put_of, carry_of, read_of, cut_of, left_of, commands_of, command_at, command_of, row_of_command}
use Rattle.command.specs.declared.Command.{Command}
use Rattle.command.specs.declared.Command.TheVariants.{Init, Add, End, Tick, Flush, Put, Carry, Read, Cut, Left, Unknown}
use Rattle.command.proofs.Rows.{each-place}

-- a command of this row, or none
abbrev OfRow : ℕ → Command → Type 0
OfRow k c = (c ≡ Unknown → ⊥) → row_of_command c ≡ k

given-row : (k : ℕ) (o : Option ℤ) (f : ℤ → Command) → ((z : ℤ) → OfRow k (f z)) → OfRow k (given o f)
given-row k None f h d = absurd (d refl)
given-row k (Some z) f h d = h z d

fields-row : (k n : ℕ) (line : List ℕ) (c : Command) → OfRow k c → OfRow k (of_fields n line c)
fields-row k n line c h = go (eqb (count line) n)
  where
    go : (b : Bool) → OfRow k (cond b c Unknown)
    go true d = h d
    go false d = absurd (d refl)

init-row : (line : List ℕ) → OfRow 0 (init_of line)
unfolding init_of
init-row line = fields-row 0 4 line (int32 line 2 (λ timeout. int64 line 3 (λ time. Init (part_at line 1) timeout time))) (given-row 0 (signed w32 (field line 2)) (λ (timeout : ℤ). int64 line 3 (λ time. Init (part_at line 1) timeout time)) (λ timeout. given-row 0 (signed w64 (field line 3)) (λ (time : ℤ). Init (part_at line 1) timeout time) (λ time d. refl)))

add_row_lem : (line : List ℕ) → OfRow 1 (add_of line)
unfolding add_of
add_row_lem line = fields-row 1 6 line (int64 line 2 (λ pid. int16 line 3 (λ epoch. uint64 line 4 (λ value. int64 line 5 (λ time. Add (part_at line 1) pid epoch value time))))) (given-row 1 (signed w64 (field line 2)) (λ (pid : ℤ). int16 line 3 (λ epoch. uint64 line 4 (λ value. int64 line 5 (λ time. Add (part_at line 1) pid epoch value time)))) (λ pid. given-row 1 (signed w16 (field line 3)) (λ (epoch : ℤ). uint64 line 4 (λ value. int64 line 5 (λ time. Add (part_at line 1) pid epoch value time))) (λ epoch. given-row 1 (unsigned (field line 4)) (λ (value : ℤ). int64 line 5 (λ time. Add (part_at line 1) pid epoch (to_nat value) time)) (λ value. given-row 1 (signed w64 (field line 5)) (λ (time : ℤ). Add (part_at line 1) pid epoch (to_nat value) time) (λ time d. refl)))))

end_row : (line : List ℕ) → OfRow 2 (end_of line)
unfolding end_of
end_row line = fields-row 2 6 line (int64 line 2 (λ pid. int16 line 3 (λ epoch. uint64 line 4 (λ value. int64 line 5 (λ time. End (part_at line 1) pid epoch value time))))) (given-row 2 (signed w64 (field line 2)) (λ (pid : ℤ). int16 line 3 (λ epoch. uint64 line 4 (λ value. int64 line 5 (λ time. End (part_at line 1) pid epoch value time)))) (λ pid. given-row 2 (signed w16 (field line 3)) (λ (epoch : ℤ). uint64 line 4 (λ value. int64 line 5 (λ time. End (part_at line 1) pid epoch value time))) (λ epoch. given-row 2 (unsigned (field line 4)) (λ (value : ℤ). int64 line 5 (λ time. End (part_at line 1) pid epoch (to_nat value) time)) (λ value. given-row 2 (signed w64 (field line 5)) (λ (time : ℤ). End (part_at line 1) pid epoch (to_nat value) time) (λ time d. refl)))))

tick-row : (line : List ℕ) → OfRow 3 (tick_of line)
unfolding tick_of
tick-row line = fields-row 3 2 line (int64 line 1 (λ time. Tick time)) (given-row 3 (signed w64 (field line 1)) (λ (time : ℤ). Tick time) (λ time d. refl))

flush-row : (line : List ℕ) → OfRow 4 (flush_of line)
unfolding flush_of
flush-row line = fields-row 4 1 line (Flush) ((λ d. refl))

put-row : (line : List ℕ) → OfRow 5 (put_of line)
unfolding put_of
put-row line = fields-row 5 7 line (int64 line 2 (λ pid. int16 line 3 (λ epoch. uint64 line 4 (λ position. int32 line 5 (λ sequence. uint64 line 6 (λ payload. Put (part_at line 1) pid epoch position sequence payload)))))) (given-row 5 (signed w64 (field line 2)) (λ (pid : ℤ). int16 line 3 (λ epoch. uint64 line 4 (λ position. int32 line 5 (λ sequence. uint64 line 6 (λ payload. Put (part_at line 1) pid epoch position sequence payload))))) (λ pid. given-row 5 (signed w16 (field line 3)) (λ (epoch : ℤ). uint64 line 4 (λ position. int32 line 5 (λ sequence. uint64 line 6 (λ payload. Put (part_at line 1) pid epoch position sequence payload)))) (λ epoch. given-row 5 (unsigned (field line 4)) (λ (position : ℤ). int32 line 5 (λ sequence. uint64 line 6 (λ payload. Put (part_at line 1) pid epoch (to_nat position) sequence payload))) (λ position. given-row 5 (signed w32 (field line 5)) (λ (sequence : ℤ). uint64 line 6 (λ payload. Put (part_at line 1) pid epoch (to_nat position) sequence payload)) (λ sequence. given-row 5 (unsigned (field line 6)) (λ (payload : ℤ). Put (part_at line 1) pid epoch (to_nat position) sequence (to_nat payload)) (λ payload d. refl))))))

carry-row : (line : List ℕ) → OfRow 6 (carry_of line)
unfolding carry_of
carry-row line = fields-row 6 2 line (uint64 line 1 (λ up. Carry up)) (given-row 6 (unsigned (field line 1)) (λ (up : ℤ). Carry (to_nat up)) (λ up d. refl))

read-row : (line : List ℕ) → OfRow 7 (read_of line)
unfolding read_of
read-row line = fields-row 7 2 line (uint64 line 1 (λ position. Read position)) (given-row 7 (unsigned (field line 1)) (λ (position : ℤ). Read (to_nat position)) (λ position d. refl))

cut-row : (line : List ℕ) → OfRow 8 (cut_of line)
unfolding cut_of
cut-row line = fields-row 8 2 line (uint64 line 1 (λ kept. Cut kept)) (given-row 8 (unsigned (field line 1)) (λ (kept : ℤ). Cut (to_nat kept)) (λ kept d. refl))

left-row : (line : List ℕ) → OfRow 9 (left_of line)
unfolding left_of
left-row line = fields-row 9 2 line (uint64 line 1 (λ place. Left place)) (given-row 9 (unsigned (field line 1)) (λ (place : ℤ). Left (to_nat place)) (λ place d. refl))

every-row : (line : List ℕ) → EachAt OfRow 0 (commands_of line)
every-row line =
    (init-row line, (add_row_lem line, (end_row line, (tick-row line, (flush-row line, (put-row line, (carry-row line, (read-row line, (cut-row line, (left-row line, tt))))))))))

row_back : (row : ℕ) (line : List ℕ) → (command_at row line ≡ Unknown → ⊥) → (row < length words) × (row_of_command (command_at row line) ≡ row)
unfolding command_at
row_back row line d = go (ltb row (length words)) refl
  where
    go : (b : Bool) → ltb row (length words) ≡ b → (row < length words) × (row_of_command (command_at row line) ≡ row)
    go true e =
        let h : row < length words = ltb-true row (length words) e in
        (h, each-place OfRow 0 (commands_of line) Unknown row (every-row line) h d ∙ zero-add row)
    go false e = absurd (d (get_or-eq_default (commands_of line) Unknown {n = row} (ltb-false row (length words) e)))

-- "writes the same words back": of every line that is a command the answer starts with its own first field
pub same_word : (line : List ℕ) → (command_of line ≡ Unknown → ⊥) → word_at (row_of_command (command_of line)) ≡ field line 0
unfolding command_of
same_word line d =
    let r = row_back (row_of (field line 0)) line d in
    ap word_at r.1 ∙ sym (same_true (field line 0) (word_at (row_of (field line 0))) (first_found (same (field line 0)) words unknown r.0))
