-- Every line of bytes is a command with numbers of their types, or none; so every text is a run of demand 3.
use Prim.Native.Nat.{ℕ, zero, suc, ◌^◌, ◌-◌}
use mathlib.Core.Path.{◌≡◌, refl}
use mathlib.Core.Bool.{Bool, true, false, cond}
use mathlib.Core.List.{List, [], ◌∷◌, map}
use Rattle.std.specs.Prelude.{Option, None, Some}
use native.Mathlib.Omega.{arith}
use lib.Dec.{eqb}
use lib.IntN.{ℤ, pos, negsuc, neg_ℤ}
use lib.ListN.{get_or}
use mir.Syntax.{Width, w16, w32, w64}
use mir.Val.{hbits}
use borrow.Author.Tests.{leb-true, le-leb, lt-ltb}
use Rattle.numbers.specs.Signed.{in_range, to_nat}
use Rattle.search.specs.Search.{Each}
use Rattle.coordinator.specs.Calls.{is_word}
use Rattle.command.specs.declared.Command.{Command}
use Rattle.command.specs.declared.Command.TheVariants.{Init, Add, End, Tick, Flush, Put, Carry, Read, Cut, Left, Unknown}
use Rattle.fields.specs.Fields.{count, part_at, field}
use Rattle.fields.specs.Numbers.{integer_of, within, signed}
use Rattle.command.specs.Command.{given, int16, int32, int64, uint64, of_fields, change_of, init_of, add_of, end_of, tick_of, flush_of, put_of, carry_of, read_of, cut_of, left_of, commands_of, command_at, command_of}
use Rattle.command.specs.Words.{row_of}
use Rattle.session_runs.specs.Items.{CommandLine, command_typed}
use Rattle.session_runs.specs.SessionRuns.{command_line, EveryTextRuns}
use Rattle.session_runs.proofs.EverySession.{every-session-runs}

-- ---- numbers

module _ (low high : ℤ) (f : ℤ → Command) (h : (z : ℤ) → in_range low high z ≡ true → command_typed (f z) ≡ true) where
  given-typed : (o : Option ℤ) → command_typed (given (within low high o) f) ≡ true
  given-typed None = refl
  given-typed (Some z) = go (in_range low high z) refl
    where
      go : (b : Bool) → in_range low high z ≡ b → command_typed (given (cond b (Some z) None) f) ≡ true
      go true e = h z e
      go false e = refl

module _ (line : List ℕ) (k : ℕ) where
  signed-typed : (w : Width) (f : ℤ → Command) → ((z : ℤ) → in_range (neg_ℤ (pos (2 ^ hbits w))) (pos (2 ^ hbits w - 1)) z ≡ true → command_typed (f z) ≡ true)
      → command_typed (given (signed w (field line k)) f) ≡ true
  signed-typed w f h = given-typed (neg_ℤ (pos (2 ^ hbits w))) (pos (2 ^ hbits w - 1)) f h (integer_of (field line k))

  is_word_lem : (z : ℤ) → in_range (pos 0) (pos (2 ^ 64 - 1)) z ≡ true → is_word (to_nat z) ≡ true
  is_word_lem (pos n) e = lt-ltb n (2 ^ 64) (omega (arith, leb-true n (2 ^ 64 - 1) (rw (le-leb 0 n (omega arith)) at e)))
  is_word_lem (negsuc n) e = refl

  unsigned-typed : (f : ℕ → Command) → ((n : ℕ) → is_word n ≡ true → command_typed (f n) ≡ true) → command_typed (uint64 line k f) ≡ true
  unsigned-typed f h = given-typed (pos 0) (pos (2 ^ 64 - 1)) (λ (z : ℤ). f (to_nat z)) (λ z e. h (to_nat z) (is_word_lem z e)) (integer_of (field line k))

-- ---- commands

module _ (line : List ℕ) where
  fields-typed : (n : ℕ) (c : Command) → command_typed c ≡ true → command_typed (of_fields n line c) ≡ true
  fields-typed n c h = go (eqb (count line) n)
    where
      go : (b : Bool) → command_typed (cond b c Unknown) ≡ true
      go true = h
      go false = refl

  init-typed : command_typed (init_of line) ≡ true
  unfolding init_of
  init-typed =
      fields-typed 4 _ (signed-typed line 2 w32 (λ timeout. int64 line 3 (λ time. Init (part_at line 1) timeout time)) (λ timeout a.
      signed-typed line 3 w64 (λ time. Init (part_at line 1) timeout time) (λ time b. rw (a, b))))

  change-typed : (f : ℤ → ℤ → ℕ → ℤ → Command)
      → ((pid epoch : ℤ) (value : ℕ) (time : ℤ) → in_range (neg_ℤ (pos (2 ^ 63))) (pos (2 ^ 63 - 1)) pid ≡ true → in_range (neg_ℤ (pos (2 ^ 15))) (pos (2 ^ 15 - 1)) epoch ≡ true → is_word value ≡ true
      → in_range (neg_ℤ (pos (2 ^ 63))) (pos (2 ^ 63 - 1)) time ≡ true → command_typed (f pid epoch value time) ≡ true)
      → command_typed (change_of line f) ≡ true
  change-typed f h =
      fields-typed 6 _ (signed-typed line 2 w64 (λ pid. int16 line 3 (λ epoch. uint64 line 4 (λ value. int64 line 5 (λ time. f pid epoch value time)))) (λ pid a.
      signed-typed line 3 w16 (λ epoch. uint64 line 4 (λ value. int64 line 5 (λ time. f pid epoch value time))) (λ epoch b.
      unsigned-typed line 4 (λ value. int64 line 5 (λ time. f pid epoch value time)) (λ value c.
      signed-typed line 5 w64 (λ time. f pid epoch value time) (λ time d. h pid epoch value time a b c d)))))

  add_typed : command_typed (add_of line) ≡ true
  unfolding add_of
  add_typed = change-typed (λ pid epoch set time. Add (part_at line 1) pid epoch set time) (λ pid epoch set time a b c d. rw (a, b, c, d))

  end-typed : command_typed (end_of line) ≡ true
  unfolding end_of
  end-typed = change-typed (λ pid epoch verdict time. End (part_at line 1) pid epoch verdict time) (λ pid epoch verdict time a b c d. rw (a, b, d))

  tick-typed : command_typed (tick_of line) ≡ true
  unfolding tick_of
  tick-typed = fields-typed 2 _ (signed-typed line 1 w64 (λ time. Tick time) (λ time a. a))

  flush-typed : command_typed (flush_of line) ≡ true
  unfolding flush_of
  flush-typed = fields-typed 1 Flush refl

  put_typed : command_typed (put_of line) ≡ true
  unfolding put_of
  put_typed =
      fields-typed 7 _ (signed-typed line 2 w64 (λ pid. int16 line 3 (λ epoch. uint64 line 4 (λ position. int32 line 5 (λ sequence. uint64 line 6 (λ payload. Put (part_at line 1) pid epoch position sequence payload))))) (λ pid a.
      signed-typed line 3 w16 (λ epoch. uint64 line 4 (λ position. int32 line 5 (λ sequence. uint64 line 6 (λ payload. Put (part_at line 1) pid epoch position sequence payload)))) (λ epoch b.
      unsigned-typed line 4 (λ position. int32 line 5 (λ sequence. uint64 line 6 (λ payload. Put (part_at line 1) pid epoch position sequence payload))) (λ position c.
      signed-typed line 5 w32 (λ sequence. uint64 line 6 (λ payload. Put (part_at line 1) pid epoch position sequence payload)) (λ sequence d.
      unsigned-typed line 6 (λ payload. Put (part_at line 1) pid epoch position sequence payload) (λ payload e. rw (a, b, d, e)))))))

  carry-typed : command_typed (carry_of line) ≡ true
  unfolding carry_of
  carry-typed = fields-typed 2 _ (unsigned-typed line 1 (λ set. Carry set) (λ set a. a))

  read-typed : command_typed (read_of line) ≡ true
  unfolding read_of
  read-typed = fields-typed 2 _ (unsigned-typed line 1 (λ position. Read position) (λ position a. refl))

  cut-typed : command_typed (cut_of line) ≡ true
  unfolding cut_of
  cut-typed = fields-typed 2 _ (unsigned-typed line 1 (λ kept. Cut kept) (λ kept a. refl))

  left_typed : command_typed (left_of line) ≡ true
  unfolding left_of
  left_typed = fields-typed 2 _ (unsigned-typed line 1 (λ place. Left place) (λ place a. refl))

  at_typed : (row : ℕ) → command_typed (get_or (commands_of line) row Unknown) ≡ true
  at_typed zero = init-typed
  at_typed (suc zero) = add_typed
  at_typed (suc (suc zero)) = end-typed
  at_typed (suc (suc (suc zero))) = tick-typed
  at_typed (suc (suc (suc (suc zero)))) = flush-typed
  at_typed (suc (suc (suc (suc (suc zero))))) = put_typed
  at_typed (suc (suc (suc (suc (suc (suc zero)))))) = carry-typed
  at_typed (suc (suc (suc (suc (suc (suc (suc zero))))))) = read-typed
  at_typed (suc (suc (suc (suc (suc (suc (suc (suc zero)))))))) = cut-typed
  at_typed (suc (suc (suc (suc (suc (suc (suc (suc (suc zero))))))))) = left_typed
  at_typed (suc (suc (suc (suc (suc (suc (suc (suc (suc (suc row)))))))))) = refl

  pub line-typed : command_typed (command_of line) ≡ true
  unfolding command_of command_at
  line-typed = at_typed (row_of (field line 0))

-- ---- every text

lines-typed : (lines : List (List ℕ)) → Each (λ (x : CommandLine). command_typed x.command ≡ true) (map command_line lines)
lines-typed [] = tt
lines-typed (line ∷ lines) = (line-typed line, lines-typed lines)

pub every-text-runs : EveryTextRuns
every-text-runs log words payloads lines = every-session-runs log words payloads (map command_line lines) (lines-typed lines)
