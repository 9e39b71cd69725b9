-- Init by cases: when it is refused, what its tests leave when they pass, and what it then answers and does.
use Prim.Native.Nat.{ℕ, ◌+◌}
use mathlib.Core.Path.{◌≡◌, refl, ap, ◌∙◌}
use mathlib.Core.Bool.{true, false, not, ◌&&◌}
use mathlib.Core.List.{List}
use lib.Dec.{ltb}
use lib.IntN.{ℤ, pos}
use mir.Syntax.{w16, w64}
use borrow.Author.Tests.{not-false}
use Rattle.numbers.specs.Signed.{in_range, signed_of, to_nat}
use Rattle.numbers.specs.Padded.{padded}
use Rattle.record.specs.Limits.{name_max, timeout_max}
use Rattle.record.specs.Record.{name_fits}
use Rattle.record.specs.declared.Status.TheVariants.{PrepareAbort}
use Rattle.row.specs.Row.{is_begin, is_prepare}
use Rattle.row.specs.Steps.{initialized, prepared, fenced, raise}
use Rattle.answers.specs.Limits.{places}
use Rattle.answers.specs.Refusals.{first_refusal, numbers_of, among}
use Rattle.answers.specs.InitAnswer.{Given, Aborting, Refused}
use Rattle.answers.proofs.Laws.{none-applies, none_is, unless-accepted}
use Rattle.table.specs.Table.{place_for, lowest_free}
use Rattle.coordinator.specs.Coordinator.{admits, row_of, holds_name, unflushed, clock_at, new_pid, log_full, keep, append}
use Rattle.coordinator.specs.Init.{needs_pid, init_row, ids_then, init_row_tests, init_tests, init_accepted, init}
use Rattle.coordinator.specs.declared.Coordinator.{Coordinator}

module _ (s : Coordinator) (n : ℕ) (name : List ℕ) (timeout time : ℤ) where
  -- ---- what the tests leave

  pub record InitPassed : Type 0 where
    pub admitted : admits s n ≡ true
    pub named : name_fits name ≡ true
    pub timed : in_range (pos 1) (pos timeout_max) timeout ≡ true
    pub flushed : unflushed s.flushed (row_of s name) ≡ false
    pub unprepared : is_prepare (row_of s name).status ≡ false
    -- 15, 16 and 17 as they are tested
    pub placed : (not (holds_name s name) && not (ltb (lowest_free s.table) places)) ≡ false
    pub unspent : (not (is_begin (row_of s name).status) && needs_pid (holds_name s name) (row_of s name) && ltb s.last (new_pid s)) ≡ false
    pub room : (not (is_begin (row_of s name).status) && log_full s (init_row s (padded name_max name) (holds_name s name) (row_of s name) timeout time) (ids_then s (holds_name s name))) ≡ false

  pub init-passed : first_refusal (init_tests s n name timeout time) ≡ 0 → InitPassed
  unfolding init_tests init_row_tests numbers_of among
  init-passed e =
      let (a, (b, (c, (flushed, (unprepared, (placed, (unspent, (room, _)))))))) = none-applies (init_tests s n name timeout time) refl e in
      record {
        admitted = not-false _ a;
        named = not-false _ b;
        timed = not-false _ c;
        flushed = flushed;
        unprepared = unprepared;
        placed = placed;
        unspent = unspent;
        room = room;
      }

  -- where all of this holds, no test applies
  pub init-passes : InitPassed → first_refusal (init_tests s n name timeout time) ≡ 0
  unfolding init_tests init_row_tests
  init-passes p =
      none_is (init_tests s n name timeout time)
      (ap not p.admitted, (ap not p.named, (ap not p.timed, (p.flushed, (p.unprepared, (p.placed, (p.unspent, (p.room, tt))))))))

  -- ---- what it answers and does

  module _ (e : first_refusal (init_tests s n name timeout time) ≡ 0) where
    init-accepted : init s n name timeout time ≡ init_accepted s name timeout time
    unfolding init
    init-accepted = unless-accepted _ Refused keep _ e

    pub init-aborting : is_begin (row_of s name).status ≡ true
        → init s n name timeout time
        ≡ record {
          answer = Aborting;
          action = append (place_for s.table (padded name_max name)) (prepared (row_of s name) PrepareAbort (raise fenced (row_of s name).epoch) (clock_at s time));
        }
    unfolding init_accepted
    init-aborting b = init-accepted ∙ rw b

    pub init-given : is_begin (row_of s name).status ≡ false
        → init s n name timeout time
        ≡ record {
          answer = Given (signed_of w64 (init_row s (padded name_max name) (holds_name s name) (row_of s name) timeout time).pid) (signed_of w16 (init_row s (padded name_max name) (holds_name s name) (row_of s name) timeout time).epoch);
          action = append (place_for s.table (padded name_max name)) (init_row s (padded name_max name) (holds_name s name) (row_of s name) timeout time);
        }
    unfolding init_accepted
    init-given b = init-accepted ∙ rw b

    -- with a new pid, or with the same pid and the next epoch
    pub init-new : is_begin (row_of s name).status ≡ false → needs_pid (holds_name s name) (row_of s name) ≡ true
        → init s n name timeout time
        ≡ record {
          answer = Given (signed_of w64 (new_pid s)) (signed_of w16 0);
          action = append (place_for s.table (padded name_max name)) (initialized (padded name_max name) (new_pid s) 0 (to_nat timeout) (clock_at s time));
        }
    unfolding init_row
    init-new b p = init-given b ∙ rw p

    pub init-next : is_begin (row_of s name).status ≡ false → needs_pid (holds_name s name) (row_of s name) ≡ false
        → init s n name timeout time
        ≡ record {
          answer = Given (signed_of w64 (row_of s name).pid) (signed_of w16 ((row_of s name).epoch + 1));
          action =
              append (place_for s.table (padded name_max name))
              (initialized (padded name_max name) (row_of s name).pid ((row_of s name).epoch + 1) (to_nat timeout) (clock_at s time));
        }
    unfolding init_row
    init-next b p = init-given b ∙ rw p
