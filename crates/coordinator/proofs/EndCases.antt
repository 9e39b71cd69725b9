-- End by cases: when it is refused, what its tests leave when they pass, and what it then answers and does.
use Prim.Native.Nat.{ℕ, ◌≤◌}
use mathlib.Core.Path.{◌≡◌, refl, ap, ◌∙◌}
use mathlib.Core.Bool.{true, false, not}
use mathlib.Core.List.{List}
use lib.IntN.{ℤ, pos}
use borrow.Author.Tests.{ltb-false, le-ltb, not-false}
use Rattle.numbers.proofs.Signed.{eq_z-true, eq_z-is}
use Rattle.record.specs.Record.{name_fits}
use Rattle.row.specs.Row.{is_begin, is_prepare}
use Rattle.row.specs.Steps.{prepared, prepare_of, ended, raise}
use Rattle.answers.specs.Refusals.{first_refusal, numbers_of, among}
use Rattle.answers.specs.Answer.{Done, Refused}
use Rattle.answers.proofs.Laws.{none-applies, none_is, unless-accepted}
use Rattle.coordinator.specs.Coordinator.{admits, place_of_name, row_of, holds_name, unflushed, clock_at, keep, append}
use Rattle.coordinator.specs.End.{end_fits, end_row_tests, end_tests, end_action, end}
use Rattle.coordinator.specs.declared.Coordinator.{Coordinator}
use Rattle.coordinator.proofs.Held.{name-held, pid-held, held-is}

module _ (s : Coordinator) (n : ℕ) (name : List ℕ) (pid epoch : ℤ) (verdict : ℕ) (time : ℤ) where
  -- ---- what the tests leave

  pub record EndPassed : Type 0 where
    pub admitted : admits s n ≡ true
    pub named : name_fits name ≡ true
    pub verdict-fits : verdict ≤ 1
    pub held : holds_name s name ≡ true
    pub same-pid : pid ≡ pos (row_of s name).pid
    pub same-epoch : epoch ≡ pos (row_of s name).epoch
    pub flushed : unflushed s.flushed (row_of s name) ≡ false
    pub status-fits : end_fits (row_of s name).status verdict ≡ true
    pub unprepared : is_prepare (row_of s name).status ≡ false

  pub end-passed : first_refusal (end_tests s n name pid epoch verdict) ≡ 0 → EndPassed
  unfolding end_tests end_row_tests numbers_of among
  end-passed e =
      let (a, (b, (c, (d, (f, (flushed, (g, (unprepared, _)))))))) = none-applies (end_tests s n name pid epoch verdict) refl e in
      record {
        admitted = not-false _ a;
        named = not-false _ b;
        verdict-fits = ltb-false 1 verdict c;
        held = name-held s name pid d;
        same-pid = pid-held s name pid d;
        same-epoch = eq_z-true epoch _ (not-false _ f);
        flushed = flushed;
        status-fits = not-false _ g;
        unprepared = unprepared;
      }

  -- where all of this holds, no test applies
  pub end-passes : EndPassed → first_refusal (end_tests s n name pid epoch verdict) ≡ 0
  unfolding end_tests end_row_tests
  end-passes p =
      none_is (end_tests s n name pid epoch verdict) (
        ap not p.admitted,
        (
          ap not p.named,
          (
            le-ltb 1 verdict p.verdict-fits,
            (
              held-is s name pid p.held p.same-pid,
              (ap not (eq_z-is epoch (pos (row_of s name).epoch) p.same-epoch), (p.flushed, (ap not p.status-fits, (p.unprepared, tt)))),
            ),
          ),
        ),
      )

  -- ---- what it answers and does

  module _ (e : first_refusal (end_tests s n name pid epoch verdict) ≡ 0) where
    end-accepted : end s n name pid epoch verdict time ≡ record { answer = Done; action = end_action s name verdict time }
    unfolding end
    end-accepted = unless-accepted _ Refused keep _ e

    pub end-prepared : is_begin (row_of s name).status ≡ true
        → end s n name pid epoch verdict time
        ≡ record {
          answer = Done;
          action = append (place_of_name s name) (prepared (row_of s name) (prepare_of verdict) (raise ended (row_of s name).epoch) (clock_at s time));
        }
    unfolding end_action
    end-prepared b = end-accepted ∙ rw b
