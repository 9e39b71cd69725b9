-- Tick by cases: what its test leaves when it passes, and what it then answers and does; that its place is the lowest that is overdue, and that it answers none only if there is none.
use Prim.Native.Nat.{ℕ, ◌-◌, ◌≤◌, ◌<◌}
use mathlib.Core.Path.{◌≡◌, refl, ap, subst, ◌∙◌}
use mathlib.Core.Logic.{◌↔◌}
use mathlib.Core.Bool.{Bool, true, false}
use native.Mathlib.Omega.{arith}
use lib.Dec.{ltb}
use lib.IntN.{ℤ}
use lib.ListN.{length}
use borrow.Author.Tests.{ltb-true, ltb-false, lt-ltb, le-ltb, not-true, not-false}
use Rattle.numbers.proofs.Tests.{and_left, and_right}
use Rattle.search.specs.Search.{first_where}
use Rattle.search.proofs.Laws.{first_found, first-before, first-nowhere}
use Rattle.record.specs.declared.Status.TheVariants.{PrepareAbort}
use Rattle.row.specs.Row.{free_row, is_begin}
use Rattle.row.specs.Steps.{prepared, fenced, raise}
use Rattle.row.specs.declared.Row.{Row}
use Rattle.answers.specs.Limits.{places}
use Rattle.answers.specs.Refusals.{first_refusal, numbers_of, among, Decision}
use Rattle.answers.specs.TickAnswer.{TickAnswer}
use Rattle.answers.specs.TickAnswer.{Aborted, NoneDue, Refused}
use Rattle.answers.proofs.Laws.{none-applies, unless-accepted}
use Rattle.table.specs.Table.{row_at}
use Rattle.coordinator.specs.Coordinator.{admits, unflushed, clock_at, Action, keep, advance, append}
use Rattle.coordinator.specs.Tick.{age_from, overdue, overdue_place, tick_tests, tick_accepted, tick}
use Rattle.coordinator.specs.declared.Coordinator.{Coordinator}

-- ---- the lowest place that is overdue at a clock

module _ (s : Coordinator) (clock : ℕ) where
  pub record Overdue (row : Row) : Type 0 where
    pub begins : is_begin row.status ≡ true
    pub flushed : unflushed s.flushed row ≡ false
    pub late : row.timeout < clock - age_from row

  pub overdue-means : (row : Row) → overdue s.flushed clock row ≡ true → Overdue row
  unfolding overdue
  overdue-means row e =
      record {
        begins = search (and_left, and_right) depth 8;
        flushed = not-true _ (search (and_left, and_right) depth 8);
        late = ltb-true row.timeout (clock - age_from row) (search (and_left, and_right) depth 8);
      }

  pub overdue-lowest : (place : ℕ) → place < overdue_place s clock → overdue s.flushed clock (row_at s.table place) ≡ false
  unfolding overdue_place
  overdue-lowest place h = first-before (overdue s.flushed clock) s.table.rows free_row place h

  module _ (whole : length s.table.rows ≡ places) where
    pub overdue-found : overdue_place s clock < places → Overdue (row_at s.table (overdue_place s clock))
    unfolding overdue_place
    overdue-found h = overdue-means _ (first_found (overdue s.flushed clock) s.table.rows free_row (omega arith))

    pub overdue-nowhere : (places ≤ overdue_place s clock) ↔ ((place : ℕ) → place < places → overdue s.flushed clock (row_at s.table place) ≡ false)
    unfolding overdue_place
    overdue-nowhere =
        subst (λ (n : ℕ). (n ≤ first_where (overdue s.flushed clock) s.table.rows) ↔ ((place : ℕ) → place < n → overdue s.flushed clock (row_at s.table place) ≡ false)) whole (first-nowhere (overdue s.flushed clock) s.table.rows free_row)

module _ (s : Coordinator) (n : ℕ) (time : ℤ) where
  -- ---- what the test leaves

  pub record TickPassed : Type 0 where
    pub admitted : admits s n ≡ true

  pub tick-passed : first_refusal (tick_tests s n) ≡ 0 → TickPassed
  unfolding tick_tests numbers_of among
  tick-passed e = let (a, _) = none-applies (tick_tests s n) refl e in record { admitted = not-false _ a }

  -- ---- what it answers and does

  module _ (e : first_refusal (tick_tests s n) ≡ 0) where
    tick-accepted : tick s n time ≡ tick_accepted s time
    unfolding tick
    tick-accepted = unless-accepted _ Refused keep _ e

    pub tick-aborted : overdue_place s (clock_at s time) < places
        → tick s n time
        ≡ record {
          answer = Aborted (overdue_place s (clock_at s time));
          action =
              append (overdue_place s (clock_at s time))
              (prepared (row_at s.table (overdue_place s (clock_at s time))) PrepareAbort (raise fenced (row_at s.table (overdue_place s (clock_at s time))).epoch) (clock_at s time));
        }
    unfolding tick_accepted
    tick-aborted h = tick-accepted ∙ rw (lt-ltb (overdue_place s (clock_at s time)) places h)

    pub tick-none : places ≤ overdue_place s (clock_at s time) → tick s n time ≡ record { answer = NoneDue; action = advance (clock_at s time) }
    unfolding tick_accepted
    tick-none h = tick-accepted ∙ rw (le-ltb (overdue_place s (clock_at s time)) places h)

    outside : (tick s n time).answer ≡ NoneDue → places ≤ overdue_place s (clock_at s time)
    outside q = go (ltb (overdue_place s (clock_at s time)) places) refl
      where
        go : (b : Bool) → ltb (overdue_place s (clock_at s time)) places ≡ b → places ≤ overdue_place s (clock_at s time)
        go true t = let g = tick-aborted (ltb-true _ _ t) in absurd (let z : ◌≡◌ {A = ℕ} 0 1 = cc in omega arith)
        go false t = ltb-false _ _ t

    pub none-due-means : length s.table.rows ≡ places
        → ((tick s n time).answer ≡ NoneDue) ↔ ((place : ℕ) → place < places → overdue s.flushed (clock_at s time) (row_at s.table place) ≡ false)
    none-due-means whole = (
      λ q. (overdue-nowhere s (clock_at s time) whole).0 (outside q),
      λ h. ap (λ (d : Decision TickAnswer Action). d.answer) (tick-none ((overdue-nowhere s (clock_at s time) whole).1 h)),
    )
