-- What the calls by name have in common: the place of a name, and the tests with which they begin.
use mathlib.Core.Path.{◌≡◌, refl, sym, ap, ◌∙◌}
use mathlib.Core.Bool.{Bool, true, false}
use mathlib.Core.List.{List, ◌++◌}
use Prim.Native.Nat.{ℕ, ◌+◌, ◌*◌, ◌-◌, ◌≤◌, ◌<◌}
use native.Mathlib.Omega.{arith}
use lib.Dec.{ltb}
use lib.IntN.{ℤ}
use lib.ListN.{length}
use mir.Syntax.{w64}
use mir.Val.{SFits, to_z, of_z}
use borrow.Author.Tests.{eq-eqb, ne_eqb, lt-ltb, le-ltb, ltb-true, ltb-false, not-false}
use Rattle.numbers.specs.Signed.{later_of}
use Rattle.numbers.proofs.Signed.{passed_on}
use Rattle.numbers.specs.Padded.{padded}
use Rattle.record.specs.Limits.{name_max}
use Rattle.record.specs.Record.{name_fits}
use Rattle.record.proofs.Bounds.{name-short}
use Rattle.row.specs.declared.Row.{Row}
use Rattle.answers.specs.Refusals.{Test, first_refusal, numbers_of, among}
use Rattle.answers.proofs.Laws.{none-applies, first-append}
use Rattle.table.specs.Limits.{reserve}
use Rattle.table.specs.Table.{row_at, place_of}
use Rattle.table.specs.declared.Held.{Held}
use Rattle.coordinator.specs.Coordinator.{log_end, place_of_name, row_of, not_held, clock_at, row_frame, log_full}
use Rattle.coordinator.specs.declared.Coordinator.{Coordinator}
use Rattle.coordinator.specs.Named.{name_tests, FoundFor, not_held_at}

-- ---- the clock

pub clock-is : (s : Coordinator) {time : ℤ} → SFits w64 time → {clock : ℕ} → clock ≡ later_of s.clock (to_z w64 (of_z w64 time)) → clock ≡ clock_at s time
clock-is s f e = passed_on (later_of s.clock) f e

-- ---- 17

module _ (s : Coordinator) (row : Row) (ids : ℕ) where
  pub log-full-past : s.room < log_end s → true ≡ log_full s row ids
  unfolding log_full
  log-full-past h = sym (lt-ltb s.room (log_end s + length (row_frame s row) + reserve * ids) (omega arith))

  pub log-full-rest : log_end s ≤ s.room → {frame : ℕ} → frame ≡ length (row_frame s row) → ltb (s.room - log_end s) (frame + reserve * ids) ≡ log_full s row ids
  unfolding log_full
  log-full-rest h {frame} e = go (ltb (s.room - log_end s) (frame + reserve * ids)) refl
    where
      go : (b : Bool) → ltb (s.room - log_end s) (frame + reserve * ids) ≡ b → b ≡ ltb s.room (log_end s + length (row_frame s row) + reserve * ids)
      go true t = sym (lt-ltb s.room (log_end s + length (row_frame s row) + reserve * ids) (omega (arith, e, ltb-true (s.room - log_end s) (frame + reserve * ids) t)))
      go false t = sym (le-ltb s.room (log_end s + length (row_frame s row) + reserve * ids) (omega (arith, e, ltb-false (s.room - log_end s) (frame + reserve * ids) t)))

-- ---- the tests with which each call begins

module _ (s : Coordinator) (n : ℕ) (name : List ℕ) {first : ℕ} (made : first ≡ first_refusal (name_tests s n name)) where
  pub named-refused : (first ≡ 0 → ⊥) → (tests : List Test) → first ≡ first_refusal (name_tests s n name ++ tests)
  unfolding numbers_of among
  named-refused h tests = made ∙ sym (first-append (name_tests s n name) tests refl ∙ rw (← made, ne_eqb first 0 h))

  module _ (z : first ≡ 0) where
    pub named-passed : (tests : List Test) → first_refusal (name_tests s n name ++ tests) ≡ first_refusal tests
    unfolding numbers_of among
    named-passed tests = first-append (name_tests s n name) tests refl ∙ rw (← made, eq-eqb first 0 z)

    pub named-fits : name_fits name ≡ true
    unfolding numbers_of among
    named-fits = not-false _ (none-applies (name_tests s n name) refl (sym made ∙ z)).1.0

-- ---- the row of a name

-- what the search of a padded name gives
pub found-for : (s : Coordinator) (name : List ℕ) {own : List ℕ} → (length name ≤ name_max → own ≡ padded name_max name) → {held : Held}
    → (held.place ≡ place_of s.table own) × (held.row ≡ row_at s.table (place_of s.table own)) → FoundFor s name held
found-for s name p e = (λ f. e.0 ∙ ap (place_of s.table) (p (name-short name f)), e.1 ∙ ap (row_at s.table) (sym e.0))

module _ (s : Coordinator) (name : List ℕ) {place : ℕ} (found : place ≡ place_of_name s name) {row : Row} (taken : row ≡ row_at s.table place) where
  pub row_is : row ≡ row_of s name
  row_is = rw (taken, found)

  pub not-held-is : (pid : ℤ) → not_held_at place row pid ≡ not_held s name pid
  unfolding not_held
  not-held-is pid = rw (taken, found)

-- ---- the row of the place that was found, by a test of it

pub tested_at : {A : Type 0} (test : Row → A) {row found : Row} → row ≡ found → {b : A} → b ≡ test row → {y : A} → b ≡ y → test found ≡ y
tested_at test h e q = ap test (sym h) ∙ (sym e ∙ q)
