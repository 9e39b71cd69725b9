-- Add by cases: when it is refused, what its tests leave when they pass, and what it then answers and does.
use Prim.Native.Nat.{ℕ}
use mathlib.Core.Path.{◌≡◌, refl, ap, ◌∙◌}
use mathlib.Core.Bool.{true, false, not, ◌&&◌, ◌||◌}
use mathlib.Core.List.{List}
use lib.Dec.{eqb}
use lib.IntN.{ℤ, pos}
use borrow.Author.Tests.{eqb-false, ne_eqb, not-false}
use Rattle.bits.specs.Bits.{subset}
use Rattle.numbers.specs.Signed.{eq_z}
use Rattle.numbers.proofs.Signed.{eq_z-true, eq_z-is, eq_z-false, eq_z-is-not}
use Rattle.record.specs.Record.{name_fits}
use Rattle.row.specs.Limits.{epoch_max}
use Rattle.row.specs.Row.{is_begin, is_prepare}
use Rattle.row.specs.Steps.{begun, widened}
use Rattle.answers.specs.Refusals.{first_refusal, numbers_of, among}
use Rattle.answers.specs.Answer.{Done, Refused}
use Rattle.answers.proofs.Laws.{or-false-left, or-false-right, none-applies, none_is, unless-accepted}
use Rattle.table.specs.Table.{id_count}
use Rattle.coordinator.specs.Coordinator.{admits, place_of_name, row_of, holds_name, unflushed, clock_at, log_full, keep, advance, append}
use Rattle.coordinator.specs.Add.{all_joined, add_row, add_row_tests, add_tests, add_action, add}
use Rattle.coordinator.specs.declared.Coordinator.{Coordinator}
use Rattle.coordinator.proofs.Held.{name-held, pid-held, held-is}

module _ (s : Coordinator) (n : ℕ) (name : List ℕ) (pid epoch : ℤ) (set : ℕ) (time : ℤ) where
  -- ---- what the tests leave

  pub record AddPassed : Type 0 where
    pub admitted : admits s n ≡ true
    pub named : name_fits name ≡ true
    pub some : set ≡ 0 → ⊥
    pub listed : subset set s.catalogue.all ≡ true
    pub held : holds_name s name ≡ true
    pub same-pid : pid ≡ pos (row_of s name).pid
    pub same-epoch : epoch ≡ pos (row_of s name).epoch
    pub below : epoch ≡ pos epoch_max → ⊥
    pub flushed : unflushed s.flushed (row_of s name) ≡ false
    pub unprepared : is_prepare (row_of s name).status ≡ false
    -- 17 as it is tested
    pub room : (not (all_joined (row_of s name) set) && log_full s (add_row (row_of s name) set (clock_at s time)) (id_count s.table)) ≡ false

  pub add-passed : first_refusal (add_tests s n name pid epoch set time) ≡ 0 → AddPassed
  unfolding add_tests add_row_tests numbers_of among
  add-passed e =
      let (a, (b, (c, (d, (f, (flushed, (unprepared, (room, _)))))))) = none-applies (add_tests s n name pid epoch set time) refl e in
      record {
        admitted = not-false _ a;
        named = not-false _ b;
        some = eqb-false set 0 (or-false-left _ _ c);
        listed = not-false _ (or-false-right (eqb set 0) _ c);
        held = name-held s name pid d;
        same-pid = pid-held s name pid d;
        same-epoch = eq_z-true epoch _ (not-false _ (or-false-left _ _ f));
        below = eq_z-false epoch _ (or-false-right (not (eq_z epoch (pos (row_of s name).epoch))) _ f);
        flushed = flushed;
        unprepared = unprepared;
        room = room;
      }

  -- where all of this holds, no test applies
  pub add-passes : AddPassed → first_refusal (add_tests s n name pid epoch set time) ≡ 0
  unfolding add_tests add_row_tests
  add-passes p =
      let listed : (eqb set 0 || not (subset set s.catalogue.all)) ≡ false = rw (ne_eqb set 0 p.some, p.listed) in
      let fits : (not (eq_z epoch (pos (row_of s name).epoch)) || eq_z epoch (pos epoch_max)) ≡ false =
      rw (eq_z-is epoch (pos (row_of s name).epoch) p.same-epoch) (eq_z-is-not epoch (pos epoch_max) p.below) in
      none_is (add_tests s n name pid epoch set time)
      (ap not p.admitted, (ap not p.named, (listed, (held-is s name pid p.held p.same-pid, (fits, (p.flushed, (p.unprepared, (p.room, tt))))))))

  -- ---- what it answers and does

  module _ (e : first_refusal (add_tests s n name pid epoch set time) ≡ 0) where
    add-accepted : add s n name pid epoch set time ≡ record { answer = Done; action = add_action s name set time }
    unfolding add
    add-accepted = unless-accepted _ Refused keep _ e

    pub add_nothing : all_joined (row_of s name) set ≡ true → add s n name pid epoch set time ≡ record { answer = Done; action = advance (clock_at s time) }
    unfolding add_action
    add_nothing j = add-accepted ∙ rw j

    pub add-appends : all_joined (row_of s name) set ≡ false
        → add s n name pid epoch set time
        ≡ record { answer = Done; action = append (place_of_name s name) (add_row (row_of s name) set (clock_at s time)) }
    unfolding add_action
    add-appends j = add-accepted ∙ rw j

    pub add-widened : is_begin (row_of s name).status ≡ true → all_joined (row_of s name) set ≡ false
        → add s n name pid epoch set time
        ≡ record { answer = Done; action = append (place_of_name s name) (widened (row_of s name) set (clock_at s time)) }
    unfolding add_row
    add-widened b j = add-appends j ∙ rw b

    pub add-begun : is_begin (row_of s name).status ≡ false
        → add s n name pid epoch set time
        ≡ record { answer = Done; action = append (place_of_name s name) (begun (row_of s name) set (clock_at s time)) }
    unfolding add_row all_joined
    add-begun b = add-appends (rw b) ∙ rw b
