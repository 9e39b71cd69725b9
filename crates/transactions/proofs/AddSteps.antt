-- What the code of Add makes, step by step, is what its definitions say.
use mathlib.Core.Path.{◌≡◌, refl, sym, ap, ◌∙◌}
use mathlib.Core.Bool.{Bool, true, false, not, ◌||◌}
use mathlib.Core.List.{List}
use Prim.Native.Nat.{ℕ, ◌+◌, ◌≤◌}
use lib.Dec.{eqb, ltb}
use lib.IntN.{ℤ, pos}
use lib.ListN.{length}
use mir.Syntax.{w16, w64}
use mir.Val.{SFits, to_z, of_z}
use mir.Facts.{to_z-of_z}
use Rattle.numbers.specs.Signed.{eq_z}
use Rattle.numbers.proofs.Tests.{and-false-right}
use Rattle.bits.specs.Bits.{subset}
use Rattle.row.specs.Limits.{epoch_max}
use Rattle.row.specs.Row.{is_begin, is_prepare}
use Rattle.row.specs.Steps.{begun, widened}
use Rattle.row.specs.declared.Row.{Row}
use Rattle.answers.specs.Refusals.{first_refusal, or_refuse}
use Rattle.answers.specs.Returned.{number_of}
use Rattle.answers.specs.declared.Refusal.{Refusal}
use Rattle.answers.specs.Answer.{Answer}
use Rattle.answers.specs.Answer.{Done, Refused}
use Rattle.answers.proofs.Laws.{after_none, after_next_lem, after-all}
use Rattle.table.specs.Table.{row_at, id_count}
use Rattle.table.specs.declared.Held.{Held}
use Rattle.coordinator.specs.Coordinator.{log_end, admits, clock_at, row_frame, log_full, Action, advance, append, after, log_after, Performed, ActionPerformed}
use Rattle.coordinator.specs.Add.{all_joined, add_row, add_row_tests, add_tests, add_action, add}
use Rattle.coordinator.specs.declared.Coordinator.{Coordinator}
use Rattle.coordinator.proofs.AddCases.{AddPassed, add-passed}
use Rattle.coordinator.proofs.Laws.{fits-tested}
use Rattle.coordinator.specs.Named.{name_tests, FoundFor, not_held_at}
use Rattle.transactions.specs.Parts.{add_full, add_at}
use Rattle.coordinator.proofs.Named.{named-refused, named-passed, named-fits, row_is, not-held-is, tested_at}
use Rattle.coordinator.proofs.Changes.{performed-refused, performed-accepted}

-- ---- the record

module _ (row : Row) (set clock : ℕ) where
  pub add-row-widened : is_begin row.status ≡ true → widened row set clock ≡ add_row row set clock
  unfolding add_row
  add-row-widened b = rw b

  pub add-row-begun : is_begin row.status ≡ false → begun row set clock ≡ add_row row set clock
  unfolding add_row
  add-row-begun b = rw b

-- ---- the tests

pub barred-is : (epoch : ℤ) (row : Row) → SFits w16 epoch → {last same : Bool} → last ≡ eq_z epoch (pos epoch_max) → same ≡ eq_z (to_z w16 (of_z w16 epoch)) (pos row.epoch)
    → (not same || last) ≡ (not (eq_z epoch (pos row.epoch)) || eq_z epoch (pos epoch_max))
barred-is epoch row f l e = rw (l, e, to_z-of_z f)

module _ (s : Coordinator) (row : Row) (set : ℕ) (time : ℤ) where
  pub add-full-not : all_joined row set ≡ true → false ≡ add_full s row set time
  add-full-not j = rw j

  pub add-full-is : all_joined row set ≡ false → {clock : ℕ} → clock ≡ clock_at s time → {new : Row} → new ≡ add_row row set clock → {ids : ℕ} → ids ≡ id_count s.table
      → {r : Bool} → r ≡ log_full s new ids → r ≡ add_full s row set time
  add-full-is j k a i e = rw (e, a, k, i, j)

module _ (s : Coordinator) (n : ℕ) (name : List ℕ) (pid epoch : ℤ) (set : ℕ) (time : ℤ) {first : ℕ} (made : first ≡ first_refusal (name_tests s n name)) where
  pub add-named : (first ≡ 0 → ⊥) → first ≡ first_refusal (add_tests s n name pid epoch set time)
  unfolding add_tests
  add-named h = named-refused s n name made h _

  -- the others, one after the other
  pub add-tested : first ≡ 0 → {held : Held} → FoundFor s name held
      → {r3 r10 r11 r12 r14 r17 : ℕ} {listed unheld barred prepare full : Bool}
      → listed ≡ subset set s.catalogue.all → r3 ≡ or_refuse 0 3 (eqb set 0 || not listed)
      → unheld ≡ not_held_at held.place held.row pid → r10 ≡ or_refuse r3 10 unheld
      → barred ≡ (not (eq_z epoch (pos held.row.epoch)) || eq_z epoch (pos epoch_max)) → r11 ≡ or_refuse r10 11 barred
      → r12 ≡ or_refuse r11 12 (ltb s.flushed held.row.end)
      → prepare ≡ is_prepare held.row.status → r14 ≡ or_refuse r12 14 prepare
      → full ≡ add_full s held.row set time → r17 ≡ or_refuse r14 17 full
      → r17 ≡ first_refusal (add_tests s n name pid epoch set time)
  unfolding add_tests add_row_tests
  add-tested none held-is l e3 u e10 b e11 e12 p e14 f e17 =
      let found = held-is.0 (named-fits s n name made none) in
      let taken = held-is.1 in
      let h = row_is s name found taken in
      sym (named-passed s n name made none _ ∙ (after_none _
      ∙ (after_next_lem _ _ _ _ refl (rw l) e3
      ∙ (after_next_lem _ _ _ _ refl (u ∙ not-held-is s name found taken pid) e10
      ∙ (after_next_lem _ _ _ _ refl (b ∙ rw h) e11
      ∙ (after_next_lem _ _ _ _ refl (rw h) e12
      ∙ (after_next_lem _ _ _ _ refl (p ∙ rw h) e14
      ∙ (after_next_lem _ _ _ _ refl (f ∙ rw h) e17 ∙ after-all _))))))))

-- ---- what is done

module _ (s : Coordinator) (place set : ℕ) (time : ℤ) (log : List ℕ) {clock : ℕ} (timed : clock ≡ clock_at s time) {row : Row} (taken : row ≡ row_at s.table place)
    {joined : Bool} (tested : joined ≡ all_joined row set) where
  pub add-advances : joined ≡ true → {state : Coordinator} → state ≡ after (advance clock) s
      → (state ≡ after (add_at s place set time) s) × (log ≡ log_after (add_at s place set time) s log)
  unfolding add_at
  add-advances j e =
      let k = tested_at (λ (r : Row). all_joined r set) taken tested j in
      rw (k, e, timed) (refl, refl)

  module _ (j : joined ≡ false) {new : Row} (made : new ≡ add_row row set clock) where
    -- 17 was tested
    pub add-fits : (n : ℕ) → admits s n ≡ true → add_full s row set time ≡ false → log_end s + length (row_frame s new) ≤ n
    add-fits n a f =
        rw (made, timed) (fits-tested s n a (add_row row set (clock_at s time)) (id_count s.table) (and-false-right _ _ (ap not (sym tested ∙ j)) f))

    pub add-appends : {state : Coordinator} {out : List ℕ} → state ≡ after (append place new) s → out ≡ log_after (append place new) s log
        → (state ≡ after (add_at s place set time) s) × (out ≡ log_after (add_at s place set time) s log)
    unfolding add_at
    add-appends e o =
        let k = tested_at (λ (r : Row). all_joined r set) taken tested j in
        rw (k, e, o, made, timed, taken) (refl, refl)

-- ---- the call, whose signed arguments are passed on

module _ (s : Coordinator) (n : ℕ) (name : List ℕ) (pid epoch : ℤ) (set : ℕ) (time : ℤ) (p : SFits w64 pid) (q : SFits w16 epoch) (t : SFits w64 time)
    {r : ℕ} (refusal : r ≡ first_refusal (add_tests s n name (to_z w64 (of_z w64 pid)) (to_z w16 (of_z w16 epoch)) set (to_z w64 (of_z w64 time)))) where
  number : r ≡ first_refusal (add_tests s n name pid epoch set time)
  number = rw (to_z-of_z p, to_z-of_z q, to_z-of_z t) at refusal

  -- a call that is refused leaves all as it was
  pub add-refuses : (e : Refusal) → number_of e ≡ r → (log : List ℕ) → Performed (add s n name pid epoch set time) s log (Refused (number_of e)) s log
  unfolding add
  add-refuses e is log =
      performed-refused (first_refusal (add_tests s n name pid epoch set time)) Refused (record { answer = Done; action = add_action s name set time }) s log e (is ∙ number)

  module _ {held : Held} (held-is : FoundFor s name held) where
    passed : r ≡ 0 → AddPassed s n name pid epoch set time
    passed z = add-passed s n name pid epoch set time (sym number ∙ z)

    pub add-admitted : r ≡ 0 → (admits s n ≡ true) × (held.row ≡ row_at s.table held.place) × (add_full s held.row set (to_z w64 (of_z w64 time)) ≡ false)
    add-admitted z = ((passed z).admitted, held-is.1, rw (to_z-of_z t, row_is s name (held-is.0 (passed z).named) held-is.1) (passed z).room)

    decided : r ≡ 0 → add_at s held.place set (to_z w64 (of_z w64 time)) ≡ add_action s name set time
    unfolding add_at add_action
    decided z = rw (to_z-of_z t, held-is.0 (passed z).named)

    -- one that is not refused does what it does
    pub add-performs : r ≡ 0 → (log : List ℕ) {state : Coordinator} {out : List ℕ} → ActionPerformed (add_at s held.place set (to_z w64 (of_z w64 time))) s log state out
        → Performed (add s n name pid epoch set time) s log Done state out
    unfolding add
    add-performs z log h =
        performed-accepted (first_refusal (add_tests s n name pid epoch set time)) Refused (record { answer = Done; action = add_action s name set time }) s log (sym z ∙ number) (rw (decided z) at h)
