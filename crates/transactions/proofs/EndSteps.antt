-- What the code of End makes, step by step, is what its definitions say.
use mathlib.Core.Path.{◌≡◌, refl, sym, ◌∙◌}
use mathlib.Core.Bool.{Bool, true, false, not}
use mathlib.Core.List.{List}
use Prim.Native.Nat.{ℕ}
use lib.Dec.{ltb}
use lib.IntN.{ℤ, pos}
use mir.Syntax.{w16, w64}
use mir.Val.{SFits, to_z, of_z}
use mir.Facts.{to_z-of_z}
use Rattle.numbers.specs.Signed.{eq_z}
use Rattle.record.specs.declared.Status.{Status}
use Rattle.row.specs.Row.{is_begin, is_prepare}
use Rattle.row.specs.Steps.{prepared, prepare_of}
use Rattle.row.specs.declared.Row.{Row}
use Rattle.answers.specs.Refusals.{first_refusal, or_refuse}
use Rattle.answers.specs.Returned.{number_of}
use Rattle.answers.specs.declared.Refusal.{Refusal}
use Rattle.answers.specs.Answer.{Answer}
use Rattle.answers.specs.Answer.{Done, Refused}
use Rattle.answers.proofs.Laws.{after_none, after_next_lem, after-all}
use Rattle.table.specs.Table.{row_at}
use Rattle.table.specs.declared.Held.{Held}
use Rattle.coordinator.specs.Coordinator.{admits, clock_at, Action, advance, append, after, log_after, Performed, ActionPerformed}
use Rattle.coordinator.specs.End.{end_fits, end_row_tests, end_tests, end_action, end}
use Rattle.coordinator.specs.declared.Coordinator.{Coordinator}
use Rattle.coordinator.proofs.EndCases.{EndPassed, end-passed}
use Rattle.coordinator.specs.Named.{name_tests, FoundFor, not_held_at}
use Rattle.transactions.specs.Parts.{end_at}
use Rattle.coordinator.proofs.Named.{named-refused, named-passed, named-fits, row_is, not-held-is, tested_at}
use Rattle.coordinator.proofs.Changes.{performed-refused, performed-accepted}

-- ---- the tests

module _ (s : Coordinator) (n : ℕ) (name : List ℕ) (pid epoch : ℤ) (verdict : ℕ) {first : ℕ} (made : first ≡ first_refusal (name_tests s n name)) where
  pub end-named : (first ≡ 0 → ⊥) → first ≡ first_refusal (end_tests s n name pid epoch verdict)
  unfolding end_tests
  end-named h = named-refused s n name made h _

  -- the others, one after the other
  pub end-tested : first ≡ 0 → {held : Held} → FoundFor s name held
      → {r4 r10 r11 r12 r13 r14 : ℕ} {unheld same fits prepare : Bool}
      → r4 ≡ or_refuse 0 4 (ltb 1 verdict)
      → unheld ≡ not_held_at held.place held.row pid → r10 ≡ or_refuse r4 10 unheld
      → same ≡ eq_z epoch (pos held.row.epoch) → r11 ≡ or_refuse r10 11 (not same)
      → r12 ≡ or_refuse r11 12 (ltb s.flushed held.row.end)
      → fits ≡ end_fits held.row.status verdict → r13 ≡ or_refuse r12 13 (not fits)
      → prepare ≡ is_prepare held.row.status → r14 ≡ or_refuse r13 14 prepare
      → r14 ≡ first_refusal (end_tests s n name pid epoch verdict)
  unfolding end_tests end_row_tests
  end-tested none held-is e4 u e10 v e11 e12 f e13 p e14 =
      let found = held-is.0 (named-fits s n name made none) in
      let taken = held-is.1 in
      let h = row_is s name found taken in
      sym (named-passed s n name made none _ ∙ (after_none _
      ∙ (after_next_lem _ _ _ _ refl refl e4
      ∙ (after_next_lem _ _ _ _ refl (u ∙ not-held-is s name found taken pid) e10
      ∙ (after_next_lem _ _ _ _ refl (rw (v, h)) e11
      ∙ (after_next_lem _ _ _ _ refl (rw h) e12
      ∙ (after_next_lem _ _ _ _ refl (rw (f, h)) e13
      ∙ (after_next_lem _ _ _ _ refl (p ∙ rw h) e14 ∙ after-all _))))))))

-- ---- what is done

module _ (s : Coordinator) (place verdict : ℕ) (time : ℤ) (log : List ℕ) {clock : ℕ} (timed : clock ≡ clock_at s time) {row : Row} (taken : row ≡ row_at s.table place)
    {begin : Bool} (tested : begin ≡ is_begin row.status) {state : Coordinator} where
  pub end-advances : begin ≡ false → state ≡ after (advance clock) s
      → (state ≡ after (end_at s place verdict time) s) × (log ≡ log_after (end_at s place verdict time) s log)
  unfolding end_at
  end-advances b e =
      let k = tested_at (λ (r : Row). is_begin r.status) taken tested b in
      rw (k, e, timed) (refl, refl)

  pub end-appends : begin ≡ true → {status : Status} → status ≡ prepare_of verdict → {new : Row} → new ≡ prepared row status row.epoch clock → {out : List ℕ}
      → state ≡ after (append place new) s → out ≡ log_after (append place new) s log
      → (state ≡ after (end_at s place verdict time) s) × (out ≡ log_after (end_at s place verdict time) s log)
  unfolding end_at
  end-appends b p w e o =
      let k = tested_at (λ (r : Row). is_begin r.status) taken tested b in
      rw (k, e, o, w, p, timed, taken) (refl, refl)

-- ---- the call, whose signed arguments are passed on

module _ (s : Coordinator) (n : ℕ) (name : List ℕ) (pid epoch : ℤ) (verdict : ℕ) (time : ℤ) (p : SFits w64 pid) (q : SFits w16 epoch)
    {r : ℕ} (refusal : r ≡ first_refusal (end_tests s n name (to_z w64 (of_z w64 pid)) (to_z w16 (of_z w16 epoch)) verdict)) where
  number : r ≡ first_refusal (end_tests s n name pid epoch verdict)
  number = rw (to_z-of_z p, to_z-of_z q) at refusal

  -- a call that is refused leaves all as it was
  pub end-refuses : (e : Refusal) → number_of e ≡ r → (log : List ℕ) → Performed (end s n name pid epoch verdict time) s log (Refused (number_of e)) s log
  unfolding end
  end-refuses e is log =
      performed-refused (first_refusal (end_tests s n name pid epoch verdict)) Refused (record { answer = Done; action = end_action s name verdict time }) s log e (is ∙ number)

  passed : r ≡ 0 → EndPassed s n name pid epoch verdict time
  passed z = end-passed s n name pid epoch verdict time (sym number ∙ z)

  pub end-admitted : r ≡ 0 → admits s n ≡ true
  end-admitted z = (passed z).admitted

  module _ {held : Held} (held-is : FoundFor s name held) (f : SFits w64 time) where
    decided : r ≡ 0 → end_at s held.place verdict (to_z w64 (of_z w64 time)) ≡ end_action s name verdict time
    unfolding end_at end_action
    decided z = rw (to_z-of_z f, held-is.0 (passed z).named)

    -- one that is not refused does what it does
    pub end-performs : r ≡ 0 → (log : List ℕ) {state : Coordinator} {out : List ℕ} → ActionPerformed (end_at s held.place verdict (to_z w64 (of_z w64 time))) s log state out
        → Performed (end s n name pid epoch verdict time) s log Done state out
    unfolding end
    end-performs z log h =
        performed-accepted (first_refusal (end_tests s n name pid epoch verdict)) Refused (record { answer = Done; action = end_action s name verdict time }) s log (sym z ∙ number) (rw (decided z) at h)
