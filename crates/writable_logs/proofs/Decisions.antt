-- What the calls of the coordinator decide on, whichever call it is: a record is appended only to a buffer that is admitted, and the reserve stands.
use Prim.Native.Nat.{ℕ}
use mathlib.Core.Path.{◌≡◌, refl, sym, subst, ◌∙◌}
use mathlib.Core.Bool.{true}
use mathlib.Core.List.{List}
use lib.ListN.{length}
use borrow.Author.Tests.{eqb-true}
use Rattle.answers.specs.Refusals.{first_refusal}
use Rattle.answers.specs.Answer.{Refused}
use Rattle.answers.specs.InitAnswer.{Refused as InitRefused}
use Rattle.answers.specs.TickAnswer.{Refused as TickRefused}
use Rattle.answers.proofs.Laws.{unless-does}
use Rattle.table.specs.Table.{row_at}
use Rattle.coordinator.specs.Coordinator.{admits, Action, keep, advance, append, acknowledge, flush_to, appended, after, log_after}
use Rattle.coordinator.specs.Init.{init_tests, init_accepted, init}
use Rattle.coordinator.specs.Add.{add_tests, add_action, add}
use Rattle.coordinator.specs.End.{end_tests, end_action, end}
use Rattle.coordinator.specs.Tick.{tick_tests, tick_accepted, tick}
use Rattle.coordinator.specs.Flush.{flush_tests, flush}
use Rattle.coordinator.specs.Ack.{ack_tests, ack_action, ack}
use Rattle.coordinator.specs.Calls.{CoordinatorCall, init_call, add_call, end_call, tick_call, flush_call, ack_call, call_typed, action_of}
use Rattle.coordinator.specs.declared.Coordinator.{Coordinator}
use Rattle.coordinator.proofs.InitCases.{init-passed}
use Rattle.coordinator.proofs.AddCases.{add-passed}
use Rattle.coordinator.proofs.EndCases.{end-passed}
use Rattle.coordinator.proofs.TickCases.{tick-passed}
use Rattle.coordinator.proofs.AckCases.{ack-passed}
use Rattle.coordinator.proofs.Reserve.{Reserved, admits-length, init-reserved, add-reserved, end-reserved, tick-reserved, flush-reserved, ack-reserved, log-length}

-- what a call decides on that is lent a log buffer of n bytes
pub data Decided (s : Coordinator) (n : ℕ) (a : Action) : Type 0 where
  by_call : (c : CoordinatorCall) → call_typed c ≡ true → a ≡ action_of c s n → Decided s n a

-- if a record is appended, a buffer of n bytes is admitted
abbrev pub AppendsAdmitted : Coordinator → ℕ → Action → Type 0
AppendsAdmitted s n keep = Unit {0}
AppendsAdmitted s n (advance clock) = Unit {0}
AppendsAdmitted s n (append place row) = admits s n ≡ true
AppendsAdmitted s n (acknowledge place position) = Unit {0}
AppendsAdmitted s n (flush_to length) = Unit {0}

module _ (s : Coordinator) (n : ℕ) where
  admitted : (a : Action) → admits s n ≡ true → AppendsAdmitted s n a
  admitted keep e = tt
  admitted (advance clock) e = tt
  admitted (append place row) e = e
  admitted (acknowledge place position) e = tt
  admitted (flush_to length) e = tt

  call-admitted : (c : CoordinatorCall) → AppendsAdmitted s n (action_of c s n)
  unfolding init add end tick flush ack
  call-admitted (init_call name timeout time) =
      unless-does (first_refusal (init_tests s n name timeout time)) InitRefused keep (init_accepted s name timeout time) (AppendsAdmitted s n) tt
      (λ e. admitted (init_accepted s name timeout time).action (init-passed s n name timeout time e).admitted)
  call-admitted (add_call name pid epoch set time) =
      unless-does (first_refusal (add_tests s n name pid epoch set time)) Refused keep _ (AppendsAdmitted s n) tt
      (λ e. admitted (add_action s name set time) (add-passed s n name pid epoch set time e).admitted)
  call-admitted (end_call name pid epoch verdict time) =
      unless-does (first_refusal (end_tests s n name pid epoch verdict)) Refused keep _ (AppendsAdmitted s n) tt
      (λ e. admitted (end_action s name verdict time) (end-passed s n name pid epoch verdict time e).admitted)
  call-admitted (tick_call time) =
      unless-does (first_refusal (tick_tests s n)) TickRefused keep (tick_accepted s time) (AppendsAdmitted s n) tt (λ e. admitted (tick_accepted s time).action (tick-passed s n time e).admitted)
  call-admitted (flush_call length) = unless-does (first_refusal (flush_tests s length)) Refused keep _ (AppendsAdmitted s n) tt (λ e. tt)
  call-admitted (ack_call place pid epoch position) =
      unless-does (first_refusal (ack_tests s n place pid epoch position)) Refused keep _ (AppendsAdmitted s n) tt
      (λ e. admitted (ack_action s place position (row_at s.table place)) (ack-passed s n place pid epoch position e).admitted)

  pub decided-admitted : (a : Action) → Decided s n a → AppendsAdmitted s n a
  decided-admitted a (by_call c t e) = subst (AppendsAdmitted s n) (sym e) (call-admitted c)

module _ (s : Coordinator) (r : Reserved s) where
  call-reserved : (n : ℕ) (c : CoordinatorCall) → Reserved (after (action_of c s n) s)
  call-reserved n (init_call name timeout time) = init-reserved s r n name timeout time
  call-reserved n (add_call name pid epoch set time) = add-reserved s r n name pid epoch set time
  call-reserved n (end_call name pid epoch verdict time) = end-reserved s r n name pid epoch verdict time
  call-reserved n (tick_call time) = tick-reserved s r n time
  call-reserved n (flush_call length) = flush-reserved s r length
  call-reserved n (ack_call place pid epoch position) = ack-reserved s r n place pid epoch position

  -- the reserve stands
  pub decided-reserved : (n : ℕ) (a : Action) → Decided s n a → Reserved (after a s)
  decided-reserved n a (by_call c t e) = rw e (call-reserved n c)

  -- and the log buffer keeps its length
  pub decided-length : (log : List ℕ) (a : Action) → Decided s (length log) a → length (log_after a s log) ≡ length log
  unfolding appended
  decided-length log a d = go a (decided-admitted s (length log) a d) (decided-reserved (length log) a d)
    where
      go : (b : Action) → AppendsAdmitted s (length log) b → Reserved (after b s) → length (log_after b s log) ≡ length log
      go keep h k = refl
      go (advance clock) h k = refl
      go (append place row) h k =
          let e : length log ≡ s.room = eqb-true _ _ (sym (admits-length s r (length log)) ∙ h) in log-length (append place row) s log k e ∙ sym e
      go (acknowledge place position) h k = refl
      go (flush_to n) h k = refl
