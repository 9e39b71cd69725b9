-- What each item leaves alone, in every world.
use Prim.Native.Nat.{ℕ, ◌-◌}
use mathlib.Core.Path.{◌≡◌, refl}
use mathlib.Core.Bool.{false}
use Rattle.numbers.proofs.Tests.{not-both}
use Rattle.answers.specs.Refusals.{first_refusal}
use Rattle.answers.specs.Answer.{Refused}
use Rattle.answers.proofs.Laws.{unless-does}
use Rattle.coordinator.specs.Coordinator.{Action, keep, log_after}
use Rattle.coordinator.specs.Flush.{flush_tests, flush}
use Rattle.coordinator.specs.Calls.{flush_call, action_of}
use Rattle.coordinator.specs.declared.Coordinator.{Coordinator}
use Rattle.runs.specs.World.{World, Lent, Item, call, coordinator_does, coordinator_elsewhere, step}
use Rattle.runs.proofs.Cases.{while-up-cases, lent-cases}
use Rattle.runs.proofs.Changes.{of_log, Touches, step-changes}

-- ---- what only some items change

-- the leaders: changed by Produce and by Marker only
pub same-leaders : (x : Item) (w : World) → ((y : ℕ) → Touches x w y → ⊥) → (step x w).leaders ≡ w.leaders
same-leaders x w untouched =
    step-changes (λ (v : World). v.leaders ≡ w.leaders) w x
    (record {
      rests = λ c new. refl;
      acts = λ l s u a d new. refl;
      acts-elsewhere = λ l s u n o a d new. refl;
      leads = λ y t a d c new. absurd (untouched y t);
      leads-elsewhere = λ y t n o a d c. absurd (untouched y t);
      cuts = λ i s u n e. refl;
      reopens = λ i n before u epoch first last t e. refl;
    })

-- the log: changed by calls of the coordinator only
pub same_log : (x : Item) (w : World) → of_log x ≡ false → (step x w).log ≡ w.log
same_log x w other =
    step-changes (λ (v : World). v.log ≡ w.log) w x
    (record {
      rests = λ c new. refl;
      acts = λ l s u a d new. not-both other l;
      acts-elsewhere = λ l s u n o a d new. refl;
      leads = λ y t a d c new. refl;
      leads-elsewhere = λ y t n o a d c. refl;
      cuts = λ i s u n e. refl;
      reopens = λ i n before u epoch first last t e. refl;
    })

-- of these Flush does not change it
pub flush-log : (lent : Lent) (n : ℕ) (w : World) → (step (call lent (flush_call n)) w).log ≡ w.log
unfolding flush
flush-log lent n w =
    while-up-cases (λ (v : World). v.log ≡ w.log) w refl _
    (λ s u. lent-cases (λ (v : World). v.log ≡ w.log) w refl lent (action_of (flush_call n) s) s
    (λ o. unless-does (first_refusal (flush_tests s n)) Refused keep _ (λ (a : Action). log_after a s w.log ≡ w.log) refl (λ e. refl)) (λ m d. refl))

-- so it does the same whatever slice it is lent
pub flush-elsewhere : (n : ℕ) (s : Coordinator) (w : World) → coordinator_elsewhere (flush s n).action s w ≡ coordinator_does (flush s n).action s w
unfolding flush
flush-elsewhere n s w =
    unless-does (first_refusal (flush_tests s n)) Refused keep _ (λ (a : Action). coordinator_elsewhere a s w ≡ coordinator_does a s w) refl (λ e. refl)
