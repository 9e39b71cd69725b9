-- The log's bytes below its end never change, and while there is no cut the end never falls.
use Prim.Native.Nat.{ℕ, ◌≤◌}
use mathlib.Core.Path.{◌≡◌, refl, sym, ap, subst, ◌∙◌}
use mathlib.Core.Bool.{false}
use mathlib.Core.List.{List}
use native.Mathlib.Omega.{arith}
use lib.ListN.{length, take}
use lib.Seq.{take-take}
use Rattle.numbers.proofs.Bytes.{take-overwrite}
use Rattle.numbers.proofs.Tests.{not-both}
use Rattle.search.specs.Search.{Each}
use Rattle.table.specs.Table.{apply}
use Rattle.coordinator.specs.Coordinator.{log_end, row_frame, Action, keep, advance, append, acknowledge as acknowledge_at, flush_to, appended, acknowledged, after, log_after}
use Rattle.coordinator.specs.declared.Coordinator.{Coordinator}
use Rattle.coordinator.proofs.Laws.{admits-room}
use Rattle.writable_logs.proofs.Decisions.{AppendsAdmitted, decided-admitted}
use Rattle.runs.specs.World.{Phase, up, down, World, Item, step, run}
use Rattle.runs.proofs.Run.{run-keeps-of}
use Rattle.runs.proofs.Changes.{is_cut, step-changes}

-- the end of the log; while the coordinator is down, the length that the cut left
abbrev pub end_of_phase : Phase → ℕ
end_of_phase (up s) = log_end s
end_of_phase (down n epoch) = n

abbrev pub end_now : World → ℕ
end_now w = end_of_phase w.phase

abbrev pub IsUp : Phase → Type 0
IsUp (up s) = Unit {0}
IsUp (down n epoch) = ⊥

-- ---- an action

-- it leaves the bytes below the end
below_end : (s : Coordinator) (log : List ℕ) (a : Action) → AppendsAdmitted s (length log) a → take (log_end s) (log_after a s log) ≡ take (log_end s) log
below_end s log keep h = refl
below_end s log (advance clock) h = refl
below_end s log (append place row) h =
    take-overwrite log (log_end s) (row_frame s row) (omega (arith, admits-room s (length log) h))
below_end s log (acknowledge_at place position) h = refl
below_end s log (flush_to n) h = refl

-- and the end does not fall
end-rises : (s : Coordinator) (a : Action) → log_end s ≤ log_end (after a s)
unfolding appended acknowledged apply
end-rises s keep = omega arith
end-rises s (advance clock) = omega arith
end-rises s (append place row) = omega arith
end-rises s (acknowledge_at place position) = omega arith
end-rises s (flush_to n) = omega arith

-- ---- an item

pub step-below : (x : Item) (w : World) → take (end_now w) (step x w).log ≡ take (end_now w) w.log
step-below x w =
    step-changes (λ (v : World). take (end_now w) v.log ≡ take (end_now w) w.log) w x
    (record {
      rests = λ c new. refl;
      acts = λ l s u a d new. rw u (below_end s w.log a (decided-admitted s (length w.log) a d));
      acts-elsewhere = λ l s u n o a d new. refl;
      leads = λ y t a d c new. refl;
      leads-elsewhere = λ y t n o a d c. refl;
      cuts = λ i s u n e. refl;
      reopens = λ i n before u epoch first last t e. refl;
    })

-- the coordinator is up and the end is not below n
abbrev UpPast : ℕ → World → Type 0
UpPast n w = IsUp w.phase × (n ≤ end_now w)

pub step-up : (x : Item) (w : World) → is_cut x ≡ false → IsUp w.phase → IsUp (step x w).phase × (end_now w ≤ end_now (step x w))
step-up x w whole h =
    step-changes (UpPast (end_now w)) w x
    (record {
      rests = λ c new. (h, omega arith);
      acts = λ l s u a d new. (tt, rw u (end-rises s a));
      acts-elsewhere = λ l s u n o a d new. (tt, rw u (end-rises s a));
      leads = λ y t a d c new. (h, omega arith);
      leads-elsewhere = λ y t n o a d c. (h, omega arith);
      cuts = λ i s u n e. not-both whole i;
      reopens = λ i n before u epoch first last t e. absurd (subst IsUp u h);
    })

-- ---- a list without a cut

abbrev pub WithoutCut : List Item → Type 0
WithoutCut items = Each (λ (x : Item). is_cut x ≡ false) items

pub record Further (w v : World) : Type 0 where
  pub still-up : IsUp v.phase
  pub end-past : end_now w ≤ end_now v
  pub bytes-kept : take (end_now w) v.log ≡ take (end_now w) w.log

pub run-further : (items : List Item) (w : World) → WithoutCut items → IsUp w.phase → Further w (run items w)
run-further items w whole h =
    run-keeps-of (λ (x : Item). is_cut x ≡ false) (Further w) further items w whole (record { still-up = h; end-past = omega arith; bytes-kept = refl })
  where
    further : (x : Item) (v : World) → is_cut x ≡ false → Further w v → Further w (step x v)
    further x v i f =
        let u = step-up x v i f.still-up in
        record {
          still-up = u.0;
          end-past = omega (arith, f.end-past, u.1);
          bytes-kept =
              sym (take-take (end_now w) (end_now v) (step x v).log f.end-past)
              ∙ ap (take (end_now w)) (step-below x v) ∙ take-take (end_now w) (end_now v) v.log f.end-past ∙ f.bytes-kept;
        }
