-- Every item of a run preserves the invariant (`step-preserves`), so it holds at every moment of every run (`always`).
use Prim.Native.Nat.{ℕ}
use mathlib.Core.Path.{◌≡◌, refl, subst, ◌∙◌}
use mathlib.Core.Bool.{Bool, true, false, cond, not}
use mathlib.Core.List.{List, [], ◌∷◌}
use native.Mathlib.Omega.{arith}
use lib.IntN.{ℤ}
use lib.ListN.{length}
use borrow.Author.Tests.{not-true}
use Rattle.numbers.specs.Padded.{padded}
use Rattle.numbers.proofs.Tests.{not-both, and_left, and_right}
use Rattle.bits.specs.Bits.{member}
use Rattle.catalogue.specs.Catalogue.{parse}
use Rattle.record.specs.Limits.{name_max}
use Rattle.answers.specs.Refusals.{first_refusal}
use Rattle.answers.specs.ProduceAnswer.{Refused}
use Rattle.answers.proofs.Laws.{unless-does}
use Rattle.coordinator.specs.declared.Coordinator.{Coordinator}
use Rattle.coordinator.specs.Calls.{ack_call, call_typed, action_of}
use Rattle.partition.specs.Partition.{Action as PartitionAction, keep as keep_partition}
use Rattle.server.specs.Produce.{produce_tests, produce}
use Rattle.server.proofs.ProduceCases.{produce-passed}
use Rattle.runs.specs.History.{entry_written}
use Rattle.runs.specs.World.{up, nothing, to_deliver, to_acknowledge, World, catalogue_of, leader_at, FirstOpening, Accepted, start, own, another, Item, call, call_order, call_produce, call_read, deliver, acknowledge, cut, reopen, is_ack, in_lists, leader_does, next, step, run}
use Rattle.runs.proofs.Admitted.{step-own}
use Rattle.runs.proofs.Cases.{step-cases, while-up-cases, lent-cases, leader-cases, deliverable-cases, acknowledgeable-cases, read-cases, cut-cases, reopened-cases}
use Rattle.protocol.proofs.Extends.{Extends, still, extends-then}
use Rattle.agreement.proofs.Invariant.{Invariant}
use Rattle.agreement.proofs.Preserves.{Preserves, same, carries-nothing-preserves, call-preserves, carrying-of}
use Rattle.agreement.proofs.Orders.{order-preserves}
use Rattle.agreement.proofs.Produces.{same-leader-preserves, produce-preserves}
use Rattle.agreement.proofs.Delivers.{marker-preserves}
use Rattle.agreement.proofs.Acknowledges.{ack-preserves}
use Rattle.agreement.proofs.Restarts.{cut-preserves, opening-preserves, call-elsewhere-preserves, produce-elsewhere-preserves, marker-elsewhere-preserves}
use Rattle.agreement.proofs.Start.{start-invariant}

module _ (w : World) (i : Invariant w) where
  -- Produce is lent its own partition's words, or any one's for a position outside the catalogue
  produces : (s : Coordinator) (u : w.phase ≡ up s) (other : ℕ) (name : List ℕ) (pid epoch : ℤ) (position : ℕ) (sequence : ℤ) (payload : ℕ) (b : Bool) → member s.catalogue.all position ≡ b
      → let x = cond b position other in
      Preserves w (leader_does x (produce s (leader_at w x).partition (length (leader_at w x).words) name pid epoch position sequence payload).action
      (entry_written (record { name = padded name_max name; pid = pid; epoch = epoch; position = x; sequence = sequence; payload = payload; offset = (leader_at w x).partition.end })) nothing w)
  produces s u other name pid epoch position sequence payload true e = produce-preserves w i s u name pid epoch position sequence payload
  produces s u other name pid epoch position sequence payload false e = outside
    where
      outside : Preserves w (leader_does other (produce s (leader_at w other).partition (length (leader_at w other).words) name pid epoch position sequence payload).action
          (entry_written (record { name = padded name_max name; pid = pid; epoch = epoch; position = other; sequence = sequence; payload = payload; offset = (leader_at w other).partition.end })) nothing w)
      outside =
          unfold produce in
          unless-does (first_refusal (produce_tests s (leader_at w other).partition (length (leader_at w other).words) name pid epoch position sequence)) Refused keep_partition _
          (λ (a : PartitionAction). Preserves w (leader_does other a (entry_written
          (record { name = padded name_max name; pid = pid; epoch = epoch; position = other; sequence = sequence; payload = payload; offset = (leader_at w other).partition.end })) nothing w))
          (same-leader-preserves w i other) (λ z. not-both e (produce-passed s (leader_at w other).partition (length (leader_at w other).words) name pid epoch position sequence payload z).listed)

  next-preserves : (x : Item) → in_lists x ≡ true → Preserves w (next x w)
  next-preserves (call lent c) t =
      while-up-cases (Preserves w) w (same w i) _ (λ s u. lent-cases (Preserves w) w (same w i) lent (action_of c s) s
      (λ o. call-preserves w i s u c (and_left (call_typed c) (not (is_ack c)) t) (not-true (is_ack c) (and_right (call_typed c) (not (is_ack c)) t))) (λ n d. call-elsewhere-preserves w i s u n d c))
  next-preserves (call_order set) t = while-up-cases (Preserves w) w (same w i) _ (λ s u. order-preserves w i s u set)
  next-preserves (call_produce lent other name pid epoch position sequence payload) t =
      while-up-cases (Preserves w) w (same w i) _
      (λ s u. leader-cases (Preserves w) w (same w i) lent _ _ _ _ (λ o. produces s u other name pid epoch position sequence payload (member s.catalogue.all position) refl)
      (λ n d. produce-elsewhere-preserves w i _ n d s name pid epoch position sequence payload))
  next-preserves (call_read lent x from out) t = while-up-cases (Preserves w) w (same w i) _ (λ s u. read-cases (Preserves w) w (same w i) lent x (carries-nothing-preserves w i))
  next-preserves (deliver lent n) t =
      while-up-cases (Preserves w) w (same w i) _
      (λ s u. deliverable-cases (Preserves w) w (same w i) n _
      (λ o e. leader-cases (Preserves w) w (same w i) lent o.position _ _ _ (λ l. marker-preserves w i s u o (carrying-of w i s u (to_deliver n o) e) n)
      (λ m d. marker-elsewhere-preserves w i o.position m d o.place o.pid o.epoch o.verdict o.coordinator n o)))
  next-preserves (acknowledge own n) t =
      while-up-cases (Preserves w) w (same w i) _
      (λ s u. acknowledgeable-cases (Preserves w) w (same w i) n _ (λ o e. let (way, none_open) = carrying-of w i s u (to_acknowledge n o) e in ack-preserves w i s u o way none_open))
  next-preserves (acknowledge (another slice) n) t =
      while-up-cases (Preserves w) w (same w i) _
      (λ s u. acknowledgeable-cases (Preserves w) w (same w i) n _
      (λ o e. lent-cases (Preserves w) w (same w i) (another slice) (action_of (ack_call o.place o.pid o.epoch o.position) s) s (λ z. absurd (not_own slice z))
      (λ m d. call-elsewhere-preserves w i s u m d (ack_call o.place o.pid o.epoch o.position))))
    where
      not_own : (slice : List ℕ) → another slice ≡ own → ⊥
      not_own slice z = let y : ◌≡◌ {A = ℕ} 0 1 = cc in omega arith
  next-preserves (cut n) t = while-up-cases (Preserves w) w (same w i) _ (λ s u. cut-cases (Preserves w) w (same w i) n s (cut-preserves w i s u n))
  next-preserves (reopen epoch first last) t = reopened-cases (Preserves w) w (same w i) epoch first last (λ n before u e. opening-preserves w i n before u epoch first last t e)

  pub step-preserves : (x : Item) → Preserves w (step x w)
  step-preserves x = step-cases (Preserves w) x w (same w i) (next-preserves x)

-- ---- runs

pub record Reached (w v : World) : Type 0 where
  pub same_text : v.text ≡ w.text
  pub extends : Extends (catalogue_of w) w.history v.history
  pub invariant : Invariant v

pub run-reached : (items : List Item) (w : World) → Invariant w → Reached w (run items w)
unfolding run
run-reached [] w i = record { same_text = refl; extends = still; invariant = i }
run-reached (x ∷ items) w i =
    let g = step-preserves w i x in
    let j = g.holds (step-own x w i.own) in
    let r = run-reached items (step x w) j in
    record {
      same_text = r.same_text ∙ g.same_text;
      extends = extends-then (catalogue_of w) w.history g.extends (subst (λ (y : List ℕ). Extends (parse y).catalogue (step x w).history (run items (step x w)).history) g.same_text r.extends);
      invariant = r.invariant;
    }

-- the invariant holds at every moment
pub always : (o : FirstOpening) → Accepted o → (items : List Item) → Invariant (run items (start o))
always o a items = (run-reached items (start o) (start-invariant o a)).invariant
