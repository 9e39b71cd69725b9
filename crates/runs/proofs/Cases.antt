-- What an item does, by cases: of the next world holds what holds of each world that the item can leave.
use Prim.Native.Nat.{ℕ}
use mathlib.Core.Path.{◌≡◌, refl, ap}
use mathlib.Core.Bool.{true, ◌&&◌}
use lib.Dec.{eqb, leb}
use lib.IntN.{ℤ, pos}
use lib.ListN.{length, set}
use lib.Signed.{le_z}
use borrow.Author.Tests.{eqb-true, eqb-false}
use Rattle.numbers.proofs.Tests.{by_cases}
use Rattle.answers.specs.OrderAnswer.{OrderAnswer}
use Rattle.answers.specs.OrderAnswer.{Order as Ordered, NoOrder}
use Rattle.coordinator.specs.Coordinator.{log_end, Action}
use Rattle.coordinator.specs.Open.{opening}
use Rattle.coordinator.specs.declared.Coordinator.{Coordinator}
use Rattle.partition.specs.Partition.{Action as PartitionAction, after as partition_after}
use Rattle.partition.specs.declared.Partition.{Partition}
use Rattle.writable_logs.specs.Writer.{opening_reply}
use Rattle.runs.specs.History.{Order, Event, log_cut, log_opened, order_given}
use Rattle.runs.specs.World.{Phase, up, down, Carrying, nothing, to_deliver, to_acknowledge, World, leader_at, Lent, own, another, Item, in_lists, with_carrying, with_event, with_phase, with_partition, coordinator_does, coordinator_elsewhere, coordinator_lent, while_up, leader_does, leader_lent, ordered_record, order_answered, deliverable, acknowledgeable, read_called, cut_at, reopened, next, step}

-- an order is given
abbrev pub with_order : World → Order → World
with_order w o = with_carrying (with_event w (order_given o)) (to_deliver (length w.history) o)

-- an item does what it does while the coordinator is up
pub while-up : (w : World) (s : Coordinator) → w.phase ≡ up s → (f : Coordinator → World) → while_up w.phase w f ≡ f s
while-up w s u f = ap (λ (p : Phase). while_up p w f) u

-- ---- the cases

module _ (P : World → Type 0) where
  pub step-cases : (x : Item) (w : World) → P w → (in_lists x ≡ true → P (next x w)) → P (step x w)
  step-cases x w p f = by_cases P (in_lists x) f (λ t. p)

  module _ (w : World) (same : P w) where
    pub while-up-cases : (f : Coordinator → World) → ((s : Coordinator) → w.phase ≡ up s → P (f s)) → P (while_up w.phase w f)
    while-up-cases f g = go w.phase refl
      where
        go : (p : Phase) → w.phase ≡ p → P (while_up p w f)
        go (up s) e = g s e
        go (down n epoch) e = same

    pub lent-cases : (lent : Lent) (action : ℕ → Action) (s : Coordinator)
        → (lent ≡ own → P (coordinator_does (action (length w.log)) s w))
        → ((n : ℕ) → (n ≡ length w.log → ⊥) → P (coordinator_elsewhere (action n) s w))
        → P (coordinator_lent lent action s w)
    lent-cases own action s f g = f refl
    lent-cases (another slice) action s f g = by_cases P (eqb (length slice) (length w.log)) (λ e. same) (λ e. g (length slice) (eqb-false _ _ e))

    pub leader-cases : (lent : Lent) (x : ℕ) (action : Partition → ℕ → PartitionAction) (e : Event) (c : Partition → ℕ → Carrying)
        → (let l = leader_at w x in lent ≡ own → P (leader_does x (action l.partition (length l.words)) e (c l.partition (length l.words)) w))
        → (let l = leader_at w x in (n : ℕ) → (n ≡ length l.words → ⊥) → P (with_partition w x (partition_after (action l.partition n) l.partition) (c l.partition n)))
        → P (leader_lent lent x action e c w)
    leader-cases own x action e c f g = f refl
    leader-cases (another slice) x action e c f g =
        by_cases P (eqb (length slice) (length (leader_at w x).words)) (λ t. same) (λ t. g (length slice) (eqb-false _ _ t))

    pub deliverable-cases : (i : ℕ) (f : Order → World) → ((o : Order) → w.carrying ≡ to_deliver i o → P (f o)) → P (deliverable w.carrying i w f)
    deliverable-cases i f g = go w.carrying refl
      where
        go : (c : Carrying) → w.carrying ≡ c → P (deliverable c i w f)
        go nothing e = same
        go (to_deliver j o) e = by_cases P (eqb i j) (λ t. g o (rw (eqb-true i j t) e)) (λ t. same)
        go (to_acknowledge j o) e = same

    pub acknowledgeable-cases : (i : ℕ) (f : Order → World) → ((o : Order) → w.carrying ≡ to_acknowledge i o → P (f o)) → P (acknowledgeable w.carrying i w f)
    acknowledgeable-cases i f g = go w.carrying refl
      where
        go : (c : Carrying) → w.carrying ≡ c → P (acknowledgeable c i w f)
        go nothing e = same
        go (to_deliver j o) e = same
        go (to_acknowledge j o) e = by_cases P (eqb i j) (λ t. g o (rw (eqb-true i j t) e)) (λ t. same)

    pub read-cases : (lent : Lent) (x : ℕ) → P (with_carrying w nothing) → P (read_called lent x w)
    read-cases own x p = p
    read-cases (another slice) x p = by_cases P (eqb (length slice) (length (leader_at w x).words)) (λ t. same) (λ t. p)

    pub cut-cases : (n : ℕ) (s : Coordinator) → ((leb s.flushed n && leb n (log_end s)) ≡ true → P (with_phase w (down n s.epoch) (log_cut n))) → P (cut_at n s w)
    cut-cases n s f = by_cases P (leb s.flushed n && leb n (log_end s)) f (λ t. same)

    pub reopened-cases : (epoch first last : ℤ)
        → ((n before : ℕ) → w.phase ≡ down n before → (eqb (opening_reply w.text w.log n epoch first last).number 0 && le_z (pos before) epoch) ≡ true
        → P (with_phase w (up (opening w.text w.log n epoch first last).state) (log_opened epoch)))
        → P (reopened w.phase epoch first last w)
    reopened-cases epoch first last f = go w.phase refl
      where
        go : (p : Phase) → w.phase ≡ p → P (reopened p epoch first last w)
        go (up s) e = same
        go (down n before) e =
            by_cases P (eqb (opening_reply w.text w.log n epoch first last).number 0 && le_z (pos before) epoch) (f n before e) (λ t. same)

  pub answered-cases : (w : World) (s : Coordinator) (set : OrderAnswer) → P (with_carrying w nothing)
      → ((place : ℕ) (pid epoch : ℤ) (verdict position : ℕ) (coordinator : ℤ) → set ≡ Ordered place pid epoch verdict position coordinator
      → P (with_order w (record {
        place = place;
        pid = pid;
        epoch = epoch;
        verdict = verdict;
        position = position;
        coordinator = coordinator;
        for = ordered_record s place w.history;
      })))
      → P (order_answered set s w)
  answered-cases w s NoOrder p f = p
  answered-cases w s (Ordered place pid epoch verdict position coordinator) p f = f place pid epoch verdict position coordinator refl
