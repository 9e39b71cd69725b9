-- A `carry` is an order that is given, delivered and acknowledged; in a run neither Marker nor Ack is refused.
use Prim.Native.Nat.{ℕ}
use mathlib.Core.Path.{◌≡◌, refl, sym, ap, subst, ◌∙◌}
use mathlib.Core.Bool.{true}
use mathlib.Core.List.{List, [], ◌∷◌}
use lib.IntN.{ℤ}
use lib.ListN.{length, get_or, set}
use borrow.Author.Tests.{eq-eqb}
use Rattle.bits.specs.Bits.{member}
use Rattle.answers.specs.Answers.{reply}
use Rattle.answers.specs.OrderAnswer.{OrderAnswer}
use Rattle.answers.specs.OrderAnswer.{Order as Ordered, NoOrder}
use Rattle.coordinator.specs.Order.{order}
use Rattle.coordinator.specs.Ack.{ack}
use Rattle.coordinator.specs.Calls.{ack_call, is_word}
use Rattle.coordinator.specs.declared.Coordinator.{Coordinator}
use Rattle.partition.specs.Partition.{Action as PartitionAction}
use Rattle.partition.specs.Marker.{marker}
use Rattle.partition.specs.declared.Partition.{Partition}
use Rattle.partition.proofs.Fits.{marker-fits}
use Rattle.runs.specs.History.{History, Order, order_given, marker_written}
use Rattle.runs.specs.World.{World, Leader, open_leader, Carrying, nothing, to_deliver, to_acknowledge, leader_does, own, Item, call_order, deliver, acknowledge, ordered_record, run}
use Rattle.agreement.proofs.Invariant.{Invariant}
use Rattle.agreement.proofs.Delivers.{position-listed}
use Rattle.agreement.proofs.Steps.{run-reached}
use Rattle.restart.proofs.HoldsAt.{carrying-accepted}
use Rattle.session.specs.Memory.{Memory, index_of, partition_at, words_at}
use Rattle.session.specs.Commands.{Outcome, called, carried}
use Rattle.server.specs.Calls.{call, marker_call}
use Rattle.session.proofs.CommandsRefused.{answered-number}
use Rattle.runs.proofs.Run.{run-append}
use Rattle.session_runs.specs.SessionRuns.{leader_of}
use Rattle.session_runs.proofs.Positions.{position_of, all-positions, index-inside, member-position}
use Rattle.session_runs.proofs.Worlds.{world, Held, Shown, coordinator-did}
use Rattle.session_runs.proofs.Steps.{leader-held, leader_left}

-- the items of a `carry`
abbrev pub carry_items : ℕ → History → List Item
carry_items up h = call_order up ∷ deliver own (length h) ∷ acknowledge own (length h) ∷ []

module _ (m : Memory) (leaders : List Leader) (k : Carrying) (h : History) (held : Held m leaders) (inv : Invariant (world m leaders k h)) (set-up : ℕ) (word : is_word set-up ≡ true) where
  abbrev c : Coordinator
  c = m.session.coordinator

  no-order : order c set-up ≡ NoOrder → Shown (run (carry_items set-up h) (world m leaders k h)) m
  unfolding run
  no-order e = rw (word, e) (record { leaders = leaders; carrying = nothing; history = h; is = refl; held = held })

  module _ (place : ℕ) (pid epoch : ℤ) (verdict position : ℕ) (coordinator : ℤ) (given : order c set-up ≡ Ordered place pid epoch verdict position coordinator) where
    abbrev o : Order
    o = record { place = place; pid = pid; epoch = epoch; verdict = verdict; position = position; coordinator = coordinator; for = ordered_record c place h }

    -- the world once the order is given
    abbrev ordered : World
    ordered = world m leaders (to_deliver (length h) o) (order_given o ∷ h)

    ordered-is : run (call_order set-up ∷ []) (world m leaders k h) ≡ ordered
    unfolding run
    ordered-is = rw (word, given)

    ordered-invariant : Invariant ordered
    ordered-invariant = subst Invariant ordered-is (run-reached (call_order set-up ∷ []) (world m leaders k h) inv).invariant

    abbrev index : ℕ
    index = index_of position

    at : position ≡ position_of index
    at = member-position position (subst (λ (a : ℕ). member a position ≡ true) all-positions (position-listed ordered ordered-invariant c refl o ordered-invariant.carried))

    abbrev decide : Partition → ℕ → PartitionAction
    decide p n = (marker p n place pid epoch verdict coordinator).action

    abbrev l : Leader
    l = get_or leaders position (open_leader [])

    marker-done : (reply (marker l.partition (length l.words) place pid epoch verdict coordinator).answer).number ≡ 0
    marker-done = carrying-accepted ordered ordered-invariant

    -- the world once it is delivered
    abbrev delivered : World
    delivered = leader_does position (decide l.partition (length l.words)) (marker_written o) (to_acknowledge (length h) o) ordered

    delivered-is : run (deliver own (length h) ∷ []) ordered ≡ delivered
    unfolding run
    delivered-is = rw (eq-eqb (length h) (length h) refl, eq-eqb _ 0 marker-done)

    delivered-invariant : Invariant delivered
    delivered-invariant = subst Invariant delivered-is (run-reached (deliver own (length h) ∷ []) ordered ordered-invariant).invariant

    ack-done : (reply (ack c (length m.log) place pid epoch position).answer).number ≡ 0
    ack-done = carrying-accepted delivered delivered-invariant

    -- the session's Marker is that of the leader
    session-marker : (reply (marker (partition_at m.session index) (length (words_at m.words index)) place pid epoch verdict coordinator).answer).number ≡ 0
    session-marker =
        let here : l ≡ leader_of m index = ap (λ (x : ℕ). get_or leaders x (open_leader [])) at ∙ held.at_position index (index-inside position) in
        sym (ap (λ (x : Leader). (reply (marker x.partition (length x.words) place pid epoch verdict coordinator).answer).number) here) ∙ marker-done

    abbrev marked : Outcome
    marked = called (marker_call place pid epoch verdict coordinator) index m

    marked-held : Held marked.memory (set leaders position (leader_left m leaders k h held index (index-inside position) decide (λ p n. marker-fits p n place pid epoch verdict coordinator) position))
    marked-held = leader-held m leaders k h held index (index-inside position) decide (λ p n. marker-fits p n place pid epoch verdict coordinator) position at

    acknowledged : Shown (run (acknowledge own (length h) ∷ []) delivered) (called (call (ack_call place pid epoch position)) index marked.memory).memory
    unfolding run
    acknowledged = rw (eq-eqb (length h) (length h) refl) (coordinator-did marked.memory _ marked-held index (ack c (length m.log) place pid epoch position).action nothing _)

    carried-order : Shown (run (carry_items set-up h) (world m leaders k h)) (carried (Ordered place pid epoch verdict position coordinator) m).memory
    carried-order =
        rw (run-append (call_order set-up ∷ []) (deliver own (length h) ∷ acknowledge own (length h) ∷ []) (world m leaders k h), ordered-is)
        (rw (run-append (deliver own (length h) ∷ []) (acknowledge own (length h) ∷ []) ordered, delivered-is)
        (rw (eq-eqb _ 0 session-marker) acknowledged))

    pub carried-number : (carried (Ordered place pid epoch verdict position coordinator) m).reply.number ≡ 0
    carried-number = rw (eq-eqb _ 0 session-marker, answered-number (reply (ack c (length m.log) place pid epoch position).answer).number _) ack-done

  pub carry-shown : (a : OrderAnswer) → order c set-up ≡ a → Shown (run (carry_items set-up h) (world m leaders k h)) (carried a m).memory
  carry-shown NoOrder e = no-order e
  carry-shown (Ordered place pid epoch verdict position coordinator) e = carried-order place pid epoch verdict position coordinator e

  -- no `carry` of a run is refused
  pub carry-accepted : (a : OrderAnswer) → order c set-up ≡ a → (carried a m).reply.number ≡ 0
  carry-accepted NoOrder e = refl
  carry-accepted (Ordered place pid epoch verdict position coordinator) e = carried-number place pid epoch verdict position coordinator e
