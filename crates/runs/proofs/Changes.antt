-- The few ways in which an item changes the world, whatever its arguments. What holds of each of these worlds holds of the next one.
use Prim.Native.Nat.{ℕ}
use mathlib.Core.Path.{◌≡◌, refl, sym, subst}
use mathlib.Core.Bool.{Bool, true, false, not, ◌&&◌}
use mathlib.Core.List.{List, [], ◌∷◌, ◌++◌}
use lib.Dec.{eqb, leb}
use lib.IntN.{ℤ, pos}
use lib.ListN.{length, set}
use lib.Signed.{le_z}
use Rattle.numbers.proofs.Tests.{and_left}
use Rattle.coordinator.specs.Coordinator.{log_end, Action, keep, advance, append, acknowledge as acknowledged, flush_to, after, log_after}
use Rattle.coordinator.specs.Open.{opening}
use Rattle.coordinator.specs.Order.{order}
use Rattle.coordinator.specs.Calls.{ack_call, call_typed, action_of}
use Rattle.coordinator.specs.declared.Coordinator.{Coordinator}
use Rattle.partition.specs.Partition.{Action as PartitionAction, keep as keep_partition, note, write, after as partition_after, words_after}
use Rattle.partition.specs.Marker.{marker}
use Rattle.partition.specs.declared.Partition.{Partition}
use Rattle.server.specs.Produce.{produce}
use Rattle.writable_logs.specs.Writer.{opening_typed, opening_reply}
use Rattle.writable_logs.proofs.Decisions.{Decided, by_call}
use Rattle.runs.specs.History.{Order, Event, log_cut, log_opened, order_carried, History}
use Rattle.runs.specs.World.{up, down, Carrying, nothing, to_deliver, World, leader_at, own, another, Item, call, call_order, call_produce, call_read, deliver, acknowledge, cut, reopen, with_phase, with_leader, with_partition, history_after, history_written, leader_does, lent_partition, is_ack, in_lists, next, step}
use Rattle.runs.proofs.Cases.{step-cases, while-up-cases, lent-cases, leader-cases, deliverable-cases, acknowledgeable-cases, read-cases, cut-cases, reopened-cases, answered-cases}

-- ---- kinds of items

-- Init, Add, End, Tick, Flush and Ack: what may change the log and the coordinator's state
abbrev pub of_log : Item → Bool
of_log (call lent c) = true
of_log (call_order partitions) = false
of_log (call_produce lent other name pid epoch position sequence payload) = false
of_log (call_read lent x from out) = false
of_log (deliver lent i) = false
of_log (acknowledge lent i) = true
of_log (cut n) = false
of_log (reopen epoch first last) = false

abbrev pub is_cut : Item → Bool
is_cut (call lent c) = false
is_cut (call_order partitions) = false
is_cut (call_produce lent other name pid epoch position sequence payload) = false
is_cut (call_read lent x from out) = false
is_cut (deliver lent i) = false
is_cut (acknowledge lent i) = false
is_cut (cut n) = true
is_cut (reopen epoch first last) = false

abbrev pub is_reopening : Item → Bool
is_reopening (call lent c) = false
is_reopening (call_order partitions) = false
is_reopening (call_produce lent other name pid epoch position sequence payload) = false
is_reopening (call_read lent x from out) = false
is_reopening (deliver lent i) = false
is_reopening (acknowledge lent i) = false
is_reopening (cut n) = false
is_reopening (reopen epoch first last) = true

-- the position whose leader an item is for: Produce's partition that is lent, and that of the order that is to be delivered
abbrev pub Touches : Item → World → ℕ → Type 0
Touches (call lent c) w y = ⊥
Touches (call_order partitions) w y = ⊥
Touches (call_produce lent other name pid epoch position sequence payload) w y = (s : Coordinator) × (w.phase ≡ up s) × (y ≡ lent_partition s position other)
Touches (call_read lent x from out) w y = ⊥
Touches (deliver lent i) w y = (o : Order) × (w.carrying ≡ to_deliver i o) × (y ≡ o.position)
Touches (acknowledge lent i) w y = ⊥
Touches (cut n) w y = ⊥
Touches (reopen epoch first last) w y = ⊥

-- ---- actions

-- what a partition decides on when it is lent n words
pub data Led (p : Partition) (n : ℕ) (a : PartitionAction) : Type 0 where
  by_produce : (s : Coordinator) (name : List ℕ) (pid epoch : ℤ) (position : ℕ) (sequence : ℤ) (payload : ℕ)
      → a ≡ (produce s p n name pid epoch position sequence payload).action → Led p n a
  by_marker : (place : ℕ) (pid epoch : ℤ) (verdict : ℕ) (coordinator : ℤ) → a ≡ (marker p n place pid epoch verdict coordinator).action → Led p n a

-- new events stand before those that there were
pub history-append : (a : Action) (s : Coordinator) (new old : History) → history_after a s (new ++ old) ≡ history_after a s new ++ old
history-append keep s new old = refl
history-append (advance clock) s new old = refl
history-append (append place row) s new old = refl
history-append (acknowledged place position) s new old = refl
history-append (flush_to n) s new old = refl

pub written-append : (a : PartitionAction) (e : Event) (new old : History) → history_written a e (new ++ old) ≡ history_written a e new ++ old
written-append keep_partition e new old = refl
written-append (note coordinator place q) e new old = refl
written-append (write coordinator place q words) e new old = refl

-- ---- the ways

-- only what may be carried and the history change
abbrev pub resting : World → Carrying → History → World
resting w c h = record { text = w.text; log = w.log; phase = w.phase; leaders = w.leaders; carrying = c; history = h }

-- the coordinator does this
abbrev pub acting : World → Coordinator → Action → History → World
acting w s a h = record { text = w.text; log = log_after a s w.log; phase = up (after a s); leaders = w.leaders; carrying = nothing; history = h }

-- it does this to itself, and the log buffer stays
abbrev pub acting_elsewhere : World → Coordinator → Action → History → World
acting_elsewhere w s a h = record { text = w.text; log = w.log; phase = up (after a s); leaders = w.leaders; carrying = nothing; history = h }

-- the leader at a position does this
abbrev pub leading : World → ℕ → PartitionAction → Carrying → History → World
leading w y a c h =
    let l = leader_at w y in
    with_leader w y (record { partition = partition_after a l.partition; words = words_after a l.partition l.words }) c h

-- what is to be shown of each of them
pub record Changes (x : Item) (w : World) (P : World → Type 0) : Type 0 where
  -- nothing but what may be carried and the history
  pub rests : (c : Carrying) (new : History) → P (resting w c (new ++ w.history))
  -- an action of the coordinator, lent the log buffer
  pub acts : of_log x ≡ true → (s : Coordinator) → w.phase ≡ up s → (a : Action) → Decided s (length w.log) a → (new : History) → P (acting w s a (new ++ w.history))
  -- lent a slice of another length
  pub acts-elsewhere : of_log x ≡ true → (s : Coordinator) → w.phase ≡ up s → (n : ℕ) → (n ≡ length w.log → ⊥) → (a : Action) → Decided s n a
      → (new : History) → P (acting_elsewhere w s a (new ++ w.history))
  -- an action of a partition, lent its words
  pub leads : (y : ℕ) → Touches x w y → (a : PartitionAction) → Led (leader_at w y).partition (length (leader_at w y).words) a → (c : Carrying) (new : History)
      → P (leading w y a c (new ++ w.history))
  -- lent a slice of another length
  pub leads-elsewhere : (y : ℕ) → Touches x w y → (n : ℕ) → (n ≡ length (leader_at w y).words → ⊥) → (a : PartitionAction) → Led (leader_at w y).partition n a → (c : Carrying)
      → P (with_partition w y (partition_after a (leader_at w y).partition) c)
  pub cuts : is_cut x ≡ true → (s : Coordinator) → w.phase ≡ up s → (n : ℕ) → (leb s.flushed n && leb n (log_end s)) ≡ true
      → P (with_phase w (down n s.epoch) (log_cut n))
  pub reopens : is_reopening x ≡ true → (n before : ℕ) → w.phase ≡ down n before → (epoch first last : ℤ)
      → opening_typed epoch first last ≡ true → (eqb (opening_reply w.text w.log n epoch first last).number 0 && le_z (pos before) epoch) ≡ true
      → P (with_phase w (up (opening w.text w.log n epoch first last).state) (log_opened epoch))

module _ (P : World → Type 0) (w : World) where
  acts-after : (x : Item) → Changes x w P → of_log x ≡ true → (s : Coordinator) → w.phase ≡ up s → (a : Action) → Decided s (length w.log) a → (new : History)
      → P (acting w s a (history_after a s (new ++ w.history)))
  acts-after x k l s u a d new = subst (λ (h : History). P (acting w s a h)) (sym (history-append a s new w.history)) (k.acts l s u a d (history_after a s new))

  elsewhere-after : (x : Item) → Changes x w P → of_log x ≡ true → (s : Coordinator) → w.phase ≡ up s → (n : ℕ) → (n ≡ length w.log → ⊥) → (a : Action) → Decided s n a
      → P (acting_elsewhere w s a (history_after a s w.history))
  elsewhere-after x k l s u n o a d =
      subst (λ (h : History). P (acting_elsewhere w s a h)) (sym (history-append a s [] w.history)) (k.acts-elsewhere l s u n o a d (history_after a s []))

  leads-after : (x : Item) → Changes x w P → (y : ℕ) → Touches x w y → (a : PartitionAction) → Led (leader_at w y).partition (length (leader_at w y).words) a
      → (e : Event) (c : Carrying) → P (leader_does y a e c w)
  leads-after x k y t a d e c =
      subst (λ (h : History). P (leading w y a c h)) (sym (written-append a e [] w.history)) (k.leads y t a d c (history_written a e []))

  -- while the coordinator is down, and for an item that does nothing, the world stays
  rest : (x : Item) → Changes x w P → P w
  rest x k = k.rests w.carrying []

  next-changes : (x : Item) → in_lists x ≡ true → Changes x w P → P (next x w)
  next-changes (call lent c) t k =
      while-up-cases P w (rest (call lent c) k) _
      (λ s u. lent-cases P w (rest (call lent c) k) lent (action_of c s) s (λ o. acts-after (call lent c) k refl s u _ (by_call c (and_left (call_typed c) (not (is_ack c)) t) refl) [])
      (λ n d. elsewhere-after (call lent c) k refl s u n d _ (by_call c (and_left (call_typed c) (not (is_ack c)) t) refl)))
  next-changes (call_order set) t k =
      while-up-cases P w (rest (call_order set) k) _
      (λ s u. answered-cases P w s (order s set) (k.rests nothing []) (λ place pid epoch verdict position coordinator e. k.rests _ (_ ∷ [])))
  next-changes (call_produce lent other name pid epoch position sequence payload) t k =
      while-up-cases P w (rest (call_produce lent other name pid epoch position sequence payload) k) _
      (λ s u. let y : Touches (call_produce lent other name pid epoch position sequence payload) w (lent_partition s position other) = (s, u, refl) in
      leader-cases P w (rest (call_produce lent other name pid epoch position sequence payload) k) lent (lent_partition s position other) _ _ _
      (λ o. leads-after (call_produce lent other name pid epoch position sequence payload) k _ y _ (by_produce s name pid epoch position sequence payload refl) _ _)
      (λ n d. k.leads-elsewhere _ y n d _ (by_produce s name pid epoch position sequence payload refl) _))
  next-changes (call_read lent x from out) t k =
      while-up-cases P w (rest (call_read lent x from out) k) _ (λ s u. read-cases P w (rest (call_read lent x from out) k) lent x (k.rests nothing []))
  next-changes (deliver lent i) t k =
      while-up-cases P w (rest (deliver lent i) k) _
      (λ s u. deliverable-cases P w (rest (deliver lent i) k) i _
      (λ o c. let y : Touches (deliver lent i) w o.position = (o, c, refl) in
      leader-cases P w (rest (deliver lent i) k) lent o.position _ _ _
      (λ l. leads-after (deliver lent i) k _ y _ (by_marker o.place o.pid o.epoch o.verdict o.coordinator refl) _ _)
      (λ n d. k.leads-elsewhere _ y n d _ (by_marker o.place o.pid o.epoch o.verdict o.coordinator refl) _)))
  next-changes (acknowledge own i) t k =
      while-up-cases P w (rest (acknowledge own i) k) _
      (λ s u. acknowledgeable-cases P w (rest (acknowledge own i) k) i _
      (λ o c. acts-after (acknowledge own i) k refl s u _ (by_call (ack_call o.place o.pid o.epoch o.position) refl refl) (order_carried o ∷ [])))
  next-changes (acknowledge (another slice) i) t k =
      while-up-cases P w (rest (acknowledge (another slice) i) k) _
      (λ s u. acknowledgeable-cases P w (rest (acknowledge (another slice) i) k) i _
      (λ o c. lent-cases P w (rest (acknowledge (another slice) i) k) (another slice) (action_of (ack_call o.place o.pid o.epoch o.position) s) s
      (λ e. acts-after (acknowledge (another slice) i) k refl s u _ (by_call (ack_call o.place o.pid o.epoch o.position) refl refl) [])
      (λ n d. elsewhere-after (acknowledge (another slice) i) k refl s u n d _ (by_call (ack_call o.place o.pid o.epoch o.position) refl refl))))
  next-changes (cut n) t k = while-up-cases P w (rest (cut n) k) _ (λ s u. cut-cases P w (rest (cut n) k) n s (k.cuts refl s u n))
  next-changes (reopen epoch first last) t k =
      reopened-cases P w (rest (reopen epoch first last) k) epoch first last (λ n before u e. k.reopens refl n before u epoch first last t e)

  -- what holds of each of these worlds holds of the next one
  pub step-changes : (x : Item) → Changes x w P → P (step x w)
  step-changes x k = step-cases P x w (k.rests w.carrying []) (λ t. next-changes x t k)
