-- In every run an order has the coordinator epoch of the last accepted opening.
use Prim.Native.Nat.{ℕ, zero, suc, ◌-◌, ◌<◌, ◌^◌}
use mathlib.Core.Path.{◌≡◌, refl, sym, ap, subst, ◌∙◌}
use mathlib.Core.Bool.{true, false}
use mathlib.Core.List.{List, [], ◌∷◌}
use lib.Dec.{eqb, ltb}
use lib.IntN.{ℤ, pos}
use lib.ListN.{length, take, drop}
use lib.Signed.{le_z, lt_z}
use mir.Syntax.{w32}
use borrow.Author.Tests.{eqb-true}
use Rattle.numbers.specs.Signed.{to_nat, signed_of}
use Rattle.numbers.proofs.Signed.{natural-back, natural-below, not_negative, fits-true}
use Rattle.numbers.proofs.Tests.{by_cases, and_left, and_right}
use Rattle.catalogue.specs.Catalogue.{parse}
use Rattle.catalogue.specs.declared.Catalogue.{Catalogue}
use Rattle.numbers.specs.Padded.{padded}
use Rattle.record.specs.Limits.{name_max}
use Rattle.record.specs.Reading.{Reading, Whole, Torn, Bad, read_frame}
use Rattle.search.specs.Search.{Each}
use Rattle.answers.specs.Limits.{places}
use Rattle.answers.specs.OrderAnswer.{OrderAnswer}
use Rattle.answers.specs.OrderAnswer.{Order as Ordered, NoOrder}
use Rattle.answers.proofs.Laws.{or-false-left}
use Rattle.coordinator.specs.Coordinator.{Action, keep, advance, append, acknowledge as acknowledged, flush_to, appended, acknowledged as acknowledged_at, after}
use Rattle.coordinator.specs.Open.{opening}
use Rattle.coordinator.specs.Order.{order_place, order}
use Rattle.coordinator.specs.Calls.{ack_call, action_of}
use Rattle.coordinator.specs.declared.Coordinator.{Coordinator}
use Rattle.coordinator.specs.OpenedLog.{OpenedLog}
use Rattle.coordinator.proofs.OpenCases.{open-number, opening-taken}
use Rattle.partition.specs.Partition.{Action as PartitionAction, keep as keep_partition, note, write}
use Rattle.partition.specs.Marker.{marker}
use Rattle.server.specs.Produce.{produce}
use Rattle.writable_logs.specs.Writer.{opening_typed, opening_reply, out_of_order}
use Rattle.writable_logs.proofs.OpeningAnswers.{accepted-order}
use Rattle.runs.specs.History.{Order, Produced, record_appended, log_cut, log_opened, order_given, marker_written, entry_written, order_carried, History, WithBefore, collect, collect_with_before, given_in, epoch_opened}
use Rattle.runs.specs.World.{Phase, up, down, World, leader_at, lent_partition, own, another, FirstOpening, Accepted, start, while_whole, records_read, Item, call, call_order, call_produce, call_read, deliver, acknowledge, cut, reopen, history_after, history_written, in_lists, next, step, run}
use Rattle.runs.specs.Demand3.{OfLastOpening}
use Rattle.runs.proofs.Run.{run-keeps}
use Rattle.runs.proofs.Cases.{step-cases, while-up-cases, lent-cases, leader-cases, deliverable-cases, acknowledgeable-cases, read-cases, cut-cases, reopened-cases, answered-cases}

-- the coordinator epoch of the last accepted opening, in the state
abbrev phase_epoch : Phase → ℕ
phase_epoch (up s) = s.epoch
phase_epoch (down n before) = before

-- it is the history's and fits its type, and every order had it that was given
pub record Epochs (w : World) : Type 0 where
  pub agrees : pos (phase_epoch w.phase) ≡ epoch_opened w.history
  pub below : phase_epoch w.phase < 2 ^ 31
  pub orders : OfLastOpening w

-- ---- what keeps it

abbrev SameOrders : History → History → Type 0
SameOrders h g = (epoch_opened h ≡ epoch_opened g) × (collect_with_before given_in h ≡ collect_with_before given_in g)

same-epochs : (w v : World) → Epochs w → phase_epoch v.phase ≡ phase_epoch w.phase → SameOrders v.history w.history → Epochs v
same-epochs w v i e (opened, given) =
    record {
      agrees = ap pos e ∙ i.agrees ∙ sym opened;
      below = rw e i.below;
      orders = subst (Each (λ (p : WithBefore Order). p.what.coordinator ≡ epoch_opened p.before)) (sym given) i.orders;
    }

-- no action changes the coordinator epoch
pub epoch-kept : (a : Action) (s : Coordinator) → (after a s).epoch ≡ s.epoch
unfolding appended acknowledged_at
epoch-kept keep s = refl
epoch-kept (advance clock) s = refl
epoch-kept (append place row) s = refl
epoch-kept (acknowledged place position) s = refl
epoch-kept (flush_to n) s = refl

history-same : (a : Action) (s : Coordinator) (h : History) → SameOrders (history_after a s h) h
unfolding collect collect_with_before
history-same keep s h = (refl, refl)
history-same (advance clock) s h = (refl, refl)
history-same (append place row) s h = (refl, refl)
history-same (acknowledged place position) s h = (refl, refl)
history-same (flush_to n) s h = (refl, refl)

carried_same : (o : Order) (h : History) → SameOrders (order_carried o ∷ h) h
unfolding collect collect_with_before
carried_same o h = (refl, refl)

cut-same : (n : ℕ) (h : History) → SameOrders (log_cut n ∷ h) h
unfolding collect collect_with_before
cut-same n h = (refl, refl)

marker-same : (a : PartitionAction) (o : Order) (h : History) → SameOrders (history_written a (marker_written o) h) h
unfolding collect collect_with_before
marker-same keep_partition o h = (refl, refl)
marker-same (note coordinator place q) o h = (refl, refl)
marker-same (write coordinator place q words) o h = (refl, refl)

entry-same : (a : PartitionAction) (e : Produced) (h : History) → SameOrders (history_written a (entry_written e) h) h
unfolding collect collect_with_before
entry-same keep_partition e h = (refl, refl)
entry-same (note coordinator place q) e h = (refl, refl)
entry-same (write coordinator place q words) e h = (refl, refl)

-- ---- an Order answers with the coordinator epoch

abbrev HasEpoch : Coordinator → OrderAnswer → Type 0
HasEpoch s (Ordered place pid epoch verdict position coordinator) = coordinator ≡ signed_of w32 s.epoch
HasEpoch s NoOrder = Unit {0}

order-epoch : (s : Coordinator) (set : ℕ) → HasEpoch s (order s set)
unfolding order
order-epoch s set = by_cases (HasEpoch s) (ltb (order_place s set) places) (λ e. refl) (λ e. tt)

-- ---- an opening that is accepted has the epoch that it was given

opening-epoch : (text log : List ℕ) (n : ℕ) (epoch first last : ℤ) → (opening_reply text log n epoch first last).number ≡ 0 → opening_typed epoch first last ≡ true
    → (pos (opening text log n epoch first last).state.epoch ≡ epoch) × ((opening text log n epoch first last).state.epoch < 2 ^ 31)
opening-epoch text log n epoch first last accepted typed =
    let is : (opening text log n epoch first last).state.epoch ≡ to_nat epoch = ap (λ (o : OpenedLog). o.state.epoch) (opening-taken text log n epoch first last (sym (open-number text log n epoch first last) ∙ accepted)) in
    let order : out_of_order epoch first last ≡ false = (accepted-order text log n epoch first last accepted).numbers in
    let natural : epoch ≡ pos (to_nat epoch) = not_negative epoch (or-false-left (lt_z epoch (pos 0)) (lt_z first (pos 0)) (or-false-left _ (lt_z last first) order)) in
    let fit : to_nat epoch < 2 ^ 31 = natural-below w32 epoch (fits-true w32 epoch (search (and_left, and_right))) in
    (ap pos is ∙ sym natural, rw is fit)

-- ---- every item

given-next : (o : Order) (h : History) → Each (λ (p : WithBefore Order). p.what.coordinator ≡ epoch_opened p.before) (collect_with_before given_in h) → o.coordinator ≡ epoch_opened h
    → (epoch_opened (order_given o ∷ h) ≡ epoch_opened h) × Each (λ (p : WithBefore Order). p.what.coordinator ≡ epoch_opened p.before) (collect_with_before given_in (order_given o ∷ h))
unfolding collect collect_with_before
given-next o h i e = (refl, (e, i))

opened-next : (epoch : ℤ) (h : History) → (epoch_opened (log_opened epoch ∷ h) ≡ epoch) × (collect_with_before given_in (log_opened epoch ∷ h) ≡ collect_with_before given_in h)
unfolding collect collect_with_before
opened-next epoch h = (refl, refl)

module _ (w : World) (i : Epochs w) where
  -- the coordinator does something, with its log buffer or with another slice
  acts : (s : Coordinator) → w.phase ≡ up s → (a : Action) (h : History) → SameOrders h w.history → (v : World) → v.phase ≡ up (after a s) → v.history ≡ history_after a s h → Epochs v
  acts s u a h (e, f) v p q =
      let (e', f') = history-same a s h in
      same-epochs w v i (ap phase_epoch p ∙ epoch-kept a s ∙ sym (ap phase_epoch u)) (ap epoch_opened q ∙ e' ∙ e, ap (collect_with_before given_in) q ∙ f' ∙ f)

  rests : (v : World) → v.phase ≡ w.phase → SameOrders v.history w.history → Epochs v
  rests v p q = same-epochs w v i (ap phase_epoch p) q

  gives : (s : Coordinator) → w.phase ≡ up s → (o : Order) → o.coordinator ≡ signed_of w32 s.epoch → (v : World) → v.phase ≡ w.phase → v.history ≡ order_given o ∷ w.history → Epochs v
  gives s u o e v p q =
      let n = ap phase_epoch u in
      let (opened, given) = given-next o w.history i.orders (e ∙ natural-back w32 s.epoch (rw n at i.below) ∙ sym (ap pos n) ∙ i.agrees) in
      record {
        agrees = ap pos (ap phase_epoch p) ∙ i.agrees ∙ sym opened ∙ sym (ap epoch_opened q);
        below = subst (λ (y : Phase). phase_epoch y < 2 ^ 31) (sym p) i.below;
        orders = subst (λ (h : History). Each (λ (p : WithBefore Order). p.what.coordinator ≡ epoch_opened p.before) (collect_with_before given_in h)) (sym q) given;
      }

  opens : (s : Coordinator) (epoch : ℤ) → pos s.epoch ≡ epoch → s.epoch < 2 ^ 31 → (v : World) → v.phase ≡ up s → v.history ≡ log_opened epoch ∷ w.history → Epochs v
  opens s epoch e b v p q =
      let (opened, given) = opened-next epoch w.history in
      record {
        agrees = ap pos (ap phase_epoch p) ∙ e ∙ sym opened ∙ sym (ap epoch_opened q);
        below = subst (λ (y : Phase). phase_epoch y < 2 ^ 31) (sym p) b;
        orders = subst (Each (λ (p : WithBefore Order). p.what.coordinator ≡ epoch_opened p.before)) (sym (ap (collect_with_before given_in) q ∙ given)) i.orders;
      }

  next-epochs : (x : Item) → in_lists x ≡ true → Epochs (next x w)
  next-epochs (call lent c) t =
      while-up-cases Epochs w i _
      (λ s u. lent-cases Epochs w i lent (action_of c s) s (λ o. acts s u (action_of c s (length w.log)) w.history (refl, refl) _ refl refl)
      (λ n d. acts s u (action_of c s n) w.history (refl, refl) _ refl refl))
  next-epochs (call_order set) t =
      while-up-cases Epochs w i _
      (λ s u. answered-cases Epochs w s (order s set) (rests _ refl (refl, refl))
      (λ place pid epoch verdict position coordinator e. gives s u _ (subst (HasEpoch s) e (order-epoch s set)) _ refl refl))
  next-epochs (call_produce lent other name pid epoch position sequence payload) t =
      while-up-cases Epochs w i _ (λ s u. let x = lent_partition s position other in let l = leader_at w x in
      leader-cases Epochs w i lent x _ _ _
      (λ o. rests _ refl (entry-same (produce s l.partition (length l.words) name pid epoch position sequence payload).action
      (record { name = padded name_max name; pid = pid; epoch = epoch; position = x; sequence = sequence; payload = payload; offset = l.partition.end }) w.history)) (λ n d. rests _ refl (refl, refl)))
  next-epochs (call_read lent x from out) t = while-up-cases Epochs w i _ (λ s u. read-cases Epochs w i lent x (rests _ refl (refl, refl)))
  next-epochs (deliver lent n) t =
      while-up-cases Epochs w i _
      (λ s u. deliverable-cases Epochs w i n _ (λ o e. leader-cases Epochs w i lent o.position _ _ _ (λ l. let y = leader_at w o.position in
      rests _ refl (marker-same (marker y.partition (length y.words) o.place o.pid o.epoch o.verdict o.coordinator).action o w.history)) (λ m d. rests _ refl (refl, refl))))
  next-epochs (acknowledge own n) t =
      while-up-cases Epochs w i _
      (λ s u. acknowledgeable-cases Epochs w i n _ (λ o e. acts s u (action_of (ack_call o.place o.pid o.epoch o.position) s (length w.log)) (order_carried o ∷ w.history) (carried_same o w.history) _ refl refl))
  next-epochs (acknowledge (another slice) n) t =
      while-up-cases Epochs w i _
      (λ s u. acknowledgeable-cases Epochs w i n _
      (λ o e. lent-cases Epochs w i (another slice) (action_of (ack_call o.place o.pid o.epoch o.position) s) s
      (λ z. acts s u (action_of (ack_call o.place o.pid o.epoch o.position) s (length w.log)) w.history (refl, refl) _ refl refl)
      (λ m d. acts s u (action_of (ack_call o.place o.pid o.epoch o.position) s m) w.history (refl, refl) _ refl refl)))
  next-epochs (cut n) t =
      while-up-cases Epochs w i _ (λ s u. cut-cases Epochs w i n s (λ e. same-epochs w _ i (sym (ap phase_epoch u)) (cut-same n w.history)))
  next-epochs (reopen epoch first last) t =
      reopened-cases Epochs w i epoch first last
      (λ n before u e.
      let accepted : (opening_reply w.text w.log n epoch first last).number ≡ 0 = eqb-true _ 0 (and_left (eqb (opening_reply w.text w.log n epoch first last).number 0) (le_z (pos before) epoch) e) in
      let (is, b) = opening-epoch w.text w.log n epoch first last accepted t in
      opens _ epoch is b _ refl refl)

step-epochs : (x : Item) (w : World) → Epochs w → Epochs (step x w)
step-epochs x w i = step-cases Epochs x w i (next-epochs w i x)

-- ---- every run

-- records that are read give no order
read_none : (c : Catalogue) (n at : ℕ) (s : List ℕ) (h : History) → collect_with_before given_in h ≡ [] → collect_with_before given_in (records_read c n at s h) ≡ []
unfolding records_read collect_with_before
read_none c zero at s h e = e
read_none c (suc n) at s h e =
    let f = read_frame c at s in
    go f.reading _ (read_none c n f.next (drop (f.next - at) s) (record_appended f.found f.next ∷ h) e)
  where
    go : (r : Reading) (more : History) → collect_with_before given_in more ≡ [] → collect_with_before given_in (while_whole r h more) ≡ []
    go Whole more f = f
    go Torn more f = e
    go Bad more f = e

pub start-epochs : (o : FirstOpening) → Accepted o → Epochs (start o)
start-epochs o (accepted, typed) =
    let h = records_read (parse o.text).catalogue o.length 0 (take o.length o.log) [] in
    let (is, b) = opening-epoch o.text o.log o.length o.epoch o.first o.last accepted typed in
    let (opened, given) = opened-next o.epoch h in
    record {
      agrees = is ∙ sym opened;
      below = b;
      orders = subst (Each (λ (p : WithBefore Order). p.what.coordinator ≡ epoch_opened p.before)) (sym (given ∙ read_none (parse o.text).catalogue o.length 0 (take o.length o.log) [] (unfold collect_with_before in refl))) tt;
    }

pub run-epochs : (items : List Item) (w : World) → Epochs w → Epochs (run items w)
run-epochs = run-keeps Epochs step-epochs
