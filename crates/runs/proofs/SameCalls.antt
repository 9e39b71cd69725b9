-- The items of a run are the calls of document 01.
use Prim.Native.Nat.{ℕ, ◌<◌}
use mathlib.Core.Path.{◌≡◌, refl, sym, ap, subst, ◌∙◌}
use mathlib.Core.Bool.{Bool, true, cond}
use mathlib.Core.List.{List, [], ◌∷◌}
use lib.Dec.{eqb}
use lib.IntN.{ℤ, pos}
use lib.ListN.{length}
use lib.Seq.{get_or-set_same, get_or-set_other}
use lib.Signed.{le_z}
use borrow.Author.Tests.{eq-eqb, ne_eqb, eqb-false}
use Rattle.numbers.proofs.Tests.{by_cases}
use Rattle.numbers.specs.Padded.{padded}
use Rattle.record.specs.Limits.{name_max}
use Rattle.answers.specs.Answers.{order_reply, produce_reply}
use Rattle.answers.specs.Refusals.{first_refusal, Decision}
use Rattle.answers.specs.OrderAnswer.{OrderAnswer}
use Rattle.answers.specs.OrderAnswer.{Order as Ordered, NoOrder}
use Rattle.answers.specs.ProduceAnswer.{ProduceAnswer}
use Rattle.coordinator.specs.Coordinator.{after}
use Rattle.coordinator.specs.Open.{opening}
use Rattle.coordinator.specs.Order.{order}
use Rattle.coordinator.specs.Calls.{CoordinatorCall, ack_call, action_of}
use Rattle.coordinator.specs.declared.Coordinator.{Coordinator}
use Rattle.partition.specs.Partition.{Action as PartitionAction, after as partition_after, words_after}
use Rattle.partition.specs.Marker.{marker}
use Rattle.partition.specs.declared.Partition.{Partition}
use Rattle.server.specs.Produce.{produce_tests, produce}
use Rattle.server.specs.Calls.{Server, Call, open_log, call as server_call, order_call, produce_call, marker_call, read_call, answer_of, after_call}
use Rattle.writable_logs.specs.Writer.{opening_reply}
use Rattle.runs.specs.History.{Order, Produced, Event, log_opened, entry_written, marker_written, order_carried, History}
use Rattle.runs.specs.World.{Leader, open_leader, Phase, up, down, Carrying, nothing, to_deliver, to_acknowledge, World, leader_at, own, Item, call, call_order, call_produce, call_read, deliver, acknowledge, reopen, with_event, coordinator_does, history_written, leader_does, lent_partition, order_answered, deliverable, acknowledgeable, once_done, produce_called, marker_called, with_phase, reopened, next}
use Rattle.runs.proofs.Cases.{while-up}
use Rattle.runs.specs.SameCalls.{server_at, SameAsCall, OrderTaken, EntryTaken, MarkerTaken, SameCalls}

-- ---- what an item leaves, by the world that it leaves

module _ (item : Item) (w : World) (s : Coordinator) (c : Call) (x : ℕ) (out : List ℕ) where
  same_by : (v : World) (state : Coordinator) → next item w ≡ v → v.phase ≡ up state
      → (let after = after_call c (server_at s w x out) in after ≡ server_at state v x after.out)
      → ((y : ℕ) → (y ≡ x → ⊥) → leader_at v y ≡ leader_at w y)
      → SameAsCall item w s c x out
  same_by v state e still-up same others =
      record {
        state = state;
        still-up = ap (λ (v : World). v.phase) e ∙ still-up;
        same = same ∙ ap (λ (v : World). server_at state v x (after_call c (server_at s w x out)).out) (sym e);
        others = λ y n. ap (λ (v : World). leader_at v y) e ∙ others y n;
      }

-- ---- calls of the coordinator

calls : (w : World) (s : Coordinator) → w.phase ≡ up s → (c : CoordinatorCall) (x : ℕ) (out : List ℕ) → SameAsCall (call own c) w s (server_call c) x out
calls w s u c x out = same_by (call own c) w s (server_call c) x out (coordinator_does (action_of c s (length w.log)) s w) _ (while-up w s u _) refl refl (λ y n. refl)

acks : (w : World) (s : Coordinator) → w.phase ≡ up s → (i : ℕ) (o : Order) → w.carrying ≡ to_acknowledge i o → (x : ℕ) (out : List ℕ)
    → SameAsCall (acknowledge own i) w s (server_call (ack_call o.place o.pid o.epoch o.position)) x out
acks w s u i o e x out =
    same_by (acknowledge own i) w s (server_call c) x out (coordinator_does (action_of c s (length w.log)) s (with_event w (order_carried o))) _
    (while-up w s u _ ∙ ap (λ (k : Carrying). acknowledgeable k i w f) e ∙ ap (λ (b : Bool). cond b (f o) w) (eq-eqb i i refl)) refl refl (λ y n. refl)
  where
    c : CoordinatorCall
    c = ack_call o.place o.pid o.epoch o.position

    f : Order → World
    f p = coordinator_does (action_of (ack_call p.place p.pid p.epoch p.position) s (length w.log)) s (with_event w (order_carried p))

orders : (w : World) (s : Coordinator) → w.phase ≡ up s → (set x : ℕ) (out : List ℕ)
    → SameAsCall (call_order set) w s (order_call set) x out
    × OrderTaken (answer_of (order_call set) (server_at s w x out)) w (next (call_order set) w) (next (call_order set) w).carrying
orders w s u set x out = (
  same_by (call_order set) w s (order_call set) x out (order_answered (order s set) s w) s is (still (order s set)) (same (order s set)) (others (order s set)),
  rw is (taken (order s set)),
)
  where
    is : next (call_order set) w ≡ order_answered (order s set) s w
    is = while-up w s u _

    still : (a : OrderAnswer) → (order_answered a s w).phase ≡ up s
    still NoOrder = u
    still (Ordered place pid epoch verdict position coordinator) = u

    same : (a : OrderAnswer) → server_at s w x out ≡ server_at s (order_answered a s w) x out
    same NoOrder = refl
    same (Ordered place pid epoch verdict position coordinator) = refl

    others : (a : OrderAnswer) (y : ℕ) → (y ≡ x → ⊥) → leader_at (order_answered a s w) y ≡ leader_at w y
    others NoOrder y n = refl
    others (Ordered place pid epoch verdict position coordinator) y n = refl

    taken : (a : OrderAnswer) → OrderTaken (order_reply a) w (order_answered a s w) (order_answered a s w).carrying
    taken NoOrder = (refl, refl)
    taken (Ordered place pid epoch verdict position coordinator) = (refl, refl, refl)

-- ---- calls of a partition

module _ (item : Item) (w : World) (s : Coordinator) (u : w.phase ≡ up s) (c : Call) (x : ℕ) (out : List ℕ) (inside : x < length w.leaders) (a : PartitionAction) (e : Event) (k : Carrying) where
  -- what the leader is then
  abbrev led : Leader
  led = record { partition = partition_after a (leader_at w x).partition; words = words_after a (leader_at w x).partition (leader_at w x).words }

  abbrev serving : Leader → List ℕ → Server
  serving l read = record { coordinator = s; log = w.log; partition = l.partition; words = l.words; out = read }

  leads : next item w ≡ leader_does x a e k w → after_call c (server_at s w x out) ≡ serving led out → SameAsCall item w s c x out
  leads is does =
      same_by item w s c x out (leader_does x a e k w) s is u
      (does ∙ ap (λ (l : Leader). serving l out) (sym (get_or-set_same w.leaders x led (open_leader []) inside))
      ∙ ap (serving (leader_at (leader_does x a e k w) x)) (sym (ap (λ (r : Server). r.out) does)))
      (λ y n. get_or-set_other w.leaders x y led (open_leader []) n)

reads : (w : World) (s : Coordinator) → w.phase ≡ up s → (x from : ℕ) (out : List ℕ) → SameAsCall (call_read own x from out) w s (read_call from) x out
reads w s u x from out = same_by (call_read own x from out) w s (read_call from) x out _ s (while-up w s u _) u refl (λ y n. refl)

markers : (w : World) (s : Coordinator) → w.phase ≡ up s → (i : ℕ) (o : Order) → w.carrying ≡ to_deliver i o → o.position < length w.leaders → (out : List ℕ)
    → let c = marker_call o.place o.pid o.epoch o.verdict o.coordinator in
    SameAsCall (deliver own i) w s c o.position out × MarkerTaken (answer_of c (server_at s w o.position out)) i o (next (deliver own i) w).carrying
markers w s u i o e inside out = (
  leads (deliver own i) w s u (marker_call o.place o.pid o.epoch o.verdict o.coordinator) o.position out inside
      (marker (leader_at w o.position).partition (length (leader_at w o.position).words) o.place o.pid o.epoch o.verdict o.coordinator).action (marker_written o) _ is refl,
  record { done = λ n. carrying ∙ rw n refl; refused = λ n. carrying ∙ rw (ne_eqb _ 0 n) refl },
)
  where
    f : Order → World
    f p = marker_called own i p w

    is : next (deliver own i) w ≡ marker_called own i o w
    is = while-up w s u _ ∙ ap (λ (k : Carrying). deliverable k i w f) e ∙ ap (λ (b : Bool). cond b (f o) w) (eq-eqb i i refl)

    carrying : (next (deliver own i) w).carrying
        ≡ once_done (answer_of (marker_call o.place o.pid o.epoch o.verdict o.coordinator) (server_at s w o.position out)) i o
    carrying = ap (λ (v : World). v.carrying) is

-- a Produce that is refused writes nothing, and one that is not writes its entry
module _ (s : Coordinator) (p : Partition) (n : ℕ) (name : List ℕ) (pid epoch : ℤ) (position : ℕ) (sequence : ℤ) (payload : ℕ) (e : Produced) (h : History) (at : p.end ≡ e.offset) where
  abbrev Taken : Decision ProduceAnswer PartitionAction → Type 0
  Taken d = EntryTaken (produce_reply d.answer) h (history_written d.action (entry_written e) h) e

  entry-taken : Taken (produce s p n name pid epoch position sequence payload)
  unfolding produce
  entry-taken =
      let number = first_refusal (produce_tests s p n name pid epoch position sequence) in
      by_cases Taken (eqb number 0) (λ q. record { written = λ z. (refl, ap (λ (k : ℕ). pos k ∷ []) at); refused = λ z. absurd (z refl) })
      (λ q. record { written = λ z. absurd (eqb-false number 0 q z); refused = λ z. refl })

produces : (w : World) (s : Coordinator) → w.phase ≡ up s → (other : ℕ) (name : List ℕ) (pid epoch : ℤ) (position : ℕ) (sequence : ℤ) (payload : ℕ) (out : List ℕ)
    → let x = lent_partition s position other in let item = call_produce own other name pid epoch position sequence payload in
    x < length w.leaders
    → SameAsCall item w s (produce_call name pid epoch position sequence payload) x out
    × EntryTaken (answer_of (produce_call name pid epoch position sequence payload) (server_at s w x out)) w.history (next item w).history
    (record { name = padded name_max name; pid = pid; epoch = epoch; position = x; sequence = sequence; payload = payload; offset = (leader_at w x).partition.end })
produces w s u other name pid epoch position sequence payload out inside =
    let x = lent_partition s position other in
    let l = leader_at w x in
    let e : Produced = record { name = padded name_max name; pid = pid; epoch = epoch; position = x; sequence = sequence; payload = payload; offset = l.partition.end } in
    let is = while-up w s u (λ (v : Coordinator). produce_called own other name pid epoch position sequence payload v w) in (
      leads (call_produce own other name pid epoch position sequence payload) w s u (produce_call name pid epoch position sequence payload) x out inside
          (produce s l.partition (length l.words) name pid epoch position sequence payload).action (entry_written e) nothing is refl,
      subst (λ (v : World). EntryTaken (produce_reply (produce s l.partition (length l.words) name pid epoch position sequence payload).answer) w.history v.history e) (sym is)
          (entry-taken s l.partition (length l.words) name pid epoch position sequence payload e w.history refl),
    )

-- ---- openings

openings : (w : World) (n before : ℕ) → w.phase ≡ down n before → (epoch first last : ℤ) → le_z (pos before) epoch ≡ true → (s : Coordinator) (x : ℕ) (out : List ℕ)
    → let c = open_log w.text n epoch first last in
    ((answer_of c (server_at s w x out)).number ≡ 0 → SameAsCall (reopen epoch first last) w s c x out)
    × (((answer_of c (server_at s w x out)).number ≡ 0 → ⊥) → next (reopen epoch first last) w ≡ w)
openings w n before u epoch first last low s x out = (opens, stays)
  where
    is : next (reopen epoch first last) w ≡ reopened (down n before) epoch first last w
    is = ap (λ (p : Phase). reopened p epoch first last w) u

    opens : (opening_reply w.text w.log n epoch first last).number ≡ 0 → SameAsCall (reopen epoch first last) w s (open_log w.text n epoch first last) x out
    opens e =
        same_by (reopen epoch first last) w s (open_log w.text n epoch first last) x out (with_phase w (up (opening w.text w.log n epoch first last).state) (log_opened epoch)) _
        (is ∙ rw (e, low) refl) refl (rw e refl) (λ y n. refl)

    stays : ((opening_reply w.text w.log n epoch first last).number ≡ 0 → ⊥) → next (reopen epoch first last) w ≡ w
    stays e = is ∙ rw (ne_eqb _ 0 e) refl

pub same-calls : SameCalls
same-calls = record { calls = calls; orders = orders; produces = produces; reads = reads; markers = markers; acks = acks; openings = openings }
