-- The list that completes every flushed prepare (`completing`): each Order of it gives an order, which is carried, and one fewer is left.
use Prim.Native.Nat.{ℕ, zero, suc, ◌+◌, ◌≤◌, ◌<◌, ◌^◌}
use mathlib.Core.Path.{◌≡◌, refl, sym, ap, subst, ◌∙◌}
use mathlib.Core.Bool.{Bool, true, cond, not, ◌&&◌}
use mathlib.Core.List.{List, ◌∷◌}
use mathlib.Core.Option.{some}
use native.Mathlib.Omega.{arith}
use lib.Count.{ones}
use lib.Dec.{eqb, ltb}
use lib.ListN.{length}
use borrow.Author.Tests.{eq-eqb, eqb-true, eqb-false, lt-ltb, ltb-true, ltb-false, not-true}
use Rattle.numbers.proofs.Tests.{by_cases, not-both, and_left, and_right, and_both, either}
use Rattle.bits.specs.Bits.{count, difference, insert}
use Rattle.bits.proofs.Laws.{count_left, member-true, member-false, subset-is}
use Rattle.catalogue.proofs.Laws.{not-refused, all-bound}
use Rattle.record.specs.Record.{status_code}
use Rattle.search.specs.Search.{Each}
use Rattle.search.proofs.Laws.{sum-set, sum-part, sum-nothing}
use Rattle.search.proofs.Found.{found-with}
use Rattle.search.proofs.Members.{In}
use Rattle.search.proofs.Find.{find-in}
use Rattle.answers.specs.Limits.{places}
use Rattle.answers.specs.Answers.{reply}
use Rattle.answers.specs.Refusals.{Decision}
use Rattle.answers.specs.Answer.{Answer}
use Rattle.answers.specs.OrderAnswer.{OrderAnswer}
use Rattle.row.specs.Row.{free_row, is_prepare, outstanding, with_acknowledged, with_end}
use Rattle.row.specs.Steps.{completed}
use Rattle.row.specs.declared.Row.{Row}
use Rattle.row.proofs.Laws.{complete-unprepared}
use Rattle.table.specs.Table.{row_at, place_of, apply}
use Rattle.coordinator.specs.Coordinator.{log_end, row_frame, unflushed, Action, keep, advance, append, flush_to, acknowledge as acknowledge_at, appended, acknowledged, after}
use Rattle.coordinator.specs.Order.{due, ordered, order_place}
use Rattle.coordinator.specs.Ack.{last_outstanding}
use Rattle.coordinator.specs.Calls.{is_word, ack_call, action_of}
use Rattle.coordinator.specs.declared.Coordinator.{Coordinator}
use Rattle.coordinator.proofs.AckCases.{AckPassed, ack-passed, ack-completed, ack-noted}
use Rattle.coordinator.proofs.OrderCases.{ordered-is, order-given, order-lowest}
use Rattle.partition.specs.Partition.{Action as PartitionAction, keep as keep_partition, note, write}
use Rattle.partition.specs.Marker.{marker}
use Rattle.runs.specs.History.{Order, order_given, order_carried, marker_written, History, Logged, collect, carried_in, records_of, flushed_of, latest_of, next_of, flushed_prepares, is_completed}
use Rattle.runs.specs.World.{Leader, up, Carrying, nothing, to_deliver, to_acknowledge, World, catalogue_of, leader_at, start, own, Item, call_order, deliver, acknowledge, with_event, coordinator_does, order_answered, deliverable, acknowledgeable, marker_called, ack_called, history_after, history_written, next, step, run}
use Rattle.runs.specs.Completing.{carry_one, carry_each, row_left, orders_left, Completing}
use Rattle.runs.specs.Demand3.{Completes, CarryingAccepted}
use Rattle.runs.proofs.Run.{run-append}
use Rattle.runs.proofs.Cases.{with_order, while-up}
use Rattle.runs.proofs.Admitted.{step-own}
use Rattle.protocol.specs.HistoryInvariant.{HistoryInvariant}
use Rattle.protocol.proofs.AfterPrepare.{After, latest, completed as is_over, after-prepare}
use Rattle.protocol.proofs.Extends.{FlushedIn, flushed-stays, each-flushed-prepare, extends-keeps}
use Rattle.agreement.proofs.Invariant.{UnderWay, Invariant}
use Rattle.agreement.proofs.LiveTable.{live-record-at}
use Rattle.agreement.proofs.Preserves.{log-of, acks-of, place_inside, row-of, carrying-of, rows_of}
use Rattle.agreement.proofs.PreparedRow.{some-outstanding, row-flushed, row-prepares, all-due}
use Rattle.agreement.proofs.Orders.{prepare-held, order_of}
use Rattle.agreement.proofs.Delivers.{place-below}
use Rattle.agreement.proofs.Acknowledges.{ack-passes, row-joins, joined_small, position-below}
use Rattle.agreement.proofs.Steps.{step-preserves, Reached, run-reached, always}
use Rattle.restart.proofs.HoldsAt.{carrying-accepted}

-- ---- an Order gives an order while one is outstanding

module _ (w : World) (i : Invariant w) (s : Coordinator) (u : w.phase ≡ up s) where
  abbrev all : ℕ
  all = (catalogue_of w).all

  -- what is outstanding at a prepare's place is in the catalogue
  within : (k : ℕ) → is_prepare (row_at s.table k).status ≡ true → due (row_at s.table k) all ≡ outstanding (row_at s.table k)
  within k p =
      let st = live-record-at (catalogue_of w) w.log s w.history (log-of w i s u) i.of-history k (prepare-held w i s u k p) in
      let there = find-in _ (records_of w.history) st.latest st.is in
      all-due w i s u k st.latest there (sym (ap (λ (y : Row). is_prepare y.status) st.row) ∙ p) st.row all (subset-is all all (λ x m. m))

  left-ordered : (k : ℕ) → (row_left s.flushed (row_at s.table k) ≡ 0 → ⊥) → ordered s.flushed all (row_at s.table k) ≡ true
  unfolding ones
  left-ordered k =
      let row = row_at s.table k in
      let waiting = is_prepare row.status && not (unflushed s.flushed row) in
      by_cases (λ (n : ℕ). (n ≡ 0 → ⊥) → ordered s.flushed all row ≡ true) waiting
      (λ t n.
      let p : is_prepare row.status ≡ true = and_left (is_prepare row.status) (not (unflushed s.flushed row)) t in
      ordered-is s all row (record {
        prepares = p;
        flushed = not-true (unflushed s.flushed row) (and_right (is_prepare row.status) (not (unflushed s.flushed row)) t);
        some = λ z. n (ap count (sym (within k p) ∙ z));
      }))
      (λ t n. absurd (n refl))

  order-place : (orders_left s ≡ 0 → ⊥) → order_place s all < places
  order-place n =
      either (ltb (order_place s all) places) (λ e. ltb-true (order_place s all) places e)
      (λ e.
      let high = ltb-false (order_place s all) places e in
      absurd (n (sum-nothing (row_left s.flushed) free_row s.table.rows (λ k b.
      either (eqb (row_left s.flushed (row_at s.table k)) 0) (λ q. eqb-true _ 0 q)
      (λ q. absurd (not-both (order-lowest s all k (omega (arith, rows_of w i s u))) (left-ordered k (eqb-false _ 0 q))))))))

-- ---- what is left after an Ack

module _ (w : World) (i : Invariant w) (s : Coordinator) (u : w.phase ≡ up s) (o : Order) (way : UnderWay (catalogue_of w) w.history s o) where
  abbrev row : Row
  row = row_at s.table o.place

  passed : AckPassed s (length w.log) o.place o.pid o.epoch o.position
  passed = ack-passed s (length w.log) o.place o.pid o.epoch o.position (ack-passes w i s u o way)

  inside : o.place < length s.table.rows
  inside = let b = place-below w i s u o way in omega (arith, rows_of w i s u)

  here : row_left s.flushed row ≡ count (outstanding row)
  here = rw (passed.prepares, passed.flushed) refl

  left-noted : orders_left (acknowledged s o.place o.position) + 1 ≡ orders_left s
  unfolding acknowledged
  left-noted =
      let new = with_acknowledged row (insert row.acknowledged o.position) in
      let sums = sum-set (row_left s.flushed) s.table.rows free_row o.place new inside in
      let there : row_left s.flushed new ≡ count (difference row.joined (insert row.acknowledged o.position)) = rw (passed.prepares, passed.flushed) refl in
      let one = count_left row.joined row.acknowledged o.position (joined_small w i s u o way) ((acks-of w i s u).small o.place) (position-below w i s u o way)
      (member-true row.joined o.position (row-joins w i s u o way)) (member-false row.acknowledged o.position way.waits) in
      omega (arith, here)

  left-completed : last_outstanding row ≡ true → orders_left (appended s o.place (completed row s.clock)) + 1 ≡ orders_left s
  unfolding appended apply
  left-completed last =
      let new = with_end (completed row s.clock) (log_end s + length (row_frame s (completed row s.clock))) in
      let sums = sum-set (row_left s.flushed) s.table.rows free_row o.place new inside in
      let there : row_left s.flushed new ≡ 0 = rw (complete-unprepared row.status passed.prepares) refl in
      let one : count (outstanding row) ≡ 1 = eqb-true (count (outstanding row)) 1 last in
      omega (arith, here)

  -- an Ack of an order under way leaves one fewer
  pub left-acked : orders_left (after (action_of (ack_call o.place o.pid o.epoch o.position) s (length w.log)) s) + 1 ≡ orders_left s
  left-acked =
      either (last_outstanding row)
      (λ e. rw (ap (λ (d : Decision Answer Action). d.action) (ack-completed s (length w.log) o.place o.pid o.epoch o.position (ack-passes w i s u o way) way.waits e)) (left-completed e))
      (λ e. rw (ap (λ (d : Decision Answer Action). d.action) (ack-noted s (length w.log) o.place o.pid o.epoch o.position (ack-passes w i s u o way) way.waits e)) left-noted)

-- ---- one order is carried

-- the events of an action carry nothing, and neither does a marker
action-carries-nothing : (a : Action) (s : Coordinator) (h : History) → collect carried_in (history_after a s h) ≡ collect carried_in h
unfolding collect
action-carries-nothing keep s h = refl
action-carries-nothing (advance clock) s h = refl
action-carries-nothing (append place row) s h = refl
action-carries-nothing (acknowledge_at place position) s h = refl
action-carries-nothing (flush_to n) s h = refl

marker-carries-nothing : (a : PartitionAction) (o : Order) (h : History) → collect carried_in (history_written a (marker_written o) h) ≡ collect carried_in h
unfolding collect
marker-carries-nothing keep_partition o h = refl
marker-carries-nothing (note coordinator place q) o h = refl
marker-carries-nothing (write coordinator place q words) o h = refl

carried-length : (o : Order) (h : History) → length (collect carried_in (order_carried o ∷ h)) ≡ 1 + length (collect carried_in h)
unfolding collect
carried-length o h = omega arith

given-carries-nothing : (o : Order) (h : History) → collect carried_in (order_given o ∷ h) ≡ collect carried_in h
unfolding collect
given-carries-nothing o h = refl

-- Ack
record Acked (w v : World) (s : Coordinator) : Type 0 where
  state : Coordinator
  phase : v.phase ≡ up state
  left : orders_left state + 1 ≡ orders_left s
  carried : length (collect carried_in v.history) ≡ 1 + length (collect carried_in w.history)

acked : (w : World) → Invariant w → (s : Coordinator) → w.phase ≡ up s → (n : ℕ) (o : Order) → w.carrying ≡ to_acknowledge n o → Acked w (step (acknowledge own n) w) s
acked w i s u n o e =
    record {
      state = after action s;
      phase = ap (λ (v : World). v.phase) is;
      left = left-acked w i s u o way;
      carried = ap (λ (v : World). length (collect carried_in v.history)) is ∙ ap length (action-carries-nothing action s (order_carried o ∷ w.history)) ∙ carried-length o w.history;
    }
  where
    action : Action
    action = action_of (ack_call o.place o.pid o.epoch o.position) s (length w.log)

    way : UnderWay (catalogue_of w) w.history s o
    way = (carrying-of w i s u (to_acknowledge n o) e).0

    f : Order → World
    f q = ack_called own q s w

    is : step (acknowledge own n) w ≡ coordinator_does action s (with_event w (order_carried o))
    is = while-up w s u _ ∙ ap (λ (k : Carrying). acknowledgeable k n w f) e ∙ ap (λ (b : Bool). cond b (f o) w) (eq-eqb n n refl)

-- Marker
record Delivered (w v : World) (s : Coordinator) (n : ℕ) (o : Order) : Type 0 where
  phase : v.phase ≡ up s
  carrying : v.carrying ≡ to_acknowledge n o
  carried : collect carried_in v.history ≡ collect carried_in w.history

delivered : (w : World) → Invariant w → (s : Coordinator) → w.phase ≡ up s → (n : ℕ) (o : Order) → w.carrying ≡ to_deliver n o → Delivered w (step (deliver own n) w) s n o
delivered w i s u n o e =
    record {
      phase = ap (λ (v : World). v.phase) is ∙ u;
      carrying = ap (λ (v : World). v.carrying) is ∙ ap (λ (m : ℕ). cond (eqb m 0) (to_acknowledge n o) nothing) done;
      carried = ap (λ (v : World). collect carried_in v.history) is ∙ marker-carries-nothing action o w.history;
    }
  where
    l : Leader
    l = leader_at w o.position

    action : PartitionAction
    action = (marker l.partition (length l.words) o.place o.pid o.epoch o.verdict o.coordinator).action

    f : Order → World
    f q = marker_called own n q w

    is : step (deliver own n) w ≡ marker_called own n o w
    is = while-up w s u _ ∙ ap (λ (k : Carrying). deliverable k n w f) e ∙ ap (λ (b : Bool). cond b (f o) w) (eq-eqb n n refl)

    done : (reply (marker l.partition (length l.words) o.place o.pid o.epoch o.verdict o.coordinator).answer).number ≡ 0
    done = subst (λ (k : Carrying). CarryingAccepted k w) e (carrying-accepted w i)

-- Order
record Given (w v : World) (s : Coordinator) (o : Order) : Type 0 where
  phase : v.phase ≡ up s
  carrying : v.carrying ≡ to_deliver (length w.history) o
  carried : collect carried_in v.history ≡ collect carried_in w.history

given : (w : World) → Invariant w → (s : Coordinator) → w.phase ≡ up s → (orders_left s ≡ 0 → ⊥) → (o : Order) × Given w (step (call_order (catalogue_of w).all) w) s o
given w i s u n =
    (o, record { phase = ap (λ (v : World). v.phase) is ∙ u; carrying = ap (λ (v : World). v.carrying) is; carried = ap (λ (v : World). collect carried_in v.history) is ∙ given-carries-nothing o w.history })
  where
    set : ℕ
    set = (catalogue_of w).all

    place : ℕ
    place = order_place s set

    o : Order
    o = order_of s set place w.history

    word : is_word set ≡ true
    word = lt-ltb set (2 ^ 64) (all-bound w.text (catalogue_of w) (not-refused w.text i.parsed))

    is : step (call_order set) w ≡ with_order w o
    is = ap (λ (b : Bool). cond b (next (call_order set) w) w) word ∙ while-up w s u _ ∙ ap (λ (a : OrderAnswer). order_answered a s w) (order-given s set (order-place w i s u n))

-- ---- all of them

step-invariant : (w : World) → Invariant w → (x : Item) → Invariant (step x w)
step-invariant w i x = (step-preserves w i x).holds (step-own x w i.own)

carried-one : (w : World) → Invariant w → (s : Coordinator) → w.phase ≡ up s → (orders_left s ≡ 0 → ⊥) → Acked w (run (carry_one w) w) s
unfolding run
carried-one w i s u n =
    let m = length w.history in
    let (o, g) = given w i s u n in
    let w1 = step (call_order (catalogue_of w).all) w in
    let i1 = step-invariant w i (call_order (catalogue_of w).all) in
    let d = delivered w1 i1 s g.phase m o g.carrying in
    let w2 = step (deliver own m) w1 in
    let i2 = step-invariant w1 i1 (deliver own m) in
    let a = acked w2 i2 s d.phase m o d.carrying in
    record { state = a.state; phase = a.phase; left = a.left; carried = a.carried ∙ ap (λ (l : List Order). 1 + length l) (d.carried ∙ g.carried) }

record AllCarried (w v : World) (n : ℕ) : Type 0 where
  state : Coordinator
  phase : v.phase ≡ up state
  left : orders_left state ≡ 0
  carried : length (collect carried_in v.history) ≡ n + length (collect carried_in w.history)

none_more : (w : World) → run (carry_each 0 w) w ≡ w
none_more w = unfold run carry_each in refl

one_more : (n : ℕ) (w : World) → run (carry_each (suc n) w) w ≡ run (carry_each n (run (carry_one w) w)) (run (carry_one w) w)
one_more n w = unfold carry_each in run-append (carry_one w) (carry_each n (run (carry_one w) w)) w

all-carried : (n : ℕ) (w : World) → Invariant w → (s : Coordinator) → w.phase ≡ up s → orders_left s ≡ n → AllCarried w (run (carry_each n w) w) n
all-carried zero w i s u e = rw (none_more w) (record { state = s; phase = u; left = e; carried = omega arith })
all-carried (suc n) w i s u e =
    let a = carried-one w i s u (λ z. omega arith) in
    let v = run (carry_one w) w in
    let r = all-carried n v (run-reached (carry_one w) w i).invariant a.state a.phase (let l = a.left in omega arith) in
    rw (one_more n w) (record { state = r.state; phase = r.phase; left = r.left; carried = (let x = r.carried in let y = a.carried in omega arith) })

-- ---- so every prepare is completed

-- while a prepare is its name's latest record an order for it is outstanding
latest-left : (v : World) → Invariant v → (s : Coordinator) → v.phase ≡ up s → (p : Logged) → In p (records_of v.history) → p.end ≤ flushed_of v.history → is_prepare p.content.status ≡ true
    → latest_of p.content.name v.history ≡ some p → orders_left s ≡ 0 → ⊥
latest-left v j s u p stands is-flushed prepares e none_left =
    let c = catalogue_of v in
    let h = v.history in
    let k = place_of s.table p.content.name in
    let row_is = row-of v j s u p.content.name p e in
    let left : row_left s.flushed (row_at s.table k) ≡ count (outstanding (row_at s.table k)) = rw
    (row-prepares v j s u k p stands prepares row_is, row-flushed v j s u k p stands prepares row_is is-flushed) refl in
    let inside : k < places = place_inside v j s u p.content.name p e in
    let most = sum-part (row_left s.flushed) free_row s.table.rows k (omega (arith, rows_of v j s u)) in
    some-outstanding v j s u k p stands prepares row_is (omega arith)

all-completed : (w : World) → Invariant w → (v : World) → Reached w v → (s : Coordinator) → v.phase ≡ up s → orders_left s ≡ 0 → Each (λ (p : Logged). is_completed v.history p ≡ true) (flushed_prepares w.history)
all-completed w i v r s u none_left =
    each-flushed-prepare w.history (λ (p : Logged). is_completed v.history p ≡ true)
    (λ p f prepares.
    let c = catalogue_of w in
    let t : HistoryInvariant c v.history = extends-keeps c w.history i.of-history r.extends in
    let g = flushed-stays c w.history i.of-history p f r.extends in
    go p prepares g (after-prepare c (length v.history) (records_of v.history) t.come t.ends t.numbered p g.stands prepares))
  where
    go : (p : Logged) → is_prepare p.content.status ≡ true → FlushedIn v.history p → After p (records_of v.history) → is_completed v.history p ≡ true
    go p prepares g (latest n l) = absurd (latest-left v r.invariant s u p g.stands g.flushed prepares l none_left)
    go p prepares g (is_over k) =
        found-with (Completes p) (next_of p v.history) k
        (λ x e d. and_both (is_prepare p.content.status) _ prepares (rw e (eq-eqb (status_code x.content.status) (status_code p.content.status + 2) d.status)))

pub completing : Completing
completing o a items s u =
    let w = run items (start o) in
    let i = always o a items in
    let k = all-carried (orders_left s) w i s u refl in
    record { carried = k.carried; completed = all-completed w i (run (carry_each (orders_left s) w) w) (run-reached (carry_each (orders_left s) w) w i) k.state k.phase k.left }
