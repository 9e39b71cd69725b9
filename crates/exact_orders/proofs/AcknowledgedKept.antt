-- Every item of a run keeps the acknowledged sets those of the history, so they are at every moment of every run (`always-acknowledged`).
use Prim.Native.Nat.{ℕ, ◌+◌, ◌≤◌, ◌<◌}
use mathlib.Core.Path.{◌≡◌, refl, sym, ap, subst, ◌∙◌}
use mathlib.Core.Bool.{Bool, true, false, not, ◌&&◌, ◌||◌}
use mathlib.Core.List.{List, [], ◌∷◌}
use mathlib.Core.Option.{some}
use native.Mathlib.Decide.{ℕ_discrete}
use native.Mathlib.Omega.{arith}
use lib.Dec.{eqb}
use lib.IntN.{ℤ, pos}
use lib.ListN.{length, get_or}
use lib.Signed.{le_z}
use borrow.Author.Tests.{eq-eqb, ne_eqb, eqb-true, eqb-false, not-true}
use Rattle.numbers.proofs.Bytes.{same_true, differ}
use Rattle.numbers.proofs.Tests.{by_cases, either, and_left, and_right}
use Rattle.bits.specs.Bits.{member}
use Rattle.bits.proofs.Laws.{member-is-not, bit-of-none, member-insert}
use Rattle.catalogue.specs.declared.Catalogue.{Catalogue}
use Rattle.search.specs.Search.{find, is_found}
use Rattle.search.proofs.Each.{each-then}
use Rattle.search.proofs.Found.{some_same}
use Rattle.search.proofs.Find.{find-in, find-hit, find-miss, find-fails, found-more}
use Rattle.answers.specs.Refusals.{Decision}
use Rattle.answers.specs.Answer.{Answer}
use Rattle.row.specs.Row.{free, is_prepare, record_of}
use Rattle.row.specs.Steps.{completed}
use Rattle.row.specs.declared.Row.{Row}
use Rattle.table.specs.Table.{row_at, place_of}
use Rattle.coordinator.specs.Coordinator.{log_end, row_frame, Action, keep, advance, append, acknowledge as acknowledge_at, flush_to, appended, acknowledged, after, log_after}
use Rattle.coordinator.specs.Ack.{last_outstanding, ack}
use Rattle.coordinator.specs.Order.{order}
use Rattle.coordinator.specs.Open.{opening}
use Rattle.coordinator.specs.declared.Coordinator.{Coordinator}
use Rattle.coordinator.specs.Calls.{CoordinatorCall, flush_call, ack_call, call_typed, action_of}
use Rattle.coordinator.proofs.AckCases.{ack-completed, ack-noted}
use Rattle.writable_logs.specs.Writer.{opening_reply}
use Rattle.writable_logs.proofs.Decisions.{Decided, by_call}
use Rattle.writable_logs.proofs.Lawful.{Lawful, decided-lawful}
use Rattle.partition.specs.Partition.{Action as PartitionAction, keep as keep_partition, note, write}
use Rattle.partition.specs.Marker.{marker}
use Rattle.server.specs.Produce.{produce}
use Rattle.runs.specs.History.{Order, Produced, Event, record_appended, log_flushed, log_cut, log_opened, order_given, marker_written, order_carried, entry_written, History, Logged, records_of, is_of, latest_of}
use Rattle.runs.specs.World.{Phase, up, down, Carrying, nothing, to_acknowledge, World, catalogue_of, leader_at, FirstOpening, Accepted, start, own, another, Item, call, call_order, call_produce, call_read, deliver, acknowledge, cut, reopen, is_ack, in_lists, with_event, coordinator_elsewhere, lent_partition, leader_does, history_after, coordinator_does, next, step, run}
use Rattle.runs.specs.ExactOrders.{acknowledged_orders, is_acknowledged}
use Rattle.runs.proofs.Admitted.{step-own}
use Rattle.runs.proofs.Unchanged.{flush-elsewhere}
use Rattle.runs.proofs.Cases.{step-cases, while-up-cases, lent-cases, leader-cases, deliverable-cases, acknowledgeable-cases, read-cases, cut-cases, reopened-cases, answered-cases}
use Rattle.protocol.specs.RecordsOfName.{latest_in}
use Rattle.protocol.specs.HistoryInvariant.{HistoryInvariant}
use Rattle.protocol.proofs.Events.{marker-records, entry-records, given-records, carried-records, flush-records, appended-records, new_record}
use Rattle.agreement.proofs.Invariant.{UpLog, UnderWay, Invariant}
use Rattle.agreement.proofs.FlushedFirst.{FlushedFirst, call-flushed-first, own-place}
use Rattle.agreement.proofs.LiveTable.{live-ready, starts-of}
use Rattle.agreement.proofs.Preserves.{log-of, carrying-of, ready_of, append-inside}
use Rattle.agreement.proofs.Acknowledges.{ack-passes, position-below}
use Rattle.agreement.proofs.LatestRows.{row_of_name, appended-here, row_appended, row-name, ordered-inside, same-prepare, ordered-row, row-noted, row-unnoted, ordered-below}
use Rattle.agreement.proofs.Restarts.{opening-valid, elsewhere-cases, not-admitted}
use Rattle.agreement.proofs.Start.{start-invariant}
use Rattle.agreement.proofs.Steps.{step-preserves}
use Rattle.exact_orders.proofs.Acknowledged.{RowAcknowledged, RowsAcknowledged, OrdersBelow, Acknowledged}

-- ---- the acknowledged orders

orders-carried : (o : Order) (h : History) → acknowledged_orders (order_carried o ∷ h) ≡ o ∷ acknowledged_orders h
unfolding acknowledged_orders
orders-carried o h = refl

orders-produced : (e : Produced) (h : History) → acknowledged_orders (entry_written e ∷ h) ≡ acknowledged_orders h
unfolding acknowledged_orders
orders-produced e h = refl

-- ---- what is acknowledged

-- the same records and acknowledged orders
rows_same : (p : Phase) (h v : History) → records_of v ≡ records_of h → acknowledged_orders v ≡ acknowledged_orders h → RowsAcknowledged p h → RowsAcknowledged p v
rows_same (up s) h v r k f = rw (r, k) f
rows_same (down n before) h v r k f = k ∙ f

orders-longer : (h v : History) → acknowledged_orders v ≡ acknowledged_orders h → length h ≤ length v → OrdersBelow h → OrdersBelow v
orders-longer h v k l b = rw k (each-then (λ (o : Order). o.for < length h) (λ (o : Order). o.for < length v) (λ o m. omega arith) (acknowledged_orders h) b)

acknowledged-same : (p : Phase) (h v : History) → records_of v ≡ records_of h → acknowledged_orders v ≡ acknowledged_orders h → length h ≤ length v → Acknowledged p h → Acknowledged p v
acknowledged-same p h v r k l a = record { rows = rows_same p h v r k a.rows; below = orders-longer h v k l a.below }

-- after an opening nothing is acknowledged, and after a cut neither
opened-acknowledged : (s : Coordinator) (h : History) (epoch : ℤ) → ((k : ℕ) → (row_at s.table k).acknowledged ≡ 0) → Acknowledged (up s) (log_opened epoch ∷ h)
unfolding acknowledged_orders find
opened-acknowledged s h epoch none =
    record { rows = λ p e q x. ap (λ (set : ℕ). member set x) (none (place_of s.table p.content.name)) ∙ member-is-not 0 x (bit-of-none x); below = tt }

cut-acknowledged : (n before : ℕ) (h : History) → Acknowledged (down n before) (log_cut n ∷ h)
unfolding acknowledged_orders
cut-acknowledged n before h = record { rows = refl; below = tt }

-- a carried order is acknowledged
carried-acknowledged : (p : Logged) (o : Order) (h : History) (x : ℕ) → is_acknowledged p (order_carried o ∷ h) x ≡ ((eqb o.for p.number && eqb o.position x) || is_acknowledged p h x)
carried-acknowledged p o h x = rw (orders-carried o h) (found-more (λ (m : Order). eqb m.for p.number && eqb m.position x) o (acknowledged_orders h))

-- of a record that is not yet appended none is
none-for-new : (p : Logged) (h : History) (x : ℕ) → OrdersBelow h → length h ≤ p.number → is_acknowledged p h x ≡ false
none-for-new p h x b l =
    ap is_found (find-fails (λ (o : Order). eqb o.for p.number && eqb o.position x) (acknowledged_orders h)
    (each-then (λ (o : Order). o.for < length h) (λ (o : Order). (eqb o.for p.number && eqb o.position x) ≡ false) (λ o m. rw (ne_eqb o.for p.number (λ e. omega arith)) refl) (acknowledged_orders h) b))

module _ (w : World) (i : Invariant w) (a : Acknowledged w.phase w.history) where
  abbrev c : Catalogue
  c = catalogue_of w

  abbrev h : History
  h = w.history

  -- what is to be shown of the next world
  abbrev Keeps : World → Type 0
  Keeps v = Invariant v → Acknowledged v.phase v.history

  module _ (s : Coordinator) (u : w.phase ≡ up s) where
    now : Acknowledged (up s) h
    now = subst (λ (y : Phase). Acknowledged y h) u a

    -- ---- a record is appended

    -- to a history of these records, with what is acknowledged in the rows of other names
    module _ (g : History) (records : records_of g ≡ records_of h) (below : OrdersBelow g) (place : ℕ) (row : Row) (inside : place < length s.table.rows) (none : row.acknowledged ≡ 0)
        (others : (p : Logged) → latest_of p.content.name h ≡ some p → is_prepare p.content.status ≡ true → (row.name ≡ p.content.name → ⊥) → RowAcknowledged s g p) where
      abbrev end : ℕ
      end = log_end s + length (row_frame s row)

      abbrev v : History
      v = record_appended (record_of row) end ∷ g

      abbrev state : Coordinator
      state = appended s place row

      abbrev new : Logged
      new = new_record g (record_of row) end

      orders : acknowledged_orders v ≡ acknowledged_orders g
      orders = unfold acknowledged_orders in refl

      all : records_of v ≡ new ∷ records_of h
      all = (appended-records g (record_of row) end).records ∙ ap (λ (l : List Logged). new ∷ l) records

      module _ (log' : List ℕ) (l : UpLog c log' state v) (t : HistoryInvariant c v) (p : Logged) (e : latest_of p.content.name v ≡ some p) where
        -- of the new record nothing is acknowledged
        new_row : row.name ≡ p.content.name → is_of p.content.name new ≡ true → RowAcknowledged state v p
        new_row q m x =
            let name = p.content.name in
            let is : new ≡ p = some_same (sym (find-hit (is_of name) new (records_of h) m) ∙ sym (ap (latest_in name) all) ∙ e) in
            let named : (row_at state.table place).name ≡ name = ap (λ (y : Row). y.name) (appended-here s place row inside) ∙ q in
            let held : free (row_at state.table place) ≡ false = ne_eqb (get_or (row_at state.table place).name 0 0) 0 (rw named (starts-of c log' state v l t name p e)) in
            let at : place_of state.table name ≡ place = ap (place_of state.table) (sym named) ∙ own-place state (live-ready c log' state v l t) place held in
            let empty : (row_of_name state name).acknowledged ≡ 0 = ap (λ (k : ℕ). (row_at state.table k).acknowledged) at ∙ ap (λ (y : Row). y.acknowledged) (appended-here s place row inside) ∙ none in
            ap (λ (set : ℕ). member set x) empty ∙ member-is-not 0 x (bit-of-none x)
            ∙ sym (none-for-new p g x below (omega (arith, ap (λ (y : Logged). y.number) is))) ∙ rw orders refl

        -- and what is of the others stays
        other_row : is_prepare p.content.status ≡ true → (row.name ≡ p.content.name → ⊥) → is_of p.content.name new ≡ false → RowAcknowledged state v p
        other_row prepares d m x =
            let e' : latest_of p.content.name h ≡ some p = sym (find-miss (is_of p.content.name) new (records_of h) m) ∙ sym (ap (latest_in p.content.name) all) ∙ e in
            ap (λ (y : Row). member y.acknowledged x) (row_appended c w.log log' s h place row (log-of w i s u) i.of-history v l t new all inside p e' d d)
            ∙ others p e' prepares d x ∙ rw orders refl

      pub appends : (log' : List ℕ) → UpLog c log' state v → HistoryInvariant c v → Acknowledged (up state) v
      appends log' l t =
          record {
            rows = λ p e prepares.
                either (is_of p.content.name new) (λ m. new_row log' l t p e (same_true row.name p.content.name m) m) (λ m. other_row log' l t p e prepares (differ row.name p.content.name m) m);
            below = orders-longer g v orders (omega arith) below;
          }

    -- ---- Init, Add, End, Tick and Flush

    acted : (a : Action) → Lawful s a → FlushedFirst s a → UpLog c (log_after a s w.log) (after a s) (history_after a s h) → HistoryInvariant c (history_after a s h)
        → Acknowledged (up (after a s)) (history_after a s h)
    acted keep l k x y = now
    acted (advance clock) l k x y = record { rows = now.rows; below = now.below }
    acted (append place row) l k x y = appends h refl now.below place row (append-inside w i s u place row l) l.none-acknowledged (λ p e prepares d. now.rows p e prepares) _ x y
    acted (acknowledge_at place position) l k x y = absurd k
    acted (flush_to n) l k x y =
        let z : Acknowledged (up s) (log_flushed n ∷ h) = acknowledged-same (up s) h (log_flushed n ∷ h) (flush-records h n) (unfold acknowledged_orders in refl) (omega arith) now in
        record { rows = z.rows; below = z.below }

    acts : (a : Action) → Decided s (length w.log) a → FlushedFirst s a → Keeps (coordinator_does a s w)
    acts a d k j = acted a (decided-lawful s (ready_of w i s u) (length w.log) a d) k j.log-side j.of-history

    called : (k : CoordinatorCall) → call_typed k ≡ true → is_ack k ≡ false → Keeps (coordinator_does (action_of k s (length w.log)) s w)
    called k typed d = acts (action_of k s (length w.log)) (by_call k typed refl) (call-flushed-first s (ready_of w i s u) (length w.log) k d)

    -- lent another slice, all but Flush are refused
    elsewhere : (n : ℕ) → (n ≡ length w.log → ⊥) → (k : CoordinatorCall) → Keeps (coordinator_elsewhere (action_of k s n) s w)
    elsewhere n d =
        elsewhere-cases s n (not-admitted w i s u n d) (λ (y : Action). Keeps (coordinator_elsewhere y s w)) (λ j. now) (λ m. subst Keeps (sym (flush-elsewhere m s w)) (called (flush_call m) refl refl))

    -- ---- Ack

    module _ (o : Order) (way : UnderWay c h s o) where
      abbrev row : Row
      row = row_at s.table o.place

      abbrev carried : History
      carried = order_carried o ∷ h

      below-carried : OrdersBelow carried
      below-carried =
          let b = ordered-below w i s u o way in
          rw (orders-carried o h) (omega arith, each-then (λ (m : Order). m.for < length h) (λ (m : Order). m.for < length carried) (λ m l. omega arith) (acknowledged_orders h) now.below)

      -- for another record it changes nothing
      not-for : (p : Logged) → (o.for ≡ p.number → ⊥) → (x : ℕ) → is_acknowledged p carried x ≡ is_acknowledged p h x
      not-for p d x = carried-acknowledged p o h x ∙ rw (ne_eqb o.for p.number d) refl

      -- the last one completes its prepare
      completes : Keeps (coordinator_does (append o.place (completed row s.clock)) s (with_event w (order_carried o)))
      completes j =
          appends carried (carried-records h o).records below-carried o.place (completed row s.clock) (ordered-inside w i s u o way) refl
          (λ p e prepares d x.
          let not-this : o.for ≡ p.number → ⊥ = λ q. d (row-name w i s u o way ∙ ap (λ (y : Logged). y.content.name) (same-prepare w i s u o way p (find-in _ (records_of h) p e) q)) in
          now.rows p e prepares x ∙ sym (not-for p not-this x)) _ j.log-side j.of-history

      -- another one is noted
      notes : Keeps (coordinator_does (acknowledge_at o.place o.position) s (with_event w (order_carried o)))
      notes j = record { rows = λ p e prepares x. noted p (rw (← (carried-records h o).records) e) prepares x (ℕ_discrete o.for p.number); below = below-carried }
        where
          state : Coordinator
          state = acknowledged s o.place o.position

          noted : (p : Logged) → latest_of p.content.name h ≡ some p → is_prepare p.content.status ≡ true → (x : ℕ) → Dec (o.for ≡ p.number)
              → member (row_of_name state p.content.name).acknowledged x ≡ is_acknowledged p carried x
          noted p e prepares x (yes q) =
              let stands = find-in (is_of p.content.name) (records_of h) p e in
              let before : member row.acknowledged x ≡ is_acknowledged p h x = sym (ap (λ (y : Row). member y.acknowledged x) (ordered-row w i s u o way p stands q)) ∙ now.rows p e prepares x in
              ap (λ (y : Row). member y.acknowledged x) (row-noted w i s u o way p stands q) ∙ member-insert row.acknowledged o.position x (position-below w i s u o way)
              ∙ ap (λ (b : Bool). eqb o.position x || b) before ∙ sym (carried-acknowledged p o h x ∙ rw (eq-eqb o.for p.number q) refl)
          noted p e prepares x (no d) = ap (λ (y : Row). member y.acknowledged x) (row-unnoted w i s u o way p d e) ∙ now.rows p e prepares x ∙ sym (not-for p d x)

      acked : Keeps (coordinator_does (ack s (length w.log) o.place o.pid o.epoch o.position).action s (with_event w (order_carried o)))
      acked =
          either (last_outstanding row)
          (λ e. rw (ap (λ (d : Decision Answer Action). d.action) (ack-completed s (length w.log) o.place o.pid o.epoch o.position (ack-passes w i s u o way) way.waits e)) completes)
          (λ e. rw (ap (λ (d : Decision Answer Action). d.action) (ack-noted s (length w.log) o.place o.pid o.epoch o.position (ack-passes w i s u o way) way.waits e)) notes)

  -- ---- what changes neither records nor state

  same-world : Keeps w
  same-world j = a

  -- an event that says nothing of them
  told : (e : Event) → records_of (e ∷ h) ≡ records_of h → acknowledged_orders (e ∷ h) ≡ acknowledged_orders h → Acknowledged w.phase (e ∷ h)
  told e r k = acknowledged-same w.phase h (e ∷ h) r k (omega arith) a

  led : (x : ℕ) (d : PartitionAction) (e : Event) (k : Carrying) → records_of (e ∷ h) ≡ records_of h → acknowledged_orders (e ∷ h) ≡ acknowledged_orders h → Keeps (leader_does x d e k w)
  led x keep_partition e k r q j = a
  led x (note coordinator place p) e k r q j = a
  led x (write coordinator place p words) e k r q j = told e r q

  -- ---- items

  next-acknowledged : (x : Item) → in_lists x ≡ true → Keeps (next x w)
  next-acknowledged (call lent k) so =
      while-up-cases Keeps w same-world _ (λ s u. lent-cases Keeps w same-world lent (action_of k s) s
      (λ o. called s u k (and_left (call_typed k) (not (is_ack k)) so) (not-true (is_ack k) (and_right (call_typed k) (not (is_ack k)) so))) (λ n d. elsewhere s u n d k))
  next-acknowledged (call_order set) so =
      while-up-cases Keeps w same-world _
      (λ s u. answered-cases Keeps w s (order s set) (λ j. a) (λ place pid epoch verdict position coordinator e j. told (order_given _) (given-records h _).records (unfold acknowledged_orders in refl)))
  next-acknowledged (call_produce lent other name pid epoch position sequence payload) so =
      while-up-cases Keeps w same-world _
      (λ s u. leader-cases Keeps w same-world lent _ _ _ _
      (λ o. let x = lent_partition s position other in
      led x (produce s (leader_at w x).partition (length (leader_at w x).words) name pid epoch position sequence payload).action (entry_written _) nothing (entry-records h _).records (orders-produced _ h))
      (λ n e j. a))
  next-acknowledged (call_read lent x from out) so = while-up-cases Keeps w same-world _ (λ s u. read-cases Keeps w same-world lent x (λ j. a))
  next-acknowledged (deliver lent n) so =
      while-up-cases Keeps w same-world _
      (λ s u. deliverable-cases Keeps w same-world n _
      (λ o e. leader-cases Keeps w same-world lent o.position _ _ _ (λ l. let y = leader_at w o.position in
      led o.position (marker y.partition (length y.words) o.place o.pid o.epoch o.verdict o.coordinator).action (marker_written o) _ (marker-records h o).records (unfold acknowledged_orders in refl))
      (λ m d j. a)))
  next-acknowledged (acknowledge own n) so =
      while-up-cases Keeps w same-world _ (λ s u. acknowledgeable-cases Keeps w same-world n _ (λ o e. acked s u o (carrying-of w i s u (to_acknowledge n o) e).0))
  next-acknowledged (acknowledge (another slice) n) so =
      while-up-cases Keeps w same-world _
      (λ s u. acknowledgeable-cases Keeps w same-world n _
      (λ o e. by_cases Keeps (eqb (length slice) (length w.log)) (λ t. same-world) (λ t. elsewhere s u (length slice) (eqb-false _ _ t) (ack_call o.place o.pid o.epoch o.position))))
  next-acknowledged (cut n) so = while-up-cases Keeps w same-world _ (λ s u. cut-cases Keeps w same-world n s (λ e j. cut-acknowledged n s.epoch h))
  next-acknowledged (reopen epoch first last) so =
      reopened-cases Keeps w same-world epoch first last
      (λ n before u e j. opened-acknowledged (opening w.text w.log n epoch first last).state h epoch
      (opening-valid w.text w.log n epoch first last (eqb-true _ 0 (and_left (eqb (opening_reply w.text w.log n epoch first last).number 0) (le_z (pos before) epoch) e))).0.none-acknowledged)

  pub step-acknowledged : (x : Item) → Invariant (step x w) → Acknowledged (step x w).phase (step x w).history
  step-acknowledged x = step-cases Keeps x w same-world (next-acknowledged x)

-- ---- runs

run-acknowledged : (items : List Item) (w : World) → Invariant w → Acknowledged w.phase w.history → Acknowledged (run items w).phase (run items w).history
unfolding run
run-acknowledged [] w i a = a
run-acknowledged (x ∷ items) w i a =
    let j = (step-preserves w i x).holds (step-own x w i.own) in
    run-acknowledged items (step x w) j (step-acknowledged w i a x j)

pub always-acknowledged : (o : FirstOpening) → Accepted o → (items : List Item) → Acknowledged (run items (start o)).phase (run items (start o)).history
always-acknowledged o accepted items =
    run-acknowledged items (start o) (start-invariant o accepted)
    (opened-acknowledged _ _ o.epoch (opening-valid o.text o.log o.length o.epoch o.first o.last accepted.0).0.none-acknowledged)
