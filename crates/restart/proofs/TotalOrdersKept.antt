-- Every undisturbed item keeps the total of carried orders of a flushed prepare.
use Prim.Native.Nat.{ℕ, ◌+◌, ◌<◌, ◌^◌}
use mathlib.Core.Path.{◌≡◌, refl, sym, ap, subst, ◌∙◌}
use mathlib.Core.Bool.{true, false, not, true≢false}
use mathlib.Core.List.{List, [], ◌∷◌}
use mathlib.Core.Option.{none, some}
use native.Mathlib.Decide.{ℕ_discrete}
use native.Mathlib.Omega.{arith}
use lib.Dec.{eqb}
use lib.IntN.{ℤ, pos}
use lib.ListN.{length}
use lib.Signed.{le_z}
use borrow.Author.Tests.{eq-eqb, ne_eqb, eqb-true, not-true}
use Rattle.numbers.proofs.Tests.{not-both, and_left, and_right, either}
use Rattle.bits.specs.Bits.{count, difference, insert}
use Rattle.bits.proofs.Laws.{count_left, member-true, member-false, difference-none}
use Rattle.catalogue.specs.Catalogue.{parse}
use Rattle.catalogue.specs.declared.Catalogue.{Catalogue}
use Rattle.record.specs.Record.{status_code}
use Rattle.search.specs.Search.{found}
use Rattle.search.proofs.Members.{In, each_in}
use Rattle.answers.specs.Refusals.{Decision}
use Rattle.answers.specs.Answer.{Answer}
use Rattle.row.specs.Row.{is_prepare, outstanding, record_of}
use Rattle.row.specs.Steps.{completed}
use Rattle.row.specs.declared.Row.{Row}
use Rattle.row.proofs.Laws.{complete-code}
use Rattle.table.specs.Table.{row_at, place_of}
use Rattle.coordinator.specs.Coordinator.{log_end, row_frame, Action, keep, advance, append, acknowledge as acknowledge_at, flush_to, appended, acknowledged, after, log_after}
use Rattle.coordinator.specs.Ack.{last_outstanding, ack}
use Rattle.coordinator.specs.Flush.{flush}
use Rattle.coordinator.specs.Order.{order}
use Rattle.coordinator.specs.Open.{opening}
use Rattle.coordinator.specs.declared.Coordinator.{Coordinator}
use Rattle.coordinator.specs.Calls.{flush_call, call_typed, action_of}
use Rattle.coordinator.proofs.AckCases.{ack-completed, ack-noted}
use Rattle.writable_logs.specs.Writer.{opening_reply}
use Rattle.writable_logs.proofs.Decisions.{Decided, by_call}
use Rattle.writable_logs.proofs.Lawful.{Lawful, decided-lawful}
use Rattle.partition.specs.Partition.{Action as PartitionAction, keep as keep_partition, note, write}
use Rattle.partition.specs.Marker.{marker}
use Rattle.server.specs.Produce.{produce}
use Rattle.runs.specs.History.{Order, Event, record_appended, log_flushed, log_opened, order_given, marker_written, order_carried, entry_written, History, carried_in, collect, Logged, records_of, latest_of, next_of, listed, is_completed, carried_for}
use Rattle.runs.specs.World.{Phase, up, down, Carrying, nothing, to_acknowledge, World, catalogue_of, leader_at, own, another, Item, call, call_order, call_produce, call_read, deliver, acknowledge, cut, reopen, is_ack, in_lists, with_event, coordinator_elsewhere, lent_partition, leader_does, history_after, history_written, coordinator_does, next, step}
use Rattle.runs.specs.Demand3.{Undisturbed}
use Rattle.runs.proofs.Unchanged.{flush-elsewhere}
use Rattle.runs.proofs.Cases.{step-cases, while-up-cases, lent-cases, leader-cases, deliverable-cases, acknowledgeable-cases, read-cases, reopened-cases, answered-cases}
use Rattle.protocol.specs.HistoryInvariant.{HistoryInvariant}
use Rattle.protocol.proofs.Cuts.{numbered_below}
use Rattle.protocol.proofs.Events.{collect-same, marker-records, entry-records, given-records, opened-records, carried-records, flush-records, appended-records, new_record}
use Rattle.agreement.proofs.Invariant.{UpLog, LogSide, UnderWay, Invariant}
use Rattle.agreement.proofs.FlushedFirst.{FlushedFirst, call-flushed-first}
use Rattle.agreement.proofs.LiveTable.{live-latest}
use Rattle.agreement.proofs.Preserves.{log-of, acks-of, carrying-of, ready_of, row-of, append-inside}
use Rattle.agreement.proofs.PreparedRow.{record-parts}
use Rattle.agreement.proofs.Delivers.{prepare-of}
use Rattle.agreement.proofs.Acknowledges.{row_is, ack-passes, row-joins, joined_small, position-below}
use Rattle.agreement.proofs.LatestRows.{row_appended, row-name, ordered-inside, same-prepare, ordered-row, row-noted, other_name, row-unnoted}
use Rattle.agreement.proofs.Restarts.{opening-valid, elsewhere-cases, not-admitted}
use Rattle.restart.proofs.TotalOrders.{left_of, TotalOrders, finished, unfinished, total-same, total-other, total-over, completed-now, carried-more}

module _ (p : Logged) (prepares : is_prepare p.content.status ≡ true) (n : ℕ) (w : World) (i : Invariant w) (stands : In p (records_of w.history)) (t : TotalOrders p n w.phase w.history) where
  abbrev c : Catalogue
  c = catalogue_of w

  abbrev h : History
  h = w.history

  -- what is to be shown of the next world
  abbrev Counts : World → Type 0
  Counts v = Invariant v → TotalOrders p n v.phase v.history

  module _ (s : Coordinator) (u : w.phase ≡ up s) where
    now : TotalOrders p n (up s) h
    now = subst (λ (y : Phase). TotalOrders p n y h) u t

    -- ---- Init, Add, End, Tick and Flush

    acted : (a : Action) → Lawful s a → FlushedFirst s a → UpLog c (log_after a s w.log) (after a s) (history_after a s h) → HistoryInvariant c (history_after a s h)
        → TotalOrders p n (up (after a s)) (history_after a s h)
    acted keep l k x y = now
    acted (advance clock) l k x y = total-same p n (up s) (up (after (advance clock) s)) h h refl refl refl now
    acted (append place row) l k x y = go now
      where
        end : ℕ
        end = log_end s + length (row_frame s row)

        new : Logged
        new = new_record h (record_of row) end

        carried : collect carried_in (record_appended (record_of row) end ∷ h) ≡ collect carried_in h
        carried = collect-same carried_in (record_appended (record_of row) end) h refl

        go : TotalOrders p n (up s) h → TotalOrders p n (up (appended s place row)) (record_appended (record_of row) end ∷ h)
        go (finished e f) = total-over p new n (up (appended s place row)) h (record_appended (record_of row) end ∷ h) (appended-records h (record_of row) end).records carried e f
        go (unfinished e f) =
            let d : row.name ≡ p.content.name → ⊥ = λ z.
            let is : is_prepare (row_at s.table (place_of s.table row.name)).status ≡ true = ap (λ (m : List ℕ). is_prepare (row_at s.table (place_of s.table m)).status) z
            ∙ ap (λ (r : Row). is_prepare r.status) (row-of w i s u p.content.name p e) ∙ prepares in
            not-both k.unprepared is in
            total-other p new n (up s) (up (appended s place row)) h (record_appended (record_of row) end ∷ h) (appended-records h (record_of row) end).records d carried
            (ap (λ (r : Row). count (outstanding r))
            (row_appended c w.log _ s h place row (log-of w i s u) i.of-history (record_appended (record_of row) end ∷ h) x y new (appended-records h (record_of row) end).records (append-inside w i s u place row l) p e d d))
            (unfinished e f)
    acted (acknowledge_at place position) l k x y = absurd k
    acted (flush_to m) l k x y = total-same p n (up s) (up (after (flush_to m) s)) h (log_flushed m ∷ h) (flush-records h m) (collect-same carried_in (log_flushed m) h refl) refl now

    acts : (a : Action) → Decided s (length w.log) a → FlushedFirst s a → Counts (coordinator_does a s w)
    acts a d k j = acted a (decided-lawful s (ready_of w i s u) (length w.log) a d) k j.log-side j.of-history

    -- ---- Ack

    module _ (o : Order) (way : UnderWay c h s o) where
      abbrev r : Logged
      r = (prepare-of w i s u o way).prepare

      abbrev row : Row
      row = row_at s.table o.place

      abbrev v : History
      v = order_carried o ∷ h

      is-p : o.for ≡ p.number → r ≡ p
      is-p = same-prepare w i s u o way p stands

      records : records_of v ≡ records_of h
      records = (carried-records h o).records

      carried_here : o.for ≡ p.number → carried_for p v ≡ 1 + carried_for p h
      carried_here e = carried-more p o h ∙ rw (eq-eqb o.for p.number e) refl

      same_count : (o.for ≡ p.number → ⊥) → carried_for p v ≡ carried_for p h
      same_count d = carried-more p o h ∙ rw (ne_eqb o.for p.number d) (omega arith)

      not-over : is_completed h p ≡ true → o.for ≡ p.number → ⊥
      not-over e q =
          let z : next_of p h ≡ none = subst (λ (y : Logged). next_of y h ≡ none) (is-p q) (prepare-of w i s u o way).is-for.latest in
          let f : found (λ (y : Logged). eqb (status_code y.content.status) (status_code p.content.status + 2)) (next_of p h) ≡ true = and_right (is_prepare p.content.status) _ e in
          true≢false (sym (rw z at f))

      -- the total, with an order for another prepare
      counted : (o.for ≡ p.number → ⊥) → TotalOrders p n (up s) h → TotalOrders p n (up s) v
      counted d (finished e f) = finished (rw records e) (same_count d ∙ f)
      counted d (unfinished e f) = unfinished (rw records e) (ap (λ (m : ℕ). m + left_of p (up s)) (same_count d) ∙ f)

      own-left : o.for ≡ p.number → left_of p (up s) ≡ count (outstanding row)
      own-left e = ap (λ (y : Row). count (outstanding y)) (ordered-row w i s u o way p stands e)

      -- the last one completes its prepare
      completes : last_outstanding row ≡ true → Counts (coordinator_does (append o.place (completed row s.clock)) s (with_event w (order_carried o)))
      completes last j = go now (ℕ_discrete o.for p.number)
        where
          done : Row
          done = completed row s.clock

          end : ℕ
          end = log_end s + length (row_frame s done)

          new : Logged
          new = new_record v (record_of done) end

          carried : collect carried_in (record_appended (record_of done) end ∷ v) ≡ collect carried_in v
          carried = collect-same carried_in (record_appended (record_of done) end) v refl

          to-v : records_of (record_appended (record_of done) end ∷ v) ≡ new ∷ records_of v
          to-v = (appended-records v (record_of done) end).records

          all : records_of (record_appended (record_of done) end ∷ v) ≡ new ∷ records_of h
          all = to-v ∙ ap (λ (l : List Logged). new ∷ l) records

          go : TotalOrders p n (up s) h → Dec (o.for ≡ p.number) → TotalOrders p n (up (appended s o.place done)) (record_appended (record_of done) end ∷ v)
          go (finished e f) q = let d = not-over e in total-over p new n (up (appended s o.place done)) v (record_appended (record_of done) end ∷ v) to-v carried (rw records e) (same_count d ∙ f)
          go (unfinished e f) (yes q) =
              finished (completed-now c p new h (record_appended (record_of done) end ∷ v) all i.of-history e prepares (let b = below in omega arith) (row-name w i s u o way ∙ ap (λ (y : Logged). y.content.name) (is-p q))
              (complete-code row.status row-prepares ∙ ap (λ (m : ℕ). m + 2) (ap (λ (y : Row). status_code y.status) (row_is w i s u o way) ∙ ap (λ (y : Logged). status_code y.content.status) (is-p q))))
              (let a : carried_for p (record_appended (record_of done) end ∷ v) ≡ carried_for p v = rw carried refl in let b = carried_here q in let d = own-left q in let m = eqb-true
              (count (outstanding row)) 1 last in omega arith)
            where
              below : p.number < length h
              below = each_in (λ (y : Logged). y.number < length h) (records_of h) p (numbered_below (length h) (records_of h) i.of-history.numbered) stands

              row-prepares : is_prepare row.status ≡ true
              row-prepares = ap (λ (y : Row). is_prepare y.status) (row_is w i s u o way) ∙ (prepare-of w i s u o way).is-for.prepare
          go (unfinished e f) (no d) =
              let d' = other_name w i s u o way p d e in
              total-other p new n (up s) (up (appended s o.place done)) v (record_appended (record_of done) end ∷ v) to-v d' carried
              (ap (λ (y : Row). count (outstanding y))
              (row_appended c w.log _ s h o.place done (log-of w i s u) i.of-history (record_appended (record_of done) end ∷ v) j.log-side j.of-history new all (ordered-inside w i s u o way) p e d' d'))
              (counted d (unfinished e f))

      -- another one is noted
      notes : last_outstanding row ≡ false → Counts (coordinator_does (acknowledge_at o.place o.position) s (with_event w (order_carried o)))
      notes last j = go now (ℕ_discrete o.for p.number)
        where
          noted : Coordinator
          noted = acknowledged s o.place o.position

          go : TotalOrders p n (up s) h → Dec (o.for ≡ p.number) → TotalOrders p n (up noted) v
          go (finished e f) q = finished (rw records e) (same_count (not-over e) ∙ f)
          go (unfinished e f) (yes q) =
              let left : left_of p (up noted) ≡ count (difference row.joined (insert row.acknowledged o.position)) = ap (λ (y : Row). count (outstanding y)) (row-noted w i s u o way p stands q) in
              let one = count_left row.joined row.acknowledged o.position (joined_small w i s u o way) ((acks-of w i s u).small o.place) (position-below w i s u o way)
              (member-true row.joined o.position (row-joins w i s u o way)) (member-false row.acknowledged o.position way.waits) in
              unfinished (rw records e) (let a = carried_here q in let b = own-left q in omega arith)
          go (unfinished e f) (no d) =
              let left : left_of p (up noted) ≡ left_of p (up s) = ap (λ (y : Row). count (outstanding y)) (row-unnoted w i s u o way p d e) in
              unfinished (rw records e) (ap (λ (m : ℕ). carried_for p v + m) left ∙ ap (λ (m : ℕ). m + left_of p (up s)) (same_count d) ∙ f)

      acked : Counts (coordinator_does (ack s (length w.log) o.place o.pid o.epoch o.position).action s (with_event w (order_carried o)))
      acked =
          either (last_outstanding row)
          (λ e. rw (ap (λ (d : Decision Answer Action). d.action) (ack-completed s (length w.log) o.place o.pid o.epoch o.position (ack-passes w i s u o way) way.waits e)) (completes e))
          (λ e. rw (ap (λ (d : Decision Answer Action). d.action) (ack-noted s (length w.log) o.place o.pid o.epoch o.position (ack-passes w i s u o way) way.waits e)) (notes e))

  -- ---- what changes neither records nor state

  resting : (v : World) → v.phase ≡ w.phase → records_of v.history ≡ records_of h → collect carried_in v.history ≡ collect carried_in h → Counts v
  resting v e r k j = total-same p n w.phase v.phase h v.history r k (ap (left_of p) e) t

  same-world : Counts w
  same-world j = t

  written-records : (a : PartitionAction) (e : Event) → records_of (e ∷ h) ≡ records_of h → records_of (history_written a e h) ≡ records_of h
  written-records keep_partition e r = refl
  written-records (note coordinator place q) e r = refl
  written-records (write coordinator place q words) e r = r

  written-carried : (a : PartitionAction) (e : Event) → carried_in e ≡ [] → collect carried_in (history_written a e h) ≡ collect carried_in h
  written-carried keep_partition e r = refl
  written-carried (note coordinator place q) e r = refl
  written-carried (write coordinator place q words) e r = collect-same carried_in e h r

  led : (x : ℕ) (a : PartitionAction) (e : Event) (k : Carrying) → records_of (e ∷ h) ≡ records_of h → carried_in e ≡ [] → Counts (leader_does x a e k w)
  led x a e k r q = resting (leader_does x a e k w) refl (written-records a e r) (written-carried a e q)

  -- ---- an opening after a cut

  reopened : (m before : ℕ) → w.phase ≡ down m before → (epoch first last : ℤ) → (opening_reply w.text w.log m epoch first last).number ≡ 0
      → (v : World) → v.phase ≡ up (opening w.text w.log m epoch first last).state → v.history ≡ log_opened epoch ∷ h → v.text ≡ w.text → Counts v
  reopened m before u epoch first last accepted v e f g j = go (subst (λ (y : Phase). TotalOrders p n y h) u t)
    where
      s : Coordinator
      s = (opening w.text w.log m epoch first last).state

      records : records_of v.history ≡ records_of h
      records = ap records_of f ∙ opened-records h epoch

      carried : collect carried_in v.history ≡ collect carried_in h
      carried = ap (collect carried_in) f ∙ collect-same carried_in (log_opened epoch) h refl

      log-up : UpLog c v.log s v.history
      log-up = subst (λ (y : List ℕ). UpLog (parse y).catalogue v.log s v.history) g (subst (λ (y : Phase). LogSide (catalogue_of v) v.log y v.history) e j.log-side)

      invariant-up : HistoryInvariant c v.history
      invariant-up = subst (λ (y : List ℕ). HistoryInvariant (parse y).catalogue v.history) g j.of-history

      go : TotalOrders p n (down m before) h → TotalOrders p n v.phase v.history
      go (finished a b) = finished (rw records a) (rw carried b)
      go (unfinished a b) =
          let a' : latest_of p.content.name v.history ≡ some p = rw records a in
          let k = place_of s.table p.content.name in
          let row_is = live-latest c v.log s v.history log-up invariant-up p.content.name p a' in
          let none-acked = (opening-valid w.text w.log m epoch first last accepted).0.none-acknowledged k in
          let joined : (row_at s.table k).joined ≡ p.content.joined = ap (λ (y : Row). y.joined) row_is in
          let small : p.content.joined < 2 ^ 64 = (record-parts w i p stands).joined-below in
          let left : left_of p v.phase ≡ listed p = ap (left_of p) e ∙ ap count
          (ap (λ (z : ℕ). difference (row_at s.table k).joined z) none-acked ∙ ap (λ (z : ℕ). difference z 0) joined ∙ difference-none p.content.joined small) in
          unfinished a' (ap (λ (z : ℕ). z + left_of p v.phase) (rw carried refl) ∙ ap (λ (z : ℕ). carried_for p h + z) left ∙ b)

  -- ---- items

  next-counts : (x : Item) → in_lists x ≡ true → Undisturbed c.all x → Counts (next x w)
  next-counts (call lent k) so d =
      while-up-cases Counts w same-world _ (λ s u. lent-cases Counts w same-world lent (action_of k s) s
      (λ o. acts s u (action_of k s (length w.log)) (by_call k (and_left (call_typed k) (not (is_ack k)) so) refl)
      (call-flushed-first s (ready_of w i s u) (length w.log) k (not-true (is_ack k) (and_right (call_typed k) (not (is_ack k)) so))))
      (λ m e. elsewhere-cases s m (not-admitted w i s u m e) (λ (a : Action). Counts (coordinator_elsewhere a s w)) (resting (coordinator_elsewhere keep s w) (sym u) refl refl)
      (λ l. subst Counts (sym (flush-elsewhere l s w)) (acts s u (flush s l).action (by_call (flush_call l) refl refl) (call-flushed-first s (ready_of w i s u) 0 (flush_call l) refl))) k))
  next-counts (call_order set) so d =
      while-up-cases Counts w same-world _
      (λ s u. answered-cases Counts w s (order s set) (resting _ refl refl refl)
      (λ place pid epoch verdict position coordinator e. resting _ refl (given-records h _).records (collect-same carried_in (order_given _) h refl)))
  next-counts (call_produce lent other name pid epoch position sequence payload) so d =
      while-up-cases Counts w same-world _
      (λ s u. leader-cases Counts w same-world lent _ _ _ _
      (λ o. let x = lent_partition s position other in
      led x (produce s (leader_at w x).partition (length (leader_at w x).words) name pid epoch position sequence payload).action (entry_written _) nothing (entry-records h _).records refl)
      (λ m e. resting _ refl refl refl))
  next-counts (call_read lent x from out) so d = while-up-cases Counts w same-world _ (λ s u. read-cases Counts w same-world lent x (resting _ refl refl refl))
  next-counts (deliver lent m) so d =
      while-up-cases Counts w same-world _
      (λ s u. deliverable-cases Counts w same-world m _
      (λ o e. leader-cases Counts w same-world lent o.position _ _ _ (λ l. let y = leader_at w o.position in
      led o.position (marker y.partition (length y.words) o.place o.pid o.epoch o.verdict o.coordinator).action (marker_written o) _ (marker-records h o).records refl)
      (λ k f. resting _ refl refl refl)))
  next-counts (acknowledge own m) so d =
      while-up-cases Counts w same-world _ (λ s u. acknowledgeable-cases Counts w same-world m _ (λ o e. acked s u o (carrying-of w i s u (to_acknowledge m o) e).0))
  next-counts (acknowledge (another slice) m) so d = absurd d
  next-counts (cut m) so d = absurd d
  next-counts (reopen epoch first last) so d =
      reopened-cases Counts w same-world epoch first last
      (λ m before u e. reopened m before u epoch first last (eqb-true _ 0 (and_left (eqb (opening_reply w.text w.log m epoch first last).number 0) (le_z (pos before) epoch) e)) _ refl refl refl)

  pub step_counts : (x : Item) → Undisturbed c.all x → Invariant (step x w) → TotalOrders p n (step x w).phase (step x w).history
  step_counts x d = step-cases Counts x w same-world (λ e. next-counts x e d)
