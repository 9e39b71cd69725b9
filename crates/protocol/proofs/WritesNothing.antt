-- Flush, a cut, an opening, an order given and an order carried write no record, no entry and no marker: one law keeps the invariant.
use Prim.Native.Nat.{ℕ, suc, ◌≤◌}
use mathlib.Core.Path.{◌≡◌, refl, sym, ap, ◌∙◌}
use mathlib.Core.List.{[], ◌∷◌}
use native.Mathlib.Omega.{arith}
use lib.IntN.{ℤ}
use lib.ListN.{length}
use Rattle.catalogue.specs.declared.Catalogue.{Catalogue}
use Rattle.search.specs.Search.{Each, Found}
use Rattle.search.proofs.Each.{each-then}
use Rattle.search.proofs.Members.{in-each}
use Rattle.runs.specs.History.{Order, Event, log_flushed, log_cut, log_opened, order_given, order_carried, History, orders_in, markers_in, produced_in, collect, collect_with_before, Logged, ending_by, records_of, end_of, flushed_of, record_numbered}
use Rattle.runs.specs.Demand3.{IsFor}
use Rattle.protocol.specs.Entries.{Entry, entries_of, ordinal_of, kind_in}
use Rattle.protocol.specs.HistoryInvariant.{Standing, Marks, AlreadyClosed, HistoryInvariant, MarksPrepare, ForPrepare}
use Rattle.protocol.proofs.Cuts.{ending-all, ending-again, ending-in, ending-each, ending-ends, ending-come, ending-numbered, numbered_more}
use Rattle.protocol.proofs.Events.{collect-same, collect-before-same, same_entries, carried-records, given-records, KeepsRecords}
use Rattle.protocol.proofs.Entries.{under-each}
use Rattle.protocol.proofs.Ordinals.{nth-ending}
use Rattle.protocol.proofs.Consequences.{closed_at, ordinal-was}

-- what a cut leaves after the event, some cut leaves before it
pub record EarlierCut (h : History) (e : Event) (k : ℕ) : Type 0 where
  pub bytes : ℕ
  pub low : flushed_of h ≤ bytes
  pub same : ending_by k (records_of (e ∷ h)) ≡ ending_by bytes (records_of h)

-- no record, no entry and no marker; the records that are left are those that some cut leaves, and so after every cut
pub record WritesNothing (h : History) (e : Event) : Type 0 where
  pub no-entry : produced_in e ≡ []
  pub no-marker : markers_in e ≡ []
  pub no_kind : (position pid : ℕ) → kind_in position pid e ≡ 0
  pub left : ℕ
  pub left_is : records_of (e ∷ h) ≡ ending_by left (records_of h)
  pub earlier-cut : (k : ℕ) → flushed_of (e ∷ h) ≤ k → EarlierCut h e k

module _ (h : History) where
  all_left : records_of h ≡ ending_by (end_of (records_of h)) (records_of h)
  all_left = sym (ending-all (end_of (records_of h)) (records_of h) (omega arith))

  -- records and flushed length stay
  order-writes-nothing : (e : Event) → KeepsRecords h e → produced_in e ≡ [] → markers_in e ≡ [] → ((position pid : ℕ) → kind_in position pid e ≡ 0) → WritesNothing h e
  order-writes-nothing e s p m q =
      record {
        no-entry = p;
        no-marker = m;
        no_kind = q;
        left = end_of (records_of h);
        left_is = s.records ∙ all_left;
        earlier-cut = λ k f. record { bytes = k; low = rw s.flushed at f; same = ap (ending_by k) s.records };
      }

  pub given-writes-nothing : (o : Order) → WritesNothing h (order_given o)
  given-writes-nothing o = order-writes-nothing (order_given o) (given-records h o) refl refl (λ position pid. refl)

  pub carried-writes-nothing : (o : Order) → WritesNothing h (order_carried o)
  carried-writes-nothing o = order-writes-nothing (order_carried o) (carried-records h o) refl refl (λ position pid. refl)

  pub flush-writes-nothing : (n : ℕ) → flushed_of h ≤ n → WritesNothing h (log_flushed n)
  unfolding records_of flushed_of
  flush-writes-nothing n b =
      record { no-entry = refl; no-marker = refl; no_kind = λ position pid. refl; left = end_of (records_of h); left_is = all_left; earlier-cut = λ k f. record { bytes = k; low = omega arith; same = refl } }

  pub cut-writes-nothing : (n : ℕ) → flushed_of h ≤ n → WritesNothing h (log_cut n)
  unfolding records_of flushed_of
  cut-writes-nothing n b =
      record { no-entry = refl; no-marker = refl; no_kind = λ position pid. refl; left = n; left_is = refl; earlier-cut = λ k f. record { bytes = n; low = b; same = ending-again n k (records_of h) f } }

  pub opened-writes-nothing : (epoch : ℤ) → end_of (records_of h) ≤ flushed_of h → WritesNothing h (log_opened epoch)
  unfolding records_of flushed_of
  opened-writes-nothing epoch b =
      record {
        no-entry = refl;
        no-marker = refl;
        no_kind = λ position pid. refl;
        left = end_of (records_of h);
        left_is = all_left;
        earlier-cut = λ k f. record { bytes = flushed_of h; low = omega arith; same = ending-all k (records_of h) f ∙ sym (ending-all (flushed_of h) (records_of h) b) };
      }

module _ (c : Catalogue) (h : History) (t : HistoryInvariant c h) where
  writes-nothing-keeps : (e : Event) → WritesNothing h e → Each ForPrepare (collect_with_before orders_in (e ∷ h)) → HistoryInvariant c (e ∷ h)
  writes-nothing-keeps e q orders =
      record {
        come = rw q.left_is (ending-come q.left c (records_of h) t.come);
        ends = rw q.left_is (ending-ends q.left c (records_of h) t.ends);
        numbered = rw q.left_is (numbered_more (length h) (suc (length h)) (ending_by q.left (records_of h)) (omega arith) (ending-numbered q.left (length h) (records_of h) t.numbered));
        entitled = rw entries t.entitled;
        standing = λ k b. let v = q.earlier-cut k b in
            rw (v.same, entries) (under-each h e q.no_kind (λ (n : ℕ) (p : Entry). Standing n (ending_by v.bytes (records_of h)) p) (t.standing v.bytes v.low));
        by-ordinal = rw (q.left_is, entries)
            (in-each _ (ending_by q.left (records_of h))
            (λ r i prepares. in-each _ (entries_of h)
            (λ p j w.
            nth-ending p.what.name q.left (length h) (records_of h) t.numbered (ordinal_of p) r
            (ordinal-was c h t e r (ending-in q.left (records_of h) r i) prepares p j w) i)));
        for-prepare = orders;
        marks = rw same-markers (each-then (MarksPrepare h) (MarksPrepare (e ∷ h))
            (λ m i. record { earlier = omega (arith, i.earlier); marked = rw q.left_is (ending-each q.left (λ (r : Logged). r.number ≡ m.for → Marks m r) (records_of h) i.marked) })
            (collect markers_in h) t.marks);
        already-closed = λ k b. let v = q.earlier-cut k b in
            rw (v.same, same-markers, entries)
            (in-each _ (collect markers_in h) (λ o i. under-each h e q.no_kind (λ (n : ℕ) (p : Entry). AlreadyClosed n (ending_by v.bytes (records_of h)) o p) (closed_at c h t o i v.bytes v.low)));
        one-marker = rw same-markers t.one-marker;
      }
    where
      entries : entries_of (e ∷ h) ≡ entries_of h
      entries = same_entries e h q.no-entry

      same-markers : collect markers_in (e ∷ h) ≡ collect markers_in h
      same-markers = collect-same markers_in e h q.no-marker

  -- ---- Flush, a cut and an opening: one law; Order, and the end of a carrying

  pub flush-keeps : (n : ℕ) → flushed_of h ≤ n → HistoryInvariant c (log_flushed n ∷ h)
  flush-keeps n b = writes-nothing-keeps (log_flushed n) (flush-writes-nothing h n b) (rw (collect-before-same orders_in (log_flushed n) h refl) t.for-prepare)

  pub cut_keeps : (n : ℕ) → flushed_of h ≤ n → HistoryInvariant c (log_cut n ∷ h)
  cut_keeps n b = writes-nothing-keeps (log_cut n) (cut-writes-nothing h n b) (rw (collect-before-same orders_in (log_cut n) h refl) t.for-prepare)

  pub opened-keeps : (epoch : ℤ) → end_of (records_of h) ≤ flushed_of h → HistoryInvariant c (log_opened epoch ∷ h)
  opened-keeps epoch b = writes-nothing-keeps (log_opened epoch) (opened-writes-nothing h epoch b) (rw (collect-before-same orders_in (log_opened epoch) h refl) t.for-prepare)

  pub given-keeps : (o : Order) → Found (IsFor o h) (record_numbered o.for h) → HistoryInvariant c (order_given o ∷ h)
  unfolding collect_with_before
  given-keeps o f = writes-nothing-keeps (order_given o) (given-writes-nothing h o) (f, t.for-prepare)

  pub carried_keeps : (o : Order) → HistoryInvariant c (order_carried o ∷ h)
  carried_keeps o = writes-nothing-keeps (order_carried o) (carried-writes-nothing h o) (rw (collect-before-same orders_in (order_carried o) h refl) t.for-prepare)
