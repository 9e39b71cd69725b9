-- A marker that may come next keeps the invariant: what it closes belongs to its prepare, and it is the first for that prepare there.
use Prim.Native.Nat.{ℕ, zero, suc, ◌+◌, ◌≤◌}
use mathlib.Core.Path.{◌≡◌, refl, sym, ap, subst, ◌∙◌}
use mathlib.Core.Bool.{Bool, true, false, ◌&&◌, true≢false}
use mathlib.Core.List.{List, ◌∷◌}
use mathlib.Core.Option.{some}
use native.Mathlib.Omega.{arith}
use lib.Dec.{eqb}
use lib.ListN.{length}
use borrow.Author.Tests.{eqb-true, eq-eqb}
use Rattle.numbers.specs.Signed.{to_nat}
use Rattle.numbers.proofs.Tests.{and_left, and_right, and_both, either}
use Rattle.catalogue.specs.declared.Catalogue.{Catalogue}
use Rattle.search.specs.Search.{count_where}
use Rattle.search.proofs.Each.{each-then}
use Rattle.search.proofs.Laws.{count-first, count-other}
use Rattle.search.proofs.Found.{found-is, found-with, if-found-is, is_found_lem}
use Rattle.search.proofs.Members.{In, each_in, in-each}
use Rattle.search.proofs.Find.{find-in, find-passes}
use Rattle.row.specs.Row.{is_prepare}
use Rattle.runs.specs.History.{Order, marker_written, History, markers_in, collect, Logged, ending_by, records_of, flushed_of, record_numbered, markers_for}
use Rattle.runs.specs.Demand3.{IsFor}
use Rattle.protocol.specs.RecordsOfName.{latest_in, nth_prepare}
use Rattle.protocol.specs.Entries.{Entry, entries_of, ordinal_of, first_of, under_of}
use Rattle.protocol.specs.HistoryInvariant.{Stage, begun, prepared, OpenTransaction, Closes, Standing, still_open, closed, AlreadyClosed, HistoryInvariant, MarksPrepare}
use Rattle.protocol.specs.NextEvent.{Markable}
use Rattle.protocol.proofs.Cuts.{numbered_more, numbered-same}
use Rattle.protocol.proofs.Events.{entry-before, same_entries, marker-records, KeepsRecords, more-markers, more-orders}
use Rattle.protocol.proofs.Entries.{under_next, under_same, first-open, first-kept}
use Rattle.protocol.proofs.Ordinals.{nth-latest}
use Rattle.protocol.proofs.Consequences.{closed_at, number-below, ordinal-was, standing-at, closed-now, for-latest, marked-record, for-latest-at, open-name, closed-kind}

module _ (c : Catalogue) (h : History) (t : HistoryInvariant c h) where
  module _ (o : Order) (a : Markable h o) where
    -- its prepare
    marked : {X : Type 0} → ((q : Logged) → In q (records_of h) → q.number ≡ o.for → IsFor o h q → X) → X
    marked f =
        found-with (IsFor o h) (record_numbered o.for h) a.for-prepare
        (λ q e i. f q (find-in (λ (x : Logged). eqb x.number o.for) (records_of h) q e) (eqb-true q.number o.for (find-passes (λ (x : Logged). eqb x.number o.for) (records_of h) q e)) i)

    -- the test of the marker at an entry
    abbrev hits : Entry → Bool
    hits p = eqb o.position p.what.position && eqb (to_nat o.pid) (to_nat p.what.pid)

    after-hit : (p : Entry) → In p (entries_of h) → hits p ≡ true → under_of (marker_written o ∷ h) p ≡ first_of (under_of h p) (o.verdict + 1)
    after-hit p j e = under_next (marker_written o) h p (entry-before h p j) ∙ ap (first_of (under_of h p)) (rw e)

    after-miss : (p : Entry) → In p (entries_of h) → hits p ≡ false → under_of (marker_written o ∷ h) p ≡ under_of h p
    after-miss p j e = under_same (marker_written o) h p (entry-before h p j) (rw e)

    hit-is : (p : Entry) → p.what.position ≡ o.position → p.what.pid ≡ o.pid → hits p ≡ true
    hit-is p x y = and_both (eqb o.position p.what.position) (eqb (to_nat o.pid) (to_nat p.what.pid)) (eq-eqb o.position p.what.position (sym x))
        (eq-eqb (to_nat o.pid) (to_nat p.what.pid) (ap to_nat (sym y)))

    closes : (k : ℕ) → flushed_of h ≤ k → (p : Entry) → In p (entries_of h) → hits p ≡ true → Standing (under_of h p) (ending_by k (records_of h)) p
        → Standing (first_of (under_of h p) (o.verdict + 1)) (ending_by k (records_of h)) p
    closes k b p j e (closed f) =
        found-with (Closes (under_of h p) p) (nth_prepare p.what.name (ordinal_of p) (ending_by k (records_of h))) f
        (λ l i g.
        let n : under_of h p ≡ 0 → ⊥ = closed-kind (under_of h p) p (ending_by k (records_of h)) l i g in
        subst (λ (u : ℕ). Standing u (ending_by k (records_of h)) p) (sym (first-kept (under_of h p) (o.verdict + 1) n)) (closed f))
    closes k b p j e (still_open z f) =
        marked (λ q r s d.
        let same : to_nat o.pid ≡ to_nat p.what.pid = eqb-true (to_nat o.pid) (to_nat p.what.pid) (and_right (eqb o.position p.what.position) (eqb (to_nat o.pid) (to_nat p.what.pid)) e) in
        let name = open-name c h t o q r d k b p j z same in
        let is : latest_in p.what.name (ending_by k (records_of h)) ≡ some q = subst (λ (v : List ℕ). latest_in v (ending_by k (records_of h)) ≡ some q) name (for-latest-at c h t o q r d k b) in
        rw z (ends_open q d is (is_found_lem (OpenTransaction p (ending_by k (records_of h))) is f).stage))
      where
        ends_open : (q : Logged) → IsFor o h q → latest_in p.what.name (ending_by k (records_of h)) ≡ some q → Stage p (ending_by k (records_of h)) q → Standing (o.verdict + 1) (ending_by k (records_of h)) p
        ends_open q d is (begun s v) = absurd (let y : ◌≡◌ {A = Bool} true false = sym d.prepare ∙ ap is_prepare s in true≢false y)
        ends_open q d is (prepared s v w) =
            closed (found-is (Closes (o.verdict + 1) p) (nth-latest p.what.name (ending_by k (records_of h)) (ordinal_of p) q is s v) (record { verdict = omega (arith, d.verdict); later = w }))

    -- no marker of that prepare stands there yet
    none_yet : (m : Order) → In m (collect markers_in h) → m.position ≡ o.position → m.for ≡ o.for → ⊥
    none_yet m i x y =
        marked (λ q r s d.
        let k = marked-record c h t m i q r (s ∙ sym y) in
        a.some-open (in-each _ (entries_of h) (λ p j u v z.
        let name = open-name c h t o q r d (flushed_of h) (omega arith) p j z (ap to_nat (sym v)) in
        let is : latest_in p.what.name (records_of h) ≡ some q = subst (λ (n : List ℕ). latest_in n (records_of h) ≡ some q) name (for-latest c h t o q r d) in
        if-found-is (λ (r : Logged). r.number ≡ m.for → ⊥) is (closed-now c h t m i p j (u ∙ sym x) (v ∙ sym d.pid ∙ k.pid) z) (s ∙ sym y))))

    pub marker-keeps : HistoryInvariant c (marker_written o ∷ h)
    marker-keeps =
        record {
          come = rw keeps.records t.come;
          ends = rw keeps.records t.ends;
          numbered = rw keeps.records (numbered_more (length h) (suc (length h)) (records_of h) (omega arith) t.numbered);
          entitled = rw entries t.entitled;
          standing = λ k b. rw (keeps.records, entries)
              (in-each _ (entries_of h) (λ p j.
              let s = standing-at c h t p j k (rw keeps.flushed at b) in
              either (hits p) (λ e. subst (λ (u : ℕ). Standing u (ending_by k (records_of h)) p) (sym (after-hit p j e)) (closes k (rw keeps.flushed at b) p j e s))
              (λ e. subst (λ (u : ℕ). Standing u (ending_by k (records_of h)) p) (sym (after-miss p j e)) s)));
          by-ordinal = rw (keeps.records, entries) (in-each _ (records_of h) (λ q i prepares. in-each _ (entries_of h) (λ p j w. ordinal-was c h t (marker_written o) q i prepares p j w)));
          for-prepare = rw (more-orders o h) (a.for-prepare, t.for-prepare);
          marks = rw (more-markers o h) (
            marked (λ q r s d. record {
              earlier = let b = number-below c h t q r in omega arith;
              marked = rw keeps.records (in-each _ (records_of h) (λ x i e. let z : x ≡ q = numbered-same (length h) (records_of h) t.numbered x q i r (e ∙ sym s) in rw z
                  (record { prepare = d.prepare; pid = d.pid })));
            }),
            each-then (MarksPrepare h) (MarksPrepare (marker_written o ∷ h)) (λ m i. record { earlier = omega (arith, i.earlier); marked = rw keeps.records i.marked }) (collect markers_in h) t.marks,
          );
          already-closed = λ k b. simp (keeps.records, more-markers o h, entries) (
            in-each _ (entries_of h) (λ p j x y z. absurd (first-hit (under_of h p) (o.verdict + 1) (omega arith) (sym (after-hit p j (hit-is p x y)) ∙ z))),
            in-each _ (collect markers_in h) (λ m i. in-each _ (entries_of h) (λ p j x y z.
                each_in (λ (p : Entry). AlreadyClosed (under_of h p) (ending_by k (records_of h)) m p) (entries_of h) p (closed_at c h t m i k (rw keeps.flushed at b)) j x y
                (first-open (under_of h p) _ (sym (under_next (marker_written o) h p (entry-before h p j)) ∙ z)))),
          );
          one-marker = rw (more-markers o h) (first_one, in-each _ (collect markers_in h) (λ m i. other-one m i));
        }
      where
        keeps : KeepsRecords h (marker_written o)
        keeps = marker-records h o

        entries : entries_of (marker_written o ∷ h) ≡ entries_of h
        entries = same_entries (marker_written o) h refl

        first-hit : (n k : ℕ) → (k ≡ 0 → ⊥) → first_of n k ≡ 0 → ⊥
        first-hit zero k f e = f e
        first-hit (suc n) k f e = omega arith

        first_one : count_where (λ (x : Order). eqb x.position o.position && eqb x.for o.for) (o ∷ collect markers_in h) ≡ 1
        first_one =
            count-first (λ (x : Order). eqb x.position o.position && eqb x.for o.for) o (collect markers_in h)
            (and_both (eqb o.position o.position) (eqb o.for o.for) (eq-eqb o.position o.position refl) (eq-eqb o.for o.for refl))
            (in-each _ (collect markers_in h) (λ m i. either (eqb m.position o.position && eqb m.for o.for)
            (λ e. absurd (none_yet m i (eqb-true m.position o.position (and_left (eqb m.position o.position) (eqb m.for o.for) e))
            (eqb-true m.for o.for (and_right (eqb m.position o.position) (eqb m.for o.for) e)))) (λ e. e)))

        other-one : (m : Order) → In m (collect markers_in h) → count_where (λ (x : Order). eqb x.position m.position && eqb x.for m.for) (o ∷ collect markers_in h) ≡ 1
        other-one m i =
            count-other (λ (x : Order). eqb x.position m.position && eqb x.for m.for) o (collect markers_in h)
            (either (eqb o.position m.position && eqb o.for m.for)
            (λ e. absurd (none_yet m i (sym (eqb-true o.position m.position (and_left (eqb o.position m.position) (eqb o.for m.for) e)))
            (sym (eqb-true o.for m.for (and_right (eqb o.position m.position) (eqb o.for m.for) e))))) (λ e. e))
            ∙ each_in (λ (m : Order). markers_for m h ≡ 1) (collect markers_in h) m t.one-marker i
