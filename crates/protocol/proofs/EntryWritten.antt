-- An entry that may come next keeps the invariant: it is open at every cut, under a flushed BEGIN.
use Prim.Native.Nat.{ℕ, suc, ◌≤◌}
use mathlib.Core.Path.{◌≡◌, refl, sym, ap, ◌∙◌}
use mathlib.Core.Bool.{Bool, true, false, true≢false}
use mathlib.Core.List.{◌∷◌}
use mathlib.Core.Option.{some}
use native.Mathlib.Omega.{arith}
use lib.ListN.{length}
use borrow.Author.Tests.{leb-true}
use Rattle.catalogue.specs.declared.Catalogue.{Catalogue}
use Rattle.search.specs.Search.{Found, IfFound}
use Rattle.search.proofs.Each.{each-then}
use Rattle.search.proofs.Found.{found-is, found-with}
use Rattle.search.proofs.Members.{In, in-each}
use Rattle.search.proofs.Find.{find-in}
use Rattle.row.specs.Row.{is_prepare}
use Rattle.runs.specs.History.{Order, Produced, entry_written, History, orders_in, markers_in, collect, collect_with_before, Logged, ending_by, records_of, flushed_of, is_of, latest_of}
use Rattle.runs.specs.Demand3.{Entitled}
use Rattle.protocol.specs.RecordsOfName.{latest_in, prepares_in}
use Rattle.protocol.specs.Entries.{Entry, entries_of}
use Rattle.protocol.specs.HistoryInvariant.{begun, OpenTransaction, Standing, still_open, AlreadyClosed, HistoryInvariant, MarksPrepare}
use Rattle.protocol.specs.NextEvent.{Writable}
use Rattle.protocol.proofs.Cuts.{numbered_more, latest-settled}
use Rattle.protocol.proofs.Events.{collect-same, collect-before-same, entry-records, KeepsRecords, more-entries, new_entry}
use Rattle.protocol.proofs.Entries.{under-new, under-each}
use Rattle.protocol.proofs.Consequences.{marked-record, closed_at, ordinal-was, number-below}

module _ (c : Catalogue) (h : History) (t : HistoryInvariant c h) where
  module _ (e : Produced) (a : Writable h e) where
    abbrev written : Entry
    written = new_entry h e

    pub entry-keeps : HistoryInvariant c (entry_written e ∷ h)
    entry-keeps =
        record {
          come = rw keeps.records t.come;
          ends = rw keeps.records t.ends;
          numbered = rw keeps.records (numbered_more (length h) (suc (length h)) (records_of h) (omega arith) t.numbered);
          entitled = rw (more-entries e h) (a.entitled, t.entitled);
          standing = λ k b. rw (keeps.records, more-entries e h) (
            rw (under-new (entry_written e) h written (omega arith)) (still_open refl (busy k (rw keeps.flushed at b))),
            under-each h (entry_written e) (λ position pid. refl) (λ (n : ℕ) (p : Entry). Standing n (ending_by k (records_of h)) p) (t.standing k (rw keeps.flushed at b)),
          );
          by-ordinal = rw (keeps.records, more-entries e h)
              (in-each _ (records_of h) (λ q i prepares. (
                λ w. absurd (let b = number-below c h t q i in let d = w.before in omega arith),
                in-each _ (entries_of h) (λ p j w. ordinal-was c h t (entry_written e) q i prepares p j w),
              )));
          for-prepare = rw same-orders t.for-prepare;
          marks = rw same-markers (each-then (MarksPrepare h) (MarksPrepare (entry_written e ∷ h))
              (λ m i. record { earlier = omega (arith, i.earlier); marked = rw keeps.records i.marked }) (collect markers_in h) t.marks);
          already-closed = λ k b. rw (keeps.records, same-markers, more-entries e h)
              (in-each _ (collect markers_in h) (λ o i. (
                λ x y z. settled-already-closed k (rw keeps.flushed at b) o i,
                under-each h (entry_written e) (λ position pid. refl) (λ (n : ℕ) (p : Entry). AlreadyClosed n (ending_by k (records_of h)) o p) (closed_at c h t o i k (rw keeps.flushed at b)),
              )));
          one-marker = rw same-markers t.one-marker;
        }
      where
        keeps : KeepsRecords h (entry_written e)
        keeps = entry-records h e

        same-orders : collect_with_before orders_in (entry_written e ∷ h) ≡ collect_with_before orders_in h
        same-orders = collect-before-same orders_in (entry_written e) h refl

        same-markers : collect markers_in (entry_written e ∷ h) ≡ collect markers_in h
        same-markers = collect-same markers_in (entry_written e) h refl

        -- the latest record of its name, at every cut
        settled : {X : Type 0} (k : ℕ) → flushed_of h ≤ k → ((l : Logged) → latest_in e.name (records_of h) ≡ some l → Entitled e h l → latest_in e.name (ending_by k (records_of h)) ≡ some l
            → prepares_in e.name (ending_by k (records_of h)) ≡ prepares_in e.name (records_of h) → X) → X
        settled k b f =
            found-with (Entitled e h) (latest_of e.name h) a.entitled
            (λ l i n. let (u, v) = latest-settled e.name (flushed_of h) k b (records_of h) l i (leb-true l.end (flushed_of h) n.flushed) in f l i n u v)

        busy : (k : ℕ) → flushed_of h ≤ k → Found (OpenTransaction written (ending_by k (records_of h))) (latest_in e.name (ending_by k (records_of h)))
        busy k b = settled k b (λ l i n u v. found-is (OpenTransaction written (ending_by k (records_of h))) u (record { pid = n.pid; joined = n.joined; stage = begun n.status v }))

        settled-already-closed : (k : ℕ) → flushed_of h ≤ k → (o : Order) → In o (collect markers_in h) → IfFound (λ (r : Logged). r.number ≡ o.for → ⊥) (latest_in e.name (ending_by k (records_of h)))
        settled-already-closed k b o j =
            settled k b (λ l i n u v. rw u (λ q.
            let m = marked-record c h t o j l (find-in (is_of e.name) (records_of h) l i) q in
            let z : ◌≡◌ {A = Bool} true false = sym m.prepare ∙ ap is_prepare n.status in
            true≢false z))
