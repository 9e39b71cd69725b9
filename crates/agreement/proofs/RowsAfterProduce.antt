-- The rows of a partition and the entries: an entry written there, and an entry or a marker written elsewhere.
use Prim.Native.Nat.{ℕ, ◌≤◌, ◌<◌}
use mathlib.Core.Path.{◌≡◌, refl, sym, ap, subst, ◌∙◌}
use mathlib.Core.Logic.{◌≢◌}
use mathlib.Core.Bool.{true}
use mathlib.Core.List.{◌∷◌}
use mathlib.Core.Option.{some}
use native.Mathlib.Decide.{ℕ_discrete}
use native.Mathlib.Omega.{arith}
use borrow.Author.Tests.{leb-true, ne_eqb}
use Rattle.numbers.specs.Signed.{to_nat}
use Rattle.catalogue.specs.declared.Catalogue.{Catalogue}
use Rattle.search.specs.Search.{Each}
use Rattle.search.proofs.Each.{but-at}
use Rattle.search.proofs.Members.{In, each_in, in-each}
use Rattle.search.proofs.Find.{find-in}
use Rattle.row.specs.declared.Row.{Row}
use Rattle.table.specs.Table.{row_at}
use Rattle.log_reader.specs.Records.{table_of}
use Rattle.partition.specs.Limits.{no_pid}
use Rattle.partition.specs.Partition.{producer_at}
use Rattle.partition.specs.declared.Partition.{Partition}
use Rattle.partition.specs.declared.Producer.{Producer}
use Rattle.runs.specs.History.{Order, Produced, marker_written, entry_written, History, Logged, ending_by, records_of, contents, flushed_of, is_of, latest_of}
use Rattle.runs.specs.Demand3.{Entitled}
use Rattle.protocol.specs.RecordsOfName.{latest_in}
use Rattle.protocol.specs.Entries.{Entry, entries_of, under_of}
use Rattle.protocol.specs.HistoryInvariant.{HistoryInvariant}
use Rattle.protocol.proofs.Cuts.{latest-settled}
use Rattle.protocol.proofs.ProducerIds.{pid-below}
use Rattle.protocol.proofs.Events.{entry-before, new_entry, more-entries, entry-records, same_entries, marker-records}
use Rattle.protocol.proofs.Entries.{under_same, under-new, under-each, under_back}
use Rattle.protocol.proofs.Consequences.{cut-come}
use Rattle.agreement.proofs.Invariant.{NotAhead, place_in, Owns, RowsAgree}
use Rattle.agreement.proofs.Tables.{row-at, place_at, open-place}
use Rattle.agreement.proofs.Rows.{open-owns}

module _ (c : Catalogue) (h : History) (t : HistoryInvariant c h) (x : ℕ) (p : Partition) (a : RowsAgree c h x p) where
  -- ---- the same rows

  pub rows_same : (q : Partition) → ((k : ℕ) → producer_at q k ≡ producer_at p k) → p.end ≤ q.end → RowsAgree c h x q
  rows_same q e grows =
      record {
        entry_row = λ k b. in-each _ (entries_of h) (λ d j u z. subst (λ (y : Producer). Owns y d) (sym (e (place_in c (ending_by k (records_of h)) d.what.name))) (open-owns c h x p a k b d j u z));
        row-entry = λ k b j o. a.row-entry k b j (sym (ap (λ (y : Producer). y.ongoing) (e j)) ∙ o);
        epochs = λ k b j. subst (λ (y : Producer). NotAhead y (row_at (table_of c (contents (ending_by k (records_of h)))) j)) (sym (e j)) (a.epochs k b j);
        firsts = λ j o. let b = a.firsts j (sym (ap (λ (y : Producer). y.ongoing) (e j)) ∙ o) in omega (arith, ap (λ (y : Producer). y.first) (e j));
        pids = λ k b j f. rw (e j) (a.pids k b j (λ z. f (ap (λ (y : Producer). y.pid) (e j) ∙ z)));
      }

  -- ---- a marker at another position

  pub rows-marked-elsewhere : (o : Order) → (o.position ≡ x → ⊥) → RowsAgree c (marker_written o ∷ h) x p
  rows-marked-elsewhere o n =
      record {
        entry_row = λ k b. rw ((marker-records h o).records, same_entries (marker_written o) h refl)
            (in-each _ (entries_of h) (λ d j u z. open-owns c h x p a k (rw (marker-records h o).flushed at b) d j u (sym (same d j u) ∙ z)));
        row-entry = λ k b. rw ((marker-records h o).records, same_entries (marker_written o) h refl) (λ j s m. a.row-entry k (rw (marker-records h o).flushed at b) j s (in-each _ (entries_of h) (λ d i u z e.
            each_in (λ (d : Entry). d.what.position ≡ x → under_of (marker_written o ∷ h) d ≡ 0 → place_in c (ending_by k (records_of h)) d.what.name ≡ j → ⊥) (entries_of h) d m i u (same d i u ∙ z) e)));
        epochs = λ k b. rw (marker-records h o).records (a.epochs k (rw (marker-records h o).flushed at b));
        firsts = a.firsts;
        pids = λ k b. rw (marker-records h o).records (a.pids k (rw (marker-records h o).flushed at b));
      }
    where
      same : (d : Entry) → In d (entries_of h) → d.what.position ≡ x → under_of (marker_written o ∷ h) d ≡ under_of h d
      same d j u = under_same (marker_written o) h d (entry-before h d j) (rw (ne_eqb o.position d.what.position (λ z. n (z ∙ u))))

  -- ---- an entry at another position

  pub rows-entered-elsewhere : (e : Produced) → (e.position ≡ x → ⊥) → RowsAgree c (entry_written e ∷ h) x p
  rows-entered-elsewhere e n =
      record {
        entry_row = λ k b. rw ((entry-records h e).records, more-entries e h) (
          λ u z. absurd (n u),
          under-each h (entry_written e) (λ position pid. refl)
              (λ (m : ℕ) (d : Entry). d.what.position ≡ x → m ≡ 0 → Owns (producer_at p (place_in c (ending_by k (records_of h)) d.what.name)) d) (a.entry_row k (rw (entry-records h e).flushed at b)),
        );
        row-entry = λ k b. rw ((entry-records h e).records, more-entries e h)
            (λ j s m. a.row-entry k (rw (entry-records h e).flushed at b) j s (under_back h (entry_written e) (λ d i. refl)
            (λ (m : ℕ) (d : Entry). d.what.position ≡ x → m ≡ 0 → place_in c (ending_by k (records_of h)) d.what.name ≡ j → ⊥) m.1));
        epochs = λ k b. rw (entry-records h e).records (a.epochs k (rw (entry-records h e).flushed at b));
        firsts = a.firsts;
        pids = λ k b. rw (entry-records h e).records (a.pids k (rw (entry-records h e).flushed at b));
      }

  -- ---- one row changes

  module _ (p' : Partition) (k0 : ℕ) (q : Producer) (here : producer_at p' k0 ≡ q) (others : (k : ℕ) → k ≢ k0 → producer_at p' k ≡ producer_at p k) where
    -- an open entry whose place is another keeps its row
    owns-other : (d : Entry) (k : ℕ) → k ≢ k0 → Owns (producer_at p k) d → Owns (producer_at p' k) d
    owns-other d k n o = subst (λ (y : Producer). Owns y d) (sym (others k n)) o

    -- ---- Produce

    module _ (e : Produced) (l : Logged) (is : latest_of e.name h ≡ some l) (f : Entitled e h l) (at : place_in c (records_of h) e.name ≡ k0) (ongoing : q.ongoing ≡ true)
        (pid-is : q.pid ≡ to_nat e.pid) (epoch-is : q.epoch ≡ to_nat e.epoch) (first-is : q.first ≤ e.offset) (first-kept : (producer_at p k0).ongoing ≡ true → q.first ≡ (producer_at p k0).first)
        (within : q.first ≤ p'.end) (grows : p.end ≤ p'.end) where
      abbrev written : Entry
      written = new_entry h e

      -- its name's latest record, place and row at every cut
      settled-latest : (k : ℕ) → flushed_of h ≤ k → latest_in e.name (ending_by k (records_of h)) ≡ some l
      settled-latest k b = (latest-settled e.name (flushed_of h) k b (records_of h) l is (leb-true l.end (flushed_of h) f.flushed)).0

      old-owns : (k : ℕ) → flushed_of h ≤ k → (d : Entry) → In d (entries_of h) → d.what.position ≡ x → under_of h d ≡ 0 → Owns (producer_at p' (place_in c (ending_by k (records_of h)) d.what.name)) d
      old-owns k b d j u z = go (ℕ_discrete (place_in c (ending_by k (records_of h)) d.what.name) k0)
        where
          go : Dec (place_in c (ending_by k (records_of h)) d.what.name ≡ k0) → Owns (producer_at p' (place_in c (ending_by k (records_of h)) d.what.name)) d
          go (no n) = owns-other d _ n (open-owns c h x p a k b d j u z)
          go (yes i) =
              let pids : d.what.pid ≡ e.pid = open-place c h t e.name l settled-latest k0 at k b d j z i ∙ f.pid in
              let owned : Owns (producer_at p k0) d = subst (λ (m : ℕ). Owns (producer_at p m) d) i (open-owns c h x p a k b d j u z) in
              let older : q.first ≤ d.what.offset = omega (arith, first-kept owned.ongoing, owned.first) in
              subst (λ (m : ℕ). Owns (producer_at p' m) d) (sym i) (subst (λ (y : Producer). Owns y d) (sym here) (record { ongoing = ongoing; pid = pid-is ∙ ap to_nat (sym pids); first = older }))

      pub rows-entered : e.position ≡ x → RowsAgree c (entry_written e ∷ h) x p'
      rows-entered position =
          record {
            entry_row = λ k b. rw ((entry-records h e).records, more-entries e h) (
              λ u z. subst (λ (m : ℕ). Owns (producer_at p' m) written) (sym (place_at c h t e.name l settled-latest k0 at k (rw (entry-records h e).flushed at b)))
                  (subst (λ (y : Producer). Owns y written) (sym here) (record { ongoing = ongoing; pid = pid-is; first = first-is })),
              under-each h (entry_written e) (λ position pid. refl) (λ (m : ℕ) (d : Entry). d.what.position ≡ x → m ≡ 0 → Owns
                  (producer_at p' (place_in c (ending_by k (records_of h)) d.what.name)) d) (in-each _ (entries_of h) (λ d j. old-owns k (rw (entry-records h e).flushed at b) d j)),
            );
            row-entry = λ k b. rw ((entry-records h e).records, more-entries e h) (λ j s m. go k (rw (entry-records h e).flushed at b) j (ℕ_discrete j k0) s m.0 m.1);
            epochs = λ k b. rw (entry-records h e).records (row-epochs k (rw (entry-records h e).flushed at b));
            firsts = changed (λ j y. y.ongoing ≡ true → y.first ≤ p'.end) (λ s. within) (λ j s. omega (arith, a.firsts j s));
            pids = λ k b. rw (entry-records h e).records (row-pids k (rw (entry-records h e).flushed at b));
          }
        where
          go : (k : ℕ) → flushed_of h ≤ k → (j : ℕ) → Dec (j ≡ k0) → (producer_at p' j).ongoing ≡ true
              → (e.position ≡ x → under_of (entry_written e ∷ h) written ≡ 0 → place_in c (ending_by k (records_of h)) e.name ≡ j → ⊥)
              → Each (λ (d : Entry). d.what.position ≡ x → under_of (entry_written e ∷ h) d ≡ 0 → place_in c (ending_by k (records_of h)) d.what.name ≡ j → ⊥) (entries_of h) → ⊥
          go k b j (yes i) s m ms = m position (under-new (entry_written e) h written (omega arith)) (place_at c h t e.name l settled-latest k0 at k b ∙ sym i)
          go k b j (no n) s m ms =
              a.row-entry k b j (sym (ap (λ (y : Producer). y.ongoing) (others j n)) ∙ s)
              (under_back h (entry_written e) (λ d i. refl) (λ (m : ℕ) (d : Entry). d.what.position ≡ x → m ≡ 0 → place_in c (ending_by k (records_of h)) d.what.name ≡ j → ⊥) ms)

          changed : (P : ℕ → Producer → Type 0) → P k0 q → ((k : ℕ) → P k (producer_at p k)) → (k : ℕ) → P k (producer_at p' k)
          changed P = but-at (producer_at p) (producer_at p') k0 q here others P

          row-epochs : (k : ℕ) → flushed_of h ≤ k → (j : ℕ) → NotAhead (producer_at p' j) (row_at (table_of c (contents (ending_by k (records_of h)))) j)
          row-epochs k b =
              changed (λ j y. NotAhead y (row_at (table_of c (contents (ending_by k (records_of h)))) j))
              (λ held-there s. omega (arith, epoch-is, ap to_nat f.epoch, ap (λ (y : Row). y.epoch) (row-at c h t e.name l settled-latest k0 at k b))) (a.epochs k b)

          row-pids : (k : ℕ) → flushed_of h ≤ k → (j : ℕ) → ((producer_at p' j).pid ≡ no_pid → ⊥) → (producer_at p' j).pid < (table_of c (contents (ending_by k (records_of h)))).next
          row-pids k b =
              changed (λ j y. (y.pid ≡ no_pid → ⊥) → y.pid < (table_of c (contents (ending_by k (records_of h)))).next)
              (λ s. omega (arith, pid-is, ap to_nat f.pid, pid-below c (ending_by k (records_of h)) (cut-come c h t k) l (find-in (is_of e.name) (ending_by k (records_of h)) l (settled-latest k b)))) (a.pids k b)
