-- The rows of a partition and the entries: a Marker at its own partition, whether it writes or not.
use Prim.Native.Nat.{ℕ, ◌+◌, ◌≤◌, ◌<◌}
use mathlib.Core.Path.{◌≡◌, refl, sym, ap, subst, ◌∙◌}
use mathlib.Core.Logic.{◌≢◌}
use mathlib.Core.Bool.{Bool, true, false, ◌&&◌, true≢false}
use mathlib.Core.List.{List, ◌∷◌}
use native.Mathlib.Omega.{arith}
use lib.Dec.{eqb}
use borrow.Author.Tests.{eqb-true, eq-eqb}
use Rattle.numbers.specs.Signed.{to_nat}
use Rattle.numbers.proofs.Tests.{and_right, and_both, not-both, either}
use Rattle.catalogue.specs.declared.Catalogue.{Catalogue}
use Rattle.search.proofs.Each.{but-at}
use Rattle.search.proofs.Members.{In, each_in, in-each}
use Rattle.row.specs.declared.Row.{Row}
use Rattle.table.specs.Table.{row_at}
use Rattle.log_reader.specs.Records.{table_of}
use Rattle.partition.specs.Limits.{no_pid}
use Rattle.partition.specs.Partition.{producer_at}
use Rattle.partition.specs.declared.Partition.{Partition}
use Rattle.partition.specs.declared.Producer.{Producer}
use Rattle.runs.specs.History.{Order, marker_written, History, Logged, ending_by, records_of, contents, end_of, flushed_of}
use Rattle.runs.specs.Demand3.{IsFor}
use Rattle.protocol.specs.Entries.{Entry, entries_of, under_of}
use Rattle.protocol.specs.HistoryInvariant.{HistoryInvariant}
use Rattle.protocol.proofs.Cuts.{ending-all}
use Rattle.protocol.proofs.Events.{entry-before, same_entries, marker-records}
use Rattle.protocol.proofs.Entries.{under_next, under_same, first-open}
use Rattle.protocol.proofs.Consequences.{open-name, for-latest-at}
use Rattle.agreement.proofs.Invariant.{NotAhead, place_in, Owns, NoneOpen, RowsAgree}
use Rattle.agreement.proofs.Tables.{row-at, place_at, open-place}
use Rattle.agreement.proofs.Rows.{open-owns}

module _ (c : Catalogue) (h : History) (t : HistoryInvariant c h) (o : Order) (r : Logged) (i : In r (records_of h)) (f : IsFor o h r) (k0 : ℕ) (at : place_in c (records_of h) r.content.name ≡ k0) where
  -- an open entry whose name is at the order's place is of its producer
  pub place-pid : (k : ℕ) → flushed_of h ≤ k → (d : Entry) → In d (entries_of h) → under_of h d ≡ 0 → place_in c (ending_by k (records_of h)) d.what.name ≡ k0 → d.what.pid ≡ o.pid
  place-pid k b d j z e =
      open-place c h t r.content.name r (for-latest-at c h t o r i f) k0 at k b d j z e ∙ f.pid

  -- and one of its producer has its name at the order's place
  pub pid-place : (k : ℕ) → flushed_of h ≤ k → (d : Entry) → In d (entries_of h) → under_of h d ≡ 0 → to_nat o.pid ≡ to_nat d.what.pid → place_in c (ending_by k (records_of h)) d.what.name ≡ k0
  pid-place k b d j z e =
      ap (place_in c (ending_by k (records_of h))) (sym (open-name c h t o r i f k b d j z e)) ∙ place_at c h t r.content.name r (for-latest-at c h t o r i f) k0 at k b

  abbrev hits : Entry → Bool
  hits d = eqb o.position d.what.position && eqb (to_nat o.pid) (to_nat d.what.pid)

  -- after the marker no entry of that place is open there
  pub marked-none : (k : ℕ) → flushed_of h ≤ k → (d : Entry) → In d (entries_of h) → d.what.position ≡ o.position → place_in c (ending_by k (records_of h)) d.what.name ≡ k0 → under_of (marker_written o ∷ h) d ≡ 0 → ⊥
  marked-none k b d j u e z =
      let under = under_next (marker_written o) h d (entry-before h d j) in
      let opened : under_of h d ≡ 0 = first-open (under_of h d) _ (sym under ∙ z) in
      let pid = place-pid k b d j opened e in
      let hit : hits d ≡ true = and_both (eqb o.position d.what.position) (eqb (to_nat o.pid) (to_nat d.what.pid)) (eq-eqb o.position d.what.position (sym u))
      (eq-eqb (to_nat o.pid) (to_nat d.what.pid) (ap to_nat (sym pid))) in
      let now : under_of (marker_written o ∷ h) d ≡ o.verdict + 1 = under ∙ rw (hit, opened) refl in
      omega arith

  -- an open entry of another place stays open
  other-open : (k : ℕ) → flushed_of h ≤ k → (d : Entry) → In d (entries_of h) → under_of h d ≡ 0 → (place_in c (ending_by k (records_of h)) d.what.name ≡ k0 → ⊥) → under_of (marker_written o ∷ h) d ≡ 0
  other-open k b d j z n =
      either (hits d) (λ e. absurd (n (pid-place k b d j z (eqb-true (to_nat o.pid) (to_nat d.what.pid) (and_right (eqb o.position d.what.position) (eqb (to_nat o.pid) (to_nat d.what.pid)) e)))))
      (λ e. under_same (marker_written o) h d (entry-before h d j) (rw e) ∙ z)

  module _ (x : ℕ) (p : Partition) (a : RowsAgree c h x p) (position : o.position ≡ x) where
    -- no entry of that place is open unless the row there is, and of the order's producer
    pub none-open-unless : ((producer_at p k0).ongoing ≡ true → (producer_at p k0).pid ≡ to_nat o.pid → ⊥) → NoneOpen c h (records_of h) x k0
    none-open-unless n =
        in-each _ (entries_of h) (λ d j u z e.
        let k = flushed_of h + end_of (records_of h) in
        let here : place_in c (ending_by k (records_of h)) d.what.name ≡ k0 = ap (λ (l : List Logged). place_in c l d.what.name) (ending-all k (records_of h) (omega arith)) ∙ e in
        let owns : Owns (producer_at p k0) d = subst (λ (m : ℕ). Owns (producer_at p m) d) here (open-owns c h x p a k (omega arith) d j u z) in
        n owns.ongoing (owns.pid ∙ ap to_nat (place-pid k (omega arith) d j z here)))

    module _ (p' : Partition) (q : Producer) (here : producer_at p' k0 ≡ q) (others : (k : ℕ) → k ≢ k0 → producer_at p' k ≡ producer_at p k) (shuts : q.ongoing ≡ false) (pid-is : q.pid ≡ (producer_at p k0).pid)
        (epoch-is : q.epoch ≡ to_nat o.epoch) (grows : p.end ≤ p'.end) where
      changed : (P : ℕ → Producer → Type 0) → P k0 q → ((k : ℕ) → P k (producer_at p k)) → (k : ℕ) → P k (producer_at p' k)
      changed P = but-at (producer_at p) (producer_at p') k0 q here others P

      row-epochs : (k : ℕ) → flushed_of h ≤ k → (j : ℕ) → NotAhead (producer_at p' j) (row_at (table_of c (contents (ending_by k (records_of h)))) j)
      row-epochs k b =
          changed (λ j y. NotAhead y (row_at (table_of c (contents (ending_by k (records_of h)))) j))
          (λ held-there s. omega (arith, epoch-is, ap to_nat f.epoch, ap (λ (y : Row). y.epoch) (row-at c h t r.content.name r (for-latest-at c h t o r i f) k0 at k b))) (a.epochs k b)

      row-pids : (k : ℕ) → flushed_of h ≤ k → (j : ℕ) → ((producer_at p' j).pid ≡ no_pid → ⊥) → (producer_at p' j).pid < (table_of c (contents (ending_by k (records_of h)))).next
      row-pids k b =
          changed (λ j y. (y.pid ≡ no_pid → ⊥) → y.pid < (table_of c (contents (ending_by k (records_of h)))).next) (λ s. omega (arith, pid-is, a.pids k b k0 (λ z. s (pid-is ∙ z)))) (a.pids k b)

      owns-at : (k : ℕ) → flushed_of h ≤ k → (d : Entry) → In d (entries_of h) → d.what.position ≡ x → under_of h d ≡ 0 → (place_in c (ending_by k (records_of h)) d.what.name ≡ k0 → ⊥)
          → Owns (producer_at p' (place_in c (ending_by k (records_of h)) d.what.name)) d
      owns-at k b d j u z n =
          subst (λ (y : Producer). Owns y d) (sym (others _ n)) (open-owns c h x p a k b d j u z)

      not-here : (j : ℕ) → (producer_at p' j).ongoing ≡ true → j ≢ k0
      not-here j s e = true≢false (sym s ∙ ap (λ (m : ℕ). (producer_at p' m).ongoing) e ∙ ap (λ (y : Producer). y.ongoing) here ∙ shuts)

      row-firsts : (j : ℕ) → (producer_at p' j).ongoing ≡ true → (producer_at p' j).first ≤ p'.end
      row-firsts = changed (λ j y. y.ongoing ≡ true → y.first ≤ p'.end) (λ s. not-both shuts s) (λ j s. omega (arith, a.firsts j s))

      -- the marker is written
      pub rows-marked : RowsAgree c (marker_written o ∷ h) x p'
      rows-marked =
          record {
            entry_row = λ k b. rw ((marker-records h o).records, same_entries (marker_written o) h refl) (in-each _ (entries_of h) (λ d j u z.
                owns-at k (rw (marker-records h o).flushed at b) d j u (first-open (under_of h d) _ (sym (under_next (marker_written o) h d (entry-before h d j)) ∙ z))
                (λ e. marked-none k (rw (marker-records h o).flushed at b) d j (u ∙ sym position) e z)));
            row-entry = λ k b. rw ((marker-records h o).records, same_entries (marker_written o) h refl) (λ j s m.
                let n = not-here j s in
                a.row-entry k (rw (marker-records h o).flushed at b) j (sym (ap (λ (y : Producer). y.ongoing) (others j n)) ∙ s)
                (in-each _ (entries_of h) (λ d v u z e.
                each_in (λ (d : Entry). d.what.position ≡ x → under_of (marker_written o ∷ h) d ≡ 0 → place_in c (ending_by k (records_of h)) d.what.name ≡ j → ⊥) (entries_of h) d m v u
                (other-open k (rw (marker-records h o).flushed at b) d v z (λ y. n (sym e ∙ y))) e)));
            epochs = λ k b. rw (marker-records h o).records (row-epochs k (rw (marker-records h o).flushed at b));
            firsts = row-firsts;
            pids = λ k b. rw (marker-records h o).records (row-pids k (rw (marker-records h o).flushed at b));
          }

      -- nothing is written: the row was not open
      pub rows-noted : (producer_at p k0).ongoing ≡ false → RowsAgree c h x p'
      rows-noted s =
          record {
            entry_row = λ k b. in-each _ (entries_of h) (λ d j u z. owns-at k b d j u z (λ e.
                let owns = open-owns c h x p a k b d j u z in
                true≢false (sym owns.ongoing ∙ ap (λ (m : ℕ). (producer_at p m).ongoing) e ∙ s)));
            row-entry = λ k b j v m. a.row-entry k b j (sym (ap (λ (y : Producer). y.ongoing) (others j (not-here j v))) ∙ v) m;
            epochs = row-epochs;
            firsts = row-firsts;
            pids = row-pids;
          }
