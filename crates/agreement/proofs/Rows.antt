-- The rows of a partition and the entries, after an event that is not written there: a flush, a cut, an opening, an order, a record.
use Prim.Native.Nat.{ℕ, ◌≤◌, ◌<◌, ◌^◌}
use mathlib.Core.Path.{◌≡◌, refl, sym, ap, subst, ◌∙◌}
use mathlib.Core.Bool.{true, false}
use mathlib.Core.List.{List, ◌∷◌}
use native.Mathlib.Decide.{ℕ_discrete}
use native.Mathlib.Omega.{arith}
use lib.Dec.{leb}
use lib.ListN.{get_or}
use mir.Syntax.{w64}
use borrow.Author.Tests.{leb-true, leb-false, ne_eqb}
use Rattle.numbers.specs.Signed.{to_nat}
use Rattle.numbers.proofs.Signed.{natural-below}
use Rattle.numbers.proofs.Tests.{either}
use Rattle.catalogue.specs.declared.Catalogue.{Catalogue}
use Rattle.record.specs.declared.Record.{Record}
use Rattle.record.proofs.Bounds.{formed-starts, well-formed-parts}
use Rattle.search.specs.Search.{Each}
use Rattle.search.proofs.Members.{In, each_in, in-each}
use Rattle.search.proofs.Find.{find-in}
use Rattle.row.specs.Row.{free, held}
use Rattle.table.specs.Table.{empty_table, row_at, place_for}
use Rattle.log_reader.specs.Records.{table_of, all_come}
use Rattle.log_reader.proofs.RecordLaws.{come-newest}
use Rattle.partition.specs.Limits.{no_pid}
use Rattle.partition.specs.Partition.{producer_at}
use Rattle.partition.specs.declared.Partition.{Partition}
use Rattle.runs.specs.History.{Event, record_appended, History, Logged, ending_by, records_of, contents, flushed_of, is_of}
use Rattle.protocol.specs.RecordsOfName.{latest_in}
use Rattle.protocol.specs.Entries.{Entry, entries_of, under_of}
use Rattle.protocol.specs.HistoryInvariant.{HistoryInvariant}
use Rattle.protocol.specs.NextEvent.{Appendable}
use Rattle.protocol.proofs.Cuts.{ending-stays, ending-drops, ending-all}
use Rattle.protocol.proofs.TableOfRecords.{come-record, table-latest}
use Rattle.protocol.proofs.ProducerIds.{PidFrom, fresh, kept, pid-from}
use Rattle.protocol.proofs.Events.{appended-records, AddsRecord, new_record, same_entries}
use Rattle.protocol.proofs.Entries.{under-each, under_back}
use Rattle.protocol.proofs.Consequences.{open_at}
use Rattle.protocol.proofs.WritesNothing.{WritesNothing}
use Rattle.agreement.proofs.Invariant.{NotAhead, place_in, Owns, NoneOpen, RowsAgree}
use Rattle.agreement.proofs.Tables.{latest-starts, place_kept, row_new, row_other, next-rises}

-- a record that is held is not a free row
pub held-busy : (c : Catalogue) (l : List Logged) → all_come c empty_table (contents l) ≡ true → (r : Logged) → In r l → free (held r.content r.end) ≡ false
held-busy c l e r i = ne_eqb (get_or r.content.name 0 0) 0 (formed-starts c r.content (come-record c l e r i).0)

-- an open entry at a position owns the row at its name's place
pub open-owns : (c : Catalogue) (h : History) (x : ℕ) (p : Partition) → RowsAgree c h x p → (k : ℕ) → flushed_of h ≤ k → (d : Entry) → In d (entries_of h) → d.what.position ≡ x → under_of h d ≡ 0
    → Owns (producer_at p (place_in c (ending_by k (records_of h)) d.what.name)) d
open-owns c h x p a k b d j =
    each_in (λ (d : Entry). d.what.position ≡ x → under_of h d ≡ 0 → Owns (producer_at p (place_in c (ending_by k (records_of h)) d.what.name)) d) (entries_of h) d (a.entry_row k b) j

-- and no entry is open where none is
pub none-open-at : (c : Catalogue) (h : History) (records : List Logged) (x k : ℕ) → NoneOpen c h records x k → (d : Entry) → In d (entries_of h) → d.what.position ≡ x → under_of h d ≡ 0
    → place_in c records d.what.name ≡ k → ⊥
none-open-at c h records x k n d j =
    each_in (λ (d : Entry). d.what.position ≡ x → under_of h d ≡ 0 → place_in c records d.what.name ≡ k → ⊥) (entries_of h) d n j

-- ---- the rows of a partition, under an event that it does not write

module _ (c : Catalogue) (h : History) (t : HistoryInvariant c h) where
  module _ (x : ℕ) (p : Partition) (a : RowsAgree c h x p) where
    -- ---- Flush, a cut, an opening, an Order

    pub rows-unwritten : (e : Event) → WritesNothing h e → RowsAgree c (e ∷ h) x p
    rows-unwritten e q =
        record {
          entry_row = λ k b. let v = q.earlier-cut k b in
              rw (v.same, same_entries e h q.no-entry) (under-each h e q.no_kind
              (λ (n : ℕ) (d : Entry). d.what.position ≡ x → n ≡ 0 → Owns (producer_at p (place_in c (ending_by v.bytes (records_of h)) d.what.name)) d) (a.entry_row v.bytes v.low));
          row-entry = λ k b. let v = q.earlier-cut k b in
              rw (v.same, same_entries e h q.no-entry) (λ j o n. a.row-entry v.bytes v.low j o
              (under_back h e (λ d i. q.no_kind d.what.position (to_nat d.what.pid))
              (λ (n : ℕ) (d : Entry). d.what.position ≡ x → n ≡ 0 → place_in c (ending_by v.bytes (records_of h)) d.what.name ≡ j → ⊥) n));
          epochs = λ k b. let v = q.earlier-cut k b in rw v.same (a.epochs v.bytes v.low);
          firsts = a.firsts;
          pids = λ k b. let v = q.earlier-cut k b in rw v.same (a.pids v.bytes v.low);
        }

    -- ---- a record

    module _ (r : Record) (end : ℕ) (w : Appendable c h r end) where
      abbrev new : Logged
      new = new_record h r end

      new-come : all_come c empty_table (contents (new ∷ records_of h)) ≡ true
      new-come = come-newest c empty_table r (contents (records_of h)) t.come w.formed w.comes

      -- what holds of a cut before the record and of all of them with it holds of every cut
      at-cuts : (P : List Logged → Type 0) → ((k : ℕ) → flushed_of h ≤ k → P (ending_by k (records_of h))) → ((k : ℕ) → flushed_of h ≤ k → ending_by k (records_of h) ≡ records_of h → P (new ∷ records_of h))
          → (k : ℕ) → flushed_of h ≤ k → P (ending_by k (new ∷ records_of h))
      at-cuts P f g k b =
          either (leb end k)
          (λ e. let far = leb-true end k e in rw (ending-stays k new (records_of h) far) (g k b (ending-all k (records_of h) (omega (arith, w.ends)))))
          (λ e. rw (ending-drops k new (records_of h) (leb-false end k e)) (f k b))

      -- an open entry's place stays
      stays : (k : ℕ) → flushed_of h ≤ k → ending_by k (records_of h) ≡ records_of h → (d : Entry) → In d (entries_of h) → under_of h d ≡ 0
          → place_in c (new ∷ records_of h) d.what.name ≡ place_in c (records_of h) d.what.name
      stays k b v d j z = open_at c h t k b d j z (λ l e y. place_kept c new (records_of h) new-come t.ends d.what.name l (sym (ap (latest_in d.what.name) v) ∙ e))

      new-epochs : (k : ℕ) → flushed_of h ≤ k → ending_by k (records_of h) ≡ records_of h → (j : ℕ) → NotAhead (producer_at p j) (row_at (table_of c (contents (new ∷ records_of h))) j)
      new-epochs k b v j = go (ℕ_discrete j (place_for (table_of c (contents (records_of h))) r.name))
        where
          old : (i : ℕ) → NotAhead (producer_at p i) (row_at (table_of c (contents (records_of h))) i)
          old = subst (λ (l : List Logged). (i : ℕ) → NotAhead (producer_at p i) (row_at (table_of c (contents l)) i)) v (a.epochs k b)

          known : (i : ℕ) → ((producer_at p i).pid ≡ no_pid → ⊥) → (producer_at p i).pid < (table_of c (contents (records_of h))).next
          known = subst (λ (l : List Logged). (i : ℕ) → ((producer_at p i).pid ≡ no_pid → ⊥) → (producer_at p i).pid < (table_of c (contents l)).next) v (a.pids k b)

          here : (i : ℕ) → i ≡ place_for (table_of c (contents (records_of h))) r.name → PidFrom (table_of c (contents (records_of h))).next r (records_of h) → (producer_at p i).pid ≡ to_nat r.pid
              → (producer_at p i).epoch ≤ to_nat r.epoch
          here i e (fresh pid is above) q =
              let fits : to_nat r.pid < 2 ^ 63 = natural-below w64 r.pid (well-formed-parts c r w.formed).pid-fits in
              let n : (producer_at p i).pid ≡ no_pid → ⊥ = λ z. omega arith in
              let b = known i n in
              absurd (omega (arith, ap to_nat is))
          here i e (kept l s f g _) q =
              let starts = latest-starts c (records_of h) t.come r.name l s in
              let (holding, row) = table-latest c (records_of h) t.come t.ends r.name starts l s in
              let at : i ≡ place_in c (records_of h) r.name = e ∙ rw holding refl in
              let is : row_at (table_of c (contents (records_of h))) i ≡ held l.content l.end = ap (row_at (table_of c (contents (records_of h)))) at ∙ row in
              let low : (producer_at p i).epoch ≤ to_nat l.content.epoch = subst (NotAhead (producer_at p i)) is (old i)
              (held-busy c (records_of h) t.come l (find-in (is_of r.name) (records_of h) l s)) (q ∙ ap to_nat f) in
              omega arith

          go : Dec (j ≡ place_for (table_of c (contents (records_of h))) r.name) → NotAhead (producer_at p j) (row_at (table_of c (contents (new ∷ records_of h))) j)
          go (yes e) =
              let is = ap (row_at (table_of c (contents (new ∷ records_of h)))) e ∙ row_new c new (records_of h) new-come in
              subst (NotAhead (producer_at p j)) (sym is) (λ f. here j e (pid-from c (records_of h) t.come t.ends r w.formed w.comes))
          go (no n) = subst (NotAhead (producer_at p j)) (sym (row_other c new (records_of h) new-come j n)) (old j)

      pub rows_append : RowsAgree c (record_appended r end ∷ h) x p
      rows_append =
          record {
            entry_row = λ k b. rw (added.records, entries)
                (under-each h (record_appended r end) (λ position pid. refl) (λ (n : ℕ) (d : Entry). d.what.position ≡ x → n ≡ 0 → Owns (producer_at p (place_in c (ending_by k (new ∷ records_of h)) d.what.name)) d)
                (at-cuts (λ l. Each (λ (d : Entry). d.what.position ≡ x → under_of h d ≡ 0 → Owns (producer_at p (place_in c l d.what.name)) d) (entries_of h)) a.entry_row
                (λ m f v. in-each _ (entries_of h) (λ d j u z.
                subst (λ (i : ℕ). Owns (producer_at p i) d) (sym (stays m f v d j z))
                (subst (λ (l : List Logged). Owns (producer_at p (place_in c l d.what.name)) d) v (open-owns c h x p a m f d j u z))))
                k (rw added.flushed at b)));
            row-entry = λ k b. rw (added.records, entries)
                (λ i o n. at-cuts (λ l. (i : ℕ) → (producer_at p i).ongoing ≡ true → NoneOpen c h l x i → ⊥) a.row-entry
                (λ m f v i o n. a.row-entry m f i o (in-each _ (entries_of h) (λ d j u z e. none-open-at c h (new ∷ records_of h) x i n d j u z
                (stays m f v d j z ∙ sym (ap (λ (l : List Logged). place_in c l d.what.name) v) ∙ e))))
                k (rw added.flushed at b) i o
                (under_back h (record_appended r end) (λ d j. refl) (λ (n : ℕ) (d : Entry). d.what.position ≡ x → n ≡ 0 → place_in c (ending_by k (new ∷ records_of h)) d.what.name ≡ i → ⊥) n));
            epochs = λ k b. rw added.records (at-cuts (λ l. (i : ℕ) → NotAhead (producer_at p i) (row_at (table_of c (contents l)) i)) a.epochs new-epochs k (rw added.flushed at b));
            firsts = a.firsts;
            pids = λ k b. rw added.records (at-cuts (λ l. (i : ℕ) → ((producer_at p i).pid ≡ no_pid → ⊥) → (producer_at p i).pid < (table_of c (contents l)).next) a.pids
                (λ m f v i n. let low : (producer_at p i).pid < (table_of c (contents (records_of h))).next = subst (λ (l : List Logged). (producer_at p i).pid < (table_of c (contents l)).next) v
                (a.pids m f i n) in omega (arith, next-rises c new (records_of h) new-come)) k (rw added.flushed at b));
          }
        where
          added : AddsRecord h r end
          added = appended-records h r end

          entries : entries_of (record_appended r end ∷ h) ≡ entries_of h
          entries = same_entries (record_appended r end) h refl
