-- The places and rows of names in the tables of the records that each cut leaves.
use Prim.Native.Nat.{ℕ, ◌+◌, ◌≤◌}
use mathlib.Core.Path.{◌≡◌, refl, sym, ap, subst, ◌∙◌}
use mathlib.Core.Logic.{◌≢◌}
use mathlib.Core.Bool.{true}
use mathlib.Core.List.{List, [], ◌∷◌}
use mathlib.Core.Option.{some}
use native.Mathlib.Omega.{arith}
use lib.Dec.{leb}
use lib.ListN.{length}
use borrow.Author.Tests.{leb-true, leb-false}
use Rattle.numbers.proofs.Bytes.{same_true, differ}
use Rattle.numbers.proofs.Tests.{either}
use Rattle.catalogue.specs.declared.Catalogue.{Catalogue}
use Rattle.record.specs.Frame.{frame}
use Rattle.record.proofs.Bounds.{formed-starts}
use Rattle.search.proofs.Found.{some_same}
use Rattle.search.proofs.Members.{In}
use Rattle.search.proofs.Find.{find-in, find-passes, find-some}
use Rattle.row.specs.Row.{held}
use Rattle.row.specs.declared.Row.{Row}
use Rattle.table.specs.Next.{with_record}
use Rattle.table.specs.Table.{empty_table, row_at, place_of, place_for, holds}
use Rattle.table.specs.declared.Table.{Table}
use Rattle.table.proofs.Laws.{apply-same, apply-other}
use Rattle.table.proofs.Records.{Starts, record-place, record-next, come-place, other_place_lem}
use Rattle.log_reader.specs.Records.{table_of, all_come}
use Rattle.log_reader.proofs.RecordLaws.{come-parts, table-newest}
use Rattle.log_reader.proofs.TableSays.{records-valid}
use Rattle.runs.specs.History.{History, records_of, flushed_of, Logged, ending_by, contents, is_of}
use Rattle.runs.specs.Demand3.{Ends}
use Rattle.protocol.specs.RecordsOfName.{latest_in}
use Rattle.protocol.specs.Entries.{under_of, entries_of, Entry}
use Rattle.protocol.specs.HistoryInvariant.{HistoryInvariant}
use Rattle.protocol.proofs.Cuts.{ending-stays, ending-drops, ending-in, latest-name}
use Rattle.protocol.proofs.TableOfRecords.{come-record, table-latest}
use Rattle.protocol.proofs.Consequences.{open_at, cut-ends, cut-come}
use Rattle.agreement.proofs.Invariant.{place_in}

module _ (c : Catalogue) where
  -- a name with a record starts with a byte that is not zero
  pub latest-starts : (l : List Logged) → all_come c empty_table (contents l) ≡ true → (name : List ℕ) (r : Logged) → latest_in name l ≡ some r → Starts name
  latest-starts l e name r i = subst Starts (latest-name name l r i) (formed-starts c r.content (come-record c l e r (find-in (is_of name) l r i)).0)

  -- a name keeps its place under another record
  pub place_kept : (x : Logged) (l : List Logged) → all_come c empty_table (contents (x ∷ l)) ≡ true → Ends c l → (name : List ℕ) (r : Logged) → latest_in name l ≡ some r
      → place_in c (x ∷ l) name ≡ place_in c l name
  place_kept x l e h name r i =
      let (o, w, m) = come-parts c empty_table x.content (contents l) e in
      let t = table_of c (contents l) in
      let end = t.end + length (frame c x.content) in
      let all = (records-valid c (contents l) o).proper.all in
      let starts = latest-starts l o name r i in
      let held-there : holds t name ≡ true = (table-latest c l o h name starts r i).0 in
      ap (λ (u : Table). place_of u name) (table-newest c empty_table x.content (contents l))
      ∙ either (is_of name x)
      (λ y.
      let n : x.content.name ≡ name = same_true x.content.name name y in
      subst (λ (k : List ℕ). place_of (with_record t x.content end) k ≡ place_of t name) n
      (record-place t x.content end all m ∙ ap (place_for t) n ∙ rw held-there refl))
      (λ y. other_place_lem t x.content end all m name (differ x.content.name name y) starts)

  -- and over a cut that leaves a record of it
  pub place-settled : (k : ℕ) (l : List Logged) → all_come c empty_table (contents l) ≡ true → Ends c l → (name : List ℕ) (r : Logged) → latest_in name (ending_by k l) ≡ some r
      → place_in c (ending_by k l) name ≡ place_in c l name
  place-settled k [] e h name r i = unfold ending_by in refl
  place-settled k (x ∷ l) e (h, hs) name r i =
      either (leb x.end k) (λ t. rw (ending-stays k x l (leb-true x.end k t)) refl)
      (λ t.
      let d = ending-drops k x l (leb-false x.end k t) in
      let j : latest_in name (ending_by k l) ≡ some r = sym (ap (latest_in name) d) ∙ i in
      let o = (come-parts c empty_table x.content (contents l) e).0 in
      let (y, f) = find-some (is_of name) l r (ending-in k l r (find-in (is_of name) (ending_by k l) r j)) (find-passes (is_of name) (ending_by k l) r j) in
      ap (λ (v : List Logged). place_in c v name) d ∙ place-settled k l o hs name r j ∙ sym (place_kept x l e hs name y f))

  -- one place, one name
  pub place-name : (l : List Logged) → all_come c empty_table (contents l) ≡ true → Ends c l → (a b : List ℕ) (r q : Logged) → latest_in a l ≡ some r → latest_in b l ≡ some q → place_in c l a ≡ place_in c l b → a ≡ b
  place-name l e h a b r q i j p =
      let t = table_of c (contents l) in
      let row-a = (table-latest c l e h a (latest-starts l e a r i) r i).1 in
      let row-b = (table-latest c l e h b (latest-starts l e b q j) q j).1 in
      let rows : held r.content r.end ≡ held q.content q.end = sym row-a ∙ ap (row_at t) p ∙ row-b in
      sym (latest-name a l r i) ∙ ap (λ (row : Row). row.name) rows ∙ latest-name b l q j

  -- the row of a name's place
  pub place-row : (l : List Logged) → all_come c empty_table (contents l) ≡ true → Ends c l → (name : List ℕ) (r : Logged) → latest_in name l ≡ some r
      → row_at (table_of c (contents l)) (place_in c l name) ≡ held r.content r.end
  place-row l e h name r i = (table-latest c l e h name (latest-starts l e name r i) r i).1

  -- ---- the rows under another record

  module _ (x : Logged) (l : List Logged) (e : all_come c empty_table (contents (x ∷ l)) ≡ true) where
    abbrev before : Table
    before = table_of c (contents l)

    abbrev place : ℕ
    place = place_for before x.content.name

    pub row_new : row_at (table_of c (contents (x ∷ l))) place ≡ held x.content (before.end + length (frame c x.content))
    row_new =
        let (o, w, m) = come-parts c empty_table x.content (contents l) e in
        let all = (records-valid c (contents l) o).proper.all in
        ap (λ (u : Table). row_at u place) (table-newest c empty_table x.content (contents l)) ∙ apply-same before place _ (omega (arith, come-place before x.content m))

    pub row_other : (k : ℕ) → k ≢ place → row_at (table_of c (contents (x ∷ l))) k ≡ row_at before k
    row_other k n = ap (λ (u : Table). row_at u k) (table-newest c empty_table x.content (contents l)) ∙ apply-other before place _ k n

    pub next-rises : before.next ≤ (table_of c (contents (x ∷ l))).next
    next-rises = rw (table-newest c empty_table x.content (contents l), record-next before x.content (before.end + length (frame c x.content))) (omega arith)

-- a name with a record that every cut leaves its latest has its place and row at every cut
module _ (c : Catalogue) (h : History) (t : HistoryInvariant c h) (name : List ℕ) (r : Logged) (latest-at : (k : ℕ) → flushed_of h ≤ k → latest_in name (ending_by k (records_of h)) ≡ some r)
    (place : ℕ) (at : place_in c (records_of h) name ≡ place) where
  pub place_at : (k : ℕ) → flushed_of h ≤ k → place_in c (ending_by k (records_of h)) name ≡ place
  place_at k b = place-settled c k (records_of h) t.come t.ends name r (latest-at k b) ∙ at

  pub row-at : (k : ℕ) → flushed_of h ≤ k → row_at (table_of c (contents (ending_by k (records_of h)))) place ≡ held r.content r.end
  row-at k b =
      subst (λ (j : ℕ). row_at (table_of c (contents (ending_by k (records_of h)))) j ≡ held r.content r.end) (place_at k b)
      (place-row c (ending_by k (records_of h)) (cut-come c h t k) (cut-ends c h t k) name r (latest-at k b))

  -- an open entry at that place is of that name, and its transaction's record is that one
  pub open-place : (k : ℕ) → flushed_of h ≤ k → (d : Entry) → In d (entries_of h) → under_of h d ≡ 0 → place_in c (ending_by k (records_of h)) d.what.name ≡ place → d.what.pid ≡ r.content.pid
  open-place k b d j z e =
      open_at c h t k b d j z (λ l s g.
      let same_name : d.what.name ≡ name = place-name c (ending_by k (records_of h)) (cut-come c h t k) (cut-ends c h t k) d.what.name name l r s (latest-at k b) (e ∙ sym (place_at k b)) in
      let same : l ≡ r = some_same (sym s ∙ ap (λ (n : List ℕ). latest_in n (ending_by k (records_of h))) same_name ∙ latest-at k b) in
      sym g.pid ∙ ap (λ (y : Logged). y.content.pid) same)
