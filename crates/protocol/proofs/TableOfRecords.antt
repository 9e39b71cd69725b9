-- The table of the records: the row at the place of a name is its latest record, and a record that may come follows it.
use Prim.Native.Nat.{ℕ, ◌+◌}
use mathlib.Core.Path.{◌≡◌, sym, ap, subst, ◌∙◌}
use mathlib.Core.Logic.{◌≢◌}
use mathlib.Core.Bool.{true, false}
use mathlib.Core.List.{List, [], ◌∷◌}
use mathlib.Core.Option.{none, some}
use lib.ListN.{length}
use Rattle.numbers.proofs.Bytes.{same_true, differ}
use Rattle.numbers.proofs.Tests.{not-both, either}
use Rattle.catalogue.specs.declared.Catalogue.{Catalogue}
use Rattle.record.specs.Frame.{frame}
use Rattle.record.specs.Record.{well_formed}
use Rattle.record.specs.declared.Record.{Record}
use Rattle.record.proofs.Bounds.{formed-starts}
use Rattle.search.proofs.Found.{none-some, some_same}
use Rattle.search.proofs.Members.{In, in-nil, in-cons}
use Rattle.search.proofs.Find.{find-nothing, find-hit, find-miss}
use Rattle.row.specs.Row.{held}
use Rattle.row.specs.declared.Row.{Row}
use Rattle.row.proofs.Laws.{NotNegative}
use Rattle.succession.specs.Succession.{follows}
use Rattle.table.specs.Next.{may_come, with_record}
use Rattle.table.specs.Table.{empty_table, row_at, place_of, holds}
use Rattle.table.proofs.Laws.{come-either, come-natural}
use Rattle.table.proofs.Records.{Starts, record-row, record-holds, other_row, other-holds, empty_holds}
use Rattle.log_reader.specs.Records.{table_from, table_of, all_come}
use Rattle.log_reader.proofs.RecordLaws.{come-parts, table-newest, table-length}
use Rattle.log_reader.proofs.TableSays.{records-valid}
use Rattle.runs.specs.History.{Logged, contents, end_of, is_of}
use Rattle.runs.specs.Demand3.{Ends}
use Rattle.protocol.specs.RecordsOfName.{latest_in}
use Rattle.protocol.proofs.Cuts.{ends-length}

-- ---- the table of the records

module _ (c : Catalogue) where
  -- where the table ends
  pub table-ends : (l : List Logged) → Ends c l → (table_of c (contents l)).end ≡ end_of l
  table-ends l h = table-length c (contents l) ∙ sym (ends-length c l h)

  -- at the place of a name stands its latest record
  pub table-latest : (l : List Logged) → all_come c empty_table (contents l) ≡ true → Ends c l → (name : List ℕ) → Starts name → (r : Logged) → latest_in name l ≡ some r
      → let t = table_of c (contents l) in (holds t name ≡ true) × (row_at t (place_of t name) ≡ held r.content r.end)
  table-latest [] e h name s r i = find-nothing (is_of name) r i
  table-latest (x ∷ l) e (h, hs) name s r i =
      let (o, f, m) = come-parts c empty_table x.content (contents l) e in
      let t = table_of c (contents l) in
      let end = t.end + length (frame c x.content) in
      let all = (records-valid c (contents l) o).proper.all in
      rw (table-newest c empty_table x.content (contents l))
      (either (is_of name x)
      (λ y.
      let n : x.content.name ≡ name = same_true x.content.name name y in
      let q : x ≡ r = some_same (sym (find-hit (is_of name) x l y) ∙ i) in
      let z : end ≡ r.end = rw (table-ends l hs) (sym h ∙ ap (λ (y : Logged). y.end) q) in
      let w : held x.content end ≡ held r.content r.end = ap (λ (k : ℕ). held x.content k) z ∙ ap (λ (y : Logged). held y.content r.end) q in (
        subst (λ (k : List ℕ). holds (with_record t x.content end) k ≡ true) n (record-holds t x.content end all m),
        subst (λ (k : List ℕ). row_at (with_record t x.content end) (place_of (with_record t x.content end) k) ≡ held r.content r.end) n (record-row t x.content end all m ∙ w),
      ))
      (λ y.
      let n : x.content.name ≢ name = differ x.content.name name y in
      let (p, q) = table-latest l o hs name s r (sym (find-miss (is_of name) x l y) ∙ i) in
      (other-holds t x.content end all m name n s ∙ p, other_row t x.content end all m name n s ∙ q)))

  -- a name without a record is not held
  pub table-lacks : (l : List Logged) → all_come c empty_table (contents l) ≡ true → (name : List ℕ) → Starts name → latest_in name l ≡ none
      → holds (table_of c (contents l)) name ≡ false
  table-lacks [] e name s i = unfold table_from in empty_holds name s
  table-lacks (x ∷ l) e name s i =
      let (o, f, m) = come-parts c empty_table x.content (contents l) e in
      let t = table_of c (contents l) in
      let end = t.end + length (frame c x.content) in
      let all = (records-valid c (contents l) o).proper.all in
      let y : is_of name x ≡ false = either (is_of name x) (λ y. none-some (sym i ∙ find-hit (is_of name) x l y)) (λ y. y) in
      rw (table-newest c empty_table x.content (contents l))
      (other-holds t x.content end all m name (differ x.content.name name y) s ∙ table-lacks l o name s (sym (find-miss (is_of name) x l y) ∙ i))

  -- a record that may come follows the latest of its name
  pub next-follows : (l : List Logged) → all_come c empty_table (contents l) ≡ true → Ends c l → (x : Record) → well_formed c x ≡ true → may_come (table_of c (contents l)) x ≡ true
      → (r : Logged) → latest_in x.name l ≡ some r → follows (table_of c (contents l)).next (held r.content r.end) x ≡ true
  next-follows l e h x w m r i =
      let t = table_of c (contents l) in
      let (p, q) = table-latest l e h x.name (formed-starts c x w) r i in
      come-either t x m (λ y f. subst (λ (row : Row). follows t.next row x ≡ true) q f) (λ y f k. not-both y p)

-- every record that stands is well formed and not negative
pub come-record : (c : Catalogue) (l : List Logged) → all_come c empty_table (contents l) ≡ true → (r : Logged) → In r l → (well_formed c r.content ≡ true) × NotNegative r.content
come-record c [] e r i = in-nil i
come-record c (x ∷ l) e r i =
    let (o, w, m) = come-parts c empty_table x.content (contents l) e in
    in-cons i (λ q. subst (λ (y : Logged). (well_formed c y.content ≡ true) × NotNegative y.content) q (w, come-natural c (table_of c (contents l)) x.content w m)) (λ j. come-record c l o r j)
