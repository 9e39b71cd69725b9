-- The coordinator's table and the history: the row of a name is its latest record, and the record that a call appends may come next.
use Prim.Native.Nat.{ℕ, ◌+◌, ◌≤◌, ◌<◌}
use mathlib.Core.Path.{◌≡◌, refl, sym, ap, subst, ◌∙◌}
use mathlib.Core.Bool.{true, false}
use mathlib.Core.List.{List, []}
use mathlib.Core.Option.{none, some}
use native.Mathlib.Omega.{arith}
use lib.Dec.{ltb}
use lib.ListN.{length, get_or}
use borrow.Author.Tests.{eqb-true, eqb-false, ltb-false, le-leb, lt-ltb}
use Rattle.numbers.proofs.Tests.{not-both}
use Rattle.catalogue.specs.declared.Catalogue.{Catalogue}
use Rattle.record.proofs.Bounds.{formed-starts}
use Rattle.search.proofs.Found.{if-found-cases, option-either}
use Rattle.search.proofs.Find.{find-in}
use Rattle.answers.specs.Limits.{places}
use Rattle.row.specs.Row.{free, is_prepare, held, record_of, with_acknowledged}
use Rattle.row.specs.declared.Row.{Row}
use Rattle.table.specs.Table.{row_at, place_of, holds}
use Rattle.table.specs.declared.Table.{Table}
use Rattle.table.proofs.Records.{Starts, place-holds}
use Rattle.table.proofs.Unacknowledged.{unacknowledged, plain_row, plain-place}
use Rattle.log_reader.specs.Records.{table_of}
use Rattle.coordinator.specs.Coordinator.{log_end, row_frame, unflushed}
use Rattle.coordinator.specs.declared.Coordinator.{Coordinator}
use Rattle.writable_logs.proofs.Lawful.{Ready, ComesNext}
use Rattle.writable_logs.proofs.Places.{place-named, places-are}
use Rattle.writable_logs.proofs.Written.{written-ready, written-end}
use Rattle.runs.specs.History.{History, Logged, records_of, contents, end_of, flushed_of, is_flushed, latest_of, is_of, names}
use Rattle.protocol.specs.HistoryInvariant.{HistoryInvariant}
use Rattle.protocol.specs.NextEvent.{NothingOpen, Appendable}
use Rattle.protocol.proofs.Cuts.{ends-length, latest-name}
use Rattle.protocol.proofs.TableOfRecords.{come-record, table-latest, table-lacks}
use Rattle.agreement.proofs.Invariant.{UpLog, place_in}
use Rattle.agreement.proofs.FlushedFirst.{own-place}

module _ (c : Catalogue) (log : List ℕ) (s : Coordinator) (h : History) (u : UpLog c log s h) (t : HistoryInvariant c h) where
  pub live-ready : Ready s
  live-ready = written-ready c log s (contents (records_of h)) u.written

  pub live_end : log_end s ≡ end_of (records_of h)
  live_end = written-end c log s (contents (records_of h)) u.written ∙ sym (ends-length c (records_of h) t.ends)

  -- the table, but for acknowledgements, is that of the records
  pub live-place : (name : List ℕ) → place_of s.table name ≡ place_in c (records_of h) name
  live-place name = sym (plain-place s.table name) ∙ ap (λ (v : Table). place_of v name) u.written.table_is

  pub live-row : (k : ℕ) → with_acknowledged (row_at s.table k) 0 ≡ row_at (table_of c (contents (records_of h))) k
  live-row k = sym (plain_row s.table k) ∙ ap (λ (v : Table). row_at v k) u.written.table_is

  pub starts-of : (name : List ℕ) (x : Logged) → latest_of name h ≡ some x → Starts name
  starts-of name x e =
      subst Starts (latest-name name (records_of h) x e) (formed-starts c x.content (come-record c (records_of h) t.come x (find-in (is_of name) (records_of h) x e)).0)

  -- the row of a name
  pub live-latest : (name : List ℕ) (x : Logged) → latest_of name h ≡ some x → with_acknowledged (row_at s.table (place_of s.table name)) 0 ≡ held x.content x.end
  live-latest name x e =
      ap (λ (k : ℕ). with_acknowledged (row_at s.table k) 0) (live-place name) ∙ live-row (place_in c (records_of h) name)
      ∙ (table-latest c (records_of h) t.come t.ends name (starts-of name x e) x e).1

  pub live-holds : (name : List ℕ) (x : Logged) → latest_of name h ≡ some x → holds s.table name ≡ true
  live-holds name x e = ap (λ (k : ℕ). ltb k places) (live-place name) ∙ (table-latest c (records_of h) t.come t.ends name (starts-of name x e) x e).0

  -- the record of a place
  pub record RecordAt (k : ℕ) : Type 0 where
    pub latest : Logged
    pub is : latest_of (row_at s.table k).name h ≡ some latest
    pub row : with_acknowledged (row_at s.table k) 0 ≡ held latest.content latest.end
    pub place : place_in c (records_of h) (row_at s.table k).name ≡ k
    pub starts : Starts (row_at s.table k).name

  pub live-record-at : (k : ℕ) → free (row_at s.table k) ≡ false → RecordAt k
  live-record-at k f =
      let name = (row_at s.table k).name in
      let starts : Starts name = λ z. eqb-false (get_or name 0 0) 0 f z in
      let own = own-place s live-ready k f in
      let all = live-ready.valid.proper.all in
      let held-there : place_of (unacknowledged s.table) name < places = place-holds (unacknowledged s.table) name all k starts (ap (λ (row : Row). row.name) (plain_row s.table k)) in
      let holding : holds (table_of c (contents (records_of h))) name ≡ true = rw (← u.written.table_is) (lt-ltb (place_of (unacknowledged s.table) name) places held-there) in
      option-either (latest_of name h) (λ e. not-both (table-lacks c (records_of h) t.come name starts e) holding)
      (λ x e. record {
        latest = x;
        is = e;
        row = subst (λ (j : ℕ). with_acknowledged (row_at s.table j) 0 ≡ held x.content x.end) own (live-latest name x e);
        place = sym (live-place name) ∙ own;
        starts = starts;
      })

  -- what stands at a free place has no record
  pub free-lacks : (k : ℕ) → free (row_at s.table k) ≡ true → latest_of (row_at s.table k).name h ≡ none
  free-lacks k f =
      let name = (row_at s.table k).name in
      option-either (latest_of name h) (λ e. e) (λ x e. absurd (starts-of name x e (eqb-true (get_or name 0 0) 0 f)))

  -- the names stand in the order of first appearance, and the places behind them are free
  pub name-at : (k : ℕ) → k < length (names h) → (row_at s.table k).name ≡ get_or (names h) k []
  name-at k b = ap (λ (row : Row). row.name) (live-row k) ∙ place-named c (contents (records_of h)) t.come k b

  pub others-free : (k : ℕ) → length (names h) ≤ k → free (row_at s.table k) ≡ true
  others-free k b = ap free (live-row k) ∙ (places-are c (contents (records_of h)) t.come).others k b

  -- ---- a record that comes next

  pub append-may : (place : ℕ) (row : Row) → ComesNext s place row → unflushed s.flushed (row_at s.table (place_of s.table row.name)) ≡ false
      → (is_prepare (row_at s.table (place_of s.table row.name)).status ≡ true → NothingOpen row.name h)
      → Appendable c h (record_of row) (log_end s + length (row_frame s row))
  append-may place row n f last =
      record {
        ends = rw (live_end, u.written.catalogue-is) refl;
        formed = rw (← u.written.catalogue-is) n.formed;
        comes = rw (← u.written.table_is) n.comes;
        waits = if-found-cases (λ (x : Logged). is_flushed h x ≡ true) (latest_of row.name h)
            (λ x e.
            let same : (row_at s.table (place_of s.table row.name)).end ≡ x.end = ap (λ (r : Row). r.end) (live-latest row.name x e) in
            let low = ltb-false s.flushed (row_at s.table (place_of s.table row.name)).end f in
            le-leb x.end (flushed_of h) (omega (arith, u.flushed)));
        last = if-found-cases (λ (x : Logged). is_prepare x.content.status ≡ true → NothingOpen row.name h) (latest_of row.name h)
            (λ x e p. last (ap (λ (r : Row). is_prepare r.status) (live-latest row.name x e) ∙ p));
      }
