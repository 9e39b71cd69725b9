-- The invariant of a history: what holds of records, entries, orders and markers at every cut. Nothing here speaks of the server's state.
-- No reader has to believe what is defined here: it is the invariant of the proof, and no promise.
use Rattle.std.specs.Prelude.{ℕ, suc, ◌+◌, ◌≤◌, ◌<◌, ◌≡◌, true, List, length}
use Rattle.std.proofs.Math.Option.{some}
use Rattle.bits.specs.Bits.{member}
use Rattle.catalogue.specs.declared.Catalogue.{Catalogue}
use Rattle.record.specs.Record.{status_code}
use Rattle.record.specs.declared.Status.TheVariants.{Begin}
use Rattle.search.specs.Search.{Each, Found, IfFound}
use Rattle.row.specs.Row.{is_prepare}
use Rattle.table.specs.Table.{empty_table}
use Rattle.log_reader.specs.Records.{all_come}
use Rattle.runs.specs.History.{Order, History, Logged, records_of, contents, record_numbered, latest_of, events_before, prepared_before, number_after, orders_in, markers_in, WithBefore, collect, collect_with_before, markers_for}
use Rattle.runs.specs.Demand3.{Ends, Entitled, IsFor}
use Rattle.protocol.specs.RecordsOfName.{latest_in, prepares_in, nth_prepare, AtEveryCut, NumberedBelow}
use Rattle.protocol.specs.Entries.{Entry, entries_of, ordinal_of, under_of}

-- ---- an entry and the records

-- how far an open entry's transaction has come, by the latest record of its name: begun, or prepared after the entry
pub data Stage (p : Entry) (records : List Logged) (r : Logged) : Type 0 where
  begun : r.content.status ≡ Begin → prepares_in p.what.name records ≡ ordinal_of p → Stage p records r
  prepared : is_prepare r.content.status ≡ true → prepares_in p.what.name records ≡ suc (ordinal_of p) → length p.before < r.number → Stage p records r

-- the latest record of an open entry's name is of the entry's transaction: it has its pid, and its position joined
pub record OpenTransaction (p : Entry) (records : List Logged) (r : Logged) : Type 0 where
  pub pid : r.content.pid ≡ p.what.pid
  pub joined : member r.content.joined p.what.position ≡ true
  pub stage : Stage p records r

-- the prepare of an entry's transaction, if the entry stands under a marker: it came after the entry and has the marker's verdict
pub record Closes (kind : ℕ) (p : Entry) (r : Logged) : Type 0 where
  pub verdict : status_code r.content.status ≡ kind + 1
  pub later : length p.before < r.number

-- an entry that stands under a marker of this kind, 0 for none: it is open and its transaction not completed, or it stands under its prepare's verdict
pub data Standing (kind : ℕ) (records : List Logged) (p : Entry) : Type 0 where
  still_open : kind ≡ 0 → Found (OpenTransaction p records) (latest_in p.what.name records) → Standing kind records p
  closed : Found (Closes kind p) (nth_prepare p.what.name (ordinal_of p) records) → Standing kind records p

-- an entry of a prepare's transaction: "what Produce wrote for its name since the flushed prepare before, up to it"
pub record InTransaction (h : History) (q : Logged) (p : Entry) : Type 0 where
  pub name : p.what.name ≡ q.content.name
  pub since : number_after (prepared_before q.content.name (events_before q.number h)) ≤ length p.before
  pub before : length p.before < q.number

-- ---- markers

-- the record that a marker is for is a prepare with its producer, if it stands
pub record Marks (m : Order) (r : Logged) : Type 0 where
  pub prepare : is_prepare r.content.status ≡ true
  pub pid : r.content.pid ≡ m.pid

-- no open entry of a marker's partition and producer has that prepare as its name's latest record
abbrev pub AlreadyClosed : ℕ → List Logged → Order → Entry → Type 0
AlreadyClosed kind records m p =
    p.what.position ≡ m.position → p.what.pid ≡ m.pid → kind ≡ 0 → IfFound (λ (r : Logged). r.number ≡ m.for → ⊥) (latest_in p.what.name records)

-- ---- the clauses

-- the entries of a prepare's transaction have its ordinal
abbrev pub OfOrdinal : History → Logged → Type 0
OfOrdinal h q =
    is_prepare q.content.status ≡ true → Each (λ (p : Entry). InTransaction h q p → nth_prepare p.what.name (ordinal_of p) (records_of h) ≡ some q) (entries_of h)

-- an order or a marker was for a flushed prepare, its name's latest record then
abbrev pub ForPrepare : WithBefore Order → Type 0
ForPrepare p = Found (IsFor p.what p.before) (record_numbered p.what.for p.before)

-- what a marker is for came earlier and, where it stands, is a prepare of its producer
pub record MarksPrepare (h : History) (m : Order) : Type 0 where
  pub earlier : m.for < length h
  pub marked : Each (λ (r : Logged). r.number ≡ m.for → Marks m r) (records_of h)

pub record HistoryInvariant (c : Catalogue) (h : History) : Type 0 where
  -- the records may come one after the other, each ends where its frame does, and their numbers fall from the newest to the oldest
  pub come : all_come c empty_table (contents (records_of h)) ≡ true
  pub ends : Ends c (records_of h)
  pub numbered : NumberedBelow (length h) (records_of h)
  -- each entry was written for a flushed BEGIN; at every cut it is open, or it stands under its prepare's verdict
  pub entitled : Each (λ (p : Entry). Found (Entitled p.what p.before) (latest_of p.what.name p.before)) (entries_of h)
  pub standing : AtEveryCut h (λ records. Each (λ (p : Entry). Standing (under_of h p) records p) (entries_of h))
  -- and it belongs to the prepare of its ordinal
  pub by-ordinal : Each (λ (q : Logged). OfOrdinal h q) (records_of h)
  -- orders and markers are for flushed prepares, and after a marker nothing of its prepare is open there
  pub for-prepare : Each ForPrepare (collect_with_before orders_in h)
  pub marks : Each (MarksPrepare h) (collect markers_in h)
  pub already-closed : AtEveryCut h (λ records. Each (λ (m : Order). Each (λ (p : Entry). AlreadyClosed (under_of h p) records m p) (entries_of h)) (collect markers_in h))
  -- so a partition holds one marker for each prepare
  pub one-marker : Each (λ (m : Order). markers_for m h ≡ 1) (collect markers_in h)
