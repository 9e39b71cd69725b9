-- Which event may come next in a history: what must hold before a record is appended, the log flushed, cut or opened, an order given, a marker or an entry written.
-- No reader has to believe what is defined here: it is the invariant of the proof, and no promise.
use Rattle.std.specs.Prelude.{ℕ, ◌+◌, ◌≤◌, ◌≡◌, true, List, length}
use Rattle.catalogue.specs.declared.Catalogue.{Catalogue}
use Rattle.record.specs.Frame.{frame}
use Rattle.record.specs.Record.{well_formed}
use Rattle.record.specs.declared.Record.{Record}
use Rattle.search.specs.Search.{Each, Found, IfFound}
use Rattle.row.specs.Row.{is_prepare}
use Rattle.table.specs.Next.{may_come}
use Rattle.log_reader.specs.Records.{table_of}
use Rattle.runs.specs.History.{Order, Produced, Event, record_appended, log_flushed, log_cut, log_opened, order_given, marker_written, order_carried, entry_written, History, Logged, records_of, contents, end_of, flushed_of, is_flushed, record_numbered, latest_of}
use Rattle.runs.specs.Demand3.{Entitled, IsFor}
use Rattle.protocol.specs.Entries.{Entry, entries_of, under_of}

-- nothing of a name is open
abbrev pub NothingOpen : List ℕ → History → Type 0
NothingOpen name h = Each (λ (p : Entry). p.what.name ≡ name → under_of h p ≡ 0 → ⊥) (entries_of h)

-- a record is appended behind the others, as the succession has it
pub record Appendable (c : Catalogue) (h : History) (r : Record) (end : ℕ) : Type 0 where
  pub ends : end ≡ end_of (records_of h) + length (frame c r)
  pub formed : well_formed c r ≡ true
  pub comes : may_come (table_of c (contents (records_of h))) r ≡ true
  -- "an id whose latest record is past the flushed length must wait"
  pub waits : IfFound (λ (x : Logged). is_flushed h x ≡ true) (latest_of r.name h)
  -- a complete comes only when nothing of its name is open
  pub last : IfFound (λ (x : Logged). is_prepare x.content.status ≡ true → NothingOpen r.name h) (latest_of r.name h)

-- a marker is written where something of its producer is open
pub record Markable (h : History) (o : Order) : Type 0 where
  pub for-prepare : Found (IsFor o h) (record_numbered o.for h)
  pub some-open : Each (λ (p : Entry). p.what.position ≡ o.position → p.what.pid ≡ o.pid → under_of h p ≡ 0 → ⊥) (entries_of h) → ⊥

-- an entry is written for a name whose latest record is a flushed BEGIN of its producer, with its position joined
pub record Writable (h : History) (e : Produced) : Type 0 where
  pub entitled : Found (Entitled e h) (latest_of e.name h)

abbrev pub MayBeNext : Catalogue → History → Event → Type 0
MayBeNext c h (record_appended r end) = Appendable c h r end
MayBeNext c h (log_flushed n) = flushed_of h ≤ n
MayBeNext c h (log_cut n) = flushed_of h ≤ n
MayBeNext c h (log_opened epoch) = end_of (records_of h) ≤ flushed_of h
MayBeNext c h (order_given o) = Found (IsFor o h) (record_numbered o.for h)
MayBeNext c h (marker_written o) = Markable h o
MayBeNext c h (order_carried o) = Unit {0}
MayBeNext c h (entry_written e) = Writable h e
