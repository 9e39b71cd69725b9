-- The invariant of a world: its history satisfies `HistoryInvariant`, and the state of coordinator and partitions agrees with its history.
-- Every item of a run keeps it (`Steps`): the events that the item adds may come next, and the state agrees with the longer history. Why:
-- The log buffer holds the frames of the history's records, and the flushed lengths are equal. A cut leaves the records whose frames are whole in what
-- is left, and an opening reads exactly these (`Written` and its laws, crate `writer`).
-- The rows of a partition agree with the open entries at every cut: a row is open if and only if an entry of the name at its place is, and has its pid. So
-- a Marker that meets a closed row or another pid writes nothing and leaves nothing open, and one that meets an open row of its pid may be written.
-- A name keeps its place at every cut that leaves a record of it, and a name with an open entry has a flushed record: a restart moves none of them.
-- A position that is acknowledged has nothing open of its place. So the last Ack of a prepare may append the complete record; after an opening nothing
-- is acknowledged, and nothing has to be known of the acknowledgements from before.
-- An order under way is for the latest record of its place, a flushed prepare, and its position is not acknowledged: so Marker and Ack accept it.
use Prim.Native.Nat.{ℕ, ◌*◌, ◌^◌, ◌≤◌, ◌<◌}
use mathlib.Core.Path.{◌≡◌}
use mathlib.Core.Bool.{true, false}
use mathlib.Core.List.{List}
use lib.IntN.{pos}
use lib.ListN.{length, take}
use Rattle.numbers.specs.Signed.{to_nat}
use Rattle.bits.specs.Bits.{member}
use Rattle.catalogue.specs.Catalogue.{parse}
use Rattle.catalogue.specs.Limits.{positions}
use Rattle.catalogue.specs.declared.Catalogue.{Catalogue}
use Rattle.record.specs.declared.Record.{Record}
use Rattle.search.specs.Search.{Each, Found}
use Rattle.row.specs.Row.{free, is_prepare, outstanding}
use Rattle.row.specs.declared.Row.{Row}
use Rattle.table.specs.Table.{row_at, place_of}
use Rattle.log_reader.specs.Records.{table_of, whole_in}
use Rattle.coordinator.specs.Coordinator.{log_end}
use Rattle.coordinator.specs.declared.Coordinator.{Coordinator}
use Rattle.writable_logs.proofs.Written.{Written}
use Rattle.partition.specs.Limits.{entry_words, no_pid}
use Rattle.partition.specs.Partition.{producer_at}
use Rattle.partition.specs.declared.Partition.{Partition}
use Rattle.partition.specs.declared.Producer.{Producer}
use Rattle.runs.specs.History.{Order, History, Logged, records_of, contents, end_of, flushed_of, record_numbered, words_of}
use Rattle.runs.specs.World.{Leader, Phase, up, down, Carrying, nothing, to_deliver, to_acknowledge, World, catalogue_of, leader_at}
use Rattle.runs.specs.Demand3.{IsFor}
use Rattle.runs.proofs.Admitted.{Own}
use Rattle.protocol.specs.RecordsOfName.{AtEveryCut}
use Rattle.protocol.specs.Entries.{Entry, entries_of, under_of}
use Rattle.protocol.specs.HistoryInvariant.{HistoryInvariant}

-- ---- the log side

-- the coordinator is up: its log is that of the history's records
pub record UpLog (c : Catalogue) (log : List ℕ) (s : Coordinator) (h : History) : Type 0 where
  pub written : Written c log s (contents (records_of h))
  pub flushed : s.flushed ≡ flushed_of h

-- it is down: the records left are those that stand whole in what the cut left of some log that it had written
pub record DownLog (c : Catalogue) (log : List ℕ) (n : ℕ) (h : History) : Type 0 where
  pub state : Coordinator
  pub records : List Record
  pub written : Written c log state records
  pub low : state.flushed ≤ n
  pub high : n ≤ log_end state
  pub left : contents (records_of h) ≡ whole_in c n records
  pub flushed : flushed_of h ≡ n
  pub within : end_of (records_of h) ≤ n

abbrev pub LogSide : Catalogue → List ℕ → Phase → History → Type 0
LogSide c log (up s) h = UpLog c log s h
LogSide c log (down n before) h = DownLog c log n h

-- ---- the partition side

-- the place of a name in the table of these records
abbrev pub place_in : Catalogue → List Logged → List ℕ → ℕ
place_in c records name = place_of (table_of c (contents records)) name

-- the producer of an open entry
pub record Owns (q : Producer) (p : Entry) : Type 0 where
  pub ongoing : q.ongoing ≡ true
  pub pid : q.pid ≡ to_nat p.what.pid
  pub first : q.first ≤ p.what.offset

-- no entry at this position of a name at this place is open
abbrev pub NoneOpen : Catalogue → History → List Logged → ℕ → ℕ → Type 0
NoneOpen c h records x k = Each (λ (p : Entry). p.what.position ≡ x → under_of h p ≡ 0 → place_in c records p.what.name ≡ k → ⊥) (entries_of h)

-- a producer is not ahead of the id that a place holds, if it is that id's
abbrev pub NotAhead : Producer → Row → Type 0
NotAhead q row = free row ≡ false → q.pid ≡ row.pid → q.epoch ≤ row.epoch

-- the rows of a partition and the entries, at every cut: a row is open if and only if an entry of a name at its place is
pub record RowsAgree (c : Catalogue) (h : History) (x : ℕ) (p : Partition) : Type 0 where
  pub entry_row : AtEveryCut h (λ records. Each (λ (e : Entry). e.what.position ≡ x → under_of h e ≡ 0 → Owns (producer_at p (place_in c records e.what.name)) e) (entries_of h))
  pub row-entry : AtEveryCut h (λ records. (k : ℕ) → (producer_at p k).ongoing ≡ true → NoneOpen c h records x k → ⊥)
  -- "first offset"
  pub firsts : (k : ℕ) → (producer_at p k).ongoing ≡ true → (producer_at p k).first ≤ p.end
  -- no row is ahead of the log
  pub epochs : AtEveryCut h (λ records. (k : ℕ) → NotAhead (producer_at p k) (row_at (table_of c (contents records)) k))
  pub pids : AtEveryCut h (λ records. (k : ℕ) → ((producer_at p k).pid ≡ no_pid → ⊥) → (producer_at p k).pid < (table_of c (contents records)).next)

pub record LeaderAgrees (c : Catalogue) (h : History) (epoch : ℕ) (x : ℕ) (l : Leader) : Type 0 where
  pub words : take (entry_words * l.partition.end) l.words ≡ words_of x h
  pub rows : RowsAgree c h x l.partition
  -- "Each Marker not refused raises the partition's coordinator epoch … to its own."
  pub coordinator : l.partition.coordinator ≤ epoch

-- the coordinator epoch of the last accepted opening
abbrev pub epoch_of : Phase → ℕ
epoch_of (up s) = s.epoch
epoch_of (down n before) = before

-- ---- acknowledgements and the order under way

-- what is acknowledged is closed
pub record AcksAgree (c : Catalogue) (h : History) (s : Coordinator) : Type 0 where
  pub prepared : (k x : ℕ) → member (row_at s.table k).acknowledged x ≡ true → is_prepare (row_at s.table k).status ≡ true
  pub closed : (k x : ℕ) → member (row_at s.table k).acknowledged x ≡ true → NoneOpen c h (records_of h) x k
  pub small : (k : ℕ) → (row_at s.table k).acknowledged < 2 ^ 64
  pub waiting : (k : ℕ) → is_prepare (row_at s.table k).status ≡ true → outstanding (row_at s.table k) ≡ 0 → ⊥

abbrev pub AcksSide : Catalogue → Phase → History → Type 0
AcksSide c (up s) h = AcksAgree c h s
AcksSide c (down n before) h = Unit {0}

-- a record is that of an order and of its place
pub record ForPlace (c : Catalogue) (h : History) (o : Order) (q : Logged) : Type 0 where
  pub is-for : IsFor o h q
  pub place : place_in c (records_of h) q.content.name ≡ o.place

-- an order is for its place's latest record, which is a flushed prepare, and its position is not acknowledged
pub record UnderWay (c : Catalogue) (h : History) (s : Coordinator) (o : Order) : Type 0 where
  pub for-prepare : Found (ForPlace c h o) (record_numbered o.for h)
  pub coordinator : o.coordinator ≡ pos s.epoch
  pub waits : member (row_at s.table o.place).acknowledged o.position ≡ false

abbrev pub CarryingSide : Catalogue → History → Phase → Carrying → Type 0
CarryingSide c h (up s) nothing = Unit {0}
CarryingSide c h (up s) (to_deliver i o) = UnderWay c h s o
CarryingSide c h (up s) (to_acknowledge i o) = UnderWay c h s o × NoneOpen c h (records_of h) o.position o.place
CarryingSide c h (down n before) nothing = Unit {0}
CarryingSide c h (down n before) (to_deliver i o) = ⊥
CarryingSide c h (down n before) (to_acknowledge i o) = ⊥

-- ---- the invariant

pub record Invariant (w : World) : Type 0 where
  pub parsed : (parse w.text).refusal ≡ 0
  -- the history
  pub of-history : HistoryInvariant (catalogue_of w) w.history
  pub offsets : Each (λ (p : Entry). entry_words * p.what.offset ≡ length (words_of p.what.position p.before)) (entries_of w.history)
  -- the log side
  pub log-side : LogSide (catalogue_of w) w.log w.phase w.history
  pub acks : AcksSide (catalogue_of w) w.phase w.history
  -- the partition side
  pub own : Own w
  pub count : length w.leaders ≡ positions
  pub leaders : (x : ℕ) → LeaderAgrees (catalogue_of w) w.history (epoch_of w.phase) x (leader_at w x)
  -- the order under way
  pub carried : CarryingSide (catalogue_of w) w.history w.phase w.carrying
