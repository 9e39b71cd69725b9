-- What happened in a run, and what document 01's section Runs says of it: records, flushed prepares, their transactions, orders and entries.
-- The server does not keep it: `step` writes it beside the server, so that statements can speak of the past.
use Rattle.std.specs.Prelude.{ℕ, suc, ◌+◌, ◌-◌, ◌*◌, ◌^◌, Bool, true, false, cond, not, ◌&&◌, List, [], ◌∷◌, ◌++◌, map, eqb, leb, ltb, ℤ, pos, length, take, drop, get_or}
use Rattle.std.proofs.Math.Option.{Option, none, some}
use Rattle.numbers.specs.Signed.{to_nat}
use Rattle.numbers.specs.Bytes.{same}
use Rattle.bits.specs.Bits.{count}
use Rattle.record.specs.Record.{status_code}
use Rattle.record.specs.declared.Record.{Record}
use Rattle.record.specs.declared.Status.{Status}
use Rattle.record.specs.declared.Status.TheVariants.{Empty, Begin, PrepareCommit, PrepareAbort, CompleteCommit, CompleteAbort}
use Rattle.search.specs.Search.{find, find_last, found, filter, count_where}
use Rattle.writable_logs.specs.RecordsSay.{names_of}

-- an order with what it carries, and the number of the record that it is for: "An order is for its place's latest record then"
pub record Order : Type 0 where
  pub place : ℕ
  pub pid : ℤ
  pub epoch : ℤ
  pub verdict : ℕ
  pub position : ℕ
  pub coordinator : ℤ
  pub for : ℕ

-- an entry that Produce wrote: what it was called with (the name padded), and the offset
pub record Produced : Type 0 where
  pub name : List ℕ
  pub pid : ℤ
  pub epoch : ℤ
  pub position : ℕ
  pub sequence : ℤ
  pub payload : ℕ
  pub offset : ℕ

pub data Event : Type 0 where
  -- a record was appended to the log and ends at this length
  record_appended : Record → ℕ → Event
  -- the log was flushed up to this length
  log_flushed : ℕ → Event
  -- a cut left this length of the log
  log_cut : ℕ → Event
  -- an opening with this coordinator epoch was accepted
  log_opened : ℤ → Event
  -- Order answered this order
  order_given : Order → Event
  -- the order's Marker wrote an entry at its partition
  marker_written : Order → Event
  -- the order is carried: its Marker was answered done and its Ack called
  order_carried : Order → Event
  -- Produce wrote an entry
  entry_written : Produced → Event

-- The newest event comes first. The number of an event is how many came before it, so the events before the one of a number are as many as that
-- number says: they are the last of the list, and those from it on stand in front of them.
abbrev pub History : Type 0
History = List Event

-- the events before the one of this number
abbrev pub events_before : ℕ → History → History
events_before number h = drop (length h - number) h

-- the events from the one of this number on
abbrev pub events_from : ℕ → History → History
events_from number h = take (length h - number) h

-- ---- what one event says

-- the coordinator epoch of an accepted opening; the order that was given, by which a marker was written, or that was carried; the entry that Produce wrote
pub record Said : Type 0 where
  pub opened : List ℤ
  pub given : List Order
  pub marked : List Order
  pub carried : List Order
  pub produced : List Produced

abbrev pub nothing_said : Said
nothing_said = record { opened = []; given = []; marked = []; carried = []; produced = [] }

abbrev pub said : Event → Said
said (record_appended r end) = nothing_said
said (log_flushed n) = nothing_said
said (log_cut n) = nothing_said
said (log_opened epoch) = record { opened = epoch ∷ []; given = []; marked = []; carried = []; produced = [] }
said (order_given o) = record { opened = []; given = o ∷ []; marked = []; carried = []; produced = [] }
said (marker_written o) = record { opened = []; given = []; marked = o ∷ []; carried = []; produced = [] }
said (order_carried o) = record { opened = []; given = []; marked = []; carried = o ∷ []; produced = [] }
said (entry_written e) = record { opened = []; given = []; marked = []; carried = []; produced = e ∷ [] }

abbrev pub opened_in : Event → List ℤ
opened_in e = (said e).opened

abbrev pub given_in : Event → List Order
given_in e = (said e).given

abbrev pub markers_in : Event → List Order
markers_in e = (said e).marked

abbrev pub carried_in : Event → List Order
carried_in e = (said e).carried

abbrev pub produced_in : Event → List Produced
produced_in e = (said e).produced

-- the order that was given, or by which a marker was written
abbrev pub orders_in : Event → List Order
orders_in e = (said e).given ++ (said e).marked

-- the words of the entry that was written at a position: "pid; kind (0 data, 1 COMMIT, 2 ABORT); epoch×2^32 plus sequence (a marker has its order's epoch,
-- and the coordinator epoch for sequence); payload (0 for markers)", of what Produce was called with or of the order
abbrev pub words_in : ℕ → Event → List ℕ
words_in position (record_appended r end) = []
words_in position (log_flushed n) = []
words_in position (log_cut n) = []
words_in position (log_opened epoch) = []
words_in position (order_given o) = []
words_in position (marker_written o) =
    cond (eqb o.position position) (to_nat o.pid ∷ (o.verdict + 1) ∷ (to_nat o.epoch * 2 ^ 32 + to_nat o.coordinator) ∷ 0 ∷ []) []
words_in position (order_carried o) = []
words_in position (entry_written e) =
    cond (eqb e.position position) (to_nat e.pid ∷ 0 ∷ (to_nat e.epoch * 2 ^ 32 + to_nat e.sequence) ∷ e.payload ∷ []) []

-- what all events say, newest first
unfoldable pub collect : {A : Type 0} → (Event → List A) → History → List A
collect f [] = []
collect f (x ∷ h) = f x ++ collect f h

-- what an event says, with the events before it
pub record WithBefore (A : Type 0) : Type 0 where
  pub what : A
  pub before : History

-- the number of that event
abbrev pub number_of : {A : Type 0} → WithBefore A → ℕ
number_of x = length x.before

-- the same for all events
unfoldable pub collect_with_before : {A : Type 0} → (Event → List A) → History → List (WithBefore A)
collect_with_before f [] = []
collect_with_before {A = A} f (x ∷ h) = map (λ (a : A). record { what = a; before = h }) (f x) ++ collect_with_before f h

-- ---- records

-- a record of the log: the number of the event that appended it, by which it is told from all others, and the log end of its frame
pub record Logged : Type 0 where
  pub number : ℕ
  pub content : Record
  pub end : ℕ

-- of records, newest first, those that a cut at a length leaves: "an unflushed record is whole, torn or gone, none after a torn one"
unfoldable pub ending_by : ℕ → List Logged → List Logged
ending_by n [] = []
ending_by n (x ∷ records) = cond (leb x.end n) (x ∷ records) (ending_by n records)

-- the records that were appended and that no cut has undone, newest first
unfoldable pub records_of : History → List Logged
records_of [] = []
records_of (record_appended r end ∷ h) = record { number = length h; content = r; end = end } ∷ records_of h
records_of (log_flushed n ∷ h) = records_of h
records_of (log_cut n ∷ h) = ending_by n (records_of h)
records_of (log_opened epoch ∷ h) = records_of h
records_of (order_given o ∷ h) = records_of h
records_of (marker_written o ∷ h) = records_of h
records_of (order_carried o ∷ h) = records_of h
records_of (entry_written e ∷ h) = records_of h

-- The records that stand in the log, each where its end says. Every record that was appended and that no cut has undone stands there.
abbrev pub log_records : History → List Logged
log_records h = records_of h

abbrev pub contents : List Logged → List Record
contents records = map (λ (x : Logged). x.content) records

-- where the last of the records ends
abbrev pub end_of : List Logged → ℕ
end_of [] = 0
end_of (x ∷ records) = x.end

-- the flushed length; after a cut it is the length left, and after an opening the end of the last whole record
unfoldable pub flushed_of : History → ℕ
flushed_of [] = 0
flushed_of (record_appended r end ∷ h) = flushed_of h
flushed_of (log_flushed n ∷ h) = n
flushed_of (log_cut n ∷ h) = n
flushed_of (log_opened epoch ∷ h) = end_of (log_records h)
flushed_of (order_given o ∷ h) = flushed_of h
flushed_of (marker_written o ∷ h) = flushed_of h
flushed_of (order_carried o ∷ h) = flushed_of h
flushed_of (entry_written e ∷ h) = flushed_of h

-- the coordinator epoch of the last accepted opening
abbrev pub epoch_opened : History → ℤ
epoch_opened h = get_or (collect opened_in h) 0 (pos 0)

-- "flushed once the flushed length reaches its end"
abbrev pub is_flushed : History → Logged → Bool
is_flushed h x = leb x.end (flushed_of h)

-- whether a record is of a name
abbrev pub is_of : List ℕ → Logged → Bool
is_of name x = same x.content.name name

-- the record of a number, if it stands
abbrev pub record_numbered : ℕ → History → Option Logged
record_numbered number h = find (λ (x : Logged). eqb x.number number) (records_of h)

-- the latest record of a name
abbrev pub latest_of : List ℕ → History → Option Logged
latest_of name h = find (is_of name) (records_of h)

-- "Places run from 0 by first appearance in the log."
abbrev pub names : History → List (List ℕ)
names h = names_of (contents (records_of h))

-- the name at a place
abbrev pub name_at : History → ℕ → List ℕ
name_at h place = get_or (names h) place []

-- the next record of the same name
abbrev pub next_of : Logged → History → Option Logged
next_of p h = find_last (λ (x : Logged). ltb p.number x.number && is_of p.content.name x) (records_of h)

-- ---- prepares

-- "Prepare: a record of status 2 or 3": PREPARE_COMMIT or PREPARE_ABORT
abbrev pub is_prepare : Status → Bool
is_prepare Empty = false
is_prepare Begin = false
is_prepare PrepareCommit = true
is_prepare PrepareAbort = true
is_prepare CompleteCommit = false
is_prepare CompleteAbort = false

-- "flushed once the flushed length reaches its end"
abbrev pub is_flushed_prepare : History → Logged → Bool
is_flushed_prepare h x = is_prepare x.content.status && is_flushed h x

abbrev pub flushed_prepares : History → List Logged
flushed_prepares h = filter (is_flushed_prepare h) (records_of h)

-- how many partitions a record lists
abbrev pub listed : Logged → ℕ
listed p = count p.content.joined

-- "until 4 follows 2, or 5 follows 3, …, and completes it (a cut may undo that)"
abbrev pub is_completed : History → Logged → Bool
is_completed h p =
    is_prepare p.content.status
    && found (λ (x : Logged). eqb (status_code x.content.status) (status_code p.content.status + 2)) (next_of p h)

-- the prepares that are completed, and those that are flushed and not
abbrev pub completed_prepares : History → List Logged
completed_prepares h = filter (is_completed h) (records_of h)

abbrev pub pending_prepares : History → List Logged
pending_prepares h = filter (λ (p : Logged). is_flushed_prepare h p && not (is_completed h p)) (records_of h)

-- the flushed prepare of a name that comes last among these events
abbrev pub prepared_before : List ℕ → History → Option Logged
prepared_before name h = find (λ (x : Logged). is_of name x && is_flushed_prepare h x) (records_of h)

-- the number of the event after a record, or of the first event
abbrev pub number_after : Option Logged → ℕ
number_after none = 0
number_after (some x) = suc x.number

-- "A prepare's transaction: what Produce wrote for its name since the flushed prepare before, up to it"
abbrev pub transaction : Logged → History → List (WithBefore Produced)
transaction p h =
    let name = p.content.name in
    let since = number_after (prepared_before name (events_before p.number h)) in
    filter (λ (e : WithBefore Produced). same e.what.name name && leb since (number_of e) && ltb (number_of e) p.number) (collect_with_before produced_in h)

-- "each entry stands under its pid's next marker there": of the markers that were written after the entry at its partition and with its pid, which are
-- compared as the entries' words have them, the first
abbrev pub marker_over : History → WithBefore Produced → Option Order
marker_over h e =
    find_last (λ (m : Order). eqb m.position e.what.position && eqb (to_nat m.pid) (to_nat e.what.pid))
    (collect markers_in (events_from (suc (number_of e)) h))

-- how many orders for a record were carried
abbrev pub carried_for : Logged → History → ℕ
carried_for p h = count_where (λ (o : Order). eqb o.for p.number) (collect carried_in h)

-- how many markers were written for the order's record at the order's partition
abbrev pub markers_for : Order → History → ℕ
markers_for m h = count_where (λ (o : Order). eqb o.position m.position && eqb o.for m.for) (collect markers_in h)

-- the words of all entries at a position, in the order in which they were written
unfoldable pub words_of : ℕ → History → List ℕ
words_of position [] = []
words_of position (x ∷ h) = words_of position h ++ words_in position x
