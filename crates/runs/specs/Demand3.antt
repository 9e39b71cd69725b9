-- Demand 3 of document 00, as one statement over whole lists of calls and cuts. Document 01, Runs, is quoted at each clause, and under it stand
-- two wrong servers that the clause rules out.
use Rattle.std.specs.Prelude.{ℕ, ◌+◌, ◌*◌, ◌≤◌, ◌≡◌, true, false, List, [], ◌∷◌, ℤ, pos, length, take}
use Rattle.std.proofs.Math.Option.{none}
use Rattle.std.specs.Int.Signed.{le_z}
use Rattle.bits.specs.Bits.{member, subset}
use Rattle.catalogue.specs.declared.Catalogue.{Catalogue}
use Rattle.record.specs.Frame.{frame}
use Rattle.record.specs.Record.{status_code}
use Rattle.record.specs.declared.Status.{Status}
use Rattle.record.specs.declared.Status.TheVariants.{Begin}
use Rattle.search.specs.Search.{Each, EachAt, Found, IfFound}
use Rattle.table.specs.Table.{place_of}
use Rattle.answers.specs.Answers.{reply, order_reply}
use Rattle.coordinator.specs.Coordinator.{log_end}
use Rattle.coordinator.specs.Order.{order}
use Rattle.coordinator.specs.Calls.{ack_call, answered}
use Rattle.partition.specs.Limits.{entry_words}
use Rattle.partition.specs.Marker.{marker}
use Rattle.writable_logs.specs.Writer.{out_of_order, opening_reply}
use Rattle.log_reader.specs.Records.{frames_of}
use Rattle.runs.specs.History.{Order, Produced, History, orders_in, given_in, produced_in, markers_in, collect, Logged, log_records, contents, end_of, flushed_of, epoch_opened, is_flushed, record_numbered, latest_of, next_of, is_prepare, flushed_prepares, listed, is_completed, completed_prepares, pending_prepares, transaction, marker_over, carried_for, markers_for, words_of, WithBefore, collect_with_before}
use Rattle.runs.specs.World.{Leader, Phase, up, down, Carrying, nothing, to_deliver, to_acknowledge, World, catalogue_of, leader_at, FirstOpening, start, Accepted, Lent, own, another, Item, call, call_order, call_produce, call_read, deliver, acknowledge, cut, reopen, run}

-- ---- kept

-- "4 follows 2, or 5 follows 3, with its producer"; "producer: its pid and epoch"
pub record Completes (p : Logged) (c : Logged) : Type 0 where
  pub status : status_code c.content.status ≡ status_code p.content.status + 2
  pub pid : c.content.pid ≡ p.content.pid
  pub epoch : c.content.epoch ≡ p.content.epoch

-- 00: "keeps its verdict, producer and partitions"; 01: "unchanged". Where it stands in the log is no part of it.
pub record Keeps (p : Logged) (x : Logged) : Type 0 where
  pub verdict : status_code x.content.status ≡ status_code p.content.status
  pub pid : x.content.pid ≡ p.content.pid
  pub epoch : x.content.epoch ≡ p.content.epoch
  pub partitions : x.content.joined ≡ p.content.joined
  pub unchanged : x.content ≡ p.content

-- "Kept: a flushed prepare stays its name's latest record, unchanged, until 4 follows 2, or 5 follows 3, with its producer, and completes it", of the
-- records that were appended and that no cut has undone
-- Not met by a server that aborts a prepare because its timeout has passed before the restart, nor by one whose commits end in COMPLETE_ABORT.
pub record Kept (w : World) (p : Logged) : Type 0 where
  pub stands : Found (Keeps p) (record_numbered p.number w.history)
  pub next : IfFound (Completes p) (next_of p w.history)

-- ---- the log and the words are the history's

-- each record ends where its frame does
abbrev pub Ends : Catalogue → List Logged → Type 0
Ends c [] = Unit {0}
Ends c (x ∷ records) = (x.end ≡ end_of records + length (frame c x.content)) × Ends c records

abbrev pub SameLengths : Phase → History → Type 0
SameLengths (up s) h = (log_end s ≡ end_of (log_records h)) × (s.flushed ≡ flushed_of h) × (flushed_of h ≤ end_of (log_records h))
SameLengths (down n epoch) h = (end_of (log_records h) ≤ n) × (n ≡ flushed_of h)

-- The records of the history are those in the log buffer, byte for byte, and the state's log end and flushed length are theirs.
-- Not met by an opening that takes the bytes of a torn frame as flushed, nor by a Flush that takes a length past the end.
pub record LogAgrees (w : World) : Type 0 where
  pub bytes : take (end_of (log_records w.history)) w.log ≡ frames_of (catalogue_of w) (contents (log_records w.history))
  pub ends : Ends (catalogue_of w) (log_records w.history)
  pub lengths : SameLengths w.phase w.history

-- what Produce writes is for a name whose latest record is then a flushed BEGIN of that producer with that partition joined
pub record Entitled (e : Produced) (h : History) (x : Logged) : Type 0 where
  pub status : x.content.status ≡ Begin
  pub flushed : is_flushed h x ≡ true
  pub pid : x.content.pid ≡ e.pid
  pub epoch : x.content.epoch ≡ e.epoch
  pub joined : member x.content.joined e.position ≡ true

-- The words of each partition up to its end are those of the history's entries: a data entry for each Produce, a marker entry for each order
-- whose Marker wrote one, in the order in which they were written, and no other.
-- Not met by a Marker that writes COMMIT for an abort, nor by a Produce that is let in on a widened set that isn't flushed.
pub record WordsAgree (w : World) : Type 0 where
  pub words : EachAt (λ x (l : Leader). take (entry_words * l.partition.end) l.words ≡ words_of x w.history) 0 w.leaders
  pub entitled : Each (λ (p : WithBefore Produced). Found (Entitled p.what p.before) (latest_of p.what.name p.before)) (collect_with_before produced_in w.history)
  pub offsets : Each (λ (p : WithBefore Produced). entry_words * p.what.offset ≡ length (words_of p.what.position p.before)) (collect_with_before produced_in w.history)

-- ---- for a flushed prepare

-- "An order is for its place's latest record then and has that prepare's producer, verdict and one of its partitions"; verdict 0 is that of status 2, 1 that of 3
pub record IsFor (o : Order) (h : History) (p : Logged) : Type 0 where
  pub prepare : is_prepare p.content.status ≡ true
  pub flushed : is_flushed h p ≡ true
  pub latest : next_of p h ≡ none
  pub pid : p.content.pid ≡ o.pid
  pub epoch : p.content.epoch ≡ o.epoch
  pub verdict : status_code p.content.status ≡ o.verdict + 2
  pub position : member p.content.joined o.position ≡ true

-- 00: "no marker is written for an unflushed prepare"; 01: "a marker is for its order's"
-- Not met by an Order that is given once the prepare is appended, nor by one that offers a partition outside the transaction.
abbrev pub ForFlushedPrepare : World → Type 0
ForFlushedPrepare w =
    Each (λ (p : WithBefore Order). Found (IsFor p.what p.before) (record_numbered p.what.for p.before)) (collect_with_before orders_in w.history)

-- "It carries … coordinator epoch": an order has that of the last accepted opening.
-- Not met by a server whose orders always carry 1, nor by one that keeps the coordinator epoch from before a cut.
abbrev pub OfLastOpening : World → Type 0
OfLastOpening w = Each (λ (p : WithBefore Order). p.what.coordinator ≡ epoch_opened p.before) (collect_with_before given_in w.history)

-- ---- one

-- 00: "no partition holds two for one prepare"
-- Not met by a Marker that leaves the transaction open and so writes again, nor by one that appends always, as 000 has it.
abbrev pub OneMarker : World → Type 0
OneMarker w = Each (λ (o : Order). markers_for o w.history ≡ 1) (collect markers_in w.history)

-- ---- under its verdict

-- 00: "every entry of a completed commit's transaction, on whichever partition, stands under COMMIT, every one of a completed abort's under ABORT"
-- 01: "each entry stands under its pid's next marker there"; verdict 0 is that of status 2, 1 that of 3. That Read finds the same in the words is in
-- `InEveryRun`.
-- Not met by a Marker that writes nothing, nor by a server that completes one acknowledgement early.
abbrev pub StandsUnder : History → Status → WithBefore Produced → Type 0
StandsUnder h status e = Found (λ (m : Order). status_code status ≡ m.verdict + 2) (marker_over h e)

abbrev pub UnderItsVerdict : World → Type 0
UnderItsVerdict w =
    Each (λ (p : Logged). Each (StandsUnder w.history p.content.status) (transaction p w.history)) (completed_prepares w.history)

-- ---- progress

-- the results of an Order that answers an order of at most this place, which is the first of them
abbrev pub GivenUpTo : ℕ → List ℤ → Type 0
GivenUpTo place [] = ⊥
GivenUpTo place (at ∷ results) = le_z at (pos place) ≡ true

-- While a flushed prepare is not completed, an Order with all partitions up answers an order, of the prepare's place or a lower one.
-- Not met by an Order that says none over a flushed prepare, nor by a server that takes a recovered prepare for acknowledged: nothing would be
-- outstanding, and it would never complete.
abbrev pub OrdersGiven : Phase → World → Type 0
OrdersGiven (up s) w =
    Each (λ (p : Logged). (set : ℕ) → subset (catalogue_of w).all set ≡ true → GivenUpTo (place_of s.table p.content.name) (order_reply (order s set)).results)
    (pending_prepares w.history)
OrdersGiven (down n epoch) w = Unit {0}

-- No Marker and no Ack made in carrying is refused.
-- Not met by a partition whose coordinator epoch runs ahead of its coordinator's, nor by an Ack that refuses all.
abbrev pub MarkerDone : World → Order → Type 0
MarkerDone w o =
    let l = leader_at w o.position in
    (reply (marker l.partition (length l.words) o.place o.pid o.epoch o.verdict o.coordinator).answer).number ≡ 0

abbrev pub AckDone : Phase → World → Order → Type 0
AckDone (up s) w o = (answered (ack_call o.place o.pid o.epoch o.position) (record { state = s; log = w.log })).number ≡ 0
AckDone (down n epoch) w o = ⊥

abbrev pub CarryingAccepted : Carrying → World → Type 0
CarryingAccepted nothing w = Unit {0}
CarryingAccepted (to_deliver i o) w = MarkerDone w o
CarryingAccepted (to_acknowledge i o) w = AckDone w.phase w o

abbrev pub IsOwn : Lent → Type 0
IsOwn own = Unit {0}
IsOwn (another slice) = ⊥

-- "there is no cut, all are up in each Order, and in carrying no slice meets 8"
abbrev pub Undisturbed : ℕ → Item → Type 0
Undisturbed all (call lent c) = Unit {0}
Undisturbed all (call_order set) = subset all set ≡ true
Undisturbed all (call_produce lent other name pid epoch position sequence payload) = Unit {0}
Undisturbed all (call_read lent x from out) = Unit {0}
Undisturbed all (deliver lent i) = IsOwn lent
Undisturbed all (acknowledge lent i) = IsOwn lent
Undisturbed all (cut n) = ⊥
Undisturbed all (reopen epoch first last) = Unit {0}

-- 00: "With all partitions up and no cut, a flushed prepare completes after at most as many carried orders for it as it lists partitions."
-- 01: it "counts from any moment when the prepare is flushed, not completed": the end of the shared list is any moment.
-- Not met by an Ack that notes nothing, nor by a server that forgets an acknowledgement at another call.
abbrev pub CompletesInTime : World → List Item → Type 0
CompletesInTime w items =
    Each (Undisturbed (catalogue_of w).all) items
    → Each (λ (p : Logged). carried_for p w.history + listed p ≤ carried_for p (run items w).history → is_completed (run items w).history p ≡ true)
    (pending_prepares w.history)

-- ---- restart

-- After any cut an opening with numbers in order is accepted.
-- Not met by an opening that refuses a torn frame, nor by one that asks for more reserve than the calls have kept.
abbrev pub Restarts : Phase → World → Type 0
Restarts (up s) w = Unit {0}
Restarts (down n before) w =
    (epoch first last : ℤ) → out_of_order epoch first last ≡ false
    → (opening_reply w.text w.log n epoch first last).number ≡ 0

-- ---- the statement

-- what holds at every moment of a run
pub record HoldsAt (w : World) : Type 0 where
  pub log-agrees : LogAgrees w
  pub words-agree : WordsAgree w
  pub for-flushed-prepare : ForFlushedPrepare w
  pub of-last-opening : OfLastOpening w
  pub one-marker : OneMarker w
  pub under-its-verdict : UnderItsVerdict w
  pub orders-given : OrdersGiven w.phase w
  pub carrying-accepted : CarryingAccepted w.carrying w
  pub restarts : Restarts w.phase w

-- what is promised at the end of the shared list to every list that goes on from there; each beginning of a list is a list, so it is promised at every moment
pub record Promised (w : World) (items : List Item) : Type 0 where
  pub kept : Each (Kept (run items w)) (flushed_prepares w.history)
  pub holds : HoldsAt (run items w)
  pub completes-in-time : CompletesInTime w items

-- 00: "For every list of calls and cuts from a first opening, refused calls included: two runs take it, the straight one and the cut one. Then the
-- cut run's transaction log is left at any byte length from its flushed length to its end and opened again, and each goes on with any list of
-- its own, further cuts included."
-- A cut outside those lengths and an opening that is refused leave the world as it is; more openings may follow in the list.
abbrev pub Demand3 : Type 0
Demand3 =
    (o : FirstOpening) → Accepted o → (shared straight : List Item) (left : ℕ) (epoch first last : ℤ) (afterwards : List Item)
    → Promised (run shared (start o)) straight × Promised (run shared (start o)) (cut left ∷ reopen epoch first last ∷ afterwards)
