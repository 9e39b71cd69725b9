-- The clauses of demand 3 as tests, so that they compute on an example.
use Rattle.std.specs.Prelude.{ℕ, ◌+◌, ◌*◌, min, Bool, true, false, not, ◌&&◌, ◌||◌, List, [], ◌∷◌, eqb, leb, ℤ, pos, length, take, get_or}
use Rattle.std.specs.Int.Signed.{le_z}
use Rattle.numbers.specs.Signed.{eq_z}
use Rattle.numbers.specs.Bytes.{overwrite, same}
use Rattle.bits.specs.Bits.{member, subset}
use Rattle.catalogue.specs.declared.Catalogue.{Catalogue}
use Rattle.record.specs.Frame.{frame}
use Rattle.record.specs.Record.{status_code}
use Rattle.record.specs.declared.Record.{Record}
use Rattle.record.specs.declared.Status.{Status}
use Rattle.row.specs.Row.{is_begin, is_prepare, outstanding}
use Rattle.row.specs.declared.Row.{Row}
use Rattle.search.specs.Search.{is_found, found, if_found, all, all_at}
use Rattle.succession.specs.Moves.{same_status}
use Rattle.table.specs.Table.{place_of}
use Rattle.answers.specs.Answers.{reply, order_reply}
use Rattle.coordinator.specs.Coordinator.{log_end}
use Rattle.coordinator.specs.Order.{order}
use Rattle.coordinator.specs.Calls.{ack_call, answered}
use Rattle.partition.specs.Limits.{entry_words}
use Rattle.partition.specs.Marker.{marker}
use Rattle.answers.specs.ReadAnswer.{ReadAnswer}
use Rattle.answers.specs.ReadAnswer.{Copied, Refused as ReadRefused}
use Rattle.partition.specs.Partition.{stable_end}
use Rattle.partition.specs.Read.{read_answer, read_out}
use Rattle.log_reader.specs.Records.{frames_of}
use Rattle.writable_logs.specs.Writer.{opening_reply}
use Rattle.runs.specs.History.{Order, Produced, History, orders_in, given_in, produced_in, markers_in, collect, WithBefore, collect_with_before, Logged, records_of, contents, end_of, flushed_of, epoch_opened, is_flushed, record_numbered, latest_of, next_of, listed, is_completed, completed_prepares, pending_prepares, transaction, marker_over, carried_for, markers_for, words_of}
use Rattle.runs.specs.World.{Leader, Phase, up, down, Carrying, nothing, to_deliver, to_acknowledge, World, catalogue_of, leader_at}
use Rattle.runs.specs.InEveryRun.{committed_between, offsets, payloads}

-- ---- kept

abbrev pub same_record : Record → Record → Bool
same_record a b =
    same a.name b.name
    && eq_z a.pid b.pid
    && eq_z a.epoch b.epoch
    && eq_z a.timeout b.timeout
    && same_status a.status b.status
    && eqb a.joined b.joined
    && eq_z a.updated b.updated
    && eq_z a.start b.start

abbrev pub completes : Logged → Logged → Bool
completes p c =
    eqb (status_code c.content.status) (status_code p.content.status + 2)
    && eq_z c.content.pid p.content.pid
    && eq_z c.content.epoch p.content.epoch

abbrev pub kept : World → Logged → Bool
kept w p = found (λ (x : Logged). same_record x.content p.content) (record_numbered p.number w.history) && if_found (completes p) (next_of p w.history)

-- ---- the log and the words are the history's

unfoldable pub ends : Catalogue → List Logged → Bool
ends c [] = true
ends c (x ∷ records) = eqb x.end (end_of records + length (frame c x.content)) && ends c records

abbrev pub same_lengths : Phase → History → Bool
same_lengths (up s) h = eqb (log_end s) (end_of (records_of h)) && eqb s.flushed (flushed_of h) && leb (flushed_of h) (end_of (records_of h))
same_lengths (down n epoch) h = leb (end_of (records_of h)) n && eqb n (flushed_of h)

abbrev pub log_agrees : World → Bool
log_agrees w =
    let records = records_of w.history in
    same (take (end_of records) w.log) (frames_of (catalogue_of w) (contents records))
    && ends (catalogue_of w) records
    && same_lengths w.phase w.history

abbrev pub entitled : WithBefore Produced → Bool
entitled p =
    found
    (λ (x : Logged).
    is_begin x.content.status
    && is_flushed p.before x
    && eq_z x.content.pid p.what.pid
    && eq_z x.content.epoch p.what.epoch
    && member x.content.joined p.what.position)
    (latest_of p.what.name p.before)

abbrev pub words_agree : World → Bool
words_agree w =
    all_at (λ x (l : Leader). same (take (entry_words * l.partition.end) l.words) (words_of x w.history)) 0 w.leaders
    && all entitled (collect_with_before produced_in w.history)
    && all (λ (p : WithBefore Produced). eqb (entry_words * p.what.offset) (length (words_of p.what.position p.before))) (collect_with_before produced_in w.history)

-- ---- orders, markers and entries

abbrev pub is_for : WithBefore Order → Bool
is_for p =
    found
    (λ (x : Logged).
    is_prepare x.content.status
    && is_flushed p.before x
    && not (is_found (next_of x p.before))
    && eq_z x.content.pid p.what.pid
    && eq_z x.content.epoch p.what.epoch
    && eqb (status_code x.content.status) (p.what.verdict + 2)
    && member x.content.joined p.what.position)
    (record_numbered p.what.for p.before)

abbrev pub for_flushed_prepare : World → Bool
for_flushed_prepare w = all is_for (collect_with_before orders_in w.history)

abbrev pub of_last_opening : World → Bool
of_last_opening w = all (λ (p : WithBefore Order). eq_z p.what.coordinator (epoch_opened p.before)) (collect_with_before given_in w.history)

abbrev pub one_marker : World → Bool
one_marker w = all (λ (o : Order). eqb (markers_for o w.history) 1) (collect markers_in w.history)

abbrev pub stands_under_verdict : History → Status → WithBefore Produced → Bool
stands_under_verdict h status e = found (λ (m : Order). eqb (status_code status) (m.verdict + 2)) (marker_over h e)

abbrev pub under_its_verdict : World → Bool
under_its_verdict w =
    all (λ (p : Logged). all (stands_under_verdict w.history p.content.status) (transaction p w.history)) (completed_prepares w.history)

-- ---- progress

abbrev pub ack_done : Phase → World → Order → Bool
ack_done (up s) w o = eqb (answered (ack_call o.place o.pid o.epoch o.position) (record { state = s; log = w.log })).number 0
ack_done (down n epoch) w o = false

abbrev pub marker_done : World → Order → Bool
marker_done w o =
    let l = leader_at w o.position in
    eqb (reply (marker l.partition (length l.words) o.place o.pid o.epoch o.verdict o.coordinator).answer).number 0

abbrev pub carrying_accepted : Carrying → World → Bool
carrying_accepted nothing w = true
carrying_accepted (to_deliver i o) w = marker_done w o
carrying_accepted (to_acknowledge i o) w = ack_done w.phase w o

-- of the prepares that were flushed and not completed at one moment, each one with enough carried orders is completed at a later one
abbrev pub completes_in_time : World → World → Bool
completes_in_time w v =
    all (λ (p : Logged). not (leb (carried_for p w.history + listed p) (carried_for p v.history)) || is_completed v.history p)
    (pending_prepares w.history)

abbrev pub given_up_to : ℕ → List ℤ → Bool
given_up_to place [] = false
given_up_to place (at ∷ results) = le_z at (pos place)

-- every outstanding position is in the catalogue: so an Order answers the same whatever else is up than all partitions
abbrev pub orders_given : Phase → World → Bool
orders_given (up s) w =
    all (λ (row : Row). subset (outstanding row) (catalogue_of w).all) s.table.rows
    && all (λ (p : Logged). given_up_to (place_of s.table p.content.name) (order_reply (order s (catalogue_of w).all)).results) (pending_prepares w.history)
orders_given (down n epoch) w = true

-- ---- restart

-- an opening with these numbers is accepted: so is one with any that are in order
abbrev pub restarts : Phase → World → Bool
restarts (up s) w = true
restarts (down n before) w = eqb (opening_reply w.text w.log n (pos 0) (pos 0) (pos 0)).number 0

-- what holds at every moment
abbrev pub holds_at : World → Bool
holds_at w =
    log_agrees w
    && words_agree w
    && for_flushed_prepare w
    && of_last_opening w
    && one_marker w
    && under_its_verdict w
    && orders_given w.phase w
    && carrying_accepted w.carrying w
    && restarts w.phase w

-- ---- Read

abbrev pub is_copied : ReadAnswer → ℕ → ℕ → Bool
is_copied (Copied count next) n m = eqb count n && eqb next m
is_copied (ReadRefused number) n m = false

abbrev pub reads_from : World → ℕ → Leader → ℕ → List ℕ → Bool
reads_from w x l from out =
    let entries = committed_between x from (stable_end l.partition) w.history in
    is_copied (read_answer l.partition l.words from out) (min (length out) (length entries)) (get_or (offsets entries) (length out) (stable_end l.partition))
    && same (read_out l.partition l.words from out) (overwrite out 0 (take (length out) (payloads entries)))
