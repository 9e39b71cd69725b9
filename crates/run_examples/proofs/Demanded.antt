-- What the demands, taken as premises, say of the example: a demand whose statement is emptied, or has a premise that the example does not meet, fails here.
use Prim.Native.Nat.{ℕ, ◌+◌, max}
use mathlib.Core.Bool.{true, false}
use mathlib.Core.List.{List, [], ◌∷◌, ◌++◌}
use lib.IntN.{ℤ, pos}
use lib.ListN.{length, take}
use Rattle.coordinator.specs.declared.Coordinator.{Coordinator}
use Rattle.writable_logs.specs.Demand2.{Demand2, InOrder, Openable, FirstBad, TableSays, ReadsBack, written_by, OpensAgain}
use Rattle.writable_logs.specs.RecordsSay.{PlacesByAppearance}
use Rattle.writable_logs.specs.Writer.{opening_reply, CouldWrite, AcceptedOpening, writes, writer_from}
use Rattle.server.specs.Lines.{scan_text, after_all}
use Rattle.server.specs.Calls.{Server, Call, call, order_call, answer_of, after_call}
use Rattle.server.specs.Demand1.{Demand1}
use Rattle.server.specs.Admitted.{Admitted, Admits, Next, after_each, opened_with}
use Rattle.coordinator.specs.Calls.{tick_call, flush_call, answered}
use Rattle.coordinator.specs.Coordinator.{log_end}
use Rattle.runs.specs.World.{catalogue_of, Accepted, start, up, down, own, Item, call as called, cut, step}
use Rattle.runs.specs.Completing.{Completing, carry_each, orders_left, AllCompleted}
use Rattle.runs.specs.Demand3.{Undisturbed, Demand3, Promised}
use Rattle.runs.specs.InEveryRun.{InEveryRun, AdmitsExactly, ReadsCommitted, PidsOnce}
use Rattle.runs.specs.Timeouts.{Timeouts, TimesInOrder, Ticks, EndsInTime}
use Rattle.runs.specs.ExactOrders.{not_acknowledged, shown_at, Continued, ExactOrders}
use Rattle.coordinator.specs.Left.{left}
use mathlib.Core.Path.{◌≡◌, refl}
use lib.Count.{ones, count_trailing_zeros}
use mir.Syntax.{w64}
use Rattle.numbers.specs.Signed.{fits, to_nat}
use Rattle.numbers.specs.Bytes.{overwrite, same}
use Rattle.numbers.specs.Integers.{big_endian, integer_bytes, integer_of, number_from}
use Rattle.numbers.specs.Padded.{until_zero}
use Rattle.bits.specs.Bits.{members}
use Rattle.catalogue.specs.Catalogue.{name_byte, name_run, is_line, line_at, is_new, lines as catalogue_lines, parse}
use Rattle.record.specs.Record.{idle, name_bytes, name_fits, valid_name, joined_fits, start_fits, fields_fit, well_formed}
use Rattle.record.specs.Frame.{key, partition_bytes, topic_entry, topic_bytes, topics_below, count_below, topics, value, frame}
use Rattle.record.specs.Topics.{with_partition, partitions_below, partitions_of, partitions_at, name_stands, topic_at, past, walk}
use Rattle.record.specs.Reading.{candidate, judged, read_frame, read_frame_within, whole}
use Rattle.record.specs.declared.Record.{Record}
use Rattle.succession.specs.Moves.{may_follow_status}
use Rattle.succession.specs.Succession.{first, initializes, begins, widens, prepares_commit, prepares_abort, completes, keeps, follows}
use Rattle.search.specs.Search.{first_where, count_where, sum_of, find, find_last, filter, Each}
use Rattle.answers.specs.Answers.{open_reply}
use Rattle.answers.specs.Refusals.{first_refusal, among}
use Rattle.table.specs.Next.{succeeds, may_come}
use Rattle.log_reader.specs.Read.{read_tests}
use Rattle.log_reader.specs.Scan.{scan_within}
use Rattle.table.specs.Table.{row_at, place_of, lowest_free, id_count, reserved, apply}
use Rattle.coordinator.specs.Coordinator.{admits, not_held, log_full, appended, acknowledged}
use Rattle.coordinator.specs.Open.{take_over_tests, open_tests, opening, taken_over}
use Rattle.coordinator.specs.Init.{init_row, init_row_tests, init_tests, init_accepted, init}
use Rattle.coordinator.specs.Add.{all_joined, add_row, add_row_tests, add_tests, add_action, add}
use Rattle.coordinator.specs.Tick.{overdue, overdue_place, tick_tests, tick_accepted, tick}
use Rattle.coordinator.specs.Flush.{flush_tests, flush}
use Rattle.coordinator.specs.End.{end_fits, end_row_tests, end_tests, end_action, end}
use Rattle.coordinator.specs.Order.{ordered, order_place, order}
use Rattle.coordinator.specs.Ack.{ack_row_tests, ack_tests, ack_action, ack}
use Rattle.partition.specs.Partition.{open_partition, open_count, oldest, admits as partition_admits}
use Rattle.partition.specs.Marker.{marker_tests, closed, marker_action, marker}
use Rattle.partition.specs.Read.{next_marker, committed, copy, read_tests as read_offset_tests, read_answer, read_out}
use Rattle.partition.specs.Append.{last_sequence, next_sequence, produced, partition_full}
use Rattle.server.specs.Produce.{produce_row_tests, produce_tests, produce}
use Rattle.log_reader.specs.Records.{frames_of, table_of}
use Rattle.runs.specs.History.{Logged, collect, collect_with_before, ending_by, records_of, flushed_of, listed, pending_prepares, words_of}
use Rattle.runs.specs.World.{open_leaders, run, records_read}
use Rattle.run_examples.specs.Runs.{length_left, opened, reopening, shared, straight, after_cut, after_shared, opened_later, writer_items, left_records, left_rest}
use Rattle.run_examples.specs.Examples.{after, cut_run_items}
use Rattle.run_examples.specs.Timeouts.{flushed, items_of, after_widening}
use Rattle.run_examples.specs.ExactOrders.{half_cut}

-- the first openings are accepted
pub opened-accepted : Accepted opened
unfolding open_leaders run collect collect_with_before ending_by records_of frames_of flushed_of words_of records_read find find_last filter ones overwrite same big_endian integer_bytes until_zero members name_byte name_run is_line line_at is_new catalogue_lines parse name_bytes key partition_bytes topic_entry topic_bytes topics_below count_below topics value frame first_where count_where sum_of first_refusal name_fits scan_within place_of lowest_free id_count reserved apply admits not_held log_full appended read_tests take_over_tests open_tests opening init_row init_tests init_row_tests init_accepted init all_joined add_row add_tests add_row_tests add_action add overdue overdue_place tick_tests tick_accepted tick flush_tests flush open_partition open_count partition_admits last_sequence next_sequence produced partition_full produce_tests produce_row_tests produce read_frame_within judged candidate well_formed valid_name fields_fit joined_fits start_fits integer_of number_from walk past topic_at name_stands partitions_at partitions_of partitions_below with_partition may_come succeeds first follows keeps may_follow_status initializes begins widens prepares_commit prepares_abort completes ack_tests ack_row_tests ack_action ack acknowledged end_fits end_tests end_row_tests end_action end ordered order_place order marker_tests closed marker_action marker oldest next_marker committed copy read_offset_tests read_answer read_out count_trailing_zeros
opened-accepted = (refl, refl)

pub later-accepted : Accepted opened_later
unfolding open_leaders run collect collect_with_before ending_by records_of frames_of flushed_of words_of records_read find find_last filter ones overwrite same big_endian integer_bytes until_zero members name_byte name_run is_line line_at is_new catalogue_lines parse name_bytes key partition_bytes topic_entry topic_bytes topics_below count_below topics value frame first_where count_where sum_of first_refusal name_fits scan_within place_of lowest_free id_count reserved apply admits not_held log_full appended read_tests take_over_tests open_tests opening init_row init_tests init_row_tests init_accepted init all_joined add_row add_tests add_row_tests add_action add overdue overdue_place tick_tests tick_accepted tick flush_tests flush open_partition open_count partition_admits last_sequence next_sequence produced partition_full produce_tests produce_row_tests produce read_frame_within judged candidate well_formed valid_name fields_fit joined_fits start_fits integer_of number_from walk past topic_at name_stands partitions_at partitions_of partitions_below with_partition may_come succeeds first follows keeps may_follow_status initializes begins widens prepares_commit prepares_abort completes ack_tests ack_row_tests ack_action ack acknowledged end_fits end_tests end_row_tests end_action end ordered order_place order marker_tests closed marker_action marker oldest next_marker committed copy read_offset_tests read_answer read_out count_trailing_zeros
later-accepted = (refl, refl)

-- demand 3: the straight run and the cut run of the example, and the same from a log with records
pub demanded : Demand3 → Promised after_shared straight × Promised after_shared cut_run_items
demanded d = d opened opened-accepted shared straight length_left (pos 2) (pos 1000) (pos 1999) after_cut

pub demanded-later : Demand3 → (items : List Item) → Promised (run [] (start opened_later)) items
demanded-later d items = (d opened_later later-accepted [] items 0 (pos 2) (pos 1000) (pos 1999) []).0

-- a promise holds at every moment: also of a list that a cut has ended
pub demanded-down : Demand3 → Promised after_shared (cut length_left ∷ [])
demanded-down d = (d opened opened-accepted shared (cut length_left ∷ []) length_left (pos 2) (pos 1000) (pos 1999) []).0

-- every flushed prepare is completed by the list that is built
pub demanded-completing : Completing → (s : Coordinator) → after_shared.phase ≡ up s → AllCompleted after_shared (run (carry_each (orders_left s) after_shared) after_shared) (orders_left s)
demanded-completing c s e = c opened opened-accepted shared s e

-- in every run
pub demanded-admits : InEveryRun → AdmitsExactly after_shared
demanded-admits r = r.admits-exactly opened opened-accepted shared

pub demanded-reads : InEveryRun → ReadsCommitted after_shared
demanded-reads r = r.reads-committed opened opened-accepted shared

pub demanded-pids : InEveryRun → PidsOnce after_shared
demanded-pids r = r.pids-once opened opened-accepted shared

-- timeouts: at the moment when the transaction of the example is widened and flushed
pub demanded-times : Timeouts → (s : Coordinator) → after_widening.phase ≡ up s → (place : ℕ) → idle (row_at s.table place).status ≡ false
    → TimesInOrder s.clock (row_at s.table place)
demanded-times t s e = (t opened opened-accepted (items_of flushed) s e).in_order

pub demanded-ticks : Timeouts → (s : Coordinator) → after_widening.phase ≡ up s → (time : ℤ) → fits w64 time ≡ true
    → Ticks (max s.clock (to_nat time)) after_widening.history (answered (tick_call time) (record { state = s; log = after_widening.log }))
    (step (called own (tick_call time)) after_widening).history
demanded-ticks t s e = (t opened opened-accepted (items_of flushed) s e).ticks

pub demanded-in-time : Timeouts → (s : Coordinator) → after_widening.phase ≡ up s → (time : ℤ) → fits w64 time ≡ true
    → EndsInTime (max s.clock (to_nat time)) after_widening.history (answered (tick_call time) (record { state = s; log = after_widening.log }))
    (step (called own (tick_call time)) after_widening).history
demanded-in-time t s e = (t opened opened-accepted (items_of flushed) s e).ends-in-time

-- exactly that many orders: the display at the end of the shared list; the straight run from there, which is undisturbed; and after a cut there
pub demanded-display : ExactOrders → (s : Coordinator) → after_shared.phase ≡ up s → (place : ℕ) → left s place ≡ shown_at after_shared.history place
demanded-display r s e = r.shows opened opened-accepted shared s e

straight-undisturbed : Each (Undisturbed (catalogue_of after_shared).all) straight
unfolding open_leaders run collect collect_with_before ending_by records_of frames_of flushed_of words_of records_read find find_last filter ones overwrite same big_endian integer_bytes until_zero members name_byte name_run is_line line_at is_new catalogue_lines parse name_bytes key partition_bytes topic_entry topic_bytes topics_below count_below topics value frame first_where count_where sum_of first_refusal name_fits scan_within place_of lowest_free id_count reserved apply admits not_held log_full appended read_tests take_over_tests open_tests opening init_row init_tests init_row_tests init_accepted init all_joined add_row add_tests add_row_tests add_action add overdue overdue_place tick_tests tick_accepted tick flush_tests flush open_partition open_count partition_admits last_sequence next_sequence produced partition_full produce_tests produce_row_tests produce read_frame_within judged candidate well_formed valid_name fields_fit joined_fits start_fits integer_of number_from walk past topic_at name_stands partitions_at partitions_of partitions_below with_partition may_come succeeds first follows keeps may_follow_status initializes begins widens prepares_commit prepares_abort completes ack_tests ack_row_tests ack_action ack acknowledged end_fits end_tests end_row_tests end_action end ordered order_place order marker_tests closed marker_action marker oldest next_marker committed copy read_offset_tests read_answer read_out count_trailing_zeros
straight-undisturbed = (refl, (tt, (tt, tt)))

pub demanded-exactly : ExactOrders → Continued after_shared (run straight after_shared)
demanded-exactly r = r.continues opened opened-accepted shared straight straight-undisturbed

pub demanded-after-cut : ExactOrders → (n before : ℕ) → (after half_cut).phase ≡ down n before
    → let h = (step reopening (after half_cut)).history in
    Each (λ (p : Logged). not_acknowledged p h ≡ listed p) (pending_prepares h)
demanded-after-cut r n before e = r.none-after-cut opened opened-accepted half_cut n before (pos 2) (pos 1000) (pos 1999) e

-- demand 2: what the cut left is opened, and what was not opened could not have been written
module _ (d : Demand2) (log : List ℕ) (i : InOrder scan_text log length_left (pos 2) (pos 1000) (pos 1999)) where
  pub demanded-opened : Openable scan_text (take length_left log) left_records left_rest → (opening_reply scan_text log length_left (pos 2) (pos 1000) (pos 1999)).number ≡ 0
  demanded-opened o = (d.opened-iff scan_text log length_left (pos 2) (pos 1000) (pos 1999) i).1 (left_records, left_rest, o)

  pub demanded-bad : ((opening_reply scan_text log length_left (pos 2) (pos 1000) (pos 1999)).number ≡ 0 → ⊥) → (opening_reply scan_text log length_left (pos 2) (pos 1000) (pos 1999)).number ≡ 6
  demanded-bad f = d.else-bad scan_text log length_left (pos 2) (pos 1000) (pos 1999) i f

  pub demanded-written : (opening_reply scan_text log length_left (pos 2) (pos 1000) (pos 1999)).number ≡ 0 → (records : List Record) × (rest : List ℕ) × Openable scan_text (take length_left log) records rest
  demanded-written e = (d.opened-iff scan_text log length_left (pos 2) (pos 1000) (pos 1999) i).0 e

-- the offset of a bad frame, the opened table and its places
pub demanded-offset : Demand2 → (log : List ℕ) (offset : ℕ) → opening_reply scan_text log length_left (pos 2) (pos 1000) (pos 1999) ≡ record { number = 6; results = pos offset ∷ [] }
    → FirstBad scan_text (take length_left log) offset
demanded-offset d log offset = d.bad-offset scan_text log length_left offset (pos 2) (pos 1000) (pos 1999)

pub demanded-table : Demand2 → (log : List ℕ) → (opening_reply scan_text log length_left (pos 2) (pos 1000) (pos 1999)).number ≡ 0
    → Openable scan_text (take length_left log) left_records left_rest
    → ((opening scan_text log length_left (pos 2) (pos 1000) (pos 1999)).state ≡ taken_over (parse scan_text).catalogue (table_of (parse scan_text).catalogue left_records) (length log) (pos 2) (pos 1000) (pos 1999))
    × TableSays (parse scan_text).catalogue left_records (opening scan_text log length_left (pos 2) (pos 1000) (pos 1999)).state.table
demanded-table d log = d.table-says scan_text log length_left (pos 2) (pos 1000) (pos 1999) left_records left_rest

pub demanded-places : Demand2 → (log : List ℕ) → (opening_reply scan_text log length_left (pos 2) (pos 1000) (pos 1999)).number ≡ 0
    → Openable scan_text (take length_left log) left_records left_rest
    → PlacesByAppearance left_records (opening scan_text log length_left (pos 2) (pos 1000) (pos 1999)).state.table
demanded-places d log = d.places-appear scan_text log length_left (pos 2) (pos 1000) (pos 1999) left_records left_rest

-- of records that read back, the newest does
newest : (r : Record) (older : List Record) → Each (ReadsBack (parse scan_text).catalogue) (r ∷ older) → ReadsBack (parse scan_text).catalogue r
newest r older (here, rest) = here

-- what was written reads back, is written by the list that is made from it, and opens again
pub demanded-back : Demand2 → (r : Record) (older : List Record) → CouldWrite scan_text (r ∷ older) → (at : ℕ) (more : List ℕ)
    → read_frame (parse scan_text).catalogue at (frame (parse scan_text).catalogue r ++ more) ≡ whole (at + length (frame (parse scan_text).catalogue r)) r
demanded-back d r older w = newest r older (d.reads-back scan_text (r ∷ older) w)

pub demanded-steps : Demand2 → CouldWrite scan_text left_records
    → take (log_end (written_by scan_text left_records).state) (written_by scan_text left_records).log ≡ frames_of (parse scan_text).catalogue left_records
demanded-steps d = d.by-steps scan_text left_records

pub demanded-again : Demand2 → (n : ℕ) (o : AcceptedOpening scan_text n) → OpensAgain scan_text (writes scan_text writer_items (writer_from scan_text n o))
demanded-again d n o = d.opens-again scan_text n o writer_items

-- demand 1: Order refuses nothing and Flush only with 7; a refusal leaves all as it was
pub demanded-order : Demand1 → (set : ℕ) (s : Server) → among (answer_of (order_call set) s).number (0 ∷ []) ≡ true
demanded-order d set s = d.numbered (order_call set) s

pub demanded-flush : Demand1 → (n : ℕ) (s : Server) → among (answer_of (call (flush_call n)) s).number (0 ∷ 7 ∷ []) ≡ true
demanded-flush d n s = d.numbered (call (flush_call n)) s

pub demanded-refused : Demand1 → (c : Call) (s : Server) → ((answer_of c s).number ≡ 0 → ⊥) → after_call c s ≡ s
demanded-refused d = d.unchanged

-- refusal 8, whatever comes before
pub demanded-lengths : Admitted → (log words out : List ℕ) (xs : List Next) → Admits (after_each xs (opened_with scan_text log 0 (pos 1) (pos 1000) (pos 1999) words out))
demanded-lengths a log words out = a.another-length scan_text log 0 (pos 1) (pos 1000) (pos 1999) words out

pub demanded-own : Admitted → (log words out : List ℕ) → (open_reply (opening scan_text log 0 (pos 1) (pos 1000) (pos 1999)).answer).number ≡ 0 → (calls : List Call) (c : Call)
    → (answer_of c (after_all calls (opened_with scan_text log 0 (pos 1) (pos 1000) (pos 1999) words out))).number ≡ 8
    → ⊥
demanded-own a log words out = a.own-length scan_text log 0 (pos 1) (pos 1000) (pos 1999) words out
