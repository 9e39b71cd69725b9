-- The history's definitions have these values, and the premise of progress is met by a run that completes something.
use Prim.Native.Nat.{ℕ, ◌+◌, ◌≤◌}
use mathlib.Core.List.{List, [], ◌∷◌, ◌++◌}
use borrow.Author.Tests.{leb-true}
use mathlib.Core.Path.{◌≡◌, refl}
use lib.Count.{ones, count_trailing_zeros}
use Rattle.numbers.specs.Bytes.{overwrite, same}
use Rattle.numbers.specs.Integers.{big_endian, integer_bytes, integer_of, number_from}
use Rattle.numbers.specs.Padded.{until_zero}
use Rattle.bits.specs.Bits.{members}
use Rattle.catalogue.specs.Catalogue.{name_byte, name_run, is_line, line_at, is_new, lines as catalogue_lines, parse}
use Rattle.record.specs.Record.{name_bytes, name_fits, valid_name, joined_fits, start_fits, fields_fit, well_formed}
use Rattle.record.specs.Frame.{key, partition_bytes, topic_entry, topic_bytes, topics_below, count_below, topics, value, frame}
use Rattle.record.specs.Topics.{with_partition, partitions_below, partitions_of, partitions_at, name_stands, topic_at, past, walk}
use Rattle.record.specs.Reading.{candidate, judged, read_frame_within}
use Rattle.succession.specs.Moves.{may_follow_status}
use Rattle.succession.specs.Succession.{first, initializes, begins, widens, prepares_commit, prepares_abort, completes, keeps, follows}
use Rattle.search.specs.Search.{first_where, count_where, sum_of, find, find_last, filter}
use Rattle.answers.specs.Refusals.{first_refusal}
use Rattle.table.specs.Next.{succeeds, may_come}
use Rattle.log_reader.specs.Read.{read_tests}
use Rattle.log_reader.specs.Scan.{scan_within}
use Rattle.table.specs.Table.{place_of, lowest_free, id_count, reserved, apply}
use Rattle.coordinator.specs.Coordinator.{admits, not_held, log_full, appended, acknowledged}
use Rattle.coordinator.specs.Open.{take_over_tests, open_tests, opening}
use Rattle.coordinator.specs.Init.{init_row, init_row_tests, init_tests, init_accepted, init}
use Rattle.coordinator.specs.Add.{all_joined, add_row, add_row_tests, add_tests, add_action, add}
use Rattle.coordinator.specs.Tick.{overdue, overdue_place, tick_tests, tick_accepted, tick}
use Rattle.coordinator.specs.Flush.{flush_tests, flush}
use Rattle.coordinator.specs.End.{end_fits, end_row_tests, end_tests, end_action, end}
use Rattle.coordinator.specs.Order.{ordered, order_place, order}
use Rattle.coordinator.specs.Ack.{ack_row_tests, ack_tests, ack_action, ack}
use Rattle.partition.specs.Partition.{open_partition, open_count, oldest, admits as partition_admits}
use Rattle.partition.specs.Marker.{marker_tests, closed, marker_action, marker}
use Rattle.partition.specs.Read.{next_marker, committed, copy, read_tests as read_offset_tests, read_answer, read_out}
use Rattle.partition.specs.Append.{last_sequence, next_sequence, produced, partition_full}
use Rattle.server.specs.Produce.{produce_row_tests, produce_tests, produce}
use Rattle.log_reader.specs.Records.{frames_of}
use Rattle.runs.specs.History.{collect, collect_with_before, ending_by, records_of, flushed_of, words_of}
use Rattle.runs.specs.World.{open_leaders, run, records_read}
use Rattle.runs.specs.History.{Logged, pending_prepares, is_completed, carried_for, listed}
use Rattle.runs.specs.World.{World, Item}
use Rattle.search.specs.Search.{Each}
use Rattle.runs.specs.Completing.{carry_each}
use Rattle.runs.specs.Demand3.{CompletesInTime}
use mathlib.Core.Bool.{true}
use Rattle.run_examples.specs.Runs.{carry, prepared, complete_lost, after_shared}
use Rattle.run_examples.specs.Examples.{after}
use Rattle.run_examples.specs.Values.{Moment, unflushed_prepare, short_flush, flushed_prepare, lost_prepare, second_transaction, orders_under_way, orders_of_both, both_completed, complete_cut, complete_lost_then, carried_again, items_to, left_at, expected_left, facts_of, expected_facts, PremiseMet}

pub facts-hold : (m : Moment) → facts_of (after (items_to m)).history ≡ expected_facts m
unfolding open_leaders run collect collect_with_before ending_by records_of frames_of flushed_of words_of records_read find find_last filter ones overwrite same big_endian integer_bytes until_zero members name_byte name_run is_line line_at is_new catalogue_lines parse name_bytes key partition_bytes topic_entry topic_bytes topics_below count_below topics value frame first_where count_where sum_of first_refusal name_fits scan_within place_of lowest_free id_count reserved apply admits not_held log_full appended read_tests take_over_tests open_tests opening init_row init_tests init_row_tests init_accepted init all_joined add_row add_tests add_row_tests add_action add overdue overdue_place tick_tests tick_accepted tick flush_tests flush open_partition open_count partition_admits last_sequence next_sequence produced partition_full produce_tests produce_row_tests produce read_frame_within judged candidate well_formed valid_name fields_fit joined_fits start_fits integer_of number_from walk past topic_at name_stands partitions_at partitions_of partitions_below with_partition may_come succeeds first follows keeps may_follow_status initializes begins widens prepares_commit prepares_abort completes ack_tests ack_row_tests ack_action ack acknowledged end_fits end_tests end_row_tests end_action end ordered order_place order marker_tests closed marker_action marker oldest next_marker committed copy read_offset_tests read_answer read_out count_trailing_zeros
facts-hold unflushed_prepare = refl
facts-hold short_flush = refl
facts-hold flushed_prepare = refl
facts-hold lost_prepare = refl
facts-hold second_transaction = refl
facts-hold orders_under_way = refl
facts-hold orders_of_both = refl
facts-hold both_completed = refl
facts-hold complete_cut = refl
facts-hold complete_lost_then = refl
facts-hold carried_again = refl

pub left-hold : (m : Moment) → left_at (after (items_to m)).phase ≡ expected_left m
unfolding open_leaders run collect collect_with_before ending_by records_of frames_of flushed_of words_of records_read find find_last filter ones overwrite same big_endian integer_bytes until_zero members name_byte name_run is_line line_at is_new catalogue_lines parse name_bytes key partition_bytes topic_entry topic_bytes topics_below count_below topics value frame first_where count_where sum_of first_refusal name_fits scan_within place_of lowest_free id_count reserved apply admits not_held log_full appended read_tests take_over_tests open_tests opening init_row init_tests init_row_tests init_accepted init all_joined add_row add_tests add_row_tests add_action add overdue overdue_place tick_tests tick_accepted tick flush_tests flush open_partition open_count partition_admits last_sequence next_sequence produced partition_full produce_tests produce_row_tests produce read_frame_within judged candidate well_formed valid_name fields_fit joined_fits start_fits integer_of number_from walk past topic_at name_stands partitions_at partitions_of partitions_below with_partition may_come succeeds first follows keeps may_follow_status initializes begins widens prepares_commit prepares_abort completes ack_tests ack_row_tests ack_action ack acknowledged end_fits end_tests end_row_tests end_action end ordered order_place order marker_tests closed marker_action marker oldest next_marker committed copy read_offset_tests read_answer read_out count_trailing_zeros
left-hold unflushed_prepare = refl
left-hold short_flush = refl
left-hold flushed_prepare = refl
left-hold lost_prepare = refl
left-hold second_transaction = refl
left-hold orders_under_way = refl
left-hold orders_of_both = refl
left-hold both_completed = refl
left-hold complete_cut = refl
left-hold complete_lost_then = refl
left-hold carried_again = refl

-- one of two is acknowledged
pub left-half : left_at after_shared.phase ≡ 1
unfolding open_leaders run collect collect_with_before ending_by records_of frames_of flushed_of words_of records_read find find_last filter ones overwrite same big_endian integer_bytes until_zero members name_byte name_run is_line line_at is_new catalogue_lines parse name_bytes key partition_bytes topic_entry topic_bytes topics_below count_below topics value frame first_where count_where sum_of first_refusal name_fits scan_within place_of lowest_free id_count reserved apply admits not_held log_full appended read_tests take_over_tests open_tests opening init_row init_tests init_row_tests init_accepted init all_joined add_row add_tests add_row_tests add_action add overdue overdue_place tick_tests tick_accepted tick flush_tests flush open_partition open_count partition_admits last_sequence next_sequence produced partition_full produce_tests produce_row_tests produce read_frame_within judged candidate well_formed valid_name fields_fit joined_fits start_fits integer_of number_from walk past topic_at name_stands partitions_at partitions_of partitions_below with_partition may_come succeeds first follows keeps may_follow_status initializes begins widens prepares_commit prepares_abort completes ack_tests ack_row_tests ack_action ack acknowledged end_fits end_tests end_row_tests end_action end ordered order_place order marker_tests closed marker_action marker oldest next_marker committed copy read_offset_tests read_answer read_out count_trailing_zeros
left-half = refl

-- the list that carries two orders, each by the number that its event has
pub carry-each-holds : carry_each 2 (after prepared) ≡ carry 9 ++ carry 12
unfolding carry_each open_leaders run collect collect_with_before ending_by records_of frames_of flushed_of words_of records_read find find_last filter ones overwrite same big_endian integer_bytes until_zero members name_byte name_run is_line line_at is_new catalogue_lines parse name_bytes key partition_bytes topic_entry topic_bytes topics_below count_below topics value frame first_where count_where sum_of first_refusal name_fits scan_within place_of lowest_free id_count reserved apply admits not_held log_full appended read_tests take_over_tests open_tests opening init_row init_tests init_row_tests init_accepted init all_joined add_row add_tests add_row_tests add_action add overdue overdue_place tick_tests tick_accepted tick flush_tests flush open_partition open_count partition_admits last_sequence next_sequence produced partition_full produce_tests produce_row_tests produce read_frame_within judged candidate well_formed valid_name fields_fit joined_fits start_fits integer_of number_from walk past topic_at name_stands partitions_at partitions_of partitions_below with_partition may_come succeeds first follows keeps may_follow_status initializes begins widens prepares_commit prepares_abort completes ack_tests ack_row_tests ack_action ack acknowledged end_fits end_tests end_row_tests end_action end ordered order_place order marker_tests closed marker_action marker oldest next_marker committed copy read_offset_tests read_answer read_out count_trailing_zeros
carry-each-holds = refl

-- a commit of two partitions, from the moment when its prepare is flushed
pub premise-met : PremiseMet (after prepared) (carry 9 ++ carry 12) 7
unfolding open_leaders run collect collect_with_before ending_by records_of frames_of flushed_of words_of records_read find find_last filter ones overwrite same big_endian integer_bytes until_zero members name_byte name_run is_line line_at is_new catalogue_lines parse name_bytes key partition_bytes topic_entry topic_bytes topics_below count_below topics value frame first_where count_where sum_of first_refusal name_fits scan_within place_of lowest_free id_count reserved apply admits not_held log_full appended read_tests take_over_tests open_tests opening init_row init_tests init_row_tests init_accepted init all_joined add_row add_tests add_row_tests add_action add overdue overdue_place tick_tests tick_accepted tick flush_tests flush open_partition open_count partition_admits last_sequence next_sequence produced partition_full produce_tests produce_row_tests produce read_frame_within judged candidate well_formed valid_name fields_fit joined_fits start_fits integer_of number_from walk past topic_at name_stands partitions_at partitions_of partitions_below with_partition may_come succeeds first follows keeps may_follow_status initializes begins widens prepares_commit prepares_abort completes ack_tests ack_row_tests ack_action ack acknowledged end_fits end_tests end_row_tests end_action end ordered order_place order marker_tests closed marker_action marker oldest next_marker committed copy read_offset_tests read_answer read_out count_trailing_zeros
premise-met = record { undisturbed = (refl, (tt, (tt, (refl, (tt, (tt, tt)))))); pending = refl; enough = (leb-true 2 2 refl, tt); completes = (refl, tt) }

-- the same after a cut that took the complete record: the orders carried before it do not count
pub premise-met-again : PremiseMet (after complete_lost) (carry 18 ++ carry 20) 7
unfolding open_leaders run collect collect_with_before ending_by records_of frames_of flushed_of words_of records_read find find_last filter ones overwrite same big_endian integer_bytes until_zero members name_byte name_run is_line line_at is_new catalogue_lines parse name_bytes key partition_bytes topic_entry topic_bytes topics_below count_below topics value frame first_where count_where sum_of first_refusal name_fits scan_within place_of lowest_free id_count reserved apply admits not_held log_full appended read_tests take_over_tests open_tests opening init_row init_tests init_row_tests init_accepted init all_joined add_row add_tests add_row_tests add_action add overdue overdue_place tick_tests tick_accepted tick flush_tests flush open_partition open_count partition_admits last_sequence next_sequence produced partition_full produce_tests produce_row_tests produce read_frame_within judged candidate well_formed valid_name fields_fit joined_fits start_fits integer_of number_from walk past topic_at name_stands partitions_at partitions_of partitions_below with_partition may_come succeeds first follows keeps may_follow_status initializes begins widens prepares_commit prepares_abort completes ack_tests ack_row_tests ack_action ack acknowledged end_fits end_tests end_row_tests end_action end ordered order_place order marker_tests closed marker_action marker oldest next_marker committed copy read_offset_tests read_answer read_out count_trailing_zeros
premise-met-again = record { undisturbed = (refl, (tt, (tt, (refl, (tt, (tt, tt)))))); pending = refl; enough = (leb-true 4 4 refl, tt); completes = (refl, tt) }

-- so the clause says of these runs that the prepare completes
pub in-time-says : (w : World) (items : List Item) (number : ℕ) → PremiseMet w items number → CompletesInTime w items
    → Each (λ (p : Logged). is_completed (run items w).history p ≡ true) (pending_prepares w.history)
in-time-says w items number m k = go (pending_prepares w.history) m.enough (k m.undisturbed)
  where
    go : (l : List Logged)
        → Each (λ (p : Logged). carried_for p w.history + listed p ≤ carried_for p (run items w).history) l
        → Each (λ (p : Logged). carried_for p w.history + listed p ≤ carried_for p (run items w).history → is_completed (run items w).history p ≡ true) l
        → Each (λ (p : Logged). is_completed (run items w).history p ≡ true) l
    go [] h f = tt
    go (p ∷ l) (h, hs) (f, fs) = (f h, go l hs fs)
