-- Which place is due after a widening, by the histories of the example runs.
use mathlib.Core.Path.{◌≡◌, refl}
use lib.Count.{ones, count_trailing_zeros}
use Rattle.numbers.specs.Bytes.{overwrite, same}
use Rattle.numbers.specs.Integers.{big_endian, integer_bytes, integer_of, number_from}
use Rattle.numbers.specs.Padded.{until_zero}
use Rattle.bits.specs.Bits.{members}
use Rattle.catalogue.specs.Catalogue.{name_byte, name_run, is_line, line_at, is_new, lines as catalogue_lines, parse}
use Rattle.record.specs.Record.{name_bytes, name_fits, valid_name, joined_fits, start_fits, fields_fit, well_formed}
use Rattle.record.specs.Frame.{key, partition_bytes, topic_entry, topic_bytes, topics_below, count_below, topics, value, frame}
use Rattle.record.specs.Topics.{with_partition, partitions_below, partitions_of, partitions_at, name_stands, topic_at, past, walk}
use Rattle.record.specs.Reading.{candidate, judged, read_frame_within}
use Rattle.succession.specs.Moves.{may_follow_status}
use Rattle.succession.specs.Succession.{first, initializes, begins, widens, prepares_commit, prepares_abort, completes, keeps, follows}
use Rattle.search.specs.Search.{first_where, count_where, sum_of, find, find_last, filter}
use Rattle.answers.specs.Refusals.{first_refusal}
use Rattle.table.specs.Next.{succeeds, may_come}
use Rattle.log_reader.specs.Read.{read_tests}
use Rattle.log_reader.specs.Scan.{scan_within}
use Rattle.table.specs.Table.{place_of, lowest_free, id_count, reserved, apply}
use Rattle.coordinator.specs.Coordinator.{admits, not_held, log_full, appended, acknowledged}
use Rattle.coordinator.specs.Open.{take_over_tests, open_tests, opening}
use Rattle.coordinator.specs.Init.{init_row, init_row_tests, init_tests, init_accepted, init}
use Rattle.coordinator.specs.Add.{all_joined, add_row, add_row_tests, add_tests, add_action, add}
use Rattle.coordinator.specs.Tick.{overdue, overdue_place, tick_tests, tick_accepted, tick}
use Rattle.coordinator.specs.Flush.{flush_tests, flush}
use Rattle.coordinator.specs.End.{end_fits, end_row_tests, end_tests, end_action, end}
use Rattle.coordinator.specs.Order.{ordered, order_place, order}
use Rattle.coordinator.specs.Ack.{ack_row_tests, ack_tests, ack_action, ack}
use Rattle.partition.specs.Partition.{open_partition, open_count, oldest, admits as partition_admits}
use Rattle.partition.specs.Marker.{marker_tests, closed, marker_action, marker}
use Rattle.partition.specs.Read.{next_marker, committed, copy, read_tests as read_offset_tests, read_answer, read_out}
use Rattle.partition.specs.Append.{last_sequence, next_sequence, produced, partition_full}
use Rattle.server.specs.Produce.{produce_row_tests, produce_tests, produce}
use Rattle.log_reader.specs.Records.{frames_of}
use Rattle.runs.specs.History.{collect, collect_with_before, ending_by, records_of, flushed_of, words_of}
use Rattle.runs.specs.World.{open_leaders, run, records_read}
use Rattle.writable_logs.specs.RecordsSay.{has_name, names_of}
use Rattle.runs.specs.Timeouts.{beginning_of}
use Rattle.run_examples.specs.Examples.{after}
use Rattle.run_examples.specs.Timeouts.{AfterWidening, not_flushed, short_flush, flushed, cut_behind, cut_inside, prepared, items_of, dues, expected_dues}

pub dues-hold : (x : AfterWidening) → dues (after (items_of x)).history ≡ expected_dues x
unfolding beginning_of has_name names_of open_leaders run collect collect_with_before ending_by records_of frames_of flushed_of words_of records_read find find_last filter ones overwrite same big_endian integer_bytes until_zero members name_byte name_run is_line line_at is_new catalogue_lines parse name_bytes key partition_bytes topic_entry topic_bytes topics_below count_below topics value frame first_where count_where sum_of first_refusal name_fits scan_within place_of lowest_free id_count reserved apply admits not_held log_full appended read_tests take_over_tests open_tests opening init_row init_tests init_row_tests init_accepted init all_joined add_row add_tests add_row_tests add_action add overdue overdue_place tick_tests tick_accepted tick flush_tests flush open_partition open_count partition_admits last_sequence next_sequence produced partition_full produce_tests produce_row_tests produce read_frame_within judged candidate well_formed valid_name fields_fit joined_fits start_fits integer_of number_from walk past topic_at name_stands partitions_at partitions_of partitions_below with_partition may_come succeeds first follows keeps may_follow_status initializes begins widens prepares_commit prepares_abort completes ack_tests ack_row_tests ack_action ack acknowledged end_fits end_tests end_row_tests end_action end ordered order_place order marker_tests closed marker_action marker oldest next_marker committed copy read_offset_tests read_answer read_out count_trailing_zeros
dues-hold not_flushed = refl
dues-hold short_flush = refl
dues-hold flushed = refl
dues-hold cut_behind = refl
dues-hold cut_inside = refl
dues-hold prepared = refl
