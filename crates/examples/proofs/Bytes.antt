-- The frames and the buffers are these, byte for byte.
use mathlib.Core.Path.{◌≡◌, refl}
use mathlib.Core.List.{map}
use lib.Count.{ones, count_trailing_zeros}
use Rattle.numbers.specs.Bytes.{overwrite, same}
use Rattle.numbers.specs.Integers.{big_endian, integer_bytes, integer_of, number_from}
use Rattle.numbers.specs.Padded.{until_zero}
use Rattle.bits.specs.Bits.{members}
use Rattle.catalogue.specs.Catalogue.{name_byte, name_run, is_line, line_at, is_new, lines as catalogue_lines, parse}
use Rattle.record.specs.Record.{name_bytes, name_fits, valid_name, joined_fits, start_fits, fields_fit, well_formed}
use Rattle.record.specs.Frame.{key, partition_bytes, topic_entry, topic_bytes, topics_below, count_below, topics, value, frame}
use Rattle.record.specs.Topics.{with_partition, partitions_below, partitions_of, partitions_at, name_stands, topic_at, past, walk}
use Rattle.record.specs.Reading.{candidate, judged, read_frame_within}
use Rattle.succession.specs.Moves.{may_follow_status}
use Rattle.succession.specs.Succession.{first, initializes, begins, widens, prepares_commit, prepares_abort, completes, keeps, follows}
use Rattle.search.specs.Search.{first_where, count_where, sum_of}
use Rattle.answers.specs.Refusals.{first_refusal}
use Rattle.table.specs.Next.{succeeds, may_come}
use Rattle.log_reader.specs.Read.{read_tests}
use Rattle.log_reader.specs.Scan.{scan_within}
use Rattle.table.specs.Table.{place_of, lowest_free, id_count, reserved, apply}
use Rattle.coordinator.specs.Coordinator.{admits, not_held, log_full, appended, acknowledged}
use Rattle.coordinator.specs.Open.{take_over_tests, open_tests, opening}
use Rattle.coordinator.specs.Init.{init_row, init_row_tests, init_tests, init_accepted, init}
use Rattle.coordinator.specs.Add.{all_joined, add_row, add_row_tests, add_tests, add_action, add}
use Rattle.coordinator.specs.Tick.{overdue, overdue_place, tick_tests, tick_accepted, tick}
use Rattle.coordinator.specs.Flush.{flush_tests, flush}
use Rattle.coordinator.specs.End.{end_fits, end_row_tests, end_tests, end_action, end}
use Rattle.coordinator.specs.Order.{ordered, order_place, order}
use Rattle.coordinator.specs.Ack.{ack_row_tests, ack_tests, ack_action, ack}
use Rattle.partition.specs.Partition.{open_partition, open_count, oldest, admits as partition_admits}
use Rattle.partition.specs.Marker.{marker_tests, closed, marker_action, marker}
use Rattle.partition.specs.Read.{next_marker, committed, copy, read_tests as read_offset_tests, read_answer, read_out}
use Rattle.partition.specs.Append.{last_sequence, next_sequence, produced, partition_full}
use Rattle.server.specs.Produce.{produce_row_tests, produce_tests, produce}
use Rattle.server.specs.Lines.{after_all}
use Rattle.examples.specs.Starts.{frames_in_order}
use Rattle.examples.specs.BytesLines.{FrameLine, frame_then, frame_lines, buffers_then, buffers_expected, buffer_lines}

pub frames-hold : map frame_then frame_lines ≡ map (λ (l : FrameLine). l.bytes) frame_lines
unfolding frame_then big_endian integer_bytes until_zero members name_byte name_run is_line is_new catalogue_lines parse key partition_bytes topic_entry topic_bytes topics_below count_below topics value frame overwrite same
frames-hold = refl

pub buffers-hold : map buffers_then buffer_lines ≡ map buffers_expected buffer_lines
unfolding buffers_then after_all ones overwrite same big_endian integer_bytes until_zero members name_byte name_run is_line line_at is_new catalogue_lines parse name_bytes key partition_bytes topic_entry topic_bytes topics_below count_below topics value frame first_where count_where sum_of first_refusal name_fits scan_within place_of lowest_free id_count reserved apply admits not_held log_full appended read_tests take_over_tests open_tests opening init_row init_tests init_row_tests init_accepted init all_joined add_row add_tests add_row_tests add_action add overdue overdue_place tick_tests tick_accepted tick flush_tests flush open_partition open_count partition_admits last_sequence next_sequence produced partition_full produce_tests produce_row_tests produce read_frame_within judged candidate well_formed valid_name fields_fit joined_fits start_fits integer_of number_from walk past topic_at name_stands partitions_at partitions_of partitions_below with_partition may_come succeeds first follows keeps may_follow_status initializes begins widens prepares_commit prepares_abort completes ack_tests ack_row_tests ack_action ack acknowledged end_fits end_tests end_row_tests end_action end ordered order_place order marker_tests closed marker_action marker oldest next_marker committed copy read_offset_tests read_answer read_out count_trailing_zeros frames_in_order
buffers-hold = refl
