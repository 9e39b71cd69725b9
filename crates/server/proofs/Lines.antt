-- T1 to T12 hold: one theorem over all lines of the table.
use mathlib.Core.Path.{◌≡◌, refl}
use mathlib.Core.List.{map}
use lib.Count.{ones}
use Rattle.numbers.specs.Bytes.{overwrite, same}
use Rattle.numbers.specs.Integers.{big_endian, integer_bytes}
use Rattle.numbers.specs.Padded.{until_zero}
use Rattle.bits.specs.Bits.{members}
use Rattle.catalogue.specs.Catalogue.{name_byte, name_run, is_line, line_at, is_new, lines as catalogue_lines, parse}
use Rattle.record.specs.Record.{name_bytes, name_fits}
use Rattle.record.specs.Frame.{key, partition_bytes, topic_entry, topic_bytes, topics_below, count_below, topics, value, frame}
use Rattle.search.specs.Search.{first_where, count_where, sum_of}
use Rattle.answers.specs.Refusals.{first_refusal}
use Rattle.log_reader.specs.Read.{read_tests}
use Rattle.log_reader.specs.Scan.{scan_within}
use Rattle.table.specs.Table.{place_of, lowest_free, id_count, reserved, apply}
use Rattle.coordinator.specs.Coordinator.{admits, not_held, log_full, appended}
use Rattle.coordinator.specs.Open.{take_over_tests, open_tests, opening}
use Rattle.coordinator.specs.Init.{init_row, init_row_tests, init_tests, init_accepted, init}
use Rattle.coordinator.specs.Add.{all_joined, add_row, add_row_tests, add_tests, add_action, add}
use Rattle.coordinator.specs.Tick.{overdue, overdue_place, tick_tests, tick_accepted, tick}
use Rattle.coordinator.specs.Flush.{flush_tests, flush}
use Rattle.partition.specs.Partition.{open_partition, open_count, admits as partition_admits}
use Rattle.partition.specs.Append.{last_sequence, next_sequence, produced, partition_full}
use Rattle.server.specs.Produce.{produce_row_tests, produce_tests, produce}
use Rattle.server.specs.Lines.{Line, outcome, after_all, lines}

-- document 01: "T1 to T12 are proved about the definitions together, as a table with a theorem over all its rows"
pub lines-hold : map outcome lines ≡ map (λ (l : Line). l.expected) lines
unfolding outcome after_all ones overwrite same big_endian integer_bytes until_zero members name_byte name_run is_line line_at is_new catalogue_lines parse name_bytes key partition_bytes topic_entry topic_bytes topics_below count_below topics value frame first_where count_where sum_of first_refusal name_fits scan_within place_of lowest_free id_count reserved apply admits not_held log_full appended read_tests take_over_tests open_tests opening init_row init_tests init_row_tests init_accepted init all_joined add_row add_tests add_row_tests add_action add overdue overdue_place tick_tests tick_accepted tick flush_tests flush open_partition open_count partition_admits last_sequence next_sequence produced partition_full produce_tests produce_row_tests produce
lines-hold = refl
