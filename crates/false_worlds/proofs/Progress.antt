-- In none of these worlds is there progress; what disturbs a carrying, and what does not.
use mathlib.Core.Path.{refl}
use mathlib.Core.List.{[], ◌∷◌}
use lib.IntN.{pos}
use borrow.Author.Tests.{leb-true}
use lib.Count.{count_trailing_zeros}
use lib.Count.{ones}
use Rattle.numbers.specs.Bytes.{overwrite, same}
use Rattle.numbers.specs.Integers.{big_endian, integer_bytes}
use Rattle.numbers.specs.Padded.{until_zero}
use Rattle.bits.specs.Bits.{members}
use Rattle.catalogue.specs.Catalogue.{name_byte, name_run, is_line, line_at, is_new, lines as catalogue_lines, parse}
use Rattle.record.specs.Frame.{key, partition_bytes, topic_entry, topic_bytes, topics_below, count_below, topics, value, frame}
use Rattle.numbers.specs.Integers.{integer_of, number_from}
use Rattle.record.specs.Record.{name_bytes, name_fits, valid_name, joined_fits, start_fits, fields_fit, well_formed}
use Rattle.record.specs.Topics.{with_partition, partitions_below, partitions_of, partitions_at, name_stands, topic_at, past, walk}
use Rattle.record.specs.Reading.{candidate, judged, read_frame_within}
use Rattle.succession.specs.Moves.{may_follow_status}
use Rattle.succession.specs.Succession.{first, initializes, begins, widens, prepares_commit, prepares_abort, completes, keeps, follows}
use Rattle.search.specs.Search.{first_where, count_where, sum_of, find, find_last, filter}
use Rattle.answers.specs.Refusals.{first_refusal}
use Rattle.table.specs.Next.{succeeds, may_come}
use Rattle.table.specs.Table.{place_of, lowest_free, reserved, apply}
use Rattle.log_reader.specs.Read.{read_tests}
use Rattle.log_reader.specs.Records.{frames_of}
use Rattle.log_reader.specs.Scan.{scan_within}
use Rattle.coordinator.specs.Coordinator.{admits}
use Rattle.coordinator.specs.Open.{take_over_tests, open_tests, opening}
use Rattle.coordinator.specs.Order.{ordered, order_place, order}
use Rattle.coordinator.specs.Ack.{ack_row_tests, ack_tests, ack_action, ack}
use Rattle.partition.specs.Partition.{open_count, admits as partition_admits}
use Rattle.partition.specs.Marker.{marker_tests, closed, marker_action, marker}
use Rattle.runs.specs.History.{ending_by, records_of, flushed_of, collect}
use Rattle.runs.specs.World.{cut, run}
use Rattle.runs.specs.Completing.{AllCompleted}
use Rattle.runs.specs.Demand3.{OrdersGiven, CarryingAccepted, Undisturbed, CompletesInTime, Restarts, HoldsAt, Promised}
use Rattle.false_worlds.specs.Histories.{committing, with_history}
use Rattle.false_worlds.specs.Progress.{NoOrder, forgotten, taken_for_unflushed, taken_for_acknowledged, higher_place, without_order, NotAccepted, stale, fenced, ack_elsewhere, ack_unflushed, ack_down, not_accepted, notes_nothing, carries_it, NotAll, not_carried, not_completed, not_all, Disturbance, cut_between, partition_down, all_down, other_slice_delivered, other_slice_acknowledged, disturbing, NotDisturbing, called, lent_another, all_up, more_up, produced, read, delivered_own, acknowledged_own, reopened, not_disturbing, NoRestart, bad_log, too_little_room, past_buffer, no_restart}
use Rattle.false_worlds.proofs.Differ.{differ, fails}

pub no-order-given : (x : NoOrder) → OrdersGiven (without_order x).phase (without_order x) → ⊥
unfolding ones count_trailing_zeros same first_where count_where find find_last filter place_of ordered order_place order records_of flushed_of until_zero members name_byte name_run is_line line_at is_new catalogue_lines parse
no-order-given forgotten = λ (here, rest). here 3 refl
-- positions outside the catalogue may be up too
no-order-given taken_for_unflushed = λ (here, rest). here 7 refl
no-order-given taken_for_acknowledged = λ (here, rest). here 3 refl
no-order-given higher_place = λ (here, rest). fails (here 3 refl)

pub carrying-refused : (x : NotAccepted) → CarryingAccepted (not_accepted x).carrying (not_accepted x) → ⊥
unfolding same first_refusal count_where open_count partition_admits marker_tests closed marker_action marker sum_of reserved admits ack_row_tests ack_tests ack_action ack until_zero members name_byte name_run is_line line_at is_new catalogue_lines parse
carrying-refused stale = λ k. differ 21 0 refl refl k
carrying-refused fenced = λ k. differ 11 0 refl refl k
carrying-refused ack_elsewhere = λ k. differ 10 0 refl refl k
carrying-refused ack_unflushed = λ k. differ 12 0 refl refl k
carrying-refused ack_down = λ k. k

pub disturbed : (x : Disturbance) → Undisturbed 3 (disturbing x) → ⊥
disturbed cut_between = λ k. k
disturbed partition_down = λ k. fails k
disturbed all_down = λ k. fails k
disturbed other_slice_delivered = λ k. k
disturbed other_slice_acknowledged = λ k. k

pub undisturbed : (x : NotDisturbing) → Undisturbed 3 (not_disturbing x)
undisturbed called = tt
undisturbed lent_another = tt
undisturbed all_up = refl
undisturbed more_up = refl
undisturbed produced = tt
undisturbed read = tt
undisturbed delivered_own = tt
undisturbed acknowledged_own = tt
undisturbed reopened = tt

-- one order was carried for a prepare that lists one partition, and it is not completed
pub not-in-time : CompletesInTime notes_nothing carries_it → ⊥
unfolding run ones same first_refusal first_where count_where find find_last filter sum_of reserved admits ack_row_tests ack_tests ack_action ack records_of flushed_of collect until_zero members name_byte name_run is_line line_at is_new catalogue_lines parse
not-in-time = λ k. let (here, rest) = k (tt, tt) in fails (here (leb-true 1 1 refl))

pub not-restarting : (x : NoRestart) → Restarts (no_restart x).phase (no_restart x) → ⊥
unfolding frames_of read_frame_within judged candidate well_formed valid_name fields_fit joined_fits start_fits integer_of number_from walk past topic_at name_stands partitions_at partitions_of partitions_below with_partition may_come succeeds first follows keeps may_follow_status initializes begins widens prepares_commit prepares_abort completes name_bytes name_fits scan_within place_of lowest_free reserved apply read_tests take_over_tests open_tests opening first_refusal first_where count_where sum_of count_trailing_zeros ones overwrite same big_endian integer_bytes until_zero members name_byte name_run is_line line_at is_new catalogue_lines parse key partition_bytes topic_entry topic_bytes topics_below count_below topics value frame
not-restarting bad_log = λ k. differ 6 0 refl refl (k (pos 0) (pos 0) (pos 0) refl)
not-restarting too_little_room = λ k. differ 17 0 refl refl (k (pos 0) (pos 0) (pos 0) refl)
not-restarting past_buffer = λ k. differ 7 0 refl refl (k (pos 0) (pos 0) (pos 0) refl)

-- so demand 3 does not hold there
pub order-not-held : (x : NoOrder) → HoldsAt (without_order x) → ⊥
order-not-held x = λ h. no-order-given x h.orders-given

pub carrying-not-held : (x : NotAccepted) → HoldsAt (not_accepted x) → ⊥
carrying-not-held x = λ h. carrying-refused x h.carrying-accepted

pub restart-not-held : (x : NoRestart) → HoldsAt (no_restart x) → ⊥
restart-not-held x = λ h. not-restarting x h.restarts

pub time-not-promised : Promised notes_nothing carries_it → ⊥
time-not-promised = λ p. not-in-time p.completes-in-time

pub not-all-completed : (x : NotAll) → AllCompleted (with_history committing) (not_all x) 1 → ⊥
unfolding same find find_last filter records_of flushed_of collect
not-all-completed not_carried = λ k. differ 0 1 refl refl k.carried
not-all-completed not_completed = λ k. let (here, rest) = k.completed in fails here

-- a promise is for the end of the list: not if a cut below what was flushed takes the prepare
pub cut-not-promised : Promised (without_order taken_for_unflushed) (cut 120 ∷ []) → ⊥
unfolding run find find_last filter records_of ending_by flushed_of same
cut-not-promised = λ p. let (here, rest) = p.kept in here.stands

-- nor if what that cut leaves is past the buffer
pub end-not-promised : Promised (without_order taken_for_unflushed) (cut 120 ∷ []) → ⊥
unfolding frames_of read_frame_within judged candidate well_formed valid_name fields_fit joined_fits start_fits integer_of number_from walk past topic_at name_stands partitions_at partitions_of partitions_below with_partition may_come succeeds first follows keeps may_follow_status initializes begins widens prepares_commit prepares_abort completes name_bytes name_fits scan_within place_of lowest_free reserved apply read_tests take_over_tests open_tests opening first_refusal first_where count_where sum_of count_trailing_zeros ones overwrite same big_endian integer_bytes until_zero members name_byte name_run is_line line_at is_new catalogue_lines parse key partition_bytes topic_entry topic_bytes topics_below count_below topics value frame run
end-not-promised = λ p. differ 7 0 refl refl (p.holds.restarts (pos 0) (pos 0) (pos 0) refl)
