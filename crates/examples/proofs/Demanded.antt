-- What the statements of longer names, taken as premises, say without their helpers: a statement that is emptied, or has a further premise, fails here.
use Prim.Native.Nat.{ℕ, ◌+◌, ◌≤◌}
use mathlib.Core.Path.{◌≡◌, refl, ap}
use mathlib.Core.Bool.{Bool, true}
use mathlib.Core.List.{List, [], ◌∷◌, ◌++◌}
use native.Mathlib.Omega.{arith}
use lib.Count.{ones}
use lib.IntN.{ℤ, pos}
use lib.ListN.{replicate, drop}
use Rattle.numbers.specs.Bytes.{overwrite, same}
use Rattle.numbers.specs.Integers.{big_endian, integer_bytes, integer_of, number_from}
use Rattle.numbers.specs.Padded.{until_zero}
use Rattle.bits.specs.Bits.{members}
use Rattle.catalogue.specs.Catalogue.{name_byte, name_run, is_line, line_at, is_new, lines as catalogue_lines, parse}
use Rattle.record.specs.Record.{name_bytes, name_fits, valid_name, joined_fits, start_fits, fields_fit, well_formed}
use Rattle.record.specs.Frame.{key, partition_bytes, topic_entry, topic_bytes, topics_below, count_below, topics, value, frame}
use Rattle.record.specs.Topics.{with_partition, partitions_below, partitions_of, partitions_at, name_stands, topic_at, past, walk}
use Rattle.record.specs.Reading.{candidate, judged, read_frame_within}
use Rattle.succession.specs.Moves.{may_follow_status}
use Rattle.succession.specs.Succession.{first as is_first, initializes, begins, keeps, follows}
use Rattle.search.specs.Search.{first_where, count_where, sum_of}
use Rattle.answers.specs.Refusals.{first_refusal}
use Rattle.table.specs.Next.{succeeds, may_come}
use Rattle.log_reader.specs.Read.{read_tests}
use Rattle.log_reader.specs.Scan.{scan_within}
use Rattle.table.specs.Room.{begun_count, prepared_count}
use Rattle.table.specs.Table.{row_at, place_of, lowest_free, id_count, reserved, apply}
use Rattle.coordinator.specs.Coordinator.{log_end, row_of, admits, not_held, log_full, appended}
use Rattle.coordinator.specs.Open.{take_over_tests, open_tests, opening}
use Rattle.coordinator.specs.Init.{init_row, init_row_tests, init_tests, init_accepted, init}
use Rattle.coordinator.specs.Add.{all_joined, add_row, add_row_tests, add_tests, add_action, add}
use Rattle.coordinator.specs.Flush.{flush_tests, flush}
use Rattle.record.specs.Longest.{widest_text}
use Rattle.record.specs.declared.Status.TheVariants.{Begin, PrepareCommit, PrepareAbort}
use Rattle.row.specs.Row.{is_begin}
use Rattle.row.specs.declared.Row.{Row}
use Rattle.answers.specs.OpenAnswer.{Opened, Refused}
use Rattle.coordinator.specs.OlderLogs.{older_key_max, OpensWithin}
use Rattle.coordinator.specs.Calls.{init_call, end_call, tick_call, ack_call}
use Rattle.coordinator.specs.OpenedLog.{OpenedLog}
use Rattle.server.specs.Calls.{Server, call, answer_of}
use Rattle.server.specs.Admitted.{opened_with, Next, after_each}
use Rattle.server.specs.RoomToEnd.{RoomToEnd}
use Rattle.server.specs.Lines.{catalogue_text}
use Rattle.examples.specs.Starts.{frames_in_order}
use Rattle.examples.specs.OlderLog.{older_log, begins_longest, filled_up}

-- document 01: "So End, Tick, Ack never meet it.", nor Init in status 1
pub demanded-end : RoomToEnd → (name : List ℕ) (pid epoch : ℤ) (verdict : ℕ) (time : ℤ) (s : Server) → (answer_of (call (end_call name pid epoch verdict time)) s).number ≡ 17 → ⊥
demanded-end r name pid epoch verdict time s = r.never-17 (call (end_call name pid epoch verdict time)) s refl

pub demanded-tick : RoomToEnd → (time : ℤ) (s : Server) → (answer_of (call (tick_call time)) s).number ≡ 17 → ⊥
demanded-tick r time s = r.never-17 (call (tick_call time)) s refl

pub demanded-ack : RoomToEnd → (place : ℕ) (pid epoch : ℤ) (position : ℕ) (s : Server) → (answer_of (call (ack_call place pid epoch position)) s).number ≡ 17 → ⊥
demanded-ack r place pid epoch position s = r.never-17 (call (ack_call place pid epoch position)) s refl

pub demanded-init : RoomToEnd → (name : List ℕ) (timeout time : ℤ) (s : Server) → (row_of s.coordinator name).status ≡ Begin
    → (answer_of (call (init_call name timeout time)) s).number ≡ 17
    → ⊥
demanded-init r name timeout time s e = r.never-17 (call (init_call name timeout time)) s (ap is_begin e)

-- a row that passes is counted, wherever it stands
counted : (p : Row → Bool) (before after : List Row) (row : Row) → p row ≡ true → 1 ≤ count_where p (before ++ (row ∷ after))
unfolding count_where
counted p [] after row e = rw e (omega arith)
counted p (other ∷ before) after row e = omega (arith, counted p before after row e)

-- whatever comes before, 1,090 bytes are left for a BEGIN at any place
pub demanded-room : RoomToEnd → (text log : List ℕ) (n : ℕ) (epoch first last : ℤ) (words out : List ℕ) (xs : List Next) (before after : List Row) (row : Row) → let s = (after_each xs (opened_with text log n epoch first last words out)).coordinator in
    s.table.rows ≡ before ++ (row ∷ after) → row.status ≡ Begin → log_end s + 1090 ≤ s.room
demanded-room r text log n epoch first last words out xs before after row e b =
    let begun : 1 ≤ begun_count (after_each xs (opened_with text log n epoch first last words out)).coordinator.table = rw e (counted (λ (x : Row). is_begin x.status) before after row (ap is_begin b)) in
    omega (arith, begun, r.left text log n epoch first last words out xs)

-- and as much for each: for two of BEGIN and two prepares 3,270
pub demanded-room-each : RoomToEnd → (text log : List ℕ) (n : ℕ) (epoch first last : ℤ) (words out : List ℕ) (xs : List Next) (one two three four : Row) (rest : List Row) → let s = (after_each xs (opened_with text log n epoch first last words out)).coordinator in
    s.table.rows ≡ one ∷ two ∷ three ∷ four ∷ rest → one.status ≡ Begin → two.status ≡ Begin → three.status ≡ PrepareCommit → four.status ≡ PrepareAbort → log_end s + 3270 ≤ s.room
unfolding count_where
demanded-room-each r text log n epoch first last words out xs one two three four rest e b1 b2 p3 p4 =
    let begun : 2 ≤ begun_count (after_each xs (opened_with text log n epoch first last words out)).coordinator.table = rw (e, b1, b2, p3, p4) (omega arith) in
    let prepared : 2 ≤ prepared_count (after_each xs (opened_with text log n epoch first last words out)).coordinator.table = rw (e, b1, b2, p3, p4) (omega arith) in
    omega (arith, begun, prepared, r.left text log n epoch first last words out xs)

-- there are such calls, and these leave not a byte more
pub demanded-room-full : RoomToEnd → log_end filled_up + 1090 ≤ filled_up.room
unfolding after_each ones overwrite same big_endian integer_bytes until_zero members name_byte name_run is_line line_at is_new catalogue_lines parse name_bytes name_fits key partition_bytes topic_entry topic_bytes topics_below count_below topics value frame first_where count_where sum_of first_refusal scan_within place_of lowest_free id_count reserved apply admits not_held log_full appended read_tests take_over_tests open_tests opening init_row init_tests init_row_tests init_accepted init all_joined add_row add_tests add_row_tests add_action add flush_tests flush
demanded-room-full r = demanded-room r widest_text (replicate 1748 0) 0 (pos 1) (pos 1000) (pos 1999) [] [] begins_longest [] (drop 1 filled_up.table.rows) (row_at filled_up.table 0) refl refl

-- document 02, 1: "Older logs open if their buffer meets the larger reserve": with 1,090 bytes behind its end this one is opened, and with 1,089 it is refused
pub demanded-older : OpensWithin older_key_max → (opening catalogue_text (older_log 1090) 176 (pos 1) (pos 1000) (pos 1999)).answer ≡ Opened
unfolding ones overwrite same big_endian integer_bytes until_zero members name_byte name_run is_line line_at is_new catalogue_lines parse name_bytes name_fits valid_name joined_fits start_fits fields_fit well_formed key partition_bytes topic_entry topic_bytes topics_below count_below topics value frame with_partition partitions_below partitions_of partitions_at name_stands topic_at past walk integer_of number_from candidate judged read_frame_within may_follow_status is_first initializes begins follows keeps first_where count_where succeeds may_come scan_within place_of lowest_free apply frames_in_order
demanded-older d =
    ap (λ (o : OpenedLog). o.answer) (d.else-opened catalogue_text (older_log 1090) 176 (pos 1) (pos 1000) (pos 1999) (record { catalogue = refl; within = omega arith; accepted = refl; numbers = refl }) (omega arith))

pub demanded-no-room : OpensWithin older_key_max → (opening catalogue_text (older_log 1089) 176 (pos 1) (pos 1000) (pos 1999)).answer ≡ Refused 17
unfolding ones overwrite same big_endian integer_bytes until_zero members name_byte name_run is_line line_at is_new catalogue_lines parse name_bytes name_fits valid_name joined_fits start_fits fields_fit well_formed key partition_bytes topic_entry topic_bytes topics_below count_below topics value frame with_partition partitions_below partitions_of partitions_at name_stands topic_at past walk integer_of number_from candidate judged read_frame_within may_follow_status is_first initializes begins follows keeps first_where count_where succeeds may_come scan_within place_of lowest_free apply frames_in_order
demanded-no-room d =
    (d.no-room-iff catalogue_text (older_log 1089) 176 (pos 1) (pos 1000) (pos 1999) (record { catalogue = refl; within = omega arith; accepted = refl; numbers = refl })).1 (omega arith)
