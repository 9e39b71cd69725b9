-- On these tables, logs and records the clauses of demand 2 are false.
use Prim.Native.Nat.{◌+◌}
use mathlib.Core.Path.{◌≡◌, refl, ap}
use mathlib.Core.List.{[], ◌∷◌, ◌++◌, map}
use lib.IntN.{pos}
use lib.ListN.{length, replicate}
use borrow.Author.Tests.{leb-true}
use lib.Count.{ones}
use Rattle.numbers.specs.Bytes.{overwrite, same}
use Rattle.numbers.specs.Integers.{big_endian, integer_bytes}
use Rattle.numbers.specs.Padded.{until_zero}
use Rattle.bits.specs.Bits.{members}
use Rattle.catalogue.specs.Catalogue.{name_byte, name_run, is_line, line_at, is_new, lines as catalogue_lines, parse}
use Rattle.record.specs.Frame.{key, partition_bytes, topic_entry, topic_bytes, topics_below, count_below, topics, value, frame}
use Rattle.record.specs.Limits.{name_max}
use Rattle.numbers.specs.Integers.{integer_of, number_from}
use Rattle.record.specs.Record.{name_bytes, name_fits, valid_name, joined_fits, start_fits, fields_fit, well_formed}
use Rattle.record.specs.Topics.{with_partition, partitions_below, partitions_of, partitions_at, name_stands, topic_at, past, walk}
use Rattle.record.specs.Reading.{FrameAt, candidate, judged, read_frame_within}
use Rattle.row.specs.Row.{is_begin}
use Rattle.row.specs.declared.Row.{Row}
use Rattle.search.specs.Search.{first_where, sum_of, find}
use Rattle.answers.specs.Answers.{open_reply}
use Rattle.answers.specs.Refusals.{first_refusal}
use Rattle.succession.specs.Moves.{may_follow_status}
use Rattle.succession.specs.Succession.{first, initializes, begins, widens, prepares_commit, prepares_abort, completes, keeps, follows}
use Rattle.table.specs.Next.{succeeds, may_come}
use Rattle.table.specs.Table.{place_of, lowest_free, reserved, apply}
use Rattle.log_reader.specs.Read.{read_tests}
use Rattle.log_reader.specs.Records.{frames_of}
use Rattle.log_reader.specs.Scan.{is_whole, scan_within}
use Rattle.coordinator.specs.Coordinator.{admits}
use Rattle.coordinator.specs.Open.{take_over_tests, open_tests, opening}
use Rattle.coordinator.specs.OpenedLog.{OpenedLog}
use Rattle.writable_logs.specs.RecordsSay.{has_name, names_of, reserve_of, greatest_update, pids_above, PlacesByAppearance, NumbersOf}
use Rattle.writable_logs.specs.Writer.{CouldWrite}
use Rattle.writable_logs.specs.Demand2.{Openable, InOrder, StartsWith, HoldsLatest, HoldsNoOther, ReadsBack, OpensAgain, TableSays}
use Rattle.server.specs.Lines.{scan_text, lab3}
use Rattle.false_worlds.specs.Histories.{name7}
use Rattle.false_worlds.specs.Tables.{scans, name3, empty7, begin7, empty3, both_records, Misplaced, swapped, from_the_end, place_twice, place_left_out, misplaced, Misnumbered, pid_given_again, old_update, torn_end, misnumbered, begun_records, NotLatest, first_record, other_log_end, taken_as_acknowledged, not_held, not_latest, older_forgotten, invented_name, Unreadable, timeout_zero, negative_pid, start_in_empty, set_in_empty, no_set_in_begin, partition_dropped, unreadable, NotOpenable, other_bytes, bad_rest, whole_rest, bytes_of, rest_of, records_in, OutOfOrder, no_catalogue, length_past, negative_epoch, negative_first, last_below_first, out_of_order, NotReopened, written_bad, not_following, too_little_room, other_slice, own_slice, not_reopened, Saying, sayings}
use Rattle.false_worlds.proofs.Differ.{differ, differ-lists, fails, passes, above}

pub not-by-appearance : (x : Misplaced) → PlacesByAppearance both_records (misplaced x) → ⊥
unfolding has_name names_of same
not-by-appearance swapped = λ k. let (here, rest) = k.held in differ-lists name3 name7 refl refl here
not-by-appearance from_the_end = λ k. let (here, rest) = k.held in differ-lists (replicate name_max 0) name7 refl refl here
not-by-appearance place_twice = λ k. fails (k.others 2 (leb-true 2 2 refl))
not-by-appearance place_left_out = λ k. let (here, more) = k.held in let (second, rest) = more in differ-lists (replicate name_max 0) name3 refl refl second

pub not-its-numbers : (x : Misnumbered) → NumbersOf scans both_records (misnumbered x) → ⊥
unfolding frames_of greatest_update pids_above ones overwrite same big_endian integer_bytes until_zero members name_byte name_run is_line line_at is_new catalogue_lines parse key partition_bytes topic_entry topic_bytes topics_below count_below topics value frame
not-its-numbers pid_given_again = λ k. differ 1001 1002 refl refl k.next
not-its-numbers old_update = λ k. differ 110 115 refl refl k.updated
not-its-numbers torn_end = λ k. differ 110 106 refl refl k.end

-- the BEGIN is the latest, and ends at 120
pub not-its-latest : (x : NotLatest) → HoldsLatest scans begun_records (not_latest x) → ⊥
unfolding frames_of first_where place_of ones overwrite same big_endian integer_bytes until_zero members name_byte name_run is_line line_at is_new catalogue_lines parse key partition_bytes topic_entry topic_bytes topics_below count_below topics value frame
not-its-latest first_record = λ k. fails (ap (λ (row : Row). is_begin row.status) (k [] (empty7 ∷ []) begin7 refl tt))
not-its-latest other_log_end = λ k. differ 119 120 refl refl (ap (λ (row : Row). row.end) (k [] (empty7 ∷ []) begin7 refl tt))
not-its-latest taken_as_acknowledged = λ k. differ 1 0 refl refl (ap (λ (row : Row). row.acknowledged) (k [] (empty7 ∷ []) begin7 refl tt))
not-its-latest not_held = λ k. fails (ap (λ (row : Row). is_begin row.status) (k [] (empty7 ∷ []) begin7 refl tt))

-- each name has its latest, not the newest of the log alone
pub older-not-latest : HoldsLatest scans (empty3 ∷ begun_records) older_forgotten → ⊥
unfolding frames_of first_where place_of ones overwrite same big_endian integer_bytes until_zero members name_byte name_run is_line line_at is_new catalogue_lines parse key partition_bytes topic_entry topic_bytes topics_below count_below topics value frame
older-not-latest = λ k. fails (ap (λ (row : Row). is_begin row.status) (k (empty3 ∷ []) (empty7 ∷ []) begin7 refl ((λ e. differ-lists name3 name7 refl refl e), tt)))

pub holds-another : HoldsNoOther begun_records invented_name → ⊥
unfolding first_where place_of same name_bytes name_fits
holds-another = λ k. passes (k lab3 refl ((λ e. differ-lists name7 name3 refl refl e), ((λ e. differ-lists name7 name3 refl refl e), tt)))

-- what the table of an opening says is all three
pub not-said : (x : NotLatest) → TableSays scans begun_records (not_latest x) → ⊥
not-said x = λ k. not-its-latest x k.latest

pub not-said-other : TableSays scans begun_records invented_name → ⊥
not-said-other = λ k. holds-another k.no_other

pub not-said-numbers : (x : Misnumbered) → TableSays scans both_records (misnumbered x) → ⊥
not-said-numbers x = λ k. not-its-numbers x k.numbers

pub not-read-back : (x : Unreadable) → ReadsBack scans (unreadable x) → ⊥
unfolding read_frame_within judged candidate well_formed valid_name fields_fit joined_fits start_fits integer_of number_from walk past topic_at name_stands partitions_at partitions_of partitions_below with_partition name_bytes name_fits ones overwrite same big_endian integer_bytes until_zero members name_byte name_run is_line line_at is_new catalogue_lines parse key partition_bytes topic_entry topic_bytes topics_below count_below topics value frame
not-read-back timeout_zero = λ k. fails (ap (λ (f : FrameAt). is_whole f.reading) (k 0 []))
not-read-back negative_pid = λ k. fails (ap (λ (f : FrameAt). is_whole f.reading) (k 0 []))
not-read-back start_in_empty = λ k. fails (ap (λ (f : FrameAt). is_whole f.reading) (k 0 []))
not-read-back set_in_empty = λ k. fails (ap (λ (f : FrameAt). is_whole f.reading) (k 0 []))
not-read-back no_set_in_begin = λ k. fails (ap (λ (f : FrameAt). is_whole f.reading) (k 0 []))
not-read-back partition_dropped = λ k. differ 1 5 refl refl (ap (λ (f : FrameAt). f.found.joined) (k 0 []))

-- nor is it a record that the server could have written
pub not_written : (x : Unreadable) → CouldWrite scan_text (unreadable x ∷ []) → ⊥
unfolding read_frame_within judged candidate well_formed valid_name fields_fit joined_fits start_fits integer_of number_from walk past topic_at name_stands partitions_at partitions_of partitions_below with_partition name_bytes name_fits ones overwrite same big_endian integer_bytes until_zero members name_byte name_run is_line line_at is_new catalogue_lines parse key partition_bytes topic_entry topic_bytes topics_below count_below topics value frame
not_written timeout_zero = λ k. let (here, rest) = k.well-formed in fails here
not_written negative_pid = λ k. let (here, rest) = k.well-formed in fails here
not_written start_in_empty = λ k. let (here, rest) = k.well-formed in fails here
not_written set_in_empty = λ k. let (here, rest) = k.well-formed in fails here
not_written no_set_in_begin = λ k. let (here, rest) = k.well-formed in fails here
not_written partition_dropped = λ k. let (here, rest) = k.well-formed in fails here

pub not-openable : (x : NotOpenable) → Openable scan_text (bytes_of x) (records_in x) (rest_of x) → ⊥
unfolding frames_of integer_of number_from ones overwrite same big_endian integer_bytes until_zero members name_byte name_run is_line line_at is_new catalogue_lines parse key partition_bytes topic_entry topic_bytes topics_below count_below topics value frame
not-openable other_bytes = λ k. differ-lists (replicate 53 0) (frames_of scans (empty7 ∷ []) ++ []) refl refl k.bytes-are
not-openable bad_rest = λ k. fails k.torn
not-openable whole_rest = λ k. fails k.torn

pub not-starting : StartsWith scans (replicate 53 0) (empty7 ∷ []) → ⊥
unfolding frames_of ones overwrite same big_endian integer_bytes until_zero members name_byte name_run is_line line_at is_new catalogue_lines parse key partition_bytes topic_entry topic_bytes topics_below count_below topics value frame
not-starting = λ k. differ-lists (replicate 53 0) (frames_of scans (empty7 ∷ [])) refl refl k

pub not-in-order : (x : OutOfOrder) → InOrder (out_of_order x).text (replicate 8 0) (out_of_order x).length (out_of_order x).epoch (out_of_order x).first (out_of_order x).last → ⊥
unfolding ones overwrite same big_endian integer_bytes until_zero members name_byte name_run is_line line_at is_new catalogue_lines parse key partition_bytes topic_entry topic_bytes topics_below count_below topics value frame
not-in-order no_catalogue = λ k. differ 5 0 refl refl k.catalogue
not-in-order length_past = λ k. above 9 8 refl k.log-length
not-in-order negative_epoch = λ k. passes k.numbers
not-in-order negative_first = λ k. passes k.numbers
not-in-order last_below_first = λ k. passes k.numbers

pub not-opening-again : (x : NotReopened) → OpensAgain scan_text (not_reopened x) → ⊥
unfolding frames_of sum_of reserved admits scan_within read_tests take_over_tests open_tests opening first_refusal first_where place_of lowest_free apply succeeds may_come may_follow_status first initializes begins widens prepares_commit prepares_abort completes keeps follows read_frame_within judged candidate well_formed valid_name fields_fit joined_fits start_fits integer_of number_from walk past topic_at name_stands partitions_at partitions_of partitions_below with_partition name_bytes name_fits ones overwrite same big_endian integer_bytes until_zero members name_byte name_run is_line line_at is_new catalogue_lines parse key partition_bytes topic_entry topic_bytes topics_below count_below topics value frame
not-opening-again written_bad = λ k.
    let e = k.opens 8 (pos 0) (pos 0) (pos 0) (leb-true 0 8 refl) (leb-true 8 8 refl) refl in
    differ 6 0 refl refl (ap (λ (o : OpenedLog). (open_reply o.answer).number) e)
not-opening-again not_following = λ k.
    let e = k.opens 173 (pos 0) (pos 0) (pos 0) (leb-true 173 173 refl) (leb-true 173 173 refl) refl in
    differ 6 0 refl refl (ap (λ (o : OpenedLog). (open_reply o.answer).number) e)
not-opening-again too_little_room = λ k.
    let e = k.opens 120 (pos 0) (pos 0) (pos 0) (leb-true 120 120 refl) (leb-true 120 120 refl) refl in
    differ 17 0 refl refl (ap (λ (o : OpenedLog). (open_reply o.answer).number) e)
not-opening-again other_slice = λ k. passes (k.admits-own 5)
not-opening-again own_slice = λ k. fails (k.admits-own 4)

-- what records say by themselves
pub sayings-hold : map (λ (l : Saying). record { names = names_of l.records; reserve = reserve_of l.records; updated = greatest_update l.records; next = pids_above l.records }) sayings
    ≡ map (λ (l : Saying). l.expected) sayings
unfolding has_name names_of greatest_update pids_above same find sum_of
sayings-hold = refl
