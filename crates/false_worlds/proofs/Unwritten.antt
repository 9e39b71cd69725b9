-- The server could not have written these records, no other offset is that of the first bad frame, and a buffer one byte short lacks its reserve.
use Prim.Native.Nat.{ℕ}
use mathlib.Core.Path.{◌≡◌, refl}
use mathlib.Core.Bool.{true}
use mathlib.Core.List.{List, []}
use native.Mathlib.Omega.{arith}
use lib.IntN.{pos}
use lib.ListN.{replicate, take}
use lib.Count.{ones}
use Rattle.numbers.specs.Bytes.{overwrite, same}
use Rattle.numbers.specs.Integers.{big_endian, integer_bytes, integer_of, number_from}
use Rattle.numbers.specs.Padded.{until_zero}
use Rattle.bits.specs.Bits.{members}
use Rattle.catalogue.specs.Catalogue.{name_byte, name_run, is_line, line_at, is_new, lines as catalogue_lines, parse}
use Rattle.record.specs.Frame.{key, partition_bytes, topic_entry, topic_bytes, topics_below, count_below, topics, value, frame}
use Rattle.record.specs.Record.{name_bytes, name_fits, valid_name, joined_fits, start_fits, fields_fit, well_formed}
use Rattle.record.specs.Topics.{with_partition, partitions_below, partitions_of, partitions_at, name_stands, topic_at, past, walk}
use Rattle.record.specs.Reading.{candidate, judged, read_frame_within}
use Rattle.record.specs.declared.Record.{Record}
use Rattle.search.specs.Search.{Each, first_where, sum_of, find}
use Rattle.answers.specs.Refusals.{first_refusal}
use Rattle.succession.specs.Moves.{may_follow_status}
use Rattle.succession.specs.Succession.{first, initializes, begins, widens, prepares_commit, prepares_abort, completes, keeps, follows}
use Rattle.table.specs.Next.{succeeds, may_come}
use Rattle.table.specs.Table.{place_of, lowest_free, reserved, apply}
use Rattle.log_reader.specs.Read.{read_tests}
use Rattle.log_reader.specs.Records.{frames_of, table_from, all_come}
use Rattle.log_reader.specs.Scan.{scan_within}
use Rattle.coordinator.specs.Coordinator.{log_end}
use Rattle.coordinator.specs.Open.{take_over_tests, open_tests, opening}
use Rattle.writable_logs.specs.Items.{items_for, room_for}
use Rattle.writable_logs.specs.RecordsSay.{has_name, names_of}
use Rattle.writable_logs.specs.Writer.{opening_reply, CouldWrite}
use Rattle.writable_logs.specs.Demand2.{Openable, InOrder, FirstBad, written_by}
use Rattle.writable_logs.proofs.CouldWrite.{could-write}
use Rattle.writable_logs.proofs.Demand2.{could-come, demand-2}
use Rattle.server.specs.Lines.{scan_text}
use Rattle.false_worlds.specs.Progress.{begin_log}
use Rattle.false_worlds.specs.Tables.{scans}
use Rattle.false_worlds.specs.Unwritten.{begins7, OutOfTurn, begin_first, not_prepared, other_verdict, other_set, same_again, pid_of_another, update_falls, out_of_turn, bad_second, OtherOffset, frame_before, made_up, frame_behind, logs_end, offset_of}
use Rattle.false_worlds.proofs.Differ.{differ, fails, above}

-- each record of these lists is well formed by itself
pub formed-by-itself : (x : OutOfTurn) → Each (λ (r : Record). well_formed scans r ≡ true) (out_of_turn x)
unfolding well_formed valid_name fields_fit joined_fits start_fits name_bytes name_fits ones overwrite same until_zero members name_byte name_run is_line line_at is_new catalogue_lines parse
formed-by-itself begin_first = (refl, tt)
formed-by-itself not_prepared = (refl, (refl, (refl, tt)))
formed-by-itself other_verdict = (refl, (refl, (refl, (refl, tt))))
formed-by-itself other_set = (refl, (refl, (refl, tt)))
formed-by-itself same_again = (refl, (refl, tt))
formed-by-itself pid_of_another = (refl, (refl, tt))
formed-by-itself update_falls = (refl, (refl, tt))

-- what the server could have written comes in succession, and these do not
pub not-in-turn : (x : OutOfTurn) → CouldWrite scan_text (out_of_turn x) → ⊥
unfolding all_come table_from frames_of apply lowest_free place_of first_where succeeds may_come may_follow_status first initializes begins widens prepares_commit prepares_abort completes keeps follows well_formed valid_name fields_fit joined_fits start_fits name_bytes name_fits ones overwrite same big_endian integer_bytes until_zero members name_byte name_run is_line line_at is_new catalogue_lines parse key partition_bytes topic_entry topic_bytes topics_below count_below topics value frame
not-in-turn begin_first = λ k. fails (could-come scan_text (out_of_turn begin_first) k)
not-in-turn not_prepared = λ k. fails (could-come scan_text (out_of_turn not_prepared) k)
not-in-turn other_verdict = λ k. fails (could-come scan_text (out_of_turn other_verdict) k)
not-in-turn other_set = λ k. fails (could-come scan_text (out_of_turn other_set) k)
not-in-turn same_again = λ k. fails (could-come scan_text (out_of_turn same_again) k)
not-in-turn pid_of_another = λ k. fails (could-come scan_text (out_of_turn pid_of_another) k)
not-in-turn update_falls = λ k. fails (could-come scan_text (out_of_turn update_falls) k)

-- so a log of their frames is not one that is opened
pub unwritten-not-openable : (x : OutOfTurn) → Openable scan_text (frames_of scans (out_of_turn x)) (out_of_turn x) [] → ⊥
unwritten-not-openable x = λ k. not-in-turn x k.written

-- an empty log is opened in the buffer of the list that is made from them
opening-accepted : (x : OutOfTurn) → (opening_reply scan_text (replicate (room_for (out_of_turn x)) 0) 0 (pos 0) (pos 0) (pos 0)).number ≡ 0
unfolding scan_within read_tests take_over_tests open_tests opening first_refusal sum_of reserved ones until_zero members name_byte name_run is_line line_at is_new catalogue_lines parse same
opening-accepted begin_first = refl
opening-accepted not_prepared = refl
opening-accepted other_verdict = refl
opening-accepted other_set = refl
opening-accepted same_again = refl
opening-accepted pid_of_another = refl
opening-accepted update_falls = refl

-- that list does not leave their frames: it would have written them
pub not-by-steps : (x : OutOfTurn)
    → take (log_end (written_by scan_text (out_of_turn x)).state) (written_by scan_text (out_of_turn x)).log ≡ frames_of scans (out_of_turn x)
    → ⊥
not-by-steps x = λ e.
    not-in-turn x
    (record {
      well-formed = formed-by-itself x;
      start =
          record {
            log = replicate (room_for (out_of_turn x)) 0;
            epoch = pos 0;
            first = pos 0;
            last = pos 0;
            typed = refl;
            accepted = opening-accepted x;
          };
      items = items_for scans (out_of_turn x);
      left = e;
    })

-- ---- the first bad frame

-- there is one offset only
one-offset : {text bytes : List ℕ} {a b : ℕ} → FirstBad text bytes a → FirstBad text bytes b → a ≡ b
one-offset x y =
    omega (arith, x.at, y.at, x.longest y.records y.written y.starts, y.longest x.records x.written x.starts)

-- and an opening answers it
pub bad-at-53 : FirstBad scan_text bad_second 53
unfolding frames_of scan_within read_tests take_over_tests open_tests opening first_refusal apply lowest_free place_of first_where succeeds may_come may_follow_status first initializes begins widens prepares_commit prepares_abort completes keeps follows read_frame_within judged candidate well_formed valid_name fields_fit joined_fits start_fits integer_of number_from walk past topic_at name_stands partitions_at partitions_of partitions_below with_partition name_bytes name_fits ones overwrite same big_endian integer_bytes until_zero members name_byte name_run is_line line_at is_new catalogue_lines parse key partition_bytes topic_entry topic_bytes topics_below count_below topics value frame
bad-at-53 = demand-2.bad-offset scan_text bad_second 159 53 (pos 1) (pos 1000) (pos 1999) refl

pub not-first-bad : (x : OtherOffset) → FirstBad scan_text bad_second (offset_of x) → ⊥
not-first-bad frame_before = λ k. differ 0 53 refl refl (one-offset k bad-at-53)
not-first-bad made_up = λ k. differ 60 53 refl refl (one-offset k bad-at-53)
not-first-bad frame_behind = λ k. differ 106 53 refl refl (one-offset k bad-at-53)
not-first-bad logs_end = λ k. differ 159 53 refl refl (one-offset k bad-at-53)

-- ---- the reserve

-- a BEGIN asks for 1,090 bytes behind the log's end, at 120; the buffer has 1,089
pub not-reserved : InOrder scan_text (begin_log 1089) 120 (pos 1) (pos 1000) (pos 1999) → ⊥
unfolding has_name names_of all_come table_from frames_of apply lowest_free place_of first_where find sum_of succeeds may_come may_follow_status first initializes begins widens prepares_commit prepares_abort completes keeps follows well_formed valid_name fields_fit joined_fits start_fits integer_of number_from name_bytes name_fits ones overwrite same big_endian integer_bytes until_zero members name_byte name_run is_line line_at is_new catalogue_lines parse key partition_bytes topic_entry topic_bytes topics_below count_below topics value frame
not-reserved k =
    above 1210 1209 refl (k.reserve begins7 [] (record { bytes-are = refl; written = could-write scan_text refl begins7 refl; torn = refl }))
