-- For each set flag of the table of status moves an accepted log and a record that may come next in it, computed from the log's bytes.
use Prim.Native.Nat.{ℕ}
use mathlib.Core.Path.{◌≡◌, refl}
use mathlib.Core.Bool.{Bool, cond, not, ◌&&◌, ◌||◌, true}
use mathlib.Core.List.{List, [], ◌∷◌, ◌++◌}
use lib.Count.{ones, count_trailing_zeros}
use lib.Dec.{eqb}
use lib.IntN.{ℤ, pos, negsuc}
use lib.ListN.{length, replicate}
use Rattle.numbers.specs.Ascii.{ascii}
use Rattle.numbers.specs.Bytes.{overwrite, same}
use Rattle.numbers.specs.Integers.{big_endian, integer_bytes, integer_of, number_from}
use Rattle.numbers.specs.Padded.{until_zero, padded}
use Rattle.bits.specs.Bits.{members}
use Rattle.catalogue.specs.Catalogue.{name_byte, name_run, is_line, line_at, is_new, lines as catalogue_lines, parse}
use Rattle.catalogue.specs.declared.Catalogue.{Catalogue}
use Rattle.record.specs.Frame.{key, partition_bytes, topic_entry, topic_bytes, topics_below, count_below, topics, value, frame}
use Rattle.record.specs.Limits.{name_max}
use Rattle.record.specs.Reading.{candidate, judged, read_frame_within}
use Rattle.record.specs.Record.{status_code, idle, every_status, name_bytes, name_fits, valid_name, joined_fits, start_fits, fields_fit, well_formed}
use Rattle.record.specs.Topics.{with_partition, partitions_below, partitions_of, partitions_at, name_stands, topic_at, past, walk}
use Rattle.record.specs.declared.Record.{Record}
use Rattle.record.specs.declared.Status.{Status}
use Rattle.record.specs.declared.Status.TheVariants.{Empty, Begin, PrepareCommit, PrepareAbort, CompleteCommit, CompleteAbort}
use Rattle.search.specs.Search.{first_where, count_where, sum_of}
use Rattle.answers.specs.Refusals.{first_refusal}
use Rattle.succession.specs.Moves.{may_follow_status, move_flag}
use Rattle.succession.specs.Succession.{first, initializes, begins, widens, prepares_commit, prepares_abort, completes, keeps, follows}
use Rattle.table.specs.Limits.{reserve}
use Rattle.table.specs.Next.{succeeds, may_come}
use Rattle.table.specs.Table.{place_of, lowest_free, holds, reserved, apply}
use Rattle.log_reader.specs.Read.{read_tests}
use Rattle.log_reader.specs.Records.{frames_of}
use Rattle.log_reader.specs.Scan.{scan_within}
use Rattle.coordinator.specs.Open.{take_over_tests, open_tests, opening}
use Rattle.coordinator.specs.Calls.{Writer}
use Rattle.writable_logs.specs.Writer.{opening_reply, opened}
use Rattle.status_moves.specs.StatusMoves.{held_status}

-- ---- a log for each status, and a record for each new status

-- a topic with two partitions
abbrev pub sample_text : List ℕ
sample_text = ascii "a\t2\n"

abbrev sample_catalogue : Catalogue
sample_catalogue = (parse sample_text).catalogue

-- a record of the name `A`
unfoldable pub sample : Status → (epoch joined : ℕ) (start : ℤ) → Record
sample status epoch joined start =
    record { name = padded name_max (ascii "A"); pid = pos 0; epoch = pos epoch; timeout = pos 1; status = status; joined = joined; updated = pos 0; start = start }

-- one of no transaction, and one of a transaction
unfoldable pub inactive : Status → (epoch : ℕ) → Record
inactive status epoch = sample status epoch 0 (negsuc 0)

unfoldable pub active : Status → (joined : ℕ) → Record
active status joined = sample status 0 joined (pos 0)

-- records, of which the newest comes first and has this status
unfoldable pub records : Status → List Record
records Empty = inactive Empty 0 ∷ []
records Begin = active Begin 1 ∷ inactive Empty 0 ∷ []
records PrepareCommit = active PrepareCommit 1 ∷ active Begin 1 ∷ inactive Empty 0 ∷ []
records PrepareAbort = active PrepareAbort 1 ∷ active Begin 1 ∷ inactive Empty 0 ∷ []
records CompleteCommit = inactive CompleteCommit 0 ∷ active PrepareCommit 1 ∷ active Begin 1 ∷ inactive Empty 0 ∷ []
records CompleteAbort = inactive CompleteAbort 0 ∷ active PrepareAbort 1 ∷ active Begin 1 ∷ inactive Empty 0 ∷ []

-- the length of their log, and their log in a buffer with the reserve of a transaction
unfoldable pub log_length : Status → ℕ
log_length held = length (frames_of sample_catalogue (records held))

unfoldable pub log_buffer : Status → List ℕ
log_buffer held = frames_of sample_catalogue (records held) ++ replicate reserve 0

-- what comes next in a status: an Init raises the epoch, and a BEGIN has partition 0, or both where partition 0 is joined
unfoldable pub successor : (held new : Status) → Record
successor held Empty = inactive Empty 1
successor held Begin = active Begin (cond (idle held) 1 3)
successor held PrepareCommit = active PrepareCommit 1
successor held PrepareAbort = active PrepareAbort 1
successor held CompleteCommit = inactive CompleteCommit 0
successor held CompleteAbort = inactive CompleteAbort 0

-- ---- what the opening of the log says

unfoldable pub opened_log : Status → Writer
opened_log held = opened sample_text (log_buffer held) (log_length held) (pos 0) (pos 0) (pos 0)

unfoldable pub accepts : Status → Bool
accepts held = eqb (opening_reply sample_text (log_buffer held) (log_length held) (pos 0) (pos 0) (pos 0)).number 0

-- whether the log is accepted and the record may come next in it
unfoldable pub shows : (held new : Status) → Bool
shows held new =
    let t = (opened_log held).state.table in
    let next = successor held new in
    accepts held && holds t next.name && eqb (held_status t next.name) (status_code held) && well_formed sample_catalogue next && may_come t next

-- where a flag is set it does, and where it does the flag is set
abbrev pub set_is_shown : (held new : Status) → Bool
set_is_shown held new = not (move_flag (status_code held) (status_code new)) || shows held new

abbrev shown_is_set : (held new : Status) → Bool
shown_is_set held new = not (shows held new) || move_flag (status_code held) (status_code new)

-- each computed over the whole table
pub set-shown : every_status (λ held. every_status (set_is_shown held)) ≡ true
unfolding ones overwrite same big_endian integer_bytes until_zero members name_byte name_run is_line line_at is_new catalogue_lines parse name_bytes key partition_bytes topic_entry topic_bytes topics_below count_below topics value frame frames_of first_where count_where sum_of first_refusal name_fits scan_within place_of lowest_free reserved apply read_tests take_over_tests open_tests opening read_frame_within judged candidate well_formed valid_name fields_fit joined_fits start_fits integer_of number_from walk past topic_at name_stands partitions_at partitions_of partitions_below with_partition may_come succeeds first follows keeps may_follow_status initializes begins widens prepares_commit prepares_abort completes count_trailing_zeros sample inactive active records log_length log_buffer successor opened_log accepts shows
set-shown = refl

pub shown-set : every_status (λ held. every_status (shown_is_set held)) ≡ true
unfolding ones overwrite same big_endian integer_bytes until_zero members name_byte name_run is_line line_at is_new catalogue_lines parse name_bytes key partition_bytes topic_entry topic_bytes topics_below count_below topics value frame frames_of first_where count_where sum_of first_refusal name_fits scan_within place_of lowest_free reserved apply read_tests take_over_tests open_tests opening read_frame_within judged candidate well_formed valid_name fields_fit joined_fits start_fits integer_of number_from walk past topic_at name_stands partitions_at partitions_of partitions_below with_partition may_come succeeds first follows keeps may_follow_status initializes begins widens prepares_commit prepares_abort completes count_trailing_zeros sample inactive active records log_length log_buffer successor opened_log accepts shows
shown-set = refl
