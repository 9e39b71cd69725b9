-- In none of these worlds does the log agree.
use mathlib.Core.Path.{refl}
use lib.Count.{ones}
use Rattle.numbers.specs.Bytes.{overwrite, same}
use Rattle.numbers.specs.Integers.{big_endian, integer_bytes}
use Rattle.numbers.specs.Padded.{until_zero}
use Rattle.bits.specs.Bits.{members}
use Rattle.catalogue.specs.Catalogue.{name_byte, name_run, is_line, line_at, is_new, lines as catalogue_lines, parse}
use Rattle.record.specs.Frame.{key, partition_bytes, topic_entry, topic_bytes, topics_below, count_below, topics, value, frame}
use lib.ListN.{take}
use Rattle.log_reader.specs.Records.{frames_of}
use Rattle.runs.specs.History.{ending_by, records_of, flushed_of, contents, log_records}
use Rattle.runs.specs.World.{catalogue_of}
use Rattle.runs.specs.Demand3.{LogAgrees, HoldsAt}
use Rattle.false_worlds.specs.Logs.{Disagrees, other_bytes, other_end, shorter_end, torn_flushed, flushed_past, cut_short, cut_elsewhere, disagreeing}
use Rattle.false_worlds.proofs.Differ.{differ, differ-lists, above}

pub log-disagrees : (x : Disagrees) → LogAgrees (disagreeing x) → ⊥
unfolding frames_of ending_by records_of flushed_of ones overwrite same big_endian integer_bytes until_zero members name_byte name_run is_line line_at is_new catalogue_lines parse key partition_bytes topic_entry topic_bytes topics_below count_below topics value frame
log-disagrees other_bytes =
    λ k. let w = disagreeing other_bytes in differ-lists (take 53 w.log) (frames_of (catalogue_of w) (contents (log_records w.history))) refl refl k.bytes
log-disagrees other_end = λ k. let (here, rest) = k.ends in differ 54 53 refl refl here
log-disagrees shorter_end = λ k. let (end, flushed, below) = k.lengths in differ 0 53 refl refl end
log-disagrees torn_flushed = λ k. let (end, flushed, below) = k.lengths in differ 60 53 refl refl flushed
log-disagrees flushed_past = λ k. let (end, flushed, below) = k.lengths in above 54 53 refl below
log-disagrees cut_short = λ k. let (below, left) = k.lengths in above 53 50 refl below
log-disagrees cut_elsewhere = λ k. let (below, left) = k.lengths in differ 60 53 refl refl left

-- so demand 3 does not hold there
pub log-not-held : (x : Disagrees) → HoldsAt (disagreeing x) → ⊥
log-not-held x = λ h. log-disagrees x h.log-agrees
