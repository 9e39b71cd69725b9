-- Worlds in which the partitions' words are not the history's, or an entry was let in that is not entitled, one for each way.
use Rattle.std.specs.Prelude.{ℕ, List, [], ◌∷◌, pos}
use Rattle.record.specs.declared.Status.TheVariants.{Empty, Begin}
use Rattle.runs.specs.History.{History, record_appended, log_flushed, log_opened, marker_written, entry_written}
use Rattle.runs.specs.World.{Leader, World, up, nothing}
use Rattle.coordinator.specs.Open.{blank_state}
use Rattle.false_worlds.specs.Histories.{record_of7, begun, committing, order7, entry7, leader_of, world_of, with_history}

pub data WrongWords : Type 0 where
  -- a Marker wrote COMMIT for an abort, or another epoch or coordinator epoch; no entry was written, one that nobody asked for, or one at another partition
  commit_for_abort other_marker_epoch other_coordinator nothing_written stray_entry elsewhere : WrongWords
  -- the payload or the sequence is another
  other_payload other_sequence : WrongWords

-- a leader whose only entry has these words
abbrev pub holding : List ℕ → Leader
holding words = leader_of words 1 [] 1

abbrev pub none : Leader
none = leader_of [] 0 [] 1

-- partition 0 and 1 of this history
abbrev pub words_in : Leader → Leader → History → World
words_in l m h = world_of [] (up blank_state) (l ∷ m ∷ []) nothing h

abbrev pub wrong_words : WrongWords → World
wrong_words commit_for_abort = words_in (holding (1000 ∷ 1 ∷ 1 ∷ 0 ∷ [])) none (marker_written (order7 3 1000 0 1 0) ∷ committing)
wrong_words other_marker_epoch = words_in (holding (1000 ∷ 1 ∷ 1 ∷ 0 ∷ [])) none (marker_written (order7 3 1000 1 0 0) ∷ committing)
wrong_words other_coordinator = words_in (holding (1000 ∷ 1 ∷ 2 ∷ 0 ∷ [])) none (marker_written (order7 3 1000 0 0 0) ∷ committing)
wrong_words nothing_written = words_in none none (entry_written (entry7 0 0 501 0) ∷ begun)
wrong_words stray_entry = words_in (holding (1000 ∷ 0 ∷ 0 ∷ 501 ∷ [])) none begun
wrong_words elsewhere = words_in none (holding (1000 ∷ 0 ∷ 0 ∷ 501 ∷ [])) (entry_written (entry7 0 0 501 0) ∷ begun)
wrong_words other_payload = words_in (holding (1000 ∷ 0 ∷ 0 ∷ 502 ∷ [])) none (entry_written (entry7 0 0 501 0) ∷ begun)
wrong_words other_sequence = words_in (holding (1000 ∷ 0 ∷ 1 ∷ 501 ∷ [])) none (entry_written (entry7 0 0 501 0) ∷ begun)

pub data NotEntitled : Type 0 where
  -- the name has no record; its latest is EMPTY, or a prepare
  no_name not_begun already_prepared : NotEntitled
  -- "Letting Produce in on a widened set that isn't flushed."
  widened_unflushed : NotEntitled
  -- the BEGIN is of another pid, of another epoch, or without that partition
  begin_of_pid begin_of_epoch not_joined : NotEntitled
  -- its offset is not the number of entries before it
  wrong_offset : NotEntitled

abbrev pub beginning : ℕ → ℕ → ℕ → History
beginning pid epoch joined = log_flushed 120 ∷ record_appended (record_of7 Begin pid epoch joined) 120 ∷ log_opened (pos 1) ∷ []

abbrev pub not_entitled : NotEntitled → World
not_entitled no_name = with_history (entry_written (entry7 0 0 501 0) ∷ log_opened (pos 1) ∷ [])
not_entitled not_begun = with_history (entry_written (entry7 0 0 501 0) ∷ log_flushed 53 ∷ record_appended (record_of7 Empty 1000 0 0) 53 ∷ log_opened (pos 1) ∷ [])
not_entitled already_prepared = with_history (entry_written (entry7 0 0 501 0) ∷ committing)
not_entitled widened_unflushed = with_history (entry_written (entry7 1 0 501 0) ∷ record_appended (record_of7 Begin 1000 0 3) 190 ∷ beginning 1000 0 1)
not_entitled begin_of_pid = with_history (entry_written (entry7 0 0 501 0) ∷ beginning 1001 0 3)
not_entitled begin_of_epoch = with_history (entry_written (entry7 0 0 501 0) ∷ beginning 1000 1 3)
not_entitled not_joined = with_history (entry_written (entry7 0 0 501 0) ∷ beginning 1000 0 2)
not_entitled wrong_offset = with_history (entry_written (entry7 0 0 501 1) ∷ begun)
