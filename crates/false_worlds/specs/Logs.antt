-- Worlds in which the log is not the history's, one for each way.
use Rattle.std.specs.Prelude.{[], ◌∷◌, pos, replicate}
use Rattle.record.specs.declared.Status.TheVariants.{Empty}
use Rattle.runs.specs.History.{record_appended, log_flushed, log_cut, log_opened}
use Rattle.runs.specs.World.{World, up, down, nothing}
use Rattle.false_worlds.specs.Histories.{record_of7, state, world_of}

pub data Disagrees : Type 0 where
  -- the bytes are not those of the record; the record ends elsewhere than its frame
  other_bytes other_end : Disagrees
  -- the state's log end or flushed length is not the history's: the bytes of a torn frame are taken as flushed
  shorter_end torn_flushed : Disagrees
  -- "in Flush … past the end"
  flushed_past : Disagrees
  -- a cut leaves less than the records, or another length than the history has
  cut_short cut_elsewhere : Disagrees

abbrev pub disagreeing : Disagrees → World
disagreeing other_bytes = world_of (replicate 53 0) (up (state [] 53 53 53)) [] nothing (log_flushed 53 ∷ record_appended (record_of7 Empty 1000 0 0) 53 ∷ [])
disagreeing other_end = world_of [] (up (state [] 54 54 54)) [] nothing (log_flushed 54 ∷ record_appended (record_of7 Empty 1000 0 0) 54 ∷ [])
disagreeing shorter_end = world_of [] (up (state [] 0 0 53)) [] nothing (record_appended (record_of7 Empty 1000 0 0) 53 ∷ [])
disagreeing torn_flushed =
    world_of [] (up (state [] 53 60 100)) [] nothing (log_opened (pos 2) ∷ log_cut 60 ∷ log_flushed 53 ∷ record_appended (record_of7 Empty 1000 0 0) 53 ∷ [])
disagreeing flushed_past = world_of [] (up (state [] 53 54 54)) [] nothing (log_flushed 54 ∷ record_appended (record_of7 Empty 1000 0 0) 53 ∷ [])
disagreeing cut_short = world_of [] (down 50 1) [] nothing (log_flushed 50 ∷ record_appended (record_of7 Empty 1000 0 0) 53 ∷ [])
disagreeing cut_elsewhere = world_of [] (down 60 1) [] nothing (log_cut 53 ∷ record_appended (record_of7 Empty 1000 0 0) 53 ∷ [])
