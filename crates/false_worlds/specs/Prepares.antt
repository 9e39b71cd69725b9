-- Worlds in which a flushed prepare is not kept, one for each way to lose it.
use Rattle.record.specs.declared.Status.TheVariants.{Begin, PrepareCommit, PrepareAbort, CompleteCommit, CompleteAbort}
use Rattle.runs.specs.History.{History}
use Rattle.false_worlds.specs.Histories.{record_at, record_of7, begun, then, followed}

pub data Lost : Type 0 where
  -- the record is gone, or stands with another verdict, pid, epoch, set or last update
  gone other_verdict other_pid other_epoch fewer_partitions other_update : Lost
  -- "Aborting a recovered prepare because its timeout has passed."; "000's commit steps end in COMPLETE_ABORT"; a BEGIN follows
  aborted_late completed_as_abort begun_again : Lost
  -- it is completed by another producer
  completed_by_pid completed_by_epoch : Lost

abbrev pub lost_in : Lost → History
lost_in gone = begun
lost_in other_verdict = then (record_of7 PrepareAbort 1000 0 3)
lost_in other_pid = then (record_of7 PrepareCommit 1001 0 3)
lost_in other_epoch = then (record_of7 PrepareCommit 1000 1 3)
lost_in fewer_partitions = then (record_of7 PrepareCommit 1000 0 1)
lost_in other_update = then (record_at PrepareCommit 1000 0 3 130)
lost_in aborted_late = followed (record_of7 PrepareAbort 1000 1 3)
lost_in completed_as_abort = followed (record_of7 CompleteAbort 1000 0 0)
lost_in begun_again = followed (record_of7 Begin 1000 0 3)
lost_in completed_by_pid = followed (record_of7 CompleteCommit 1001 0 0)
lost_in completed_by_epoch = followed (record_of7 CompleteCommit 1000 1 0)
