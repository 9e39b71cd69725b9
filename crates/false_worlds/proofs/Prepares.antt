-- In none of these worlds is the prepare kept.
use mathlib.Core.Path.{refl, ap}
use lib.IntN.{pos}
use Rattle.numbers.specs.Bytes.{same}
use mathlib.Core.List.{[]}
use Rattle.search.specs.Search.{find, find_last, filter}
use Rattle.record.specs.declared.Record.{Record}
use Rattle.runs.specs.History.{records_of, flushed_of}
use Rattle.runs.specs.World.{run}
use Rattle.runs.specs.Demand3.{Kept, Promised}
use Rattle.false_worlds.specs.Histories.{prepare, with_history}
use Rattle.false_worlds.specs.Prepares.{Lost, gone, other_verdict, other_pid, other_epoch, fewer_partitions, other_update, aborted_late, completed_as_abort, begun_again, completed_by_pid, completed_by_epoch, lost_in}
use Rattle.false_worlds.proofs.Differ.{differ, differ-signed}

pub not-kept : (x : Lost) → Kept (with_history (lost_in x)) prepare → ⊥
unfolding find find_last records_of same
not-kept gone = λ k. k.stands
not-kept other_verdict = λ k. differ 3 2 refl refl k.stands.verdict
not-kept other_pid = λ k. differ-signed (pos 1001) (pos 1000) refl refl k.stands.pid
not-kept other_epoch = λ k. differ-signed (pos 1) (pos 0) refl refl k.stands.epoch
not-kept fewer_partitions = λ k. differ 1 3 refl refl k.stands.partitions
not-kept other_update = λ k. differ-signed (pos 130) (pos 120) refl refl (ap (λ (r : Record). r.updated) k.stands.unchanged)
not-kept aborted_late = λ k. differ 3 4 refl refl k.next.status
not-kept completed_as_abort = λ k. differ 5 4 refl refl k.next.status
not-kept begun_again = λ k. differ 1 4 refl refl k.next.status
not-kept completed_by_pid = λ k. differ-signed (pos 1001) (pos 1000) refl refl k.next.pid
not-kept completed_by_epoch = λ k. differ-signed (pos 1) (pos 0) refl refl k.next.epoch

-- at the end of a list a prepare that was flushed then is to be kept: not if another record has overtaken it
pub not-promised : Promised (with_history (lost_in aborted_late)) [] → ⊥
unfolding run filter find find_last records_of flushed_of same
not-promised = λ p. let (here, rest) = p.kept in differ 3 4 refl refl here.next.status

-- the same of one that was completed by then: not if another pid has completed it
pub completed-not-promised : Promised (with_history (lost_in completed_by_pid)) [] → ⊥
unfolding run filter find find_last records_of flushed_of same
completed-not-promised = λ p. let (here, rest) = p.kept in differ-signed (pos 1001) (pos 1000) refl refl here.next.pid
