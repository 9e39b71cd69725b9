-- Every event that may come next (`MayBeNext`) keeps the invariant of a history (`HistoryInvariant`). Why, event by event:
-- The invariant speaks of the records that a cut leaves, for every cut from the flushed length on. What is left after a flush, a cut or an opening, some
-- cut left before it: these events need no argument of their own.
-- A record is appended only when the latest record of its name is flushed. So no cut takes an older record of a name and leaves a newer one, and each
-- entry belongs to one prepare: the one that has as many prepares of its name before it as stood in the log when the entry was written.
-- An entry is written only while the latest record of its name is a flushed BEGIN of its producer with its partition joined. Every cut leaves that
-- record, so at every cut the entry is open and its transaction begun.
-- A marker is written only for a flushed prepare that is its name's latest record, and only where an entry of its producer is open. No two names have
-- one pid, so every open entry of that producer there belongs to that prepare; from then on it stands under that prepare's verdict. None of them is open
-- any more, so no second marker is written for that prepare on that partition.
-- A complete record is appended only when nothing of its name is open, so every entry of a completed transaction stands under its prepare's verdict.
use mathlib.Core.List.{◌∷◌}
use Rattle.catalogue.specs.declared.Catalogue.{Catalogue}
use Rattle.runs.specs.History.{Event, record_appended, log_flushed, log_cut, log_opened, order_given, marker_written, order_carried, entry_written, History}
use Rattle.protocol.specs.HistoryInvariant.{HistoryInvariant}
use Rattle.protocol.specs.NextEvent.{MayBeNext}
use Rattle.protocol.proofs.WritesNothing.{carried_keeps, given-keeps, opened-keeps, cut_keeps, flush-keeps}
use Rattle.protocol.proofs.RecordAppended.{appended-keeps}
use Rattle.protocol.proofs.EntryWritten.{entry-keeps}
use Rattle.protocol.proofs.MarkerWritten.{marker-keeps}

module _ (c : Catalogue) (h : History) (t : HistoryInvariant c h) where
  pub next-keeps : (e : Event) → MayBeNext c h e → HistoryInvariant c (e ∷ h)
  next-keeps (record_appended r end) a = appended-keeps c h t r end a
  next-keeps (log_flushed n) a = flush-keeps c h t n a
  next-keeps (log_cut n) a = cut_keeps c h t n a
  next-keeps (log_opened epoch) a = opened-keeps c h t epoch a
  next-keeps (order_given o) a = given-keeps c h t o a
  next-keeps (marker_written o) a = marker-keeps c h t o a
  next-keeps (order_carried o) a = carried_keeps c h t o
  next-keeps (entry_written e) a = entry-keeps c h t e a
