-- Worlds whose orders or markers are not for a flushed prepare, of another opening, or one too many, one for each way.
use Rattle.std.specs.Prelude.{[], ◌∷◌, pos}
use Rattle.record.specs.declared.Status.TheVariants.{CompleteCommit}
use Rattle.runs.specs.History.{Order, record_appended, log_cut, log_opened, order_given, marker_written, WithBefore}
use Rattle.runs.specs.World.{World}
use Rattle.false_worlds.specs.Histories.{record_of7, begun, commits, committing, followed, order7, with_history}

pub data Misordered : Type 0 where
  -- there is no such record; it is a BEGIN
  no_record not_prepared : Misordered
  -- "Giving an order once the prepare is appended, not flushed."
  unflushed : Misordered
  -- the prepare is completed already
  overtaken : Misordered
  -- another producer, verdict, or a partition outside the transaction
  order_of_pid order_of_epoch order_of_verdict outside : Misordered

-- the order, and the history when it is given
abbrev pub misordered : Misordered → WithBefore Order
misordered no_record = record { what = order7 7 1000 0 0 0; before = committing }
misordered not_prepared = record { what = order7 1 1000 0 0 0; before = begun }
misordered unflushed = record { what = order7 3 1000 0 0 0; before = record_appended commits 190 ∷ begun }
misordered overtaken = record { what = order7 3 1000 0 0 0; before = followed (record_of7 CompleteCommit 1000 0 0) }
misordered order_of_pid = record { what = order7 3 1001 0 0 0; before = committing }
misordered order_of_epoch = record { what = order7 3 1000 1 0 0; before = committing }
misordered order_of_verdict = record { what = order7 3 1000 0 1 0; before = committing }
misordered outside = record { what = order7 3 1000 0 0 2; before = committing }

-- it was given, or its marker written
abbrev pub given : WithBefore Order → World
given p = with_history (order_given p.what ∷ p.before)

abbrev pub marked : WithBefore Order → World
marked p = with_history (marker_written p.what ∷ p.before)

pub data OtherOpening : Type 0 where
  -- orders always carry 1; the coordinator epoch from before a cut is kept; one that no opening had
  always_one kept_from_before ahead : OtherOpening

-- an order with coordinator epoch 1 after these events
abbrev pub after_openings : OtherOpening → World
after_openings always_one = with_history (order_given (order7 0 1000 0 0 0) ∷ log_opened (pos 5) ∷ [])
after_openings kept_from_before = with_history (order_given (order7 3 1000 0 0 0) ∷ log_opened (pos 2) ∷ log_cut 190 ∷ committing)
after_openings ahead = with_history (order_given (order7 0 1000 0 0 0) ∷ log_opened (pos 0) ∷ [])

pub data Repeated : Type 0 where
  -- the same order's marker is written twice, or again for a second order after a cut
  marked_twice marked_again : Repeated

abbrev pub repeated : Repeated → World
repeated marked_twice = with_history (marker_written (order7 3 1000 0 0 0) ∷ marker_written (order7 3 1000 0 0 0) ∷ committing)
repeated marked_again =
    with_history (marker_written (order7 3 1000 0 0 1) ∷ log_opened (pos 2) ∷ log_cut 190 ∷ marker_written (order7 3 1000 0 0 0) ∷ marker_written (order7 3 1000 0 0 1) ∷ committing)
