-- Histories in which a prepare completes after too few or too many orders, and displays that show another number than is left; beside them those that are right.
use Rattle.std.specs.Prelude.{ℕ, ◌≡◌, [], ◌∷◌, pos, replicate}
use Rattle.record.specs.declared.Status.TheVariants.{Begin, PrepareCommit, CompleteCommit}
use Rattle.row.specs.Row.{free_row}
use Rattle.row.specs.declared.Row.{Row}
use Rattle.coordinator.specs.Left.{left}
use Rattle.coordinator.specs.declared.Coordinator.{Coordinator}
use Rattle.runs.specs.History.{record_appended, log_flushed, log_cut, log_opened, order_carried, History, Logged}
use Rattle.runs.specs.World.{up, nothing, World}
use Rattle.runs.specs.ExactOrders.{shown_at, Exactly}
use Rattle.false_worlds.specs.Histories.{record_of7, begun, commits, committing, prepare, order7, state, row_in, world_of}

-- ---- histories of the prepare of both partitions, which is event 3

-- an order for it at this position is carried
abbrev carried : ℕ → History → History
carried position h = order_carried (order7 3 1000 0 0 position) ∷ h

-- it is completed
abbrev completed : History → History
completed h = record_appended (record_of7 CompleteCommit 1000 0 0) 260 ∷ h

-- a cut behind it, and then an opening
abbrev cut_behind : History → History
cut_behind h = log_cut 190 ∷ h

abbrev restarted : History → History
restarted h = log_opened (pos 2) ∷ cut_behind h

-- one of its partitions is acknowledged, and both
abbrev half : History
half = carried 0 committing

abbrev both : History
both = carried 1 half

-- its name begins anew and prepares again, which is event 9 and is flushed
abbrev again : History
again = log_flushed 380 ∷ record_appended commits 380 ∷ record_appended (record_of7 Begin 1000 0 3) 310 ∷ completed both

abbrev prepared_again : Logged
prepared_again = record { number = 9; content = commits; end = 380 }

-- ---- counts

-- a prepare, the history at one moment, and at a later one
pub record Count : Type 0 where
  pub of : Logged
  pub earlier : History
  pub later : History

abbrev pub IsExact : Count → Type 0
IsExact c = Exactly c.of c.earlier c.later

-- of the prepare of both partitions
abbrev from : History → History → Count
from earlier later = record { of = prepare; earlier = earlier; later = later }

pub data FalseCount : Type 0 where
  -- it completes with one partition not acknowledged; with none; one is missing, and an order for another record is carried
  one_early none_carried order_for_another : FalseCount
  -- it does not complete with the last order; with the last one left after half of them, as if all were counted
  one_late all_counted : FalseCount
  -- a position already acknowledged is offered again: two orders do not complete it, or it takes three
  offered_again completed_by_three : FalseCount
  -- an order for a position that is not its own is carried
  other_position : FalseCount
  -- it completes after a restart as if what was acknowledged before counted
  kept_over_cut : FalseCount
  -- all are acknowledged, and it is not completed
  nothing_left : FalseCount

abbrev pub false_count : FalseCount → Count
false_count one_early = from committing (completed half)
false_count none_carried = from committing (completed committing)
false_count order_for_another = from committing (completed (order_carried (order7 1 1000 0 0 1) ∷ half))
false_count one_late = from committing both
false_count all_counted = from half both
false_count offered_again = from committing (carried 0 half)
false_count completed_by_three = from committing (completed (carried 1 (carried 0 half)))
false_count other_position = from committing (carried 5 committing)
false_count kept_over_cut = from (restarted half) (completed (carried 1 (restarted half)))
false_count nothing_left = from both both

pub data TrueCount : Type 0 where
  -- nothing comes; the first order is carried; both are, and it completes; it has completed, and its name prepares again
  at_once after_one after_both afterwards : TrueCount
  -- half of it is acknowledged, and the other half comes
  from_half : TrueCount
  -- after a cut, and after the opening, both are carried anew
  from_cut from_opening : TrueCount
  -- the next prepare of its name, of which nothing is acknowledged
  next_prepare : TrueCount

abbrev pub true_count : TrueCount → Count
true_count at_once = from committing committing
true_count after_one = from committing half
true_count after_both = from committing (completed both)
true_count afterwards = from committing again
true_count from_half = from half (completed both)
true_count from_cut = from (cut_behind half) (completed (carried 1 (carried 0 (restarted half))))
true_count from_opening = from (restarted half) (completed (carried 1 (carried 0 (restarted half))))
true_count next_prepare = record { of = prepared_again; earlier = again; later = again }

-- ---- displays

-- the row of place 0, the history, and the place that is asked for
pub record Display : Type 0 where
  pub row : Row
  pub history : History
  pub place : ℕ

abbrev pub state_of : Display → Coordinator
state_of d = state (d.row ∷ replicate 31 free_row) 190 190 190

-- what the display shows of it is what the history says
abbrev pub IsShown : Display → Type 0
IsShown d = left (state_of d) d.place ≡ shown_at d.history d.place

-- a world with them
abbrev pub showing : Display → World
showing d = world_of [] (up (state_of d)) [] nothing d.history

-- of place 0
abbrev shows : Row → History → Display
shows row h = record { row = row; history = h; place = 0 }

pub data FalseDisplay : Type 0 where
  -- it counts all partitions; those that were acknowledged before a cut are missing; those of an earlier prepare of the name are
  shows_all keeps_over_cut keeps_over_prepare : FalseDisplay
  -- it shows a completed prepare; nothing of a prepare that is flushed, or appended
  shows_completed hides_flushed hides_appended : FalseDisplay
  -- it shows a BEGIN
  shows_begin : FalseDisplay

abbrev pub false_display : FalseDisplay → Display
false_display shows_all = shows (row_in PrepareCommit 3 0) half
false_display keeps_over_cut = shows (row_in PrepareCommit 3 1) (restarted half)
false_display keeps_over_prepare = shows (row_in PrepareCommit 3 1) again
false_display shows_completed = shows (row_in PrepareCommit 3 0) (completed both)
false_display hides_flushed = shows (row_in Begin 3 0) committing
false_display hides_appended = shows (row_in Begin 3 0) (record_appended commits 190 ∷ begun)
false_display shows_begin = shows (row_in PrepareCommit 3 0) begun

pub data TrueDisplay : Type 0 where
  -- BEGIN; a prepare that is appended, flushed, half acknowledged; completed
  of_begin of_appended of_flushed of_half of_completed : TrueDisplay
  -- a place that no name has; the first past the last
  of_no_name past_last : TrueDisplay

abbrev pub true_display : TrueDisplay → Display
true_display of_begin = shows (row_in Begin 3 0) begun
true_display of_appended = shows (row_in PrepareCommit 3 0) (record_appended commits 190 ∷ begun)
true_display of_flushed = shows (row_in PrepareCommit 3 0) committing
true_display of_half = shows (row_in PrepareCommit 3 1) half
true_display of_completed = shows (row_in CompleteCommit 0 0) (completed both)
true_display of_no_name = record { row = row_in PrepareCommit 3 0; history = committing; place = 1 }
true_display past_last = record { row = row_in PrepareCommit 3 0; history = committing; place = 32 }
