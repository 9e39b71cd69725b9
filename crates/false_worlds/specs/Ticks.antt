-- Ticks made by hand: those that `Ticks` must refuse, one for each way to get the timeout wrong, and two that it must admit; and rows whose times are not in order.
use Rattle.std.specs.Prelude.{ℕ, List, [], ◌∷◌, pos}
use Rattle.numbers.specs.Padded.{padded}
use Rattle.record.specs.Limits.{name_max}
use Rattle.record.specs.declared.Record.{Record}
use Rattle.record.specs.declared.Status.{Status}
use Rattle.record.specs.declared.Status.TheVariants.{Empty, Begin, PrepareCommit, PrepareAbort, CompleteCommit}
use Rattle.row.specs.declared.Row.{Row}
use Rattle.answers.specs.Answers.{Reply, accepted}
use Rattle.server.specs.Lines.{lab3}
use Rattle.runs.specs.History.{record_appended, log_flushed, log_opened, History}
use Rattle.runs.specs.Timeouts.{Ticks}
use Rattle.false_worlds.specs.Histories.{name7, record_by}

-- the clock of a Tick, the history before it, its answer, and the history after it
pub record Tick : Type 0 where
  pub clock : ℕ
  pub before : History
  pub answer : Reply
  pub after : History

-- it does what a Tick must do
abbrev pub IsRight : Tick → Type 0
IsRight t = Ticks t.clock t.before t.answer t.after

-- ---- histories

abbrev name3 : List ℕ
name3 = padded name_max lab3

-- a record of `rig7` and one of `lab3` with timeout 50, by status, epoch, set, last update and start
abbrev record7 : Status → ℕ → ℕ → ℕ → ℕ → Record
record7 = record_by name7 1000 50

abbrev record3 : Status → ℕ → ℕ → ℕ → ℕ → Record
record3 = record_by name3 1001 50

-- a record is appended, and flushed
abbrev flushed : Record → ℕ → History → History
flushed r end h = log_flushed end ∷ record_appended r end ∷ h

-- `rig7` begins at 100
abbrev begun : History
begun = flushed (record7 Begin 0 1 100 100) 120 (flushed (record7 Empty 0 0 100 100) 53 (log_opened (pos 1) ∷ []))

-- and is widened at 140
abbrev widening : Record
widening = record7 Begin 0 3 140 100

abbrev pub widened : History
widened = flushed widening 191 begun

-- it is widened with a start that is that of the widening
abbrev renewed : History
renewed = flushed (record7 Begin 0 3 140 140) 191 begun

-- it is widened, and that is not flushed
abbrev unflushed : History
unflushed = record_appended widening 191 ∷ begun

-- it is widened, and prepared at 145
abbrev prepared : History
prepared = flushed (record7 PrepareCommit 0 3 145 100) 262 widened

-- its transaction of 100 is completed, and the next begins at 130
abbrev begun_again : History
begun_again = flushed (record7 Begin 0 1 130 130) 307 (flushed (record7 CompleteCommit 0 0 120 100) 240 (flushed (record7 PrepareCommit 0 1 110 100) 187 begun))

-- `rig7` at place 0 and `lab3` at place 1 both begin at 100
abbrev both_begun : History
both_begun = flushed (record3 Begin 0 1 100 100) 226 (flushed (record3 Empty 0 0 100 100) 173 begun)

-- ---- Ticks

-- no place is answered
abbrev nothing_due : Reply
nothing_due = accepted []

-- this place is answered
abbrev aborted : ℕ → Reply
aborted place = accepted (pos place ∷ [])

-- one that finds nothing
abbrev finds_nothing : ℕ → History → Tick
finds_nothing clock h = record { clock = clock; before = h; answer = nothing_due; after = h }

-- one that answers this place, and appends this record, which ends at this length
abbrev answering : ℕ → History → ℕ → Record → ℕ → Tick
answering clock h place r end = record { clock = clock; before = h; answer = aborted place; after = record_appended r end ∷ h }

-- one at 151 that answers place 0 of the widened history, and appends this record
abbrev appending : Record → Tick
appending r = answering 151 widened 0 r 262

-- the abort of what was widened, at this clock
abbrev pub abort_at : ℕ → Record
abort_at clock = record7 PrepareAbort 1 3 clock 100

pub data FalseTick : Type 0 where
  -- it counts from the last update; from a start that the widening renewed; from the beginning of the transaction before
  from_last_update renewed_start from_transaction_before : FalseTick
  -- it aborts when the age is the timeout, and not above it
  at_the_timeout : FalseTick
  -- it aborts a BEGIN whose widening is not flushed; a flushed prepare
  unflushed_widening prepared_aborted : FalseTick
  -- it aborts the higher of two places that are due; both; the lowest, and answers another place
  higher_place both_aborted other_place : FalseTick
  -- the record that it appends keeps the epoch; is not of the clock; has another start; has the set from before the widening; commits
  epoch_kept old_clock other_start narrower_set committed : FalseTick
  -- it aborts and answers none; it answers none and appends a record though none is due
  silent spurious_record : FalseTick

abbrev pub false_tick : FalseTick → Tick
false_tick from_last_update = finds_nothing 151 widened
false_tick renewed_start = finds_nothing 151 renewed
false_tick from_transaction_before = answering 151 begun_again 0 (record7 PrepareAbort 1 1 151 130) 374
false_tick at_the_timeout = answering 150 widened 0 (abort_at 150) 262
false_tick unflushed_widening = answering 151 unflushed 0 (abort_at 151) 262
false_tick prepared_aborted = answering 1000 prepared 0 (abort_at 1000) 333
false_tick higher_place = answering 151 both_begun 1 (record3 PrepareAbort 1 1 151 100) 293
false_tick both_aborted =
    record {
      clock = 151;
      before = both_begun;
      answer = aborted 0;
      after = record_appended (record3 PrepareAbort 1 1 151 100) 360 ∷ record_appended (record7 PrepareAbort 1 1 151 100) 293 ∷ both_begun;
    }
false_tick other_place = answering 151 widened 1 (abort_at 151) 262
false_tick epoch_kept = appending (record7 PrepareAbort 0 3 151 100)
false_tick old_clock = appending (abort_at 140)
false_tick other_start = appending (record7 PrepareAbort 1 3 151 151)
false_tick narrower_set = appending (record7 PrepareAbort 1 1 151 100)
false_tick committed = appending (record7 PrepareCommit 1 3 151 100)
false_tick silent = record { clock = 151; before = widened; answer = nothing_due; after = record_appended (abort_at 151) 262 ∷ widened }
false_tick spurious_record = record { clock = 150; before = widened; answer = nothing_due; after = record_appended (abort_at 150) 262 ∷ widened }

-- beside them, of the same history
pub data TrueTick : Type 0 where
  -- none at 150; the abort at 151
  still_in_time outlived_timeout : TrueTick

abbrev pub true_tick : TrueTick → Tick
true_tick still_in_time = finds_nothing 150 widened
true_tick outlived_timeout = appending (abort_at 151)

-- ---- times

pub data FalseTimes : Type 0 where
  -- a start after the last update; a last update after the clock, which is 151
  started_later updated_later : FalseTimes

-- `rig7` in BEGIN with this last update and start
abbrev row_at151 : ℕ → ℕ → Row
row_at151 updated start =
    record {
      name = name7;
      pid = 1000;
      epoch = 0;
      timeout = 50;
      status = Begin;
      joined = 1;
      updated = updated;
      start = start;
      end = 120;
      acknowledged = 0;
    }

abbrev pub false_times : FalseTimes → Row
false_times started_later = row_at151 140 141
false_times updated_later = row_at151 152 100
