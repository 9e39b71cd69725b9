-- Request 2 of document 02: in every run a transaction is aborted once the clock is past its beginning by more than its timeout, however often it was
-- widened. When it began is read from the records of the run's history, and not from the start time that the server keeps.
use Rattle.std.specs.Prelude.{ℕ, ◌+◌, ◌≤◌, ◌<◌, max, ◌≡◌, Bool, true, false, cond, ◌&&◌, List, [], ◌∷◌, ◌++◌, eqb, ltb, ℤ, pos, length}
use Rattle.std.proofs.Math.Option.{Option, none, some}
use Rattle.std.specs.Int.{w64}
use Rattle.numbers.specs.Signed.{fits, to_nat}
use Rattle.record.specs.Record.{idle, status_code}
use Rattle.record.specs.declared.Record.{Record}
use Rattle.record.specs.declared.Status.TheVariants.{Begin, PrepareAbort}
use Rattle.search.specs.Search.{first_where, or_else, filter, found, Found, Each}
use Rattle.answers.specs.Answers.{Reply, accepted}
use Rattle.row.specs.declared.Row.{Row}
use Rattle.table.specs.Table.{row_at}
use Rattle.coordinator.specs.Calls.{tick_call, answered}
use Rattle.coordinator.specs.declared.Coordinator.{Coordinator}
use Rattle.runs.specs.History.{record_appended, History, Logged, records_of, is_flushed, is_of, latest_of, names, name_at}
use Rattle.runs.specs.World.{up, World, FirstOpening, Accepted, start, own, Item, call, step, run}

-- ---- what the history says of a transaction

-- "1 BEGIN"
abbrev pub is_begin : Logged → Bool
is_begin x = eqb (status_code x.content.status) (status_code Begin)

-- of the records of one name, newest first, the one with which its transaction began, if that is under way: the newer ones widened it
unfoldable pub beginning_of : List Logged → Option Logged
beginning_of [] = none
beginning_of (x ∷ older) = cond (is_begin x) (or_else (beginning_of older) (some x)) none

-- the same of a name, by the records that no cut has undone
abbrev pub beginning : List ℕ → History → Option Logged
beginning name h = beginning_of (filter (is_of name) (records_of h))

-- "above its timeout": it began at a with timeout d, and the clock is above a + d
abbrev pub outlived : ℕ → Logged → Bool
outlived clock b = ltb (to_nat b.content.updated + to_nat b.content.timeout) clock

-- "a flushed BEGIN", and its transaction outlived its timeout
abbrev pub is_due : ℕ → History → List ℕ → Bool
is_due clock h name = found (is_flushed h) (latest_of name h) && found (outlived clock) (beginning name h)

-- ---- what a Tick does

-- "the lowest place" that is due, and the number of names where none is
abbrev pub due_place : ℕ → History → ℕ
due_place clock h = first_where (is_due clock h) (names h)

-- the latest record at the lowest place that is due
abbrev pub due_record : ℕ → History → Option Logged
due_record clock h = latest_of (name_at h (due_place clock h)) h

-- "gets PREPARE_ABORT, epoch one higher"; "Last update is the clock."; all else is as in the latest record
abbrev pub abort_of : ℕ → Record → Record
abort_of clock r =
    record {
      name = r.name;
      pid = r.pid;
      epoch = pos (to_nat r.epoch + 1);
      timeout = r.timeout;
      status = PrepareAbort;
      joined = r.joined;
      updated = pos clock;
      start = r.start;
    }

-- a record is appended, and nothing else happens
abbrev pub Appends : History → Record → History → Type 0
Appends h r after = (end : ℕ) × (after ≡ record_appended r end ∷ h)

-- what a Tick answers at this clock, and the history after it
pub record Ticks (clock : ℕ) (h : History) (answer : Reply) (after : History) : Type 0 where
  -- "none only if there is none"
  pub none-due : length (names h) ≤ due_place clock h → (answer ≡ accepted []) × (after ≡ h)
  -- "answer its place". Not met by a Tick that counts from the last update, so that a widening gives more time, nor by one that aborts at the timeout.
  pub aborts : due_place clock h < length (names h)
      → (answer ≡ accepted (pos (due_place clock h) ∷ [])) × Found (λ (x : Logged). Appends h (abort_of clock x.content) after) (due_record clock h)

-- ---- the same in time

-- a name's transaction began at a with timeout d and was widened any number of times: its newest records are BEGINs, down to the one that began it
pub record BeganAt (h : History) (name : List ℕ) (a d : ℕ) : Type 0 where
  pub widenings : List Logged
  pub first : Logged
  pub older : List Logged
  pub records : filter (is_of name) (records_of h) ≡ widenings ++ (first ∷ older)
  pub begins : Each (λ (x : Logged). is_begin x ≡ true) (widenings ++ (first ∷ []))
  pub before : (x : Logged) (rest : List Logged) → older ≡ x ∷ rest → is_begin x ≡ false
  pub at : first.content.updated ≡ pos a
  pub timeout : first.content.timeout ≡ pos d

-- a Tick aborts the transaction of a place, or one at a lower place that is due
pub record AbortsUpTo (place clock : ℕ) (h : History) (answer : Reply) (after : History) : Type 0 where
  pub lowest : ℕ
  pub up_to : lowest ≤ place
  pub due : is_due clock h (name_at h lowest) ≡ true
  pub answers : answer ≡ accepted (pos lowest ∷ [])
  pub appends : Found (λ (x : Logged). Appends h (abort_of clock x.content) after) (latest_of (name_at h lowest) h)

-- once the clock is above a + d and its latest record is flushed
abbrev pub EndsInTime : ℕ → History → Reply → History → Type 0
EndsInTime clock h answer after =
    (place a d : ℕ) → place < length (names h) → BeganAt h (name_at h place) a d → found (is_flushed h) (latest_of (name_at h place) h) ≡ true → a + d < clock
    → AbortsUpTo place clock h answer after

-- ---- times

-- the times of what is held: start, last update and clock, none of which is negative
pub record TimesInOrder (clock : ℕ) (row : Row) : Type 0 where
  pub started : row.start ≤ row.updated
  pub updated-by : row.updated ≤ clock

-- ---- the statement

-- what holds of a world whose coordinator is up in this state
pub record TimeoutsIn (w : World) (s : Coordinator) : Type 0 where
  -- whatever is held in status 1 to 3
  pub in_order : (place : ℕ) → idle (row_at s.table place).status ≡ false → TimesInOrder s.clock (row_at s.table place)
  -- a Tick at any time; "The clock is the greater of its old value and the time given"
  pub ticks : (time : ℤ) → fits w64 time ≡ true
      → Ticks (max s.clock (to_nat time)) w.history (answered (tick_call time) (record { state = s; log = w.log })) (step (call own (tick_call time)) w).history
  -- so no transaction goes on for ever while Tick is called. Not met by a Tick for which a widening renews the time.
  pub ends-in-time : (time : ℤ) → fits w64 time ≡ true
      → EndsInTime (max s.clock (to_nat time)) w.history (answered (tick_call time) (record { state = s; log = w.log })) (step (call own (tick_call time)) w).history

-- at every moment of every run at which the coordinator is up
abbrev pub Timeouts : Type 0
Timeouts =
    (o : FirstOpening) → Accepted o → (items : List Item) (s : Coordinator) → let w = run items (start o) in
    w.phase ≡ up s → TimeoutsIn w s
