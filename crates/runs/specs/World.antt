-- The items of a run and what each does: a list of items is taken one by one from an accepted opening. A reader starts here; the parties are in
-- `Parties`, what an item does to each of them in `Effects`.
use Rattle.std.specs.Prelude.{ℕ, Bool, true, false, cond, not, ◌&&◌, List, [], ◌∷◌, ℤ}
use Rattle.std.specs.Int.{w16, w32, w64}
use Rattle.numbers.specs.Signed.{fits}
use Rattle.coordinator.specs.Calls.{CoordinatorCall, init_call, add_call, end_call, tick_call, flush_call, ack_call, is_word, call_typed, action_of}
use Rattle.coordinator.specs.Order.{order}
use Rattle.writable_logs.specs.Writer.{opening_typed}
pub use Rattle.runs.specs.Parties.{Leader, open_leader, Phase, up, down, Carrying, nothing, to_deliver, to_acknowledge, World, catalogue_of, leader_at, while_whole, FirstOpening, Accepted, start}
unfoldable pub use Rattle.runs.specs.Parties.{records_read, open_leaders}
pub use Rattle.runs.specs.Effects.{Lent, own, another, with_carrying, with_event, with_phase, with_leader, while_up, history_after, with_writer, coordinator_does, coordinator_elsewhere, coordinator_lent, history_written, leader_does, with_partition, leader_lent, lent_partition, produce_called, read_called, number_or, ordered_record, order_answered, deliverable, acknowledgeable, once_done, marker_called, with_carried, ack_called, cut_at, reopened}

-- "Its list holds the others with any arguments …, later calls on their state, and cuts."
pub data Item : Type 0 where
  -- Init, Add, End, Tick or Flush, lent the log buffer or another slice (of which Flush sees nothing)
  call : Lent → CoordinatorCall → Item
  -- set of partitions that are up
  call_order : ℕ → Item
  -- `other` is the partition that is lent if the position is outside the catalogue
  call_produce : (lent : Lent) (other : ℕ) (name : List ℕ) (pid epoch : ℤ) (position : ℕ) (sequence : ℤ) (payload : ℕ) → Item
  -- `out` is the slice apart
  call_read : (lent : Lent) (position from : ℕ) (out : List ℕ) → Item
  -- the order of this event is given to its partition: Marker
  deliver : Lent → ℕ → Item
  -- "once that answered done, to call Ack"
  acknowledge : Lent → ℕ → Item
  -- the length that is left of the log
  cut : ℕ → Item
  -- an opening after a cut: coordinator epoch, first and last pid
  reopen : (epoch first last : ℤ) → Item

-- "Marker and Ack as 3 has them carried": an Ack that no order is carried for is in no list
abbrev pub is_ack : CoordinatorCall → Bool
is_ack (init_call name timeout time) = false
is_ack (add_call name pid epoch set time) = false
is_ack (end_call name pid epoch verdict time) = false
is_ack (tick_call time) = false
is_ack (flush_call n) = false
is_ack (ack_call place pid epoch position) = true

-- what a list can hold: no call has arguments of other types
abbrev pub in_lists : Item → Bool
in_lists (call lent c) = call_typed c && not (is_ack c)
in_lists (call_order set) = is_word set
in_lists (call_produce lent other name pid epoch position sequence payload) = fits w64 pid && fits w16 epoch && fits w32 sequence && is_word payload
in_lists (call_read lent x from out) = true
in_lists (deliver lent i) = true
in_lists (acknowledge lent i) = true
in_lists (cut n) = true
in_lists (reopen epoch first last) = opening_typed epoch first last

-- what an item does
abbrev pub next : Item → World → World
next (call lent c) w = while_up w.phase w (λ s. coordinator_lent lent (action_of c s) s w)
next (call_order set) w = while_up w.phase w (λ s. order_answered (order s set) s w)
next (call_produce lent other name pid epoch position sequence payload) w =
    while_up w.phase w (λ s. produce_called lent other name pid epoch position sequence payload s w)
next (call_read lent x from out) w = while_up w.phase w (λ s. read_called lent x w)
next (deliver lent i) w = while_up w.phase w (λ s. deliverable w.carrying i w (λ o. marker_called lent i o w))
next (acknowledge lent i) w = while_up w.phase w (λ s. acknowledgeable w.carrying i w (λ o. ack_called lent o s w))
next (cut n) w = while_up w.phase w (λ s. cut_at n s w)
next (reopen epoch first last) w = reopened w.phase epoch first last w

-- One item. Besides a refused opening it leaves the world as it is only for what document 01 puts into no list: arguments that no call has, an Ack
-- that no order is carried for, a call while the coordinator is down, a slice of the right length that is not the one lent, an order that is not to be
-- carried, a cut outside flushed length to end, an opening while the coordinator is up or one that would lower its epoch.
abbrev pub step : Item → World → World
step x w = cond (in_lists x) (next x w) w

unfoldable pub run : List Item → World → World
run [] w = w
run (x ∷ items) w = run items (step x w)
