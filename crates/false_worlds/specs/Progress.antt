-- Worlds without progress: no order is given over a flushed prepare, what is carried is refused, a prepare does not complete, or no opening is accepted.
use Rattle.std.specs.Prelude.{ℕ, false, List, [], ◌∷◌, ◌++◌, pos, replicate}
use Rattle.catalogue.specs.Catalogue.{parse}
use Rattle.record.specs.declared.Status.TheVariants.{Empty, Begin, PrepareCommit, CompleteCommit}
use Rattle.row.specs.Row.{free_row}
use Rattle.log_reader.specs.Records.{frames_of}
use Rattle.coordinator.specs.Calls.{init_call}
use Rattle.coordinator.specs.Open.{blank_state}
use Rattle.partition.specs.declared.Producer.{Producer}
use Rattle.server.specs.Lines.{rig7, scan_text}
use Rattle.runs.specs.History.{record_appended, order_carried}
use Rattle.runs.specs.World.{up, down, nothing, to_deliver, to_acknowledge, World, own, another, Item, call, call_order, call_produce, call_read, deliver, acknowledge, cut, reopen}
use Rattle.false_worlds.specs.Histories.{record_at, record_of7, committing, then, order7, state, row_in, leader_of, world_of}

pub data NoOrder : Type 0 where
  -- an Order that says none over a flushed prepare, because the table does not have it, takes it for unflushed, or for acknowledged
  forgotten taken_for_unflushed taken_for_acknowledged : NoOrder
  -- an order of a higher place
  higher_place : NoOrder

-- the prepare of both partitions is event 3, and ends at 190
abbrev pub without_order : NoOrder → World
without_order forgotten = world_of [] (up (state (replicate 32 free_row) 190 190 190)) [] nothing committing
without_order taken_for_unflushed = world_of [] (up (state (row_in PrepareCommit 3 0 ∷ replicate 31 free_row) 190 120 190)) [] nothing committing
without_order taken_for_acknowledged = world_of [] (up (state (row_in PrepareCommit 3 3 ∷ replicate 31 free_row) 190 190 190)) [] nothing committing
without_order higher_place = world_of [] (up (state (row_in Begin 3 0 ∷ row_in PrepareCommit 3 0 ∷ replicate 30 free_row) 190 190 190)) [] nothing committing

pub data NotAccepted : Type 0 where
  -- the partition's coordinator epoch runs ahead; the epoch that it has for the pid does
  stale fenced : NotAccepted
  -- the Ack is for another place; the prepare is unflushed; the coordinator is down
  ack_elsewhere ack_unflushed ack_down : NotAccepted

-- a producer of pid 1000 in epoch 1, with no open transaction
abbrev pub in_epoch_one : Producer
in_epoch_one = record { pid = 1000; epoch = 1; sequence = 0; ongoing = false; first = 0 }

abbrev pub not_accepted : NotAccepted → World
not_accepted stale = world_of [] (up blank_state) (leader_of [] 0 [] 5 ∷ []) (to_deliver 5 (order7 3 1000 0 0 0)) committing
not_accepted fenced = world_of [] (up blank_state) (leader_of [] 0 (in_epoch_one ∷ []) 1 ∷ []) (to_deliver 5 (order7 3 1000 0 0 0)) committing
not_accepted ack_elsewhere = world_of [] (up (state (replicate 32 free_row) 0 0 0)) [] (to_acknowledge 5 (order7 3 1000 0 0 0)) committing
not_accepted ack_unflushed = world_of (replicate 1000 0) (up (state (row_in PrepareCommit 3 0 ∷ []) 190 120 1000)) [] (to_acknowledge 5 (order7 3 1000 0 0 0)) committing
not_accepted ack_down = world_of [] (down 190 1) [] (to_acknowledge 5 (order7 3 1000 0 0 0)) committing

-- an Ack that notes nothing: the one order of a prepare of one partition is carried, and the prepare is not completed
abbrev pub notes_nothing : World
notes_nothing =
    world_of [] (up (state (replicate 32 free_row) 0 0 0)) [] (to_acknowledge 5 (order7 3 1000 0 0 0)) (then (record_of7 PrepareCommit 1000 0 1))

abbrev pub carries_it : List Item
carries_it = acknowledge own 5 ∷ []

-- after the list that is built: an order is not carried, or a prepare not completed
pub data NotAll : Type 0 where
  not_carried not_completed : NotAll

-- the world at the end, of one order that was left at a flushed prepare
abbrev pub not_all : NotAll → World
not_all not_carried = world_of [] (up blank_state) [] nothing (record_appended (record_of7 CompleteCommit 1000 0 0) 260 ∷ committing)
not_all not_completed = world_of [] (up blank_state) [] nothing (order_carried (order7 3 1000 0 0 0) ∷ committing)

-- ---- what disturbs

pub data Disturbance : Type 0 where
  cut_between partition_down all_down other_slice_delivered other_slice_acknowledged : Disturbance

abbrev pub disturbing : Disturbance → Item
disturbing cut_between = cut 190
disturbing partition_down = call_order 1
disturbing all_down = call_order 4
disturbing other_slice_delivered = deliver (another []) 5
disturbing other_slice_acknowledged = acknowledge (another []) 5

pub data NotDisturbing : Type 0 where
  called lent_another all_up more_up produced read delivered_own acknowledged_own reopened : NotDisturbing

abbrev pub not_disturbing : NotDisturbing → Item
not_disturbing called = call own (init_call rig7 (pos 50) (pos 100))
not_disturbing lent_another = call (another []) (init_call rig7 (pos 50) (pos 100))
not_disturbing all_up = call_order 3
not_disturbing more_up = call_order 7
not_disturbing produced = call_produce (another []) 0 rig7 (pos 1000) (pos 0) 0 (pos 0) 501
not_disturbing read = call_read (another []) 0 0 []
not_disturbing delivered_own = deliver own 5
not_disturbing acknowledged_own = acknowledge own 5
not_disturbing reopened = reopen (pos 2) (pos 1000) (pos 1999)

-- ---- restart

pub data NoRestart : Type 0 where
  -- what is left is no log; its reserve is not there; its length is past the buffer
  bad_log too_little_room past_buffer : NoRestart

-- a BEGIN of one partition, with this many bytes behind it: its log ends at 120
abbrev pub begin_log : ℕ → List ℕ
begin_log n = frames_of (parse scan_text).catalogue (record_at Begin 1000 0 1 110 ∷ record_at Empty 1000 0 0 110 ∷ []) ++ replicate n 0

abbrev pub no_restart : NoRestart → World
no_restart bad_log = world_of (replicate 8 0) (down 8 1) [] nothing []
no_restart too_little_room = world_of (begin_log 1089) (down 120 1) [] nothing []
no_restart past_buffer = world_of [] (down 1 1) [] nothing []
