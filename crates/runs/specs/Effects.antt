-- What items do to the world, part by part: a call of the coordinator, a call of a partition, an order, a cut and an opening after it.
use Rattle.std.specs.Prelude.{ℕ, ◌+◌, cond, ◌&&◌, List, ◌∷◌, eqb, leb, ℤ, pos, length, set}
use Rattle.std.proofs.Math.Option.{Option, none, some}
use Rattle.std.specs.Int.Signed.{le_z}
use Rattle.numbers.specs.Padded.{padded}
use Rattle.bits.specs.Bits.{member}
use Rattle.record.specs.Limits.{name_max}
use Rattle.row.specs.Row.{record_of}
use Rattle.table.specs.Table.{row_at}
use Rattle.answers.specs.Answers.{Reply, reply}
use Rattle.answers.specs.OrderAnswer.{OrderAnswer}
use Rattle.answers.specs.OrderAnswer.{Order as Ordered, NoOrder}
use Rattle.coordinator.specs.Coordinator.{log_end, row_frame, Action, keep, advance, append, acknowledge as acknowledged, flush_to, after}
use Rattle.coordinator.specs.Open.{opening}
use Rattle.coordinator.specs.Calls.{ack_call, action_of, Writer, acts}
use Rattle.coordinator.specs.declared.Coordinator.{Coordinator}
use Rattle.partition.specs.Partition.{Action as PartitionAction, keep as keep_partition, note, write, after as partition_after, words_after}
use Rattle.partition.specs.Marker.{marker}
use Rattle.partition.specs.declared.Partition.{Partition}
use Rattle.server.specs.Produce.{produce}
use Rattle.writable_logs.specs.Writer.{opening_reply}
use Rattle.runs.specs.History.{Order, Event, record_appended, log_flushed, log_cut, log_opened, order_given, marker_written, order_carried, entry_written, History, Logged, latest_of}
use Rattle.runs.specs.Parties.{Leader, Phase, up, down, Carrying, nothing, to_deliver, to_acknowledge, World, leader_at}

-- ---- what is lent

-- "buffers … as the last one left them, or a slice that meets 8"
pub data Lent : Type 0 where
  own : Lent
  another : List ℕ → Lent

-- ---- what changes of a world

abbrev pub with_carrying : World → Carrying → World
with_carrying w c = record { text = w.text; log = w.log; phase = w.phase; leaders = w.leaders; carrying = c; history = w.history }

abbrev pub with_event : World → Event → World
with_event w e = record { text = w.text; log = w.log; phase = w.phase; leaders = w.leaders; carrying = w.carrying; history = e ∷ w.history }

-- the coordinator goes down or comes up
abbrev pub with_phase : World → Phase → Event → World
with_phase w p e = record { text = w.text; log = w.log; phase = p; leaders = w.leaders; carrying = nothing; history = e ∷ w.history }

-- the leader at a position
abbrev pub with_leader : World → ℕ → Leader → Carrying → History → World
with_leader w x l c h = record { text = w.text; log = w.log; phase = w.phase; leaders = set w.leaders x l; carrying = c; history = h }

-- ---- a call of the coordinator

-- while the coordinator is down no call is in a list
abbrev pub while_up : Phase → World → (Coordinator → World) → World
while_up (up s) w f = f s
while_up (down n epoch) w f = w

-- the history after an action
abbrev pub history_after : Action → Coordinator → History → History
history_after keep s h = h
history_after (advance clock) s h = h
history_after (append place row) s h = record_appended (record_of row) (log_end s + length (row_frame s row)) ∷ h
history_after (acknowledged place position) s h = h
history_after (flush_to n) s h = log_flushed n ∷ h

-- what the coordinator leaves of itself and of a log buffer; what was to be carried before is not carried any more
abbrev pub with_writer : World → Writer → History → World
with_writer w x h = record { text = w.text; log = x.log; phase = up x.state; leaders = w.leaders; carrying = nothing; history = h }

-- the coordinator does this with its log buffer
abbrev pub coordinator_does : Action → Coordinator → World → World
coordinator_does a s w = with_writer w (acts a (record { state = s; log = w.log })) (history_after a s w.history)

-- the same where another slice was lent: the log buffer stays
abbrev pub coordinator_elsewhere : Action → Coordinator → World → World
coordinator_elsewhere a s w = with_writer w (record { state = after a s; log = w.log }) (history_after a s w.history)

-- What it does depends on the length of what it is lent. Another slice of the buffer's length meets no 8 and is in no list.
abbrev pub coordinator_lent : Lent → (ℕ → Action) → Coordinator → World → World
coordinator_lent own action s w = coordinator_does (action (length w.log)) s w
coordinator_lent (another slice) action s w = cond (eqb (length slice) (length w.log)) w (coordinator_elsewhere (action (length slice)) s w)

-- ---- a call of a partition

-- the history after an action, with the event that it writes an entry
abbrev pub history_written : PartitionAction → Event → History → History
history_written keep_partition e h = h
history_written (note coordinator place q) e h = h
history_written (write coordinator place q words) e h = e ∷ h

-- the leader at a position does this with its words
abbrev pub leader_does : ℕ → PartitionAction → Event → Carrying → World → World
leader_does x a e c w =
    let l = leader_at w x in
    with_leader w x (record { partition = partition_after a l.partition; words = words_after a l.partition l.words }) c (history_written a e w.history)

-- a slice of another length: the words were not lent
abbrev pub with_partition : World → ℕ → Partition → Carrying → World
with_partition w x p c = with_leader w x (record { partition = p; words = (leader_at w x).words }) c w.history

-- what the leader does, and what may be carried then, depends on the length of what it is lent
abbrev pub leader_lent : Lent → ℕ → (Partition → ℕ → PartitionAction) → Event → (Partition → ℕ → Carrying) → World → World
leader_lent own x action e c w =
    let l = leader_at w x in leader_does x (action l.partition (length l.words)) e (c l.partition (length l.words)) w
leader_lent (another slice) x action e c w =
    let l = leader_at w x in
    cond (eqb (length slice) (length l.words)) w
    (with_partition w x (partition_after (action l.partition (length slice)) l.partition) (c l.partition (length slice)))

-- "its own partition's, any one's for a position outside the catalogue"
abbrev pub lent_partition : Coordinator → ℕ → ℕ → ℕ
lent_partition s position other = cond (member s.catalogue.all position) position other

-- Produce
abbrev pub produce_called : Lent → ℕ → List ℕ → ℤ → ℤ → ℕ → ℤ → ℕ → Coordinator → World → World
produce_called lent other name pid epoch position sequence payload s w =
    let x = lent_partition s position other in
    leader_lent lent x (λ p n. (produce s p n name pid epoch position sequence payload).action)
    (entry_written (record {
      name = padded name_max name;
      pid = pid;
      epoch = epoch;
      position = x;
      sequence = sequence;
      payload = payload;
      offset = (leader_at w x).partition.end;
    }))
    (λ p n. nothing) w

-- Read changes nothing of the world; it is a call all the same, and ends what was to be carried
abbrev pub read_called : Lent → ℕ → World → World
read_called own x w = with_carrying w nothing
read_called (another slice) x w = cond (eqb (length slice) (length (leader_at w x).words)) w (with_carrying w nothing)

-- ---- orders

abbrev pub number_or : Option Logged → ℕ → ℕ
number_or none other = other
number_or (some x) other = x.number

-- the record that an order of a place is for: the latest of the name that the place holds; without one, no record's number
abbrev pub ordered_record : Coordinator → ℕ → History → ℕ
ordered_record s place h = number_or (latest_of (row_at s.table place).name h) (length h)

-- Order
abbrev pub order_answered : OrderAnswer → Coordinator → World → World
order_answered NoOrder s w = with_carrying w nothing
order_answered (Ordered place pid epoch verdict position coordinator) s w =
    let o : Order = record {
      place = place;
      pid = pid;
      epoch = epoch;
      verdict = verdict;
      position = position;
      coordinator = coordinator;
      for = ordered_record s place w.history;
    } in
    with_carrying (with_event w (order_given o)) (to_deliver (length w.history) o)

-- "before the next call or cut, or never": only the last order given, and only while no other item came since
abbrev pub deliverable : Carrying → ℕ → World → (Order → World) → World
deliverable nothing i w f = w
deliverable (to_deliver j o) i w f = cond (eqb i j) (f o) w
deliverable (to_acknowledge j o) i w f = w

abbrev pub acknowledgeable : Carrying → ℕ → World → (Order → World) → World
acknowledgeable nothing i w f = w
acknowledgeable (to_deliver j o) i w f = w
acknowledgeable (to_acknowledge j o) i w f = cond (eqb i j) (f o) w

-- "once that answered done"
abbrev pub once_done : Reply → ℕ → Order → Carrying
once_done r i o = cond (eqb r.number 0) (to_acknowledge i o) nothing

-- Marker with the order's own values at its own partition
abbrev pub marker_called : Lent → ℕ → Order → World → World
marker_called lent i o w =
    leader_lent lent o.position
    (λ p n. (marker p n o.place o.pid o.epoch o.verdict o.coordinator).action)
    (marker_written o)
    (λ p n. once_done (reply (marker p n o.place o.pid o.epoch o.verdict o.coordinator).answer) i o)
    w

-- an order whose Ack is lent the log buffer is carried
abbrev pub with_carried : Lent → Order → World → World
with_carried own o w = with_event w (order_carried o)
with_carried (another slice) o w = w

-- Ack with the order's own values
abbrev pub ack_called : Lent → Order → Coordinator → World → World
ack_called lent o s w =
    coordinator_lent lent (action_of (ack_call o.place o.pid o.epoch o.position) s) s (with_carried lent o w)

-- ---- cuts and openings

-- "leaves the log up to any byte from its flushed length to its end"; "the table goes"
abbrev pub cut_at : ℕ → Coordinator → World → World
cut_at n s w = cond (leb s.flushed n && leb n (log_end s)) (with_phase w (down n s.epoch) (log_cut n)) w

-- "Openings, given the length left as log length, follow until one is accepted, which never lowers the coordinator epoch."
abbrev pub reopened : Phase → ℤ → ℤ → ℤ → World → World
reopened (up s) epoch first last w = w
reopened (down n before) epoch first last w =
    cond (eqb (opening_reply w.text w.log n epoch first last).number 0 && le_z (pos before) epoch)
    (with_phase w (up (opening w.text w.log n epoch first last).state) (log_opened epoch))
    w
