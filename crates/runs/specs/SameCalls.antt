-- The items of a run are the calls of document 01 (`Call` of the crate server): for each item that is lent its own buffers, what it leaves of
-- coordinator, log, leader and words is what the call leaves, and what the world takes of the answer is what the call answers.
use Rattle.std.specs.Prelude.{ℕ, ◌<◌, ◌≡◌, true, List, [], ◌∷◌, ℤ, pos, length}
use Rattle.std.specs.Int.Signed.{le_z}
use Rattle.numbers.specs.Padded.{padded}
use Rattle.record.specs.Limits.{name_max}
use Rattle.answers.specs.Answers.{Reply, accepted}
use Rattle.coordinator.specs.Calls.{CoordinatorCall, ack_call}
use Rattle.coordinator.specs.declared.Coordinator.{Coordinator}
use Rattle.server.specs.Calls.{Server, Call, open_log, call as server_call, order_call, produce_call, marker_call, read_call, answer_of, after_call}
use Rattle.runs.specs.History.{Order, Produced, order_given, entry_written, History}
use Rattle.runs.specs.World.{up, down, Carrying, nothing, to_deliver, to_acknowledge, World, leader_at, own, Item, call, call_order, call_produce, call_read, deliver, acknowledge, reopen, lent_partition, next}

-- what a call meets in a world: the coordinator with the log buffer, the leader at a position with its words, and a slice to read into
abbrev pub server_at : Coordinator → World → ℕ → List ℕ → Server
server_at s w x out = record { coordinator = s; log = w.log; partition = (leader_at w x).partition; words = (leader_at w x).words; out = out }

-- the item leaves what the call leaves, which is lent the leader at this position and this slice, and no other leader changes
pub record SameAsCall (item : Item) (w : World) (s : Coordinator) (c : Call) (x : ℕ) (out : List ℕ) : Type 0 where
  pub state : Coordinator
  pub still-up : (next item w).phase ≡ up state
  pub same : let after = after_call c (server_at s w x out) in after ≡ server_at state (next item w) x after.out
  pub others : (y : ℕ) → (y ≡ x → ⊥) → leader_at (next item w) y ≡ leader_at w y

-- an Order's answer: the order that may be carried then, and that the history has, carries the results
abbrev pub OrderTaken : Reply → World → World → Carrying → Type 0
OrderTaken r w v nothing = (r ≡ accepted []) × (v.history ≡ w.history)
OrderTaken r w v (to_deliver i o) =
    (r ≡ accepted (pos o.place ∷ o.pid ∷ o.epoch ∷ pos o.verdict ∷ pos o.position ∷ o.coordinator ∷ [])) × (v.history ≡ order_given o ∷ w.history)
    × (i ≡ length w.history)
OrderTaken r w v (to_acknowledge i o) = ⊥

-- a Produce's answer: the history has the entry with the offset that is answered, or nothing if it is refused
pub record EntryTaken (r : Reply) (before after : History) (e : Produced) : Type 0 where
  pub written : r.number ≡ 0 → (after ≡ entry_written e ∷ before) × (r.results ≡ pos e.offset ∷ [])
  pub refused : (r.number ≡ 0 → ⊥) → after ≡ before

-- a Marker's answer: "once that answered done, to call Ack"
pub record MarkerTaken (r : Reply) (i : ℕ) (o : Order) (after : Carrying) : Type 0 where
  pub done : r.number ≡ 0 → after ≡ to_acknowledge i o
  pub refused : (r.number ≡ 0 → ⊥) → after ≡ nothing

-- Not met by a world in which Order does not look at its set, nor by one whose orders carry another coordinator epoch than Order answers, nor by one that
-- acknowledges what its partition refused.
pub record SameCalls : Type 0 where
  -- Init, Add, End, Tick, Flush; an Ack too, which is in a list only as it is carried
  pub calls : (w : World) (s : Coordinator) → w.phase ≡ up s → (c : CoordinatorCall) (x : ℕ) (out : List ℕ) → SameAsCall (call own c) w s (server_call c) x out
  pub orders : (w : World) (s : Coordinator) → w.phase ≡ up s → (set x : ℕ) (out : List ℕ)
      → SameAsCall (call_order set) w s (order_call set) x out
      × OrderTaken (answer_of (order_call set) (server_at s w x out)) w (next (call_order set) w) (next (call_order set) w).carrying
  pub produces : (w : World) (s : Coordinator) → w.phase ≡ up s → (other : ℕ) (name : List ℕ) (pid epoch : ℤ) (position : ℕ) (sequence : ℤ) (payload : ℕ) (out : List ℕ)
      → let x = lent_partition s position other in let item = call_produce own other name pid epoch position sequence payload in
      x < length w.leaders
      → SameAsCall item w s (produce_call name pid epoch position sequence payload) x out
      × EntryTaken (answer_of (produce_call name pid epoch position sequence payload) (server_at s w x out)) w.history (next item w).history
      (record { name = padded name_max name; pid = pid; epoch = epoch; position = x; sequence = sequence; payload = payload; offset = (leader_at w x).partition.end })
  -- the slice that Read copies into is apart from the world
  pub reads : (w : World) (s : Coordinator) → w.phase ≡ up s → (x from : ℕ) (out : List ℕ) → SameAsCall (call_read own x from out) w s (read_call from) x out
  -- "To carry an order is to give it to its partition and, once that answered done, to call Ack"
  pub markers : (w : World) (s : Coordinator) → w.phase ≡ up s → (i : ℕ) (o : Order) → w.carrying ≡ to_deliver i o → o.position < length w.leaders → (out : List ℕ)
      → let c = marker_call o.place o.pid o.epoch o.verdict o.coordinator in
      SameAsCall (deliver own i) w s c o.position out × MarkerTaken (answer_of c (server_at s w o.position out)) i o (next (deliver own i) w).carrying
  pub acks : (w : World) (s : Coordinator) → w.phase ≡ up s → (i : ℕ) (o : Order) → w.carrying ≡ to_acknowledge i o → (x : ℕ) (out : List ℕ)
      → SameAsCall (acknowledge own i) w s (server_call (ack_call o.place o.pid o.epoch o.position)) x out
  -- "Openings, given the length left as log length, follow until one is accepted"
  pub openings : (w : World) (n before : ℕ) → w.phase ≡ down n before → (epoch first last : ℤ) → le_z (pos before) epoch ≡ true → (s : Coordinator) (x : ℕ) (out : List ℕ)
      → let c = open_log w.text n epoch first last in
      ((answer_of c (server_at s w x out)).number ≡ 0
      → SameAsCall (reopen epoch first last) w s c x out)
      × (((answer_of c (server_at s w x out)).number ≡ 0 → ⊥) → next (reopen epoch first last) w ≡ w)
