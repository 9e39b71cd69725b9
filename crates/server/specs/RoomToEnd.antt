-- In every state that an opening and any calls lead to there is room to end and complete every transaction; so the calls that do it never meet 17.
use Rattle.std.specs.Prelude.{ℕ, ◌+◌, ◌≤◌, ◌≡◌, Bool, true, false, List, ℤ}
use Rattle.row.specs.Row.{is_begin}
use Rattle.table.specs.Room.{room_to_end}
use Rattle.coordinator.specs.Coordinator.{log_end, row_of}
use Rattle.coordinator.specs.Calls.{init_call, add_call, end_call, tick_call, flush_call, ack_call}
use Rattle.server.specs.Calls.{Server, Call, open_log, open_words, call, order_call, produce_call, marker_call, read_call, answer_of}
use Rattle.server.specs.Admitted.{opened_with, Next, after_each}

-- the calls for whose records the room is kept; document 01: "Init (outside status 1) … need …. So End, Tick, Ack never meet it."
abbrev pub has_room : Call → Server → Bool
has_room (open_log text n epoch first last) s = false
has_room open_words s = false
has_room (call (init_call name timeout time)) s = is_begin (row_of s.coordinator name).status
has_room (call (add_call name pid epoch set time)) s = false
has_room (call (end_call name pid epoch verdict time)) s = true
has_room (call (tick_call time)) s = true
has_room (call (flush_call n)) s = false
has_room (order_call up) s = false
has_room (call (ack_call place pid epoch position)) s = true
has_room (produce_call name pid epoch position sequence payload) s = false
has_room (marker_call place pid epoch verdict coordinator) s = false
has_room (read_call from) s = false

pub record RoomToEnd : Type 0 where
  -- 1,090 bytes for each BEGIN and 545 for each prepare are left behind the log's end, with whatever buffers and calls
  pub left : (text log : List ℕ) (n : ℕ) (epoch first last : ℤ) (words out : List ℕ) (xs : List Next) → let s = (after_each xs (opened_with text log n epoch first last words out)).coordinator in
      log_end s + room_to_end s.table ≤ s.room
  -- on every state
  pub never-17 : (c : Call) (s : Server) → has_room c s ≡ true → (answer_of c s).number ≡ 17 → ⊥
