-- The room to end and complete every transaction is kept, and the calls that do it have no test of 17 that applies.
use Prim.Native.Nat.{ℕ, ◌+◌, ◌≤◌}
use mathlib.Core.Path.{◌≡◌, refl, sym, ◌∙◌}
use mathlib.Core.Bool.{true, false, not, ◌&&◌, false≢true}
use mathlib.Core.List.{List}
use native.Mathlib.Omega.{arith}
use lib.IntN.{ℤ}
use lib.ListN.{length}
use Rattle.numbers.specs.Padded.{padded}
use Rattle.record.specs.Limits.{name_max}
use Rattle.row.specs.Row.{is_begin}
use Rattle.table.specs.Room.{room_to_end}
use Rattle.table.proofs.Reserve.{reserved-counted}
use Rattle.answers.specs.Answers.{init_reply}
use Rattle.answers.specs.Refusals.{first_refusal, among}
use Rattle.answers.specs.InitAnswer.{InitAnswer}
use Rattle.answers.specs.InitAnswer.{Refused as InitRefused}
use Rattle.answers.proofs.Laws.{first-none-of, unless-number}
use Rattle.coordinator.specs.Coordinator.{log_end, row_of, holds_name, log_full, keep}
use Rattle.coordinator.specs.Calls.{init_call, add_call, end_call, tick_call, flush_call, ack_call}
use Rattle.coordinator.specs.Init.{init_row, ids_then, init_row_tests, init_tests, init_accepted, init}
use Rattle.coordinator.specs.declared.Coordinator.{Coordinator}
use Rattle.server.specs.Calls.{Server, Call, open_log, open_words, call, order_call, produce_call, marker_call, read_call, answer_of}
use Rattle.server.specs.Admitted.{opened_with, after_each}
use Rattle.server.specs.RoomToEnd.{has_room, RoomToEnd}
use Rattle.server.proofs.Demand1.{init-done}
use Rattle.server.proofs.Admitted.{Reserves, without, opened-reserves, each-reserves}

-- Init of a name in status 1
init-never : (s : Coordinator) (n : ℕ) (name : List ℕ) (timeout time : ℤ) → is_begin (row_of s name).status ≡ true → (init_reply (init s n name timeout time).answer).number ≡ 17 → ⊥
unfolding init init_tests init_row_tests
init-never s n name timeout time b e =
    let tests = init_tests s n name timeout time in
    let number = unless-number (λ (a : InitAnswer). (init_reply a).number) (first_refusal tests) InitRefused keep (init_accepted s name timeout time) (init-done s name timeout time) refl in
    let last : (not (is_begin (row_of s name).status) && log_full s (init_row s (padded name_max name) (holds_name s name) (row_of s name) timeout time) (ids_then s (holds_name s name))) ≡ false = rw b in
    first-none-of 17 tests (refl, (refl, (refl, (refl, (refl, (refl, (refl, (last, refl)))))))) (sym number ∙ e)

never-17 : (c : Call) (s : Server) → has_room c s ≡ true → (answer_of c s).number ≡ 17 → ⊥
unfolding among
never-17 (open_log text n epoch first last) s h e = false≢true h
never-17 open_words s h e = false≢true h
never-17 (call (init_call name timeout time)) s h e = init-never s.coordinator (length s.log) name timeout time h e
never-17 (call (add_call name pid epoch set time)) s h e = false≢true h
never-17 (call (end_call name pid epoch verdict time)) s h e = without 17 (call (end_call name pid epoch verdict time)) s refl e
never-17 (call (tick_call time)) s h e = without 17 (call (tick_call time)) s refl e
never-17 (call (flush_call n)) s h e = false≢true h
never-17 (order_call up) s h e = false≢true h
never-17 (call (ack_call place pid epoch position)) s h e = without 17 (call (ack_call place pid epoch position)) s refl e
never-17 (produce_call name pid epoch position sequence payload) s h e = false≢true h
never-17 (marker_call place pid epoch verdict coordinator) s h e = false≢true h
never-17 (read_call from) s h e = false≢true h

room-left : (s : Server) → Reserves s → log_end s.coordinator + room_to_end s.coordinator.table ≤ s.coordinator.room
room-left s r = omega (arith, r.of-log.within, reserved-counted s.coordinator.table)

pub room-to-end : RoomToEnd
room-to-end =
    record {
      left =
          λ text log n epoch first last words out xs. room-left (after_each xs (opened_with text log n epoch first last words out)) (each-reserves xs _ (opened-reserves text log n epoch first last words out));
      never-17 = never-17;
    }
