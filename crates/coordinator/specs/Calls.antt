-- The calls that may change the coordinator or its log, as one type with any arguments: what each of them answers and does, and what it leaves of a
-- state and its log buffer. Every statement about calls speaks of this type.
use Rattle.std.specs.Prelude.{ℕ, ◌^◌, Bool, true, ◌&&◌, List, ltb, ℤ, length}
use Rattle.std.specs.Int.{w16, w32, w64}
use Rattle.numbers.specs.Signed.{fits}
use Rattle.answers.specs.Answers.{Reply, reply, init_reply, tick_reply}
use Rattle.answers.specs.Refusals.{Decision}
use Rattle.coordinator.specs.Coordinator.{Action, after, log_after}
use Rattle.coordinator.specs.Init.{init}
use Rattle.coordinator.specs.Add.{add}
use Rattle.coordinator.specs.End.{end}
use Rattle.coordinator.specs.Tick.{tick}
use Rattle.coordinator.specs.Flush.{flush}
use Rattle.coordinator.specs.Ack.{ack}
use Rattle.coordinator.specs.declared.Coordinator.{Coordinator}

pub data CoordinatorCall : Type 0 where
  init_call : (name : List ℕ) (timeout time : ℤ) → CoordinatorCall
  add_call : (name : List ℕ) (pid epoch : ℤ) (set : ℕ) (time : ℤ) → CoordinatorCall
  end_call : (name : List ℕ) (pid epoch : ℤ) (verdict : ℕ) (time : ℤ) → CoordinatorCall
  tick_call : (time : ℤ) → CoordinatorCall
  flush_call : (length : ℕ) → CoordinatorCall
  ack_call : (place : ℕ) (pid epoch : ℤ) (position : ℕ) → CoordinatorCall

-- document 01: "producer id (pid, i64), epoch (i16)", "the time given (i64)", "a set is a u64"; a timeout is an int32 of the record. A call by a producer or
-- by the clock has no other arguments; Flush and Ack are judged on any numbers.
abbrev pub is_word : ℕ → Bool
is_word n = ltb n (2 ^ 64)

abbrev pub call_typed : CoordinatorCall → Bool
call_typed (init_call name timeout time) = fits w32 timeout && fits w64 time
call_typed (add_call name pid epoch set time) = fits w64 pid && fits w16 epoch && is_word set && fits w64 time
call_typed (end_call name pid epoch verdict time) = fits w64 pid && fits w16 epoch && fits w64 time
call_typed (tick_call time) = fits w64 time
call_typed (flush_call n) = true
call_typed (ack_call place pid epoch position) = true

-- the answer as document 01 writes it, with what is done
abbrev pub in_numbers : {Answer : Type 0} → (Answer → Reply) → Decision Answer Action → Decision Reply Action
in_numbers numbers d = record { answer = numbers d.answer; action = d.action }

-- what a call decides that is lent a log buffer of n bytes; Flush is lent nothing
abbrev pub decision_of : CoordinatorCall → Coordinator → ℕ → Decision Reply Action
decision_of (init_call name timeout time) s n = in_numbers init_reply (init s n name timeout time)
decision_of (add_call name pid epoch set time) s n = in_numbers reply (add s n name pid epoch set time)
decision_of (end_call name pid epoch verdict time) s n = in_numbers reply (end s n name pid epoch verdict time)
decision_of (tick_call time) s n = in_numbers tick_reply (tick s n time)
decision_of (flush_call length) s n = in_numbers reply (flush s length)
decision_of (ack_call place pid epoch position) s n = in_numbers reply (ack s n place pid epoch position)

abbrev pub action_of : CoordinatorCall → Coordinator → ℕ → Action
action_of c s n = (decision_of c s n).action

-- a coordinator and its log buffer
pub record Writer : Type 0 where
  pub state : Coordinator
  pub log : List ℕ

-- what an action leaves of them
abbrev pub acts : Action → Writer → Writer
acts a x = record { state = after a x.state; log = log_after a x.state x.log }

-- what a call answers that is lent the log buffer, and what it leaves
abbrev pub answered : CoordinatorCall → Writer → Reply
answered c x = (decision_of c x.state (length x.log)).answer

abbrev pub perform : CoordinatorCall → Writer → Writer
perform c x = acts (action_of c x.state (length x.log)) x
