-- Demand 1 for commands: a command answers 0 or one of its refusals, and what is refused changes nothing; of a `carry` it is said what stays.
use Rattle.std.specs.Prelude.{ℕ, ◌≡◌, true, List, [], ◌∷◌, ◌++◌, ℤ}
use Rattle.answers.specs.Refusals.{among}
use Rattle.answers.specs.OrderAnswer.{OrderAnswer}
use Rattle.answers.specs.OrderAnswer.{Order, NoOrder}
use Rattle.coordinator.specs.Coordinator.{log_end}
use Rattle.coordinator.specs.Order.{order}
use Rattle.coordinator.specs.Calls.{init_call, add_call, end_call, tick_call, flush_call, ack_call}
use Rattle.server.specs.Calls.{open_log, call, produce_call, marker_call, read_call}
use Rattle.server.specs.Demand1.{refusals_of}
use Rattle.server.specs.Lines.{catalogue_text}
use Rattle.command.specs.declared.Command.{Command}
use Rattle.command.specs.declared.Command.TheVariants.{Init, Add, End, Tick, Flush, Put, Carry, Read, Cut, Left, Unknown}
use Rattle.session.specs.Limits.{first_pid, last_pid, first_epoch}
use Rattle.session.specs.Memory.{Memory, index_of}
use Rattle.fields.specs.Fields.{bytes_of}
use Rattle.session.specs.Commands.{called, performed}

-- the refusals of Marker and of Ack
abbrev pub carry_refusals : OrderAnswer → List ℕ
carry_refusals NoOrder = []
carry_refusals (Order place pid epoch verdict position coordinator) = refusals_of (marker_call place pid epoch verdict coordinator) ++ refusals_of (call (ack_call place pid epoch position))

-- the numbers with which a command can be refused
abbrev pub command_refusals : Command → List ℕ → Memory → List ℕ
command_refusals (Init name timeout time) line m = refusals_of (call (init_call (bytes_of line name) timeout time))
command_refusals (Add name pid epoch set time) line m = refusals_of (call (add_call (bytes_of line name) pid epoch set time))
command_refusals (End name pid epoch verdict time) line m = refusals_of (call (end_call (bytes_of line name) pid epoch verdict time))
command_refusals (Tick time) line m = refusals_of (call (tick_call time))
command_refusals Flush line m = refusals_of (call (flush_call (log_end m.session.coordinator)))
command_refusals (Put name pid epoch position sequence payload) line m = refusals_of (produce_call (bytes_of line name) pid epoch position sequence payload)
command_refusals (Carry up) line m = carry_refusals (order m.session.coordinator up)
command_refusals (Read position) line m = 3 ∷ refusals_of (read_call 0)
command_refusals (Cut kept) line m = 7 ∷ refusals_of (open_log catalogue_text 0 first_epoch first_pid last_pid)
command_refusals (Left place) line m = []
command_refusals Unknown line m = []

-- the memory once an order's Marker was called
abbrev pub delivered : OrderAnswer → Memory → Memory
delivered NoOrder m = m
delivered (Order place pid epoch verdict position coordinator) m = (called (marker_call place pid epoch verdict coordinator) (index_of position) m).memory

-- what a refused command leaves: all as it was, but for a `carry` whose Ack is refused, of which the Marker's entry stays
abbrev pub kept_by : Command → Memory → Memory
kept_by (Init name timeout time) m = m
kept_by (Add name pid epoch set time) m = m
kept_by (End name pid epoch verdict time) m = m
kept_by (Tick time) m = m
kept_by Flush m = m
kept_by (Put name pid epoch position sequence payload) m = m
kept_by (Carry up) m = delivered (order m.session.coordinator up) m
kept_by (Read position) m = m
kept_by (Cut kept) m = m
kept_by (Left place) m = m
kept_by Unknown m = m

-- the session and the buffers are of any making
pub record CommandsRefused : Type 0 where
  -- "gets an answer or a numbered refusal"
  pub numbered : (command : Command) (line : List ℕ) (m : Memory) → among (performed command line m).reply.number (0 ∷ command_refusals command line m) ≡ true
  -- "a refusal changes neither state nor buffer"
  pub unchanged : (command : Command) (line : List ℕ) (m : Memory) → ((performed command line m).reply.number ≡ 0 → ⊥) → (performed command line m).memory ≡ kept_by command m
  -- a Marker that is refused leaves all as it was too
  pub undelivered : (place : ℕ) (pid epoch : ℤ) (verdict position : ℕ) (coordinator : ℤ) (m : Memory)
      → ((called (marker_call place pid epoch verdict coordinator) (index_of position) m).reply.number ≡ 0 → ⊥)
      → delivered (Order place pid epoch verdict position coordinator) m ≡ m
  -- a refused command has no results
  pub no-results : (command : Command) (line : List ℕ) (m : Memory) → ((performed command line m).reply.number ≡ 0 → ⊥) → (performed command line m).reply.results ≡ []
