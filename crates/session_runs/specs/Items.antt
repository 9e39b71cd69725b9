-- The commands of a session as items of a run of demand 3.
use Rattle.std.specs.Prelude.{ℕ, ◌+◌, Bool, true, cond, ◌&&◌, List, [], ◌∷◌, ◌++◌, eqb, length}
use Rattle.std.specs.Int.{w16, w32, w64}
use Rattle.numbers.specs.Signed.{fits}
use Rattle.bits.specs.Bits.{member}
use Rattle.coordinator.specs.Coordinator.{log_end}
use Rattle.coordinator.specs.Calls.{init_call, add_call, end_call, tick_call, flush_call, is_word}
use Rattle.server.specs.Lines.{catalogue_text}
use Rattle.runs.specs.World.{World, FirstOpening, own, Item, call, call_order, call_produce, call_read, deliver, acknowledge, cut, reopen, run}
use Rattle.command.specs.declared.Command.{Command}
use Rattle.command.specs.declared.Command.TheVariants.{Init, Add, End, Tick, Flush, Put, Carry, Read, Cut, Left, Unknown}
use Rattle.session.specs.Limits.{first_pid, last_pid, first_epoch}
use Rattle.session.specs.Memory.{Memory, memory, opened, words_at}
use Rattle.fields.specs.Fields.{bytes_of}
use Rattle.session.specs.Commands.{next_epoch, cuts, performed}

-- ---- the start

-- the first opening: an empty log, and words for the positions 0, 1 and 8
abbrev pub first_opening : List ℕ → List ℕ → FirstOpening
first_opening log words =
    record {
      text = catalogue_text;
      log = log;
      length = 0;
      epoch = first_epoch;
      first = first_pid;
      last = last_pid;
      words = words_at words 0 ∷ words_at words 1 ∷ [] ∷ [] ∷ [] ∷ [] ∷ [] ∷ [] ∷ words_at words 2 ∷ [];
    }

-- the memory of a session once it is opened
abbrev pub first_memory : List ℕ → List ℕ → List ℕ → Memory
first_memory log words payloads = memory (opened log words) log words payloads

-- ---- a command

-- a command, and the line of which its name is a part
pub record CommandLine : Type 0 where
  pub command : Command
  pub line : List ℕ

-- the numbers of a command are of the types that the code gives them
abbrev pub command_typed : Command → Bool
command_typed (Init name timeout time) = fits w32 timeout && fits w64 time
command_typed (Add name pid epoch set time) = fits w64 pid && fits w16 epoch && is_word set && fits w64 time
command_typed (End name pid epoch verdict time) = fits w64 pid && fits w16 epoch && fits w64 time
command_typed (Tick time) = fits w64 time
command_typed Flush = true
command_typed (Put name pid epoch position sequence payload) = fits w64 pid && fits w16 epoch && fits w32 sequence && is_word payload
command_typed (Carry up) = is_word up
command_typed (Read position) = true
command_typed (Cut kept) = true
command_typed (Left place) = true
command_typed Unknown = true

-- what a command is in a run: a call; for `carry` an order that is given, delivered and acknowledged; for an accepted `cut` a cut and an opening.
-- A `read` outside the catalogue, a `cut` that is refused and a `left` make no call.
abbrev pub items_of : Command → List ℕ → World → Memory → List Item
items_of (Init name timeout time) line w m = call own (init_call (bytes_of line name) timeout time) ∷ []
items_of (Add name pid epoch set time) line w m = call own (add_call (bytes_of line name) pid epoch set time) ∷ []
items_of (End name pid epoch verdict time) line w m = call own (end_call (bytes_of line name) pid epoch verdict time) ∷ []
items_of (Tick time) line w m = call own (tick_call time) ∷ []
items_of Flush line w m = call own (flush_call (log_end m.session.coordinator)) ∷ []
items_of (Put name pid epoch position sequence payload) line w m = call_produce own 0 (bytes_of line name) pid epoch position sequence payload ∷ []
items_of (Carry up) line w m = call_order up ∷ deliver own (length w.history) ∷ acknowledge own (length w.history) ∷ []
items_of (Read position) line w m = cond (member m.session.coordinator.catalogue.all position) (call_read own position 0 m.payloads ∷ []) []
items_of (Cut kept) line w m =
    let c = m.session.coordinator in
    cond (eqb (cuts kept m).reply.number 0) (cut (c.flushed + kept) ∷ reopen (next_epoch c.epoch) first_pid last_pid ∷ []) []
items_of (Left place) line w m = []
items_of Unknown line w m = []

-- ---- a list of commands

-- the memory after them
unfoldable pub after_commands : List CommandLine → Memory → Memory
after_commands [] m = m
after_commands (x ∷ lines) m = after_commands lines (performed x.command x.line m).memory

-- their items
unfoldable pub items_of_all : List CommandLine → World → Memory → List Item
items_of_all [] w m = []
items_of_all (x ∷ lines) w m =
    let items = items_of x.command x.line w m in
    items ++ items_of_all lines (run items w) (performed x.command x.line m).memory
