-- A session that is opened and given any commands is a run of demand 3: so what demand 3 promises of every run it promises of the session.
use Rattle.std.specs.Prelude.{ℕ, ◌+◌, ◌≤◌, ◌<◌, ◌≡◌, true, List, [], ◌∷◌, map, pos}
use Rattle.search.specs.Search.{Each}
use Rattle.answers.specs.Answers.{accepted}
use Rattle.coordinator.specs.Coordinator.{log_end}
use Rattle.server.specs.Lines.{catalogue_text}
use Rattle.runs.specs.World.{World, Leader, up, leader_at, Accepted, start, Item, run}
use Rattle.runs.specs.Demand3.{Promised}
use Rattle.runs.specs.InEveryRun.{AdmitsExactly, ReadsCommitted}
use Rattle.runs.specs.ExactOrders.{shown_at}
use Rattle.command.specs.Command.{command_of}
use Rattle.command.specs.declared.Command.TheVariants.{Carry, Cut, Left}
use Rattle.session.specs.Limits.{last_epoch}
use Rattle.session.specs.Memory.{Memory, partition_at, words_at}
use Rattle.session.specs.Commands.{performed}
use Rattle.session_runs.specs.Items.{first_opening, first_memory, CommandLine, command_typed, after_commands, items_of_all}

-- a partition of a session with its words
abbrev pub leader_of : Memory → ℕ → Leader
leader_of m index = record { partition = partition_at m.session index; words = words_at m.words index }

-- the world of the run has the session's catalogue, log buffer, coordinator and partitions
pub record SameServer (w : World) (m : Memory) : Type 0 where
  pub text : w.text ≡ catalogue_text
  pub log : w.log ≡ m.log
  pub phase : w.phase ≡ up m.session.coordinator
  pub scan-0 : leader_at w 0 ≡ leader_of m 0
  pub scan-1 : leader_at w 1 ≡ leader_of m 1
  pub cert-0 : leader_at w 8 ≡ leader_of m 2

pub record SessionRuns (log words payloads : List ℕ) (lines : List CommandLine) : Type 0 where
  -- the first opening is accepted, whatever stands in the log buffer
  pub opens : Accepted (first_opening log words)
  pub same-server : let w = start (first_opening log words) in let m = first_memory log words payloads in SameServer (run (items_of_all lines w m) w) (after_commands lines m)
  -- demand 3, at the end of these commands, for every list that goes on from there
  pub promised : let w = start (first_opening log words) in (items : List Item) → Promised (run (items_of_all lines w (first_memory log words payloads)) w) items
  -- every Read answers what stands under COMMIT, and no slice of its own length is refused with 8
  pub reads-committed : let w = start (first_opening log words) in ReadsCommitted (run (items_of_all lines w (first_memory log words payloads)) w)
  pub admits-exactly : let w = start (first_opening log words) in AdmitsExactly (run (items_of_all lines w (first_memory log words payloads)) w)
  -- `left` shows of every place what the history of the run says is left there
  pub displays : let w = start (first_opening log words) in let m = first_memory log words payloads in
      (place : ℕ) (line : List ℕ) → (performed (Left place) line (after_commands lines m)).reply ≡ accepted (pos (shown_at (run (items_of_all lines w m) w).history place) ∷ [])
  -- no `carry` is refused
  pub carried : (up : ℕ) (line : List ℕ) → command_typed (Carry up) ≡ true → (performed (Carry up) line (after_commands lines (first_memory log words payloads))).reply.number ≡ 0
  -- a cut that leaves no more than there is, is accepted, until the coordinator epochs are spent
  pub restarts : let m = after_commands lines (first_memory log words payloads) in let c = m.session.coordinator in
      (kept : ℕ) (line : List ℕ) → c.flushed + kept ≤ log_end c → c.epoch < last_epoch → (performed (Cut kept) line m).reply.number ≡ 0

-- commands whose numbers are of their types
abbrev pub EverySessionRuns : Type 0
EverySessionRuns =
    (log words payloads : List ℕ) (lines : List CommandLine) → Each (λ (x : CommandLine). command_typed x.command ≡ true) lines → SessionRuns log words payloads lines

-- a line of any bytes, as the program takes it
abbrev pub command_line : List ℕ → CommandLine
command_line line = record { command = command_of line; line = line }

-- so whatever lines are given to the program
abbrev pub EveryTextRuns : Type 0
EveryTextRuns = (log words payloads : List ℕ) (lines : List (List ℕ)) → SessionRuns log words payloads (map command_line lines)
