-- Every session is a run of demand 3.
use Prim.Native.Nat.{ℕ}
use mathlib.Core.Path.{◌≡◌, refl, sym, ap, subst, ◌∙◌}
use mathlib.Core.Bool.{Bool, true, false, cond}
use mathlib.Core.List.{List, [], ◌∷◌}
use native.Mathlib.Omega.{arith}
use lib.Dec.{eqb}
use lib.IntN.{pos}
use lib.ListN.{length, get_or}
use borrow.Author.Tests.{le-ltb}
use Rattle.numbers.specs.Bytes.{overwrite, same}
use Rattle.numbers.specs.Padded.{until_zero}
use Rattle.bits.specs.Bits.{member}
use Rattle.search.specs.Search.{Each, sum_of}
use Rattle.catalogue.specs.Catalogue.{name_byte, name_run, is_line, line_at, is_new, lines as catalogue_lines, parse}
use Rattle.answers.specs.Answers.{accepted as accepted_reply, refused}
use Rattle.answers.specs.Refusals.{first_refusal}
use Rattle.answers.proofs.Laws.{none_is}
use Rattle.table.specs.Table.{reserved}
use Rattle.log_reader.specs.Scan.{scan_within}
use Rattle.log_reader.specs.Read.{read_tests}
use Rattle.coordinator.specs.Coordinator.{log_end}
use Rattle.coordinator.specs.Open.{take_over_tests, open_tests}
use Rattle.coordinator.specs.Order.{order}
use Rattle.coordinator.specs.Calls.{init_call, add_call, end_call, tick_call, flush_call}
use Rattle.coordinator.proofs.OpenCases.{open-number}
use Rattle.partition.specs.Read.{read_out}
use Rattle.server.specs.Lines.{catalogue_text}
use Rattle.runs.specs.World.{World, Leader, Carrying, Accepted, open_leader, open_leaders, nothing, own, call_read, start, run}
use Rattle.runs.specs.History.{History}
use Rattle.runs.proofs.Run.{run-append}
use Rattle.agreement.proofs.Invariant.{Invariant}
use Rattle.agreement.proofs.Start.{start-invariant}
use Rattle.agreement.proofs.Steps.{run-reached, always}
use Rattle.restart.proofs.Demand3.{demand-3}
use Rattle.restart.proofs.InEveryRun.{in-every-run}
use Rattle.exact_orders.proofs.ExactOrders.{exact-orders}
use Rattle.command.specs.declared.Command.{Command}
use Rattle.command.specs.declared.Command.TheVariants.{Init, Add, End, Tick, Flush, Put, Carry, Read, Cut, Left, Unknown}
use Rattle.session.specs.Limits.{first_pid, last_pid, first_epoch}
use Rattle.session.specs.Memory.{Memory, opened, index_of, server_at}
use Rattle.fields.specs.Fields.{bytes_of}
use Rattle.session.specs.Commands.{stays, reading, cuts, performed}
use Rattle.session.proofs.Parts.{length-share}
use Rattle.session_runs.specs.Items.{first_opening, first_memory, CommandLine, command_typed, items_of, after_commands, items_of_all}
use Rattle.session_runs.specs.SessionRuns.{leader_of, EverySessionRuns}
use Rattle.session_runs.proofs.Positions.{position_of, each-partition}
use Rattle.session_runs.proofs.Worlds.{world, Held, Shown, shown-server}
use Rattle.session_runs.proofs.Steps.{coordinator-called, read-called, as-shown, produce-called}
use Rattle.session_runs.proofs.Carries.{carry-shown, carry-accepted}
use Rattle.session_runs.proofs.Cuts.{cut-shown, cut-accepted}

-- ---- the start

-- an empty log opens, whatever stands in the buffer
tests-pass : (log : List ℕ) → first_refusal (open_tests catalogue_text log 0 first_epoch first_pid last_pid) ≡ 0
unfolding overwrite same until_zero name_byte name_run is_line line_at is_new catalogue_lines parse scan_within reserved sum_of read_tests take_over_tests open_tests
tests-pass log =
    none_is (open_tests catalogue_text log 0 first_epoch first_pid last_pid) (refl, (le-ltb (length log) 0 (omega arith), (refl, (refl, (le-ltb (length log) 0 (omega arith), tt)))))

accepted : (log words : List ℕ) → Accepted (first_opening log words)
accepted log words = (open-number catalogue_text log 0 first_epoch first_pid last_pid ∙ tests-pass log, refl)

start-shown : (log words payloads : List ℕ) → Shown (start (first_opening log words)) (first_memory log words payloads)
unfolding opened open_leaders
start-shown log words payloads =
    record {
      leaders = (start (first_opening log words)).leaders;
      carrying = nothing;
      history = (start (first_opening log words)).history;
      is = refl;
      held = record {
        count = refl;
        three = refl;
        at_position = each-partition (λ (i : ℕ). get_or (start (first_opening log words)).leaders (position_of i) (open_leader []) ≡ leader_of (first_memory log words payloads) i)
            (rw (length-share words 0 (omega arith))) (rw (length-share words 1 (omega arith))) (rw (length-share words 2 (omega arith)));
      };
    }

-- ---- a command

module _ (m : Memory) (leaders : List Leader) (k : Carrying) (h : History) (held : Held m leaders) where
  read-shown : (position : ℕ) (b : Bool)
      → Shown (run (cond b (call_read own position 0 m.payloads ∷ []) []) (world m leaders k h)) (cond b (reading position m) (stays (refused 3) m)).memory
  read-shown position true =
      let server = server_at (index_of position) m in
      read-called m leaders k h held (index_of position) (read_out server.partition server.words 0 server.out) position 0 m.payloads
  read-shown position false = as-shown m leaders k h held

  world-command : Invariant (world m leaders k h) → (command : Command) (line : List ℕ) → command_typed command ≡ true
      → Shown (run (items_of command line (world m leaders k h) m) (world m leaders k h)) (performed command line m).memory
  unfolding performed
  world-command inv (Init name timeout time) line t = coordinator-called m leaders k h held (init_call (bytes_of line name) timeout time) t refl
  world-command inv (Add name pid epoch set time) line t = coordinator-called m leaders k h held (add_call (bytes_of line name) pid epoch set time) t refl
  world-command inv (End name pid epoch verdict time) line t = coordinator-called m leaders k h held (end_call (bytes_of line name) pid epoch verdict time) t refl
  world-command inv (Tick time) line t = coordinator-called m leaders k h held (tick_call time) t refl
  world-command inv Flush line t = coordinator-called m leaders k h held (flush_call (log_end m.session.coordinator)) refl refl
  world-command inv (Put name pid epoch position sequence payload) line t = produce-called m leaders k h held inv (bytes_of line name) pid epoch position sequence payload t
  world-command inv (Carry up) line t = carry-shown m leaders k h held inv up t (order m.session.coordinator up) refl
  world-command inv (Read position) line t = read-shown position (member m.session.coordinator.catalogue.all position)
  world-command inv (Cut kept) line t = cut-shown m leaders k h held kept (eqb (cuts kept m).reply.number 0) refl
  world-command inv (Left place) line t = as-shown m leaders k h held
  world-command inv Unknown line t = as-shown m leaders k h held

command-shown : (m : Memory) (w : World) → Invariant w → Shown w m → (command : Command) (line : List ℕ) → command_typed command ≡ true
    → Shown (run (items_of command line w m) w) (performed command line m).memory
command-shown m w inv s command line t =
    subst (λ (v : World). Shown (run (items_of command line v m) v) (performed command line m).memory) (sym s.is)
    (world-command m s.leaders s.carrying s.history s.held (subst Invariant s.is inv) command line t)

-- ---- every list of commands

commands-shown : (lines : List CommandLine) → Each (λ (x : CommandLine). command_typed x.command ≡ true) lines → (m : Memory) (w : World) → Invariant w → Shown w m
    → Shown (run (items_of_all lines w m) w) (after_commands lines m)
unfolding items_of_all after_commands
commands-shown [] ts m w inv s = unfold run in s
commands-shown (x ∷ lines) (t, ts) m w inv s =
    let items = items_of x.command x.line w m in
    rw (run-append items _ w)
    (commands-shown lines ts (performed x.command x.line m).memory (run items w) (run-reached items w inv).invariant (command-shown m w inv s x.command x.line t))

pub every-session-runs : EverySessionRuns
every-session-runs log words payloads lines ts =
    let o = first_opening log words in
    let m = first_memory log words payloads in
    let items = items_of_all lines (start o) m in
    let inv = always o (accepted log words) items in
    let s = commands-shown lines ts m (start o) (start-invariant o (accepted log words)) (start-shown log words payloads) in
    record {
      opens = accepted log words;
      same-server = shown-server _ _ s;
      promised = λ rest. (demand-3 o (accepted log words) items rest 0 first_epoch first_pid last_pid []).0;
      reads-committed = in-every-run.reads-committed o (accepted log words) items;
      admits-exactly = in-every-run.admits-exactly o (accepted log words) items;
      displays = λ place line.
          unfold performed in ap (λ (n : ℕ). accepted_reply (pos n ∷ [])) (exact-orders.shows o (accepted log words) items _ (shown-server _ _ s).phase place);
      carried = λ up line t. unfold performed in carry-accepted _ s.leaders s.carrying s.history s.held (subst Invariant s.is inv) up t _ refl;
      restarts = λ kept line low left. unfold performed in cut-accepted _ s.leaders s.carrying s.history s.held kept (subst Invariant s.is inv) low left;
    }
