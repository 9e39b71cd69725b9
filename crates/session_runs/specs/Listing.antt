-- Document 01, Listing: its thirteen commands and what they answer.
use Rattle.std.specs.Prelude.{ℕ, List, [], ◌∷◌, ℤ, pos, replicate}
use Rattle.coordinator.specs.Coordinator.{log_end}
use Rattle.server.specs.Lines.{rig7}
use Rattle.command.specs.declared.Command.{Command}
use Rattle.command.specs.declared.Command.TheVariants.{Init, Add, End, Flush, Put, Carry, Read, Cut}
use Rattle.fields.specs.declared.Part.{Part}
use Rattle.session.specs.Memory.{Memory}
use Rattle.session.specs.Commands.{performed}
use Rattle.session_runs.specs.Items.{first_memory, CommandLine}

-- "each output line is the word, 0 or refusal, log length, flushed length, results"
pub record Output : Type 0 where
  pub number : ℕ
  pub length : ℕ
  pub flushed : ℕ
  pub results : List ℤ

-- the output of each command; the lengths are those after it
unfoldable pub outputs : List CommandLine → Memory → List Output
outputs [] m = []
outputs (x ∷ lines) m =
    let o = performed x.command x.line m in
    let c = o.memory.session.coordinator in
    record { number = o.reply.number; length = log_end c; flushed = c.flushed; results = o.reply.results } ∷ outputs lines o.memory

abbrev pub output : ℕ → ℕ → ℕ → List ℤ → Output
output number length flushed results = record { number = number; length = length; flushed = flushed; results = results }

-- "log 8,192 bytes …; 64 entries each"
abbrev pub listing_memory : Memory
listing_memory = first_memory (replicate 8192 0) (replicate 768 0) (replicate 64 0)

-- a command whose name is all of the line
abbrev pub named : (Part → Command) → CommandLine
named command = record { command = command (record { from = 0; len = 4 }); line = rig7 }

abbrev pub plain : Command → CommandLine
plain command = record { command = command; line = [] }

-- the input left of `|`
abbrev pub listing : List CommandLine
listing =
    named (λ name. Init name (pos 60000) (pos 100)) ∷
    plain Flush ∷
    named (λ name. Add name (pos 1000) (pos 0) 257 (pos 110)) ∷
    plain Flush ∷
    named (λ name. Put name (pos 1000) (pos 0) 8 (pos 0) 502) ∷
    named (λ name. End name (pos 1000) (pos 0) 0 (pos 120)) ∷
    plain (Carry 257) ∷
    plain Flush ∷
    plain (Carry 257) ∷
    plain (Cut 0) ∷
    plain (Carry 257) ∷
    plain (Carry 257) ∷
    plain (Read 8) ∷
    []

-- the output right of it
abbrev pub listed : List Output
listed =
    output 0 53 0 (pos 1000 ∷ pos 0 ∷ []) ∷
    output 0 53 53 [] ∷
    output 0 134 53 [] ∷
    output 0 134 134 [] ∷
    output 0 134 134 (pos 0 ∷ []) ∷
    output 0 215 134 [] ∷
    output 0 215 134 [] ∷
    output 0 215 215 [] ∷
    output 0 215 215 (pos 0 ∷ pos 0 ∷ pos 0 ∷ []) ∷
    output 0 215 215 [] ∷
    output 0 215 215 (pos 0 ∷ pos 0 ∷ pos 0 ∷ []) ∷
    output 0 268 215 (pos 0 ∷ pos 8 ∷ pos 0 ∷ []) ∷
    output 0 268 215 (pos 502 ∷ []) ∷
    []
