-- Lines of document 01's listing, a row for each kind, some with shorter fields, and lines at the edges of what a command is.
use Rattle.std.specs.Prelude.{ℕ, ◌≡◌, List, [], ◌∷◌, pos, negsuc}
use Rattle.search.specs.Search.{Each}
use Rattle.numbers.specs.Ascii.{ascii}
use Rattle.fields.specs.Fields.{part}
use Rattle.command.specs.Command.{command_of, row_of_command}
use Rattle.command.specs.declared.Command.{Command}
use Rattle.command.specs.declared.Command.TheVariants.{Init, Add, End, Tick, Flush, Put, Carry, Read, Cut, Left, Unknown}
use Rattle.listing.specs.Listing.{reply_line}
use Rattle.listing.specs.declared.Reply.{Reply}
use Rattle.listing.specs.declared.Reply.TheVariants.{Unknown as Unanswered, Answered}
use Rattle.listing.specs.declared.Results.{Results}
use Rattle.listing.specs.declared.Results.TheVariants.{Empty, Absent, One, Two, Three, Payloads}

-- the reply to a call that was accepted; and to one that was not: "A refused call has no results."
abbrev pub accepted : Results → Reply
accepted results = Answered 0 results

abbrev pub refused : ℕ → Reply
refused number = Answered number Empty

-- an input line and the command that it is; its reply with the lengths and the payloads, and the output line
pub record Example : Type 0 where
  pub input : List ℕ
  pub command : Command
  pub reply : Reply
  pub log : ℕ
  pub flushed : ℕ
  pub payloads : List ℕ
  pub output : List ℕ

abbrev pub example : List ℕ → Command → Reply → ℕ → ℕ → List ℕ → List ℕ → Example
example input command reply log flushed payloads output =
    record { input = input; command = command; reply = reply; log = log; flushed = flushed; payloads = payloads; output = output }

abbrev pub Right : Example → Type 0
Right e = (command_of e.input ≡ e.command) × (reply_line (row_of_command e.command) e.reply e.log e.flushed e.payloads ≡ e.output)

abbrev pub examples : List Example
examples =
    example (ascii "init rig7 60000 100") (Init (part 5 4) (pos 60000) (pos 100)) (accepted (Two (pos 1000) (pos 0))) 53 0 ([]) (ascii "init\t0\t53\t0\t1000\t0\n") ∷
    example (ascii "flush") Flush (accepted Empty) 53 53 ([]) (ascii "flush\t0\t53\t53\n") ∷
    example (ascii "add r 1 0 257 110") (Add (part 4 1) (pos 1) (pos 0) 257 (pos 110)) (accepted Empty) 134 53 ([]) (ascii "add\t0\t134\t53\n") ∷
    example (ascii "put r 1 0 8 0 502") (Put (part 4 1) (pos 1) (pos 0) 8 (pos 0) 502) (accepted (One (pos 0))) 134 134 ([]) (ascii "put\t0\t134\t134\t0\n") ∷
    example (ascii "end r 1 0 0 120") (End (part 4 1) (pos 1) (pos 0) 0 (pos 120)) (accepted Empty) 215 134 ([]) (ascii "end\t0\t215\t134\n") ∷
    example (ascii "carry 257") (Carry 257) (accepted Absent) 215 134 ([]) (ascii "carry\t0\t215\t134\t-\n") ∷
    example (ascii "carry 257") (Carry 257) (accepted (Three (pos 0) (pos 8) (pos 0))) 268 215 ([]) (ascii "carry\t0\t268\t215\t0\t8\t0\n") ∷
    example (ascii "cut 0") (Cut 0) (accepted Empty) 215 215 ([]) (ascii "cut\t0\t215\t215\n") ∷
    example (ascii "read 8") (Read 8) (accepted (Payloads 1)) 268 215 (502 ∷ []) (ascii "read\t0\t268\t215\t502\n") ∷
    example (ascii "read 8") (Read 8) (accepted (Payloads 0)) 268 215 (502 ∷ []) (ascii "read\t0\t268\t215\t-\n") ∷
    example (ascii "tick -1") (Tick (negsuc 0)) (accepted (One (pos 0))) 268 215 ([]) (ascii "tick\t0\t268\t215\t0\n") ∷
    example (ascii "add  -0 -32768 007 0") (Add (part 4 0) (pos 0) (negsuc 32767) 7 (pos 0)) (refused 1) 268 215 ([]) (ascii "add\t1\t268\t215\n") ∷
    example (ascii "left 0") (Left 0) (accepted (One (pos 2))) 215 134 ([]) (ascii "left\t0\t215\t134\t2\n") ∷
    example (ascii "add r 1 32768 1 1") Unknown Unanswered 268 215 ([]) (ascii "?\t-\t268\t215\n") ∷
    example (ascii "cut -1") Unknown Unanswered 268 215 ([]) (ascii "?\t-\t268\t215\n") ∷
    example (ascii "flush ") Unknown Unanswered 268 215 ([]) (ascii "?\t-\t268\t215\n") ∷
    example (ascii "") Unknown Unanswered 0 0 ([]) (ascii "?\t-\t0\t0\n") ∷
    []

abbrev pub EveryExample : Type 0
EveryExample = Each Right examples
