-- What the program does with a line: it is parsed, performed, and answered by a line.
use Rattle.std.specs.Prelude.{ℕ, ◌+◌, cond, List, ltb, length}
use Rattle.numbers.specs.Bytes.{overwrite}
use Rattle.command.specs.Command.{command_of}
use Rattle.listing.specs.Limits.{line_max}
use Rattle.session.specs.Memory.{Memory}
use Rattle.session.specs.Commands.{performed}
use Rattle.replies.specs.Shown.{answer_line}

-- the answer line, and the memory after it
pub record Answered : Type 0 where
  pub line : List ℕ
  pub memory : Memory

-- any bytes are a line: one of the commands, or no command
unfoldable pub reply : List ℕ → Memory → Answered
reply line m =
    let command = command_of line in
    let o = performed command line m in
    record { line = answer_line command o; memory = o.memory }

-- the longest answer to any line
abbrev pub room_for : ℕ → ℕ
room_for payloads = line_max (3 + payloads)

-- the same in a lent buffer: how many bytes were written, the memory, and the buffer
pub record Responded : Type 0 where
  pub written : ℕ
  pub memory : Memory
  pub out : List ℕ

-- where the buffer does not hold every answer, nothing is done and nothing written
unfoldable pub responded : List ℕ → Memory → List ℕ → Responded
responded line m out =
    let a = reply line m in
    cond (ltb (length out) (room_for (length m.payloads))) (record { written = 0; memory = m; out = out })
    (record { written = length a.line; memory = a.memory; out = overwrite out 0 a.line })
