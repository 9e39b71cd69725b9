-- Lines that show what is held at a place after calls: what no answer shows at once.
use Rattle.std.specs.Prelude.{ℕ, List, ℤ, pos}
use Rattle.record.specs.Record.{status_code}
use Rattle.row.specs.Row.{record_of}
use Rattle.partition.specs.Partition.{no_producer}
use Rattle.table.specs.Table.{row_at}
use Rattle.table.specs.declared.Table.{Table}
use Rattle.server.specs.Calls.{Server, Call}
use Rattle.server.specs.Lines.{lent, after_all}
use Rattle.examples.specs.Starts.{holding}

-- "Per id: producer id (pid, i64), epoch (i16), timeout (ms), status, joined set, last update, start time, …, and the set acknowledged", as its record has them, and the clock
pub record Held : Type 0 where
  pub pid : ℤ
  pub epoch : ℤ
  pub timeout : ℤ
  pub status : ℕ
  pub joined : ℕ
  pub updated : ℤ
  pub start : ℤ
  pub acknowledged : ℕ
  pub clock : ℕ

abbrev pub held_at : ℕ → Server → Held
held_at place s =
    let row = row_at s.coordinator.table place in
    let r = record_of row in
    record {
      pid = r.pid;
      epoch = r.epoch;
      timeout = r.timeout;
      status = status_code r.status;
      joined = r.joined;
      updated = r.updated;
      start = r.start;
      acknowledged = row.acknowledged;
      clock = s.coordinator.clock;
    }

pub record HeldLine : Type 0 where
  pub start : Server
  pub calls : List Call
  pub place : ℕ
  pub expected : Held

unfoldable pub held_then : HeldLine → Held
held_then l = held_at l.place (after_all l.calls l.start)

-- from a server, by calls: at a place pid, epoch, timeout, status, joined set, last update, start and acknowledged set; then the clock
abbrev pub held_from : Server → List Call → ℕ → ℕ → ℕ → ℕ → ℕ → ℕ → ℕ → ℤ → ℕ → ℕ → HeldLine
held_from server calls place pid epoch timeout status joined updated start acknowledged clock =
    record {
      start = server;
      calls = calls;
      place = place;
      expected =
          record {
            pid = pos pid;
            epoch = pos epoch;
            timeout = pos timeout;
            status = status;
            joined = joined;
            updated = pos updated;
            start = start;
            acknowledged = acknowledged;
            clock = clock;
          };
    }

-- of `rig7`, which has place 0 and pid 1000
abbrev pub held7 : List Call → ℕ → ℕ → ℕ → ℕ → ℕ → ℤ → ℕ → ℕ → HeldLine
held7 calls = held_from (lent 2560 40) calls 0 1000

-- the same from a table
abbrev pub table_held7 : Table → List Call → ℕ → ℕ → ℕ → ℕ → ℕ → ℤ → ℕ → ℕ → HeldLine
table_held7 t calls = held_from (holding t no_producer) calls 0 1000
