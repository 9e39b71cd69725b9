-- The table to be proved, T1 to T12: for each line the calls that lead to it, and what document 01 says of the last one; of T4, T5 and a widened T11 document 02.
use Rattle.std.specs.Prelude.{ℕ, ◌-◌, ◌*◌, List, [], ◌∷◌, ◌++◌, ℤ, pos, replicate, take, drop}
use Rattle.numbers.specs.Ascii.{ascii}
use Rattle.catalogue.specs.Catalogue.{parse}
use Rattle.record.specs.Limits.{name_max}
use Rattle.record.specs.declared.Status.TheVariants.{CompleteAbort}
use Rattle.numbers.specs.Padded.{padded}
use Rattle.row.specs.declared.Row.{Row}
use Rattle.table.specs.Table.{empty_table, id_count, apply}
use Rattle.coordinator.specs.Coordinator.{log_end}
use Rattle.coordinator.specs.Open.{blank_state, taken_over}
use Rattle.partition.specs.Limits.{entry_words}
use Rattle.partition.specs.Partition.{open_partition}
use Rattle.partition.specs.declared.Partition.{Partition}
use Rattle.coordinator.specs.Calls.{init_call, add_call, tick_call, flush_call}
use Rattle.server.specs.Calls.{Server, Call, open_log, open_words, call, produce_call, answer_of, after_call, with_out}

-- "catalogue scan 2, cert 1", as text
abbrev pub catalogue_text : List ℕ
catalogue_text = ascii "scan\t2\ncert\t1\n"

-- a catalogue of `scan` alone
abbrev pub scan_text : List ℕ
scan_text = ascii "scan\t2\n"

-- "name `rig7`", and a second name
abbrev pub rig7 : List ℕ
rig7 = ascii "rig7"

abbrev pub lab3 : List ℕ
lab3 = ascii "lab3"

-- before any call: a log buffer and a partition slice of these lengths, and a slice of one word to read into
abbrev pub lent : ℕ → ℕ → Server
lent bytes words =
    record { coordinator = blank_state; log = replicate bytes 0; partition = open_partition 0; words = replicate words 0; out = 0 ∷ [] }

-- what is seen of the last call: its answer, how many ids are held then, by how many bytes the log's end went up, the words of the entries that were written, and the slice to read into
pub record Outcome : Type 0 where
  pub number : ℕ
  pub results : List ℤ
  pub ids : ℕ
  pub appended : ℕ
  pub written : List ℕ
  pub out : List ℕ

-- the words of the entries that one partition has more than another
abbrev pub words_between : Partition → Partition → List ℕ → List ℕ
words_between p q words = take (entry_words * (q.end - p.end)) (drop (entry_words * p.end) words)

abbrev pub seen : Call → Server → Outcome
seen c s =
    let answer = answer_of c s in
    let after = after_call c s in
    record {
      number = answer.number;
      results = answer.results;
      ids = id_count after.coordinator.table;
      appended = log_end after.coordinator - log_end s.coordinator;
      written = words_between s.partition after.partition after.words;
      out = after.out;
    }

-- the state after a list of calls
unfoldable pub after_all : List Call → Server → Server
after_all [] s = s
after_all (c ∷ calls) s = after_all calls (after_call c s)

pub record Line : Type 0 where
  pub start : Server
  pub calls : List Call
  pub last : Call
  pub expected : Outcome

unfoldable pub outcome : Line → Outcome
outcome line = seen line.last (after_all line.calls line.start)

-- an opening of the empty log with coordinator epoch 1 and the pids 1000 to 1999
abbrev pub opened : Call
opened = open_log catalogue_text 0 (pos 1) (pos 1000) (pos 1999)

-- Init of `rig7` at 100 with this timeout
abbrev pub init7 : ℤ → Call
init7 timeout = call (init_call rig7 timeout (pos 100))

-- partition 0 of `scan` joins at 100
abbrev pub join : Call
join = call (add_call rig7 (pos 1000) (pos 0) 1 (pos 100))

-- the calls that bring `rig7` into a flushed BEGIN with this timeout
abbrev pub begins : ℤ → List Call
begins timeout = opened ∷ open_words ∷ init7 timeout ∷ call (flush_call 53) ∷ join ∷ call (flush_call 120) ∷ []

-- and that widen it at 140 by partition 1 of `scan`; the widening is not flushed
abbrev pub widens : ℤ → List Call
widens timeout = begins timeout ++ (call (add_call rig7 (pos 1000) (pos 0) 2 (pos 140)) ∷ [])

-- and it flushed
abbrev pub widens_flushed : ℤ → List Call
widens_flushed timeout = widens timeout ++ (call (flush_call 191) ∷ [])

abbrev pub put : Call
put = produce_call rig7 (pos 1000) (pos 0) 0 (pos 0) 502

-- `rig7` held in status 5 with epoch 32766
abbrev pub spent : Row
spent =
    record {
      name = padded name_max rig7;
      pid = 1000;
      epoch = 32766;
      timeout = 60000;
      status = CompleteAbort;
      joined = 0;
      updated = 90;
      start = 0;
      end = 53;
      acknowledged = 0;
    }

abbrev pub held_spent : Server
held_spent =
    record {
      coordinator = taken_over (parse catalogue_text).catalogue (apply empty_table 0 spent) 2048 (pos 1) (pos 1000) (pos 1999);
      log = replicate 2048 0;
      partition = open_partition 0;
      words = [];
      out = [];
    }

-- a line from a server: the last call writes no entry and reads nothing
abbrev pub line_from : Server → List Call → Call → ℕ → List ℤ → ℕ → ℕ → Line
line_from start calls last number results ids appended =
    record {
      start = start;
      calls = calls;
      last = last;
      expected = record { number = number; results = results; ids = ids; appended = appended; written = []; out = start.out };
    }

abbrev pub line : ℕ → ℕ → List Call → Call → ℕ → List ℤ → ℕ → ℕ → Line
line bytes words = line_from (lent bytes words)

-- the line with the words that its last call writes
abbrev pub writes : List ℕ → Line → Line
writes words l =
    record {
      start = l.start;
      calls = l.calls;
      last = l.last;
      expected =
          record {
            number = l.expected.number;
            results = l.expected.results;
            ids = l.expected.ids;
            appended = l.expected.appended;
            written = words;
            out = l.expected.out;
          };
    }

-- the line with a slice to read into, and what the slice holds then
abbrev pub reads : List ℕ → List ℕ → Line → Line
reads before out l =
    record {
      start = with_out l.start before;
      calls = l.calls;
      last = l.last;
      expected =
          record {
            number = l.expected.number;
            results = l.expected.results;
            ids = l.expected.ids;
            appended = l.expected.appended;
            written = l.expected.written;
            out = out;
          };
    }

-- document 01, Table to be proved
abbrev pub lines : List Line
lines =
    -- "T1 empty log opens with no ids."
    line 2048 0 [] opened 0 [] 0 0 ∷
    -- "T2 name `rig7`, EMPTY: 53 bytes."
    line 2048 0 (opened ∷ []) (init7 (pos 60000)) 0 (pos 1000 ∷ pos 0 ∷ []) 1 53 ∷
    -- "T3 with `scan` 0 joined: 67."
    line 2048 0 (opened ∷ init7 (pos 60000) ∷ call (flush_call 53) ∷ []) join 0 [] 1 67 ∷
    -- T4: "first Init of `rig7` accepted"; document 02, 1: "T4 and T5 1,143 and 1,142"
    line 1143 0 (opened ∷ []) (init7 (pos 60000)) 0 (pos 1000 ∷ pos 0 ∷ []) 1 53 ∷
    -- T5: "17."
    line 1142 0 (opened ∷ []) (init7 (pos 60000)) 17 [] 0 0 ∷
    -- "T6 timeout 900000 accepted"
    line 2048 0 (opened ∷ []) (init7 (pos 900000)) 0 (pos 1000 ∷ pos 0 ∷ []) 1 53 ∷
    -- "T7 900001: 2."
    line 2048 0 (opened ∷ []) (init7 (pos 900001)) 2 [] 0 0 ∷
    -- "T8 partition room 2 entries: Produce accepted"
    writes (1000 ∷ 0 ∷ 0 ∷ 502 ∷ []) (line 2048 8 (begins (pos 60000)) put 0 (pos 0 ∷ []) 1 0) ∷
    -- "T9 room 1: 22."
    line 2048 4 (begins (pos 60000)) put 22 [] 1 0 ∷
    -- "T10 BEGIN at 100, timeout 50: Tick 150 none"
    line 2048 0 (begins (pos 50)) (call (tick_call (pos 150))) 0 [] 1 0 ∷
    -- "T11 Tick 151 aborts."
    line 2048 0 (begins (pos 50)) (call (tick_call (pos 151))) 0 (pos 0 ∷ []) 1 67 ∷
    -- T11, document 02, 2: "In T11 a BEGIN widened at 140 is still aborted at 151.", and not at 150
    line 2048 0 (widens_flushed (pos 50)) (call (tick_call (pos 150))) 0 [] 1 0 ∷
    line 2048 0 (widens_flushed (pos 50)) (call (tick_call (pos 151))) 0 (pos 0 ∷ []) 1 71 ∷
    -- "T12 held epoch 32766, Init: new pid, epoch 0."
    line_from held_spent [] (init7 (pos 60000)) 0 (pos 1001 ∷ pos 0 ∷ []) 1 53 ∷
    []
