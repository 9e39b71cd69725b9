-- The memory of a session: its state and the buffers lent to it; the server that one call is made on.
use Rattle.std.specs.Prelude.{ℕ, ◌+◌, ◌*◌, ◌/◌, cond, List, ◌++◌, eqb, length, take, drop, get_or, set, replicate}
use Rattle.coordinator.specs.Open.{opening}
use Rattle.partition.specs.Partition.{open_partition}
use Rattle.partition.specs.declared.Partition.{Partition}
use Rattle.server.specs.Calls.{Server}
use Rattle.server.specs.Lines.{catalogue_text}
use Rattle.session.specs.Limits.{partitions, first_pid, last_pid, first_epoch}
use Rattle.session.specs.declared.Session.{Session}

-- the session, the log buffer, the words of all partitions one behind the other, and the slice that Read copies into
pub record Memory : Type 0 where
  pub session : Session
  pub log : List ℕ
  pub words : List ℕ
  pub payloads : List ℕ

abbrev pub memory : Session → List ℕ → List ℕ → List ℕ → Memory
memory session log words payloads = record { session = session; log = log; words = words; payloads = payloads }

-- ---- the partitions

-- the partition of a position: those of positions 0, 1 and 8 have their own; 01, Runs: "any one's for a position outside the catalogue"
abbrev pub index_of : ℕ → ℕ
index_of position = cond (eqb position 1) 1 (cond (eqb position 8) 2 0)

abbrev pub partition_at : Session → ℕ → Partition
partition_at s index = get_or s.partitions index (open_partition 0)

-- how many of the words each partition has
abbrev pub share : List ℕ → ℕ
share words = length words / partitions

-- the words of a partition
abbrev pub words_at : List ℕ → ℕ → List ℕ
words_at words index = take (share words) (drop (index * share words) words)

-- all words with those of one partition as they are now
abbrev pub with_words : List ℕ → ℕ → List ℕ → List ℕ
with_words words index own = take (index * share words) words ++ (own ++ drop (index * share words + share words) words)

-- ---- the server

-- the coordinator and one partition, with their buffers
abbrev pub server_at : ℕ → Memory → Server
server_at index m =
    record {
      coordinator = m.session.coordinator;
      log = m.log;
      partition = partition_at m.session index;
      words = words_at m.words index;
      out = m.payloads;
    }

-- the memory after a call on that server
abbrev pub with_server : ℕ → Memory → Server → Memory
with_server index m s =
    record {
      session = record { coordinator = s.coordinator; partitions = set m.session.partitions index s.partition };
      log = s.log;
      words = with_words m.words index s.words;
      payloads = s.out;
    }

-- ---- the opening

-- "It opens an empty log": catalogue scan 2, cert 1; each partition is opened with its words
unfoldable pub opened : List ℕ → List ℕ → Session
opened log words =
    record {
      coordinator = (opening catalogue_text log 0 first_epoch first_pid last_pid).state;
      partitions = replicate partitions (open_partition (share words));
    }
