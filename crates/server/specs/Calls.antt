-- Every call of document 01 as one type, with any arguments: what it answers, and the state and buffers that it leaves.
use Rattle.std.specs.Prelude.{ℕ, cond, List, [], eqb, ℤ, length}
use Rattle.answers.specs.Answers.{Reply, accepted, reply, open_reply, order_reply, produce_reply, read_reply}
use Rattle.coordinator.specs.Coordinator.{Action}
use Rattle.coordinator.specs.Open.{opening}
use Rattle.coordinator.specs.Order.{order}
use Rattle.coordinator.specs.Calls.{CoordinatorCall, Writer, acts, answered, perform}
use Rattle.coordinator.specs.declared.Coordinator.{Coordinator}
use Rattle.partition.specs.Partition.{open_partition, after as partition_after, words_after, Action as PartitionAction}
use Rattle.partition.specs.Marker.{marker}
use Rattle.partition.specs.Read.{read_answer, read_out}
use Rattle.partition.specs.declared.Partition.{Partition}
use Rattle.server.specs.Produce.{produce}

-- a coordinator and a partition, each with the buffer that is lent to it, and the slice that Read copies into
pub record Server : Type 0 where
  pub coordinator : Coordinator
  pub log : List ℕ
  pub partition : Partition
  pub words : List ℕ
  pub out : List ℕ

-- the calls
pub data Call : Type 0 where
  -- catalogue text, log length, coordinator epoch, first and last pid
  open_log : (text : List ℕ) (n : ℕ) (epoch first last : ℤ) → Call
  -- a partition is opened with the words lent
  open_words : Call
  -- Init, Add, End, Tick, Flush, Ack
  call : CoordinatorCall → Call
  -- set of partitions that are up
  order_call : (up : ℕ) → Call
  produce_call : (name : List ℕ) (pid epoch : ℤ) (position : ℕ) (sequence : ℤ) (payload : ℕ) → Call
  -- `coordinator` is the coordinator epoch
  marker_call : (place : ℕ) (pid epoch : ℤ) (verdict : ℕ) (coordinator : ℤ) → Call
  -- the offset to read from
  read_call : (from : ℕ) → Call

-- the coordinator with its log buffer
abbrev pub writer_of : Server → Writer
writer_of s = record { state = s.coordinator; log = s.log }

-- what a call answers
abbrev pub answer_of : Call → Server → Reply
answer_of (open_log text n epoch first last) s = open_reply (opening text s.log n epoch first last).answer
answer_of open_words s = accepted []
answer_of (call c) s = answered c (writer_of s)
answer_of (order_call up) s = order_reply (order s.coordinator up)
answer_of (produce_call name pid epoch position sequence payload) s =
    produce_reply (produce s.coordinator s.partition (length s.words) name pid epoch position sequence payload).answer
answer_of (marker_call place pid epoch verdict coordinator) s =
    reply (marker s.partition (length s.words) place pid epoch verdict coordinator).answer
answer_of (read_call from) s = read_reply (read_answer s.partition s.words from s.out)

abbrev pub with_writer : Server → Writer → Server
with_writer s x = record { coordinator = x.state; log = x.log; partition = s.partition; words = s.words; out = s.out }

-- a call of the coordinator does this
abbrev pub coordinator_does : Action → Server → Server
coordinator_does a s = with_writer s (acts a (writer_of s))

-- a call of the partition does this
abbrev pub partition_does : PartitionAction → Server → Server
partition_does a s =
    record {
      coordinator = s.coordinator;
      log = s.log;
      partition = partition_after a s.partition;
      words = words_after a s.partition s.words;
      out = s.out;
    }

abbrev pub with_coordinator : Server → Coordinator → Server
with_coordinator s c = record { coordinator = c; log = s.log; partition = s.partition; words = s.words; out = s.out }

abbrev pub with_partition : Server → Partition → Server
with_partition s p = record { coordinator = s.coordinator; log = s.log; partition = p; words = s.words; out = s.out }

abbrev pub with_out : Server → List ℕ → Server
with_out s out = record { coordinator = s.coordinator; log = s.log; partition = s.partition; words = s.words; out = out }

-- what a call leaves; a refused opening makes no state, and the one that was there stays
abbrev pub after_call : Call → Server → Server
after_call (open_log text n epoch first last) s =
    cond (eqb (answer_of (open_log text n epoch first last) s).number 0) (with_coordinator s (opening text s.log n epoch first last).state) s
after_call open_words s = with_partition s (open_partition (length s.words))
after_call (call c) s = with_writer s (perform c (writer_of s))
after_call (order_call up) s = s
after_call (produce_call name pid epoch position sequence payload) s =
    partition_does (produce s.coordinator s.partition (length s.words) name pid epoch position sequence payload).action s
after_call (marker_call place pid epoch verdict coordinator) s =
    partition_does (marker s.partition (length s.words) place pid epoch verdict coordinator).action s
after_call (read_call from) s = with_out s (read_out s.partition s.words from s.out)
