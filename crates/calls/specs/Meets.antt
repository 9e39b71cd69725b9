-- A function meets a call: what it answers and leaves is what `answer_of` and `after_call` say of the call, whatever the parts are that it is not given.
use Rattle.std.specs.Prelude.{◌≡◌, cond, List, [], eqb, ℤ, length, ℕ}
use Rattle.answers.specs.Answers.{Reply, accepted}
use Rattle.coordinator.specs.Calls.{flush_call}
use Rattle.coordinator.specs.declared.Coordinator.{Coordinator}
use Rattle.partition.specs.declared.Partition.{Partition}
use Rattle.server.specs.Calls.{Server, Call, open_log, open_words, call, order_call, read_call, answer_of, after_call}

abbrev pub Meets : Call → Server → Reply → Server → Type 0
Meets c s answer left = (answer ≡ answer_of c s) × (left ≡ after_call c s)

abbrev pub server : Coordinator → List ℕ → Partition → List ℕ → List ℕ → Server
server s log p words out = record { coordinator = s; log = log; partition = p; words = words; out = out }

-- a call of the coordinator, which is given its state and the log buffer
abbrev pub OfCoordinator : Call → Coordinator → List ℕ → Reply → Coordinator → List ℕ → Type 0
OfCoordinator c s log answer state left = (p : Partition) (words out : List ℕ) → Meets c (server s log p words out) answer (server state left p words out)

-- a call of a partition, which is given its state and its words, and the coordinator's state
abbrev pub OfPartition : Call → Coordinator → Partition → List ℕ → Reply → Partition → List ℕ → Type 0
OfPartition c s p words answer state left = (log out : List ℕ) → Meets c (server s log p words out) answer (server s log state left out)

-- Flush is lent no buffer, so it leaves any as it was
abbrev pub OfFlush : ℕ → Coordinator → Reply → Coordinator → Type 0
OfFlush length s answer state = (log : List ℕ) → OfCoordinator (call (flush_call length)) s log answer state log

-- a Marker is given no coordinator
abbrev pub OfMarker : Call → Partition → List ℕ → Reply → Partition → List ℕ → Type 0
OfMarker c p words answer state left = (s : Coordinator) → OfPartition c s p words answer state left

-- an Order is given the coordinator's state alone, and leaves all as it was
abbrev pub OfOrder : ℕ → Coordinator → Reply → Type 0
OfOrder up s answer = (log : List ℕ) (p : Partition) (words out : List ℕ) → Meets (order_call up) (server s log p words out) answer (server s log p words out)

-- an opening of a log: the state that it makes is held from then on, if it is accepted
abbrev pub OfOpening : List ℕ → ℕ → ℤ → ℤ → ℤ → List ℕ → Reply → Coordinator → Type 0
OfOpening text n epoch first last log answer state =
    (s : Coordinator) (p : Partition) (words out : List ℕ)
    → Meets (open_log text n epoch first last) (server s log p words out) answer (server (cond (eqb answer.number 0) state s) log p words out)

-- an opening of a partition, lent n words
abbrev pub OfOpenWords : ℕ → Partition → Type 0
OfOpenWords n state =
    (s : Coordinator) (log : List ℕ) (p : Partition) (words out : List ℕ) → length words ≡ n → Meets open_words (server s log p words out) (accepted []) (server s log state words out)

-- Read is given a partition, its words, and a slice to copy into
abbrev pub OfRead : ℕ → Partition → List ℕ → List ℕ → Reply → List ℕ → Type 0
OfRead from p words out answer left = (s : Coordinator) (log : List ℕ) → Meets (read_call from) (server s log p words out) answer (server s log p words left)
