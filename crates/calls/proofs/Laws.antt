-- What a contract says of a decision is what its case of `Call` says.
use mathlib.Core.Path.{◌≡◌, refl, sym, ap, ◌∙◌}
use mathlib.Core.Bool.{Bool, true, false, cond}
use mathlib.Core.List.{List}
use Prim.Native.Nat.{ℕ}
use lib.Dec.{eqb}
use lib.IntN.{ℤ}
use Rattle.answers.specs.Answers.{Reply, reply, open_reply, read_reply}
use Rattle.answers.specs.Refusals.{first_refusal, Decision}
use Rattle.answers.specs.Answer.{Answer}
use Rattle.answers.specs.Answer.{Refused}
use Rattle.answers.specs.ReadAnswer.{ReadAnswer}
use Rattle.answers.proofs.Laws.{unless-does}
use Rattle.coordinator.specs.Coordinator.{Action, keep, after, log_after, Performed}
use Rattle.coordinator.specs.Flush.{flush_tests, flush}
use Rattle.coordinator.specs.Open.{opening}
use Rattle.coordinator.specs.OpenedLog.{OpenedLog}
use Rattle.coordinator.specs.declared.Coordinator.{Coordinator}
use Rattle.partition.specs.Partition.{open_partition, Action as PartitionAction, after as partition_after, words_after, Performed as PartitionPerformed}
use Rattle.partition.specs.Read.{read_answer, read_out}
use Rattle.partition.specs.declared.Partition.{Partition}
use Rattle.calls.specs.Meets.{server, OfFlush, OfOpening, OfOpenWords, OfRead}

pub coordinator-meets : {A : Type 0} (numbers : A → Reply) (d : Decision A Action) (s : Coordinator) (log : List ℕ) (answer : A) (state : Coordinator) (left : List ℕ)
    → Performed d s log answer state left → (p : Partition) (words out : List ℕ)
    → (numbers answer ≡ numbers d.answer) × (server state left p words out ≡ server (after d.action s) (log_after d.action s log) p words out)
coordinator-meets numbers d s log answer state left (a, b, c) p words out =
    (ap numbers a, λ i. record { coordinator = b i; log = c i; partition = p; words = words; out = out })

pub partition-meets : {A : Type 0} (numbers : A → Reply) (d : Decision A PartitionAction) (p : Partition) (words : List ℕ) (answer : A) (state : Partition) (left : List ℕ)
    → PartitionPerformed d p words answer state left → (s : Coordinator) (log out : List ℕ)
    → (numbers answer ≡ numbers d.answer) × (server s log state left out ≡ server s log (partition_after d.action p) (words_after d.action p words) out)
partition-meets numbers d p words answer state left (a, b, c) s log out =
    (ap numbers a, λ i. record { coordinator = s; log = log; partition = b i; words = c i; out = out })

-- Flush writes nothing
pub flush-meets : (n : ℕ) (s : Coordinator) (answer : Answer) (state : Coordinator) → (answer ≡ (flush s n).answer) × (state ≡ after (flush s n).action s) → OfFlush n s (reply answer) state
unfolding flush
flush-meets n s answer state (a, b) log =
    coordinator-meets reply (flush s n) s log answer state log
    (a, b, unless-does (first_refusal (flush_tests s n)) Refused keep _ (λ (d : Action). log ≡ log_after d s log) refl (λ e. refl))

-- the state of an accepted opening is held from then on
pub opening-meets : (text log : List ℕ) (n : ℕ) (epoch first last : ℤ) (o : OpenedLog) → o ≡ opening text log n epoch first last → OfOpening text n epoch first last log (open_reply o.answer) o.state
opening-meets text log n epoch first last o e s p words out = (
  ap (λ (q : OpenedLog). open_reply q.answer) e,
  ap (λ (q : OpenedLog). server (cond (eqb (open_reply q.answer).number 0) q.state s) log p words out) e ∙ moved (eqb (open_reply (opening text log n epoch first last).answer).number 0),
)
  where
    moved : (b : Bool) → server (cond b (opening text log n epoch first last).state s) log p words out
        ≡ cond b (server (opening text log n epoch first last).state log p words out) (server s log p words out)
    moved true = refl
    moved false = refl

pub words-meets : (n : ℕ) (state : Partition) → state ≡ open_partition n → OfOpenWords n state
words-meets n state e s log p words out long = (refl, ap (λ (q : Partition). server s log q words out) (e ∙ ap open_partition (sym long)))

pub read_meets : (from : ℕ) (p : Partition) (words out : List ℕ) (answer : ReadAnswer) (left : List ℕ)
    → (answer ≡ read_answer p words from out) × (left ≡ read_out p words from out) → OfRead from p words out (read_reply answer) left
read_meets from p words out answer left (a, b) s log = (ap read_reply a, ap (λ (l : List ℕ). server s log p words l) b)
