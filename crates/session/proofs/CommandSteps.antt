-- What the code of a command makes, step by step, is what its definition says.
use mathlib.Core.Path.{◌≡◌, refl, sym, ap, ◌∙◌}
use mathlib.Core.List.{List, [], ◌∷◌}
use Prim.Native.Nat.{ℕ, ◌+◌, ◌-◌, ◌*◌}
use native.Mathlib.Omega.{arith}
use lib.Dec.{eqb}
use lib.IntN.{ℤ}
use lib.ListN.{length, take, drop, set, take-append-drop}
use lib.Seq.{set-get_or, drop-drop}
use borrow.Author.Tests.{eq-eqb, ne_eqb}
use borrow.Rule.Slice.PartMut.{put_mid}
use Rattle.answers.specs.Answers.{Reply, accepted, refused, open_reply, read_reply}
use Rattle.answers.specs.Refusals.{first_refusal, Decision}
use Rattle.coordinator.specs.Coordinator.{Action, after, log_after, Performed as CoordinatorPerformed}
use Rattle.coordinator.specs.declared.Coordinator.{Coordinator}
use Rattle.partition.specs.Partition.{Action as PartitionAction, Performed as PartitionPerformed, open_partition}
use Rattle.partition.specs.Read.{read_answer, read_out}
use Rattle.answers.specs.ReadAnswer.{ReadAnswer}
use Rattle.partition.specs.declared.Partition.{Partition}
use Rattle.answers.specs.Returned.{open_error_of, open_number_of}
use Rattle.answers.specs.declared.OpenError.TheVariants.{BadLog, Refused as RefusedError}
use Rattle.answers.proofs.Returned.{number-positive}
use Rattle.std.specs.declared.result.Result.TheVariants.{Ok, Err}
use Rattle.coordinator.specs.Open.{blank_state, opening, opened_of}
use Rattle.coordinator.specs.Flush.{flush, flush_tests}
use Rattle.coordinator.specs.OpenedLog.{OpenedLog}
use Rattle.numbers.proofs.Tests.{by_cases}
use Rattle.answers.specs.Answer.{Answer}
use Rattle.server.specs.Lines.{catalogue_text}
use Rattle.command.specs.declared.Command.{Command}
use Rattle.command.specs.declared.Command.TheVariants.{Init, Add, End, Tick, Flush, Put, Carry, Read, Cut, Left, Unknown}
use denote.Enum.Declared.{tag_of}
use types.Run.{OneOf, miss}
use Rattle.command.specs.contracts.Command.{the_type}
use Rattle.fields.specs.declared.Part.{Part}
use Rattle.answers.specs.OrderAnswer.{OrderAnswer}
use Rattle.answers.specs.OrderAnswer.{Order, NoOrder}
use Rattle.server.specs.Calls.{coordinator_does, partition_does, with_coordinator, read_call}
use Rattle.session.specs.Limits.{partitions, first_pid, last_pid, first_epoch}
use Rattle.session.specs.Memory.{Memory, memory, opened, partition_at, share, words_at, with_words, server_at, with_server}
use Rattle.session.specs.Commands.{Outcome, called, stays, and_then, delivers, payloads_of, carried, next_epoch, restarts, performed_on_log, performed, Performs}
use Rattle.answers.specs.declared.OpenError.{OpenError}
use Rattle.std.specs.Result.{result_unwrap_or}
use Rattle.std.specs.declared.result.Result.{Result}
use Rattle.session.specs.declared.Results.{Results}
use Rattle.session.specs.declared.Session.{Session}

-- ---- the words of a partition

-- the words that the code lends from a start on
abbrev pub lent_words : List ℕ → ℕ → List ℕ
lent_words words start = take (start + share words - start) (drop start words)

module _ (words : List ℕ) (index : ℕ) where
  pub own-words : with_words words index (words_at words index) ≡ words
  own-words =
      rw (← drop-drop (share words) (index * share words) words, take-append-drop (share words), take-append-drop (index * share words))

  pub lent-words : (start : ℕ) → start ≡ index * share words → lent_words words start ≡ words_at words index
  lent-words start s = let n : start + share words - start ≡ share words = omega arith in rw (n, s)

  -- what a call left of the words that it was lent, put back in their place
  pub put_back : (start : ℕ) (own : List ℕ) → start ≡ index * share words → put_mid start (start + share words - start) words own ≡ with_words words index own
  put_back start own s = let n : start + share words - start ≡ share words = omega arith in rw (n, drop-drop, s)

-- ---- a call

module _ (s : Session) (log words payloads : List ℕ) (index : ℕ) {Answer : Type 0} (to_reply : Answer → Reply) {told : Reply} {afterwards : Session} where
  -- of the coordinator: the partitions and their words are as they were
  pub coordinator-performs : (d : Decision Answer Action) {answer : Answer} {state : Coordinator} {left : List ℕ}
      → CoordinatorPerformed d s.coordinator log answer state left
      → told ≡ to_reply answer
      → afterwards ≡ record { coordinator = state; partitions = s.partitions }
      → (told ≡ to_reply d.answer) × (memory afterwards left words payloads ≡ with_server index (memory s log words payloads) (coordinator_does d.action (server_at index (memory s log words payloads))))
  coordinator-performs d (a, t, l) e u = (e ∙ ap to_reply a, rw (set-get_or, own-words words index, u, t, l))

  -- of the partition with index i, that was lent its words: the coordinator and the log are as they were
  pub partition-performs : (decide : Partition → ℕ → Decision Answer PartitionAction) {i : ℕ} {p : Partition} {start : ℕ} {answer : Answer} {state : Partition} {left : List ℕ}
      → i ≡ index
      → p ≡ partition_at s i
      → start ≡ i * share words
      → PartitionPerformed (decide p (length (lent_words words start))) p (lent_words words start) answer state left
      → told ≡ to_reply answer
      → afterwards ≡ record { coordinator = s.coordinator; partitions = set s.partitions i state }
      → let d = decide (partition_at s index) (length (words_at words index)) in
      (told ≡ to_reply d.answer)
      × (memory afterwards log (put_mid start (start + share words - start) words left) payloads ≡ with_server index (memory s log words payloads) (partition_does d.action (server_at index (memory s log words payloads))))
  partition-performs decide {start = start} {left = left} e q z f r u =
      let at-start : start ≡ index * share words = z ∙ ap (λ (k : ℕ). k * share words) e in
      let g = rw (lent-words words index start at-start, q ∙ ap (partition_at s) e) at f in
      (r ∙ ap to_reply g.0, rw (put_back words index start left at-start, u, e, g.1, g.2))

-- a server as it was
pub as_it_was : (index : ℕ) (m : Memory) → m ≡ with_server index m (server_at index m)
as_it_was index m = rw (set-get_or, own-words m.words index)

-- a server with another state of the coordinator
pub other-coordinator : (index : ℕ) (m : Memory) (c : Coordinator)
    → memory (record { coordinator = c; partitions = m.session.partitions }) m.log m.words m.payloads ≡ with_server index m (with_coordinator (server_at index m) c)
other-coordinator index m c = rw (set-get_or, own-words m.words index)

-- ---- what goes on unless it is refused

module _ (o : Outcome) (next : Memory → Outcome) (response : Result Results OpenError) (session : Session) {log words payloads : List ℕ} where
  pub goes_on_lem : {m : Memory} → o.reply.number ≡ 0 → m ≡ o.memory → Performs (next m) response session log words payloads → Performs (and_then o next) response session log words payloads
  goes_on_lem e q p = rw (eq-eqb _ 0 e, ← q) p

  pub stops : (o.reply.number ≡ 0 → ⊥) → Performs o response session log words payloads → Performs (and_then o next) response session log words payloads
  stops h p = rw (ne_eqb _ 0 h) p

-- ---- a reading

module _ (s : Session) (log words payloads : List ℕ) (index : ℕ) {told : Reply} where
  -- the partition with index i and its words are as they were; the payloads are what Read copied
  pub read-performs : {i : ℕ} {p : Partition} {start : ℕ} {answer : ReadAnswer} {left : List ℕ}
      → i ≡ index
      → p ≡ partition_at s i
      → start ≡ i * share words
      → answer ≡ read_answer p (lent_words words start) 0 payloads
      → left ≡ read_out p (lent_words words start) 0 payloads
      → told ≡ record { number = (read_reply answer).number; results = payloads_of answer left }
      → let o = called (read_call 0) index (memory s log words payloads) in
      (told ≡ record { number = o.reply.number; results = payloads_of (read_answer (partition_at s index) (words_at words index) 0 payloads) o.memory.payloads })
      × (memory s log words left ≡ o.memory)
  read-performs {start = start} e q z a l r =
      let at-start : start ≡ index * share words = z ∙ ap (λ (k : ℕ). k * share words) e in
      let lent = lent-words words index start at-start in
      let own = q ∙ ap (partition_at s) e in
      let a' = rw (lent, own) at a in
      let l' = rw (lent, own) at l in
      (rw (r, a', l'), rw (set-get_or, own-words words index, l'))

-- ---- restarts

error-number : (error : OpenError) → (open_reply (open_error_of error)).number ≡ open_number_of error
error-number (BadLog offset) = refl
error-number (RefusedError refusal) = refl

pub error-positive : (error : OpenError) → open_number_of error ≡ 0 → ⊥
error-positive (BadLog offset) h = omega (arith, h)
error-positive (RefusedError refusal) h = number-positive refusal h

module _ (s : Session) (log words payloads : List ℕ) (n : ℕ) {r : Result Coordinator OpenError}
    (of : opened_of r ≡ opening catalogue_text log n (next_epoch s.coordinator.epoch) first_pid last_pid) where
  pub restart-refused : (error : OpenError) → r ≡ Err error
      → (refused (open_number_of error) ≡ (restarts n (memory s log words payloads)).reply) × (memory s log words payloads ≡ (restarts n (memory s log words payloads)).memory)
  restart-refused error e =
      let q : (open_reply (opening catalogue_text log n (next_epoch s.coordinator.epoch) first_pid last_pid).answer).number ≡ open_number_of error = rw (← of, e) (error-number error) in
      let f = ne_eqb _ 0 (λ z. error-positive error (sym q ∙ z)) in
      (rw (f, q) refl, rw f (as_it_was 0 (memory s log words payloads)))

  pub restart-opened : {state : Coordinator} → r ≡ Ok state
      → (accepted [] ≡ (restarts n (memory s log words payloads)).reply)
      × (memory (record { coordinator = state; partitions = s.partitions }) log words payloads ≡ (restarts n (memory s log words payloads)).memory)
  restart-opened {state} e =
      let q : (open_reply (opening catalogue_text log n (next_epoch s.coordinator.epoch) first_pid last_pid).answer).number ≡ 0 = rw (← of, e) refl in
      let t : state ≡ (opening catalogue_text log n (next_epoch s.coordinator.epoch) first_pid last_pid).state = rw (← of, e) refl in
      let f = eq-eqb _ 0 q in
      (rw f refl, rw (f, t) (other-coordinator 0 (memory s log words payloads) _))

-- ---- cases

-- what an order carries; its signed values are passed on by their bits
module _ (place verdict position : ℕ) {pid pid' epoch epoch' coordinator coordinator' : ℤ} (m : Memory) (response : Result Results OpenError) (session : Session) {log words payloads : List ℕ} where
  pub carried-order : {a : OrderAnswer} → a ≡ Order place pid epoch verdict position coordinator → pid' ≡ pid → epoch' ≡ epoch → coordinator' ≡ coordinator
      → Performs (delivers place pid' epoch' verdict position coordinator' m) response session log words payloads
      → Performs (carried a m) response session log words payloads
  carried-order e p q k d = rw e (rw (p, q, k) at d)

pub carried_none : {a : OrderAnswer} (m : Memory) (response : Result Results OpenError) (session : Session) {log words payloads : List ℕ} → a ≡ NoOrder → Performs (stays (accepted []) m) response session log words payloads
    → Performs (carried a m) response session log words payloads
carried_none m response session e p = rw e p

-- what a command does
pub performed-as : {a : Command} (b : Command) (line : List ℕ) (m : Memory) (response : Result Results OpenError) (session : Session) {log words payloads : List ℕ} → a ≡ b → Performs (performed b line m) response session log words payloads
    → Performs (performed a line m) response session log words payloads
performed-as b line m response session e p = rw e p

-- a command that is lent the log buffer alone
pub logged-as : {a : Command} (b : Command) (line : List ℕ) (m : Memory) (response : Result Results OpenError) (session : Session) {log words payloads : List ℕ} → a ≡ b → Performs (performed_on_log b line m) response session log words payloads
    → Performs (performed_on_log a line m) response session log words payloads
logged-as b line m response session e p = rw e p

-- it is one by its tag, and then it does what it is said to do
pub on-log-as : (command : Command) (line : List ℕ) (m : Memory) (response : Result Results OpenError) (session : Session) {log words payloads : List ℕ} → OneOf (0 ∷ 1 ∷ 2 ∷ 3 ∷ 4 ∷ 8 ∷ 10 ∷ []) (tag_of the_type command)
    → Performs (performed_on_log command line m) response session log words payloads
    → Performs (performed command line m) response session log words payloads
unfolding performed
on-log-as (Init name timeout time) line m response session h p = p
on-log-as (Add name pid epoch set time) line m response session h p = p
on-log-as (End name pid epoch verdict time) line m response session h p = p
on-log-as (Tick time) line m response session h p = p
on-log-as Flush line m response session h p = p
on-log-as (Put name pid epoch position sequence payload) line m response session h p = absurd (miss (0 ∷ 1 ∷ 2 ∷ 3 ∷ 4 ∷ 8 ∷ 10 ∷ []) 5 tt h)
on-log-as (Carry up) line m response session h p = absurd (miss (0 ∷ 1 ∷ 2 ∷ 3 ∷ 4 ∷ 8 ∷ 10 ∷ []) 6 tt h)
on-log-as (Read position) line m response session h p = absurd (miss (0 ∷ 1 ∷ 2 ∷ 3 ∷ 4 ∷ 8 ∷ 10 ∷ []) 7 tt h)
on-log-as (Cut kept) line m response session h p = p
on-log-as (Left place) line m response session h p = absurd (miss (0 ∷ 1 ∷ 2 ∷ 3 ∷ 4 ∷ 8 ∷ 10 ∷ []) 9 tt h)
on-log-as Unknown line m response session h p = p

-- for any other nothing is done
pub nothing-on-log : (command : Command) (line : List ℕ) (m : Memory) (response : Result Results OpenError) (session : Session) {log words payloads : List ℕ} → OneOf (5 ∷ 6 ∷ 7 ∷ 9 ∷ 10 ∷ []) (tag_of the_type command)
    → Performs (stays (accepted []) m) response session log words payloads
    → Performs (performed_on_log command line m) response session log words payloads
nothing-on-log (Init name timeout time) line m response session h p = absurd (miss (5 ∷ 6 ∷ 7 ∷ 9 ∷ 10 ∷ []) 0 tt h)
nothing-on-log (Add name pid epoch set time) line m response session h p = absurd (miss (5 ∷ 6 ∷ 7 ∷ 9 ∷ 10 ∷ []) 1 tt h)
nothing-on-log (End name pid epoch verdict time) line m response session h p = absurd (miss (5 ∷ 6 ∷ 7 ∷ 9 ∷ 10 ∷ []) 2 tt h)
nothing-on-log (Tick time) line m response session h p = absurd (miss (5 ∷ 6 ∷ 7 ∷ 9 ∷ 10 ∷ []) 3 tt h)
nothing-on-log Flush line m response session h p = absurd (miss (5 ∷ 6 ∷ 7 ∷ 9 ∷ 10 ∷ []) 4 tt h)
nothing-on-log (Put name pid epoch position sequence payload) line m response session h p = p
nothing-on-log (Carry up) line m response session h p = p
nothing-on-log (Read position) line m response session h p = p
nothing-on-log (Cut kept) line m response session h p = absurd (miss (5 ∷ 6 ∷ 7 ∷ 9 ∷ 10 ∷ []) 8 tt h)
nothing-on-log (Left place) line m response session h p = p
nothing-on-log Unknown line m response session h p = p

-- the signed numbers of a command are passed on by their bits
pub same-init : (name : Part) {timeout timeout' time time' : ℤ} → timeout' ≡ timeout → time' ≡ time → Init name timeout time ≡ Init name timeout' time'
same-init name p q = rw (p, q)

module _ (name : Part) {pid pid' epoch epoch' last last' : ℤ} (p : pid' ≡ pid) (q : epoch' ≡ epoch) (r : last' ≡ last) where
  pub same_add : (set : ℕ) → Add name pid epoch set last ≡ Add name pid' epoch' set last'
  same_add set = rw (p, q, r)

  pub same_end : (verdict : ℕ) → End name pid epoch verdict last ≡ End name pid' epoch' verdict last'
  same_end verdict = rw (p, q, r)

  pub same-put : (position payload : ℕ) → Put name pid epoch position last payload ≡ Put name pid' epoch' position last' payload
  same-put position payload = rw (p, q, r)

-- what is done with a name
pub named-as : (does : List ℕ → Outcome) (response : Result Results OpenError) (session : Session) {log words payloads : List ℕ} (own name : List ℕ) → own ≡ name → Performs (does own) response session log words payloads
    → Performs (does name) response session log words payloads
named-as does response session own name e p = rw e at p

-- ---- the opening

pub opened-as : (log words : List ℕ) (r : Result Coordinator OpenError) {blank c : Coordinator} {p : Partition} → opened_of r ≡ opening catalogue_text log 0 first_epoch first_pid last_pid
    → blank ≡ blank_state → c ≡ result_unwrap_or r blank → p ≡ open_partition (share words)
    → record { coordinator = c; partitions = p ∷ p ∷ p ∷ [] } ≡ opened log words
unfolding opened
opened-as log words (Ok state) e h u q = rw (u, q, ← e) refl
opened-as log words (Err error) e h u q = rw (u, h, q, ← e) refl

-- a Flush writes nothing
pub flush-log : (s : Coordinator) (n : ℕ) (log : List ℕ) → log ≡ log_after (flush s n).action s log
unfolding flush
flush-log s n log = by_cases (λ (d : Decision Answer Action). log ≡ log_after d.action s log) (eqb (first_refusal (flush_tests s n)) 0) (λ t. refl) (λ t. refl)

-- ---- for whoever goes on from there

-- the memory after a call of the coordinator
pub coordinator-left : (index : ℕ) (m : Memory) (a : Action)
    → with_server index m (coordinator_does a (server_at index m))
    ≡ memory (record { coordinator = after a m.session.coordinator; partitions = m.session.partitions }) (log_after a m.session.coordinator m.log) m.words m.payloads
coordinator-left index m a = rw (set-get_or, own-words m.words index)
