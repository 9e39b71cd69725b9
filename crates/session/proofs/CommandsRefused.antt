-- Demand 1 holds of every command, on every session, with every line and every buffer.
use Prim.Native.Nat.{ℕ, ◌+◌}
use mathlib.Core.Path.{◌≡◌, refl, sym, ap, ◌∙◌}
use mathlib.Core.Bool.{Bool, true, false, cond, ◌||◌}
use mathlib.Core.List.{List, [], ◌∷◌, ◌++◌}
use lib.Dec.{eqb, ltb}
use lib.IntN.{ℤ}
use lib.ListN.{length}
use borrow.Author.Tests.{eqb-true, ne_eqb}
use Rattle.numbers.proofs.Tests.{by_cases, not-both, or-either}
use Rattle.bits.specs.Bits.{member}
use Rattle.answers.specs.Answers.{Reply, reply, refused, init_reply, tick_reply, produce_reply, read_reply}
use Rattle.answers.specs.Refusals.{among}
use Rattle.answers.specs.Answer.{Answer}
use Rattle.answers.specs.Answer.{Done, Refused}
use Rattle.answers.specs.InitAnswer.{InitAnswer}
use Rattle.answers.specs.InitAnswer.{Given, Aborting, Refused as InitRefused}
use Rattle.answers.specs.TickAnswer.{TickAnswer}
use Rattle.answers.specs.TickAnswer.{Aborted, NoneDue, Refused as TickRefused}
use Rattle.answers.specs.ProduceAnswer.{ProduceAnswer}
use Rattle.answers.specs.ProduceAnswer.{Written, Refused as ProduceRefused}
use Rattle.answers.specs.ReadAnswer.{ReadAnswer}
use Rattle.answers.specs.ReadAnswer.{Copied, Refused as ReadRefused}
use Rattle.answers.specs.OrderAnswer.{OrderAnswer}
use Rattle.answers.specs.OrderAnswer.{Order, NoOrder}
use Rattle.coordinator.specs.Coordinator.{log_end}
use Rattle.coordinator.specs.Order.{order}
use Rattle.coordinator.specs.Init.{init}
use Rattle.coordinator.specs.Add.{add}
use Rattle.coordinator.specs.End.{end}
use Rattle.coordinator.specs.Tick.{tick}
use Rattle.coordinator.specs.Flush.{flush}
use Rattle.coordinator.specs.declared.Coordinator.{Coordinator}
use Rattle.partition.specs.Marker.{marker}
use Rattle.partition.specs.Read.{read_answer}
use Rattle.server.specs.Produce.{produce}
use Rattle.coordinator.specs.Calls.{init_call, add_call, end_call, tick_call, flush_call, ack_call}
use Rattle.server.specs.Calls.{Server, Call, open_log, call, produce_call, marker_call, read_call}
use Rattle.server.specs.Demand1.{refusals_of}
use Rattle.server.specs.Lines.{catalogue_text}
use Rattle.server.proofs.Demand1.{demand-1}
use Rattle.command.specs.declared.Command.{Command}
use Rattle.command.specs.declared.Command.TheVariants.{Init, Add, End, Tick, Flush, Put, Carry, Read, Cut, Left, Unknown}
use Rattle.session.specs.Limits.{first_pid, last_pid, first_epoch}
use Rattle.session.specs.Memory.{Memory, index_of, server_at, with_server}
use Rattle.fields.specs.Fields.{bytes_of}
use Rattle.session.specs.Commands.{Outcome, called, stays, answered, acknowledges, carried, payloads_of, reading, reads, next_epoch, restarts, cuts, performed}
use Rattle.session.specs.Refusals.{carry_refusals, command_refusals, delivered, kept_by, CommandsRefused}
use Rattle.session.proofs.CommandSteps.{as_it_was}

-- ---- a call

module _ (c : Call) (index : ℕ) (m : Memory) where
  called-numbered : among (called c index m).reply.number (0 ∷ refusals_of c) ≡ true
  called-numbered = demand-1.numbered c (server_at index m)

  called-unchanged : ((called c index m).reply.number ≡ 0 → ⊥) → (called c index m).memory ≡ m
  called-unchanged h = ap (with_server index m) (demand-1.unchanged c (server_at index m) h) ∙ sym (as_it_was index m)

-- ---- numbers in a longer list

or_right : (a b : Bool) → b ≡ true → (a || b) ≡ true
or_right true b e = refl
or_right false b e = e

among-front : (n : ℕ) (a b : List ℕ) → among n a ≡ true → among n (a ++ b) ≡ true
unfolding among
among-front n [] b h = not-both refl h
among-front n (k ∷ a) b h = or-either (eqb n k) (among n a) h (λ z. rw z) (λ z. or_right (eqb n k) _ (among-front n a b z))

among-back : (n : ℕ) (a b : List ℕ) → among n b ≡ true → among n (a ++ b) ≡ true
unfolding among
among-back n [] b h = h
among-back n (k ∷ a) b h = or_right (eqb n k) _ (among-back n a b h)

among-behind : (n : ℕ) (a b : List ℕ) → among n (0 ∷ b) ≡ true → among n (0 ∷ (a ++ b)) ≡ true
unfolding among
among-behind n a b h = or-either (eqb n 0) (among n b) h (λ z. rw z) (λ z. or_right (eqb n 0) _ (among-back n a b z))

-- ---- answers with other results

pub answered-number : (n : ℕ) (results : List ℤ) → (answered n results).number ≡ n
answered-number n results = by_cases (λ (r : Reply). r.number ≡ n) (eqb n 0) (λ t. sym (eqb-true n 0 t)) (λ t. refl)

answered-empty : (n : ℕ) (results : List ℤ) → (n ≡ 0 → ⊥) → (answered n results).results ≡ []
answered-empty n results h = rw (ne_eqb n 0 h)

-- ---- an order

carry-numbered : (a : OrderAnswer) (m : Memory) → among (carried a m).reply.number (0 ∷ carry_refusals a) ≡ true
carry-numbered NoOrder m = unfold among in refl
carry-numbered (Order place pid epoch verdict position coordinator) m =
    by_cases (λ (o : Outcome). among o.reply.number (0 ∷ carry_refusals (Order place pid epoch verdict position coordinator)) ≡ true) (eqb o.reply.number 0)
    (λ t. rw (answered-number k.reply.number _) (among-behind k.reply.number (refusals_of mark) _ (called-numbered (call (ack_call place pid epoch position)) (index_of position) o.memory)))
    (λ t. among-front o.reply.number (0 ∷ refusals_of mark) _ (called-numbered mark (index_of position) m))
  where
    mark : Call
    mark = marker_call place pid epoch verdict coordinator

    o : Outcome
    o = called mark (index_of position) m

    k : Outcome
    k = called (call (ack_call place pid epoch position)) (index_of position) o.memory

carry-unchanged : (a : OrderAnswer) (m : Memory) → ((carried a m).reply.number ≡ 0 → ⊥) → (carried a m).memory ≡ delivered a m
carry-unchanged NoOrder m h = refl
carry-unchanged (Order place pid epoch verdict position coordinator) m h = go (eqb o.reply.number 0) h
  where
    o : Outcome
    o = called (marker_call place pid epoch verdict coordinator) (index_of position) m

    k : Outcome
    k = called (call (ack_call place pid epoch position)) (index_of position) o.memory

    next : Outcome
    next = acknowledges place pid epoch verdict position o.memory

    go : (b : Bool) → (◌≡◌ {A = ℕ} (cond b next o).reply.number 0 → ⊥) → (cond b next o).memory ≡ o.memory
    go true h = called-unchanged (call (ack_call place pid epoch position)) (index_of position) o.memory (λ z. h (answered-number k.reply.number _ ∙ z))
    go false h = refl

reply-empty : (a : Answer) → ((reply a).number ≡ 0 → ⊥) → (reply a).results ≡ []
reply-empty Done h = refl
reply-empty (Refused number) h = refl

carry-empty : (a : OrderAnswer) (m : Memory) → ((carried a m).reply.number ≡ 0 → ⊥) → (carried a m).reply.results ≡ []
carry-empty NoOrder m h = refl
carry-empty (Order place pid epoch verdict position coordinator) m h = go (eqb o.reply.number 0) h
  where
    o : Outcome
    o = called (marker_call place pid epoch verdict coordinator) (index_of position) m

    k : Outcome
    k = called (call (ack_call place pid epoch position)) (index_of position) o.memory

    next : Outcome
    next = acknowledges place pid epoch verdict position o.memory

    s : Server
    s = server_at (index_of position) m

    go : (b : Bool) → (◌≡◌ {A = ℕ} (cond b next o).reply.number 0 → ⊥) → (cond b next o).reply.results ≡ []
    go true h = answered-empty k.reply.number _ (λ z. h (answered-number k.reply.number _ ∙ z))
    go false h = reply-empty (marker s.partition (length s.words) place pid epoch verdict coordinator).answer h

-- ---- a reading

payloads-empty : (a : ReadAnswer) (payloads : List ℕ) → ((read_reply a).number ≡ 0 → ⊥) → payloads_of a payloads ≡ []
payloads-empty (Copied count next) payloads h = absurd (h refl)
payloads-empty (ReadRefused number) payloads h = refl

module _ (position : ℕ) (m : Memory) where
  read-numbered : among (reads position m).reply.number (0 ∷ 3 ∷ refusals_of (read_call 0)) ≡ true
  read-numbered =
      by_cases (λ (o : Outcome). among o.reply.number (0 ∷ 3 ∷ refusals_of (read_call 0)) ≡ true) (member m.session.coordinator.catalogue.all position)
      (λ t. among-behind _ (3 ∷ []) (refusals_of (read_call 0)) (called-numbered (read_call 0) (index_of position) m))
      (λ t. unfold among in refl)

  read-unchanged : ((reads position m).reply.number ≡ 0 → ⊥) → (reads position m).memory ≡ m
  read-unchanged h = go (member m.session.coordinator.catalogue.all position) h
    where
      o : Outcome
      o = reading position m

      go : (b : Bool) → (◌≡◌ {A = ℕ} (cond b o (stays (refused 3) m)).reply.number 0 → ⊥) → (cond b o (stays (refused 3) m)).memory ≡ m
      go true h = called-unchanged (read_call 0) (index_of position) m h
      go false h = refl

  read-empty : ((reads position m).reply.number ≡ 0 → ⊥) → (reads position m).reply.results ≡ []
  read-empty h = go (member m.session.coordinator.catalogue.all position) h
    where
      o : Outcome
      o = reading position m

      s : Server
      s = server_at (index_of position) m

      go : (b : Bool) → (◌≡◌ {A = ℕ} (cond b o (stays (refused 3) m)).reply.number 0 → ⊥) → (cond b o (stays (refused 3) m)).reply.results ≡ []
      go true h = payloads-empty (read_answer s.partition s.words 0 s.out) _ h
      go false h = refl

-- ---- a cut

module _ (kept : ℕ) (m : Memory) where
  cut-numbered : among (cuts kept m).reply.number (0 ∷ 7 ∷ refusals_of (open_log catalogue_text 0 first_epoch first_pid last_pid)) ≡ true
  cut-numbered =
      by_cases (λ (o : Outcome). among o.reply.number (0 ∷ 7 ∷ refusals_of (open_log catalogue_text 0 first_epoch first_pid last_pid)) ≡ true) (ltb (log_end c) n)
      (λ t. unfold among in refl)
      (λ t. rw (answered-number (called open-again 0 m).reply.number []) (among-behind _ (7 ∷ []) (refusals_of open-again) (called-numbered open-again 0 m)))
    where
      c : Coordinator
      c = m.session.coordinator

      n : ℕ
      n = c.flushed + kept

      open-again : Call
      open-again = open_log catalogue_text n (next_epoch c.epoch) first_pid last_pid

  pub cut-unchanged : ((cuts kept m).reply.number ≡ 0 → ⊥) → (cuts kept m).memory ≡ m
  cut-unchanged h = go (ltb (log_end c) n) h
    where
      c : Coordinator
      c = m.session.coordinator

      n : ℕ
      n = c.flushed + kept

      open-again : Call
      open-again = open_log catalogue_text n (next_epoch c.epoch) first_pid last_pid

      go : (b : Bool) → (◌≡◌ {A = ℕ} (cond b (stays (refused 7) m) (restarts n m)).reply.number 0 → ⊥) → (cond b (stays (refused 7) m) (restarts n m)).memory ≡ m
      go true h = refl
      go false h = called-unchanged open-again 0 m (λ z. h (answered-number (called open-again 0 m).reply.number [] ∙ z))

  cut-empty : (cuts kept m).reply.results ≡ []
  cut-empty =
      by_cases (λ (o : Outcome). o.reply.results ≡ []) (ltb (log_end m.session.coordinator) (m.session.coordinator.flushed + kept)) (λ t. refl)
      (λ t. by_cases (λ (r : Reply). r.results ≡ []) (eqb (called (open_log catalogue_text (m.session.coordinator.flushed + kept) (next_epoch m.session.coordinator.epoch) first_pid last_pid) 0 m).reply.number 0) (λ z. refl) (λ z. refl))

-- ---- the answers of the other calls

init-empty : (a : InitAnswer) → ((init_reply a).number ≡ 0 → ⊥) → (init_reply a).results ≡ []
init-empty (Given pid epoch) h = absurd (h refl)
init-empty Aborting h = refl
init-empty (InitRefused number) h = refl

tick-empty : (a : TickAnswer) → ((tick_reply a).number ≡ 0 → ⊥) → (tick_reply a).results ≡ []
tick-empty (Aborted place) h = absurd (h refl)
tick-empty NoneDue h = refl
tick-empty (TickRefused number) h = refl

produce-empty : (a : ProduceAnswer) → ((produce_reply a).number ≡ 0 → ⊥) → (produce_reply a).results ≡ []
produce-empty (Written offset) h = absurd (h refl)
produce-empty (ProduceRefused number) h = refl

-- ---- every command

numbered : (command : Command) (line : List ℕ) (m : Memory) → among (performed command line m).reply.number (0 ∷ command_refusals command line m) ≡ true
unfolding performed
numbered (Init name timeout time) line m = called-numbered (call (init_call (bytes_of line name) timeout time)) 0 m
numbered (Add name pid epoch set time) line m = called-numbered (call (add_call (bytes_of line name) pid epoch set time)) 0 m
numbered (End name pid epoch verdict time) line m = called-numbered (call (end_call (bytes_of line name) pid epoch verdict time)) 0 m
numbered (Tick time) line m = called-numbered (call (tick_call time)) 0 m
numbered Flush line m = called-numbered (call (flush_call (log_end m.session.coordinator))) 0 m
numbered (Put name pid epoch position sequence payload) line m = called-numbered (produce_call (bytes_of line name) pid epoch position sequence payload) (index_of position) m
numbered (Carry up) line m = carry-numbered (order m.session.coordinator up) m
numbered (Read position) line m = read-numbered position m
numbered (Cut kept) line m = cut-numbered kept m
numbered (Left place) line m = unfold among in refl
numbered Unknown line m = unfold among in refl

unchanged : (command : Command) (line : List ℕ) (m : Memory) → ((performed command line m).reply.number ≡ 0 → ⊥) → (performed command line m).memory ≡ kept_by command m
unfolding performed
unchanged (Init name timeout time) line m h = called-unchanged (call (init_call (bytes_of line name) timeout time)) 0 m h
unchanged (Add name pid epoch set time) line m h = called-unchanged (call (add_call (bytes_of line name) pid epoch set time)) 0 m h
unchanged (End name pid epoch verdict time) line m h = called-unchanged (call (end_call (bytes_of line name) pid epoch verdict time)) 0 m h
unchanged (Tick time) line m h = called-unchanged (call (tick_call time)) 0 m h
unchanged Flush line m h = called-unchanged (call (flush_call (log_end m.session.coordinator))) 0 m h
unchanged (Put name pid epoch position sequence payload) line m h =
    called-unchanged (produce_call (bytes_of line name) pid epoch position sequence payload) (index_of position) m h
unchanged (Carry up) line m h = carry-unchanged (order m.session.coordinator up) m h
unchanged (Read position) line m h = read-unchanged position m h
unchanged (Cut kept) line m h = cut-unchanged kept m h
unchanged (Left place) line m h = refl
unchanged Unknown line m h = refl

no-results : (command : Command) (line : List ℕ) (m : Memory) → ((performed command line m).reply.number ≡ 0 → ⊥) → (performed command line m).reply.results ≡ []
unfolding performed
no-results (Init name timeout time) line m h = init-empty (init m.session.coordinator (length m.log) (bytes_of line name) timeout time).answer h
no-results (Add name pid epoch set time) line m h = reply-empty (add m.session.coordinator (length m.log) (bytes_of line name) pid epoch set time).answer h
no-results (End name pid epoch verdict time) line m h = reply-empty (end m.session.coordinator (length m.log) (bytes_of line name) pid epoch verdict time).answer h
no-results (Tick time) line m h = tick-empty (tick m.session.coordinator (length m.log) time).answer h
no-results Flush line m h = reply-empty (flush m.session.coordinator (log_end m.session.coordinator)).answer h
no-results (Put name pid epoch position sequence payload) line m h =
    let s = server_at (index_of position) m in
    produce-empty (produce s.coordinator s.partition (length s.words) (bytes_of line name) pid epoch position sequence payload).answer h
no-results (Carry up) line m h = carry-empty (order m.session.coordinator up) m h
no-results (Read position) line m h = read-empty position m h
no-results (Cut kept) line m h = cut-empty kept m
no-results (Left place) line m h = absurd (h refl)
no-results Unknown line m h = refl

pub commands-refused : CommandsRefused
commands-refused =
    record {
      numbered = numbered;
      unchanged = unchanged;
      undelivered = λ place pid epoch verdict position coordinator m h. called-unchanged (marker_call place pid epoch verdict coordinator) (index_of position) m h;
      no-results = no-results;
    }
