-- Refusal 8 is for another length only: the reserves stand along every list of calls, and own buffers keep their lengths.
use Prim.Native.Nat.{ℕ}
use mathlib.Core.Path.{◌≡◌, refl, sym, ap, ◌∙◌}
use mathlib.Core.Bool.{false, not, true≢false}
use mathlib.Core.List.{List, [], ◌∷◌}
use native.Mathlib.Omega.{arith}
use lib.Dec.{eqb}
use lib.IntN.{ℤ}
use lib.ListN.{length}
use borrow.Author.Tests.{eqb-true, eq-eqb}
use Rattle.numbers.proofs.Tests.{by_cases}
use Rattle.answers.specs.Answers.{reply, open_reply, init_reply, tick_reply, produce_reply}
use Rattle.answers.specs.Refusals.{Test, refuse, first_refusal, numbers_of, among, Decision, unless}
use Rattle.answers.specs.Answer.{Answer}
use Rattle.answers.specs.Answer.{Refused}
use Rattle.answers.specs.InitAnswer.{InitAnswer}
use Rattle.answers.specs.InitAnswer.{Refused as InitRefused}
use Rattle.answers.specs.TickAnswer.{TickAnswer}
use Rattle.answers.specs.TickAnswer.{Refused as TickRefused}
use Rattle.answers.specs.ProduceAnswer.{ProduceAnswer}
use Rattle.answers.specs.ProduceAnswer.{Refused as ProduceRefused}
use Rattle.answers.proofs.Laws.{first_passes, first-other, unless-number, unless-does}
use Rattle.coordinator.specs.Coordinator.{admits, Action, keep, after}
use Rattle.coordinator.specs.Open.{opening}
use Rattle.coordinator.specs.Calls.{init_call, add_call, end_call, tick_call, flush_call, ack_call}
use Rattle.coordinator.specs.declared.Coordinator.{Coordinator}
use Rattle.coordinator.specs.Init.{init_row_tests, init_tests, init}
use Rattle.coordinator.specs.Add.{add_row_tests, add_tests, add}
use Rattle.coordinator.specs.End.{end_row_tests, end_tests, end}
use Rattle.coordinator.specs.Tick.{tick_tests, tick}
use Rattle.coordinator.specs.Flush.{flush}
use Rattle.coordinator.specs.Ack.{ack_row_tests, ack_tests, ack}
use Rattle.coordinator.proofs.OpenCases.{open-number}
use Rattle.coordinator.proofs.Reserve.{Reserved, admits-length, opening-reserved, opening-room, init-reserved, add-reserved, end-reserved, tick-reserved, flush-reserved, ack-reserved, log-length}
use Rattle.partition.specs.Partition.{admits as partition_admits, keep as partition_keep, Action as PartitionAction}
use Rattle.partition.specs.Marker.{marker_tests, marker}
use Rattle.partition.specs.Read.{read_tests}
use Rattle.partition.specs.declared.Partition.{Partition}
use Rattle.partition.proofs.Reserve.{Reserved as PartitionReserved, Keeps, admits-length as words-admits, opened-reserved, opened-room, keep-keeps, data-keeps, marker-keeps}
use Rattle.server.specs.Calls.{Server, Call, open_log, open_words, call, order_call, produce_call, marker_call, read_call, answer_of, after_call, coordinator_does, partition_does, with_coordinator}
use Rattle.server.specs.Produce.{produce_row_tests, produce_tests, produce}
use Rattle.server.specs.Lines.{after_all}
use Rattle.server.specs.Demand1.{refusals_of}
use Rattle.server.specs.Admitted.{opened_with, Next, makes, lend, after_each, Admits, Admitted}
use Rattle.server.proofs.Demand1.{init-done, tick-done, read_number, demand-1}
use Rattle.server.proofs.ProduceCases.{produce-passed}

pub produce-keeps : (s : Coordinator) (p : Partition) (n : ℕ) (name : List ℕ) (pid epoch : ℤ) (position : ℕ) (sequence : ℤ) (payload : ℕ) → PartitionReserved p
    → Keeps p (produce s p n name pid epoch position sequence payload).action
unfolding produce
produce-keeps s p n name pid epoch position sequence payload r =
    unless-does (first_refusal (produce_tests s p n name pid epoch position sequence)) ProduceRefused partition_keep _ (Keeps p) (keep-keeps p r)
    (λ e. data-keeps p r _ _ payload (produce-passed s p n name pid epoch position sequence payload e).room)

-- ---- what every call keeps

-- the reserves stand
pub record Reserves (s : Server) : Type 0 where
  pub of-log : Reserved s.coordinator
  pub of_words : PartitionReserved s.partition

-- the buffers have the lengths that were recorded
record Own (s : Server) : Type 0 where
  of-log : length s.log ≡ s.coordinator.room
  of_words : length s.words ≡ s.partition.room

record Kept (s t : Server) : Type 0 where
  reserves : Reserves t
  own : Own s → Own t

same-server : (s : Server) → Reserves s → Kept s s
same-server s r = record { reserves = r; own = λ o. o }

coordinator-keeps : (a : Action) (s : Server) → Reserves s → Reserved (after a s.coordinator) → Kept s (coordinator_does a s)
coordinator-keeps a s r h =
    record {
      reserves = record { of-log = h; of_words = r.of_words };
      own = λ o. record { of-log = log-length a s.coordinator s.log h o.of-log; of_words = o.of_words };
    }

partition-keeps : (a : PartitionAction) (s : Server) → Reserves s → Keeps s.partition a → Kept s (partition_does a s)
partition-keeps a s r k =
    record {
      reserves = record { of-log = r.of-log; of_words = k.reserved };
      own = λ o. record { of-log = o.of-log; of_words = k.lengths s.words o.of_words };
    }

opening-keeps : (text : List ℕ) (n : ℕ) (epoch first last : ℤ) (s : Server) → Reserves s → (open_reply (opening text s.log n epoch first last).answer).number ≡ 0
    → Kept s (with_coordinator s (opening text s.log n epoch first last).state)
opening-keeps text n epoch first last s r e =
    record {
      reserves = record { of-log = opening-reserved text s.log n epoch first last; of_words = r.of_words };
      own =
          λ o. record { of-log = sym (opening-room text s.log n epoch first last (sym (open-number text s.log n epoch first last) ∙ e)); of_words = o.of_words };
    }

call-keeps : (c : Call) (s : Server) → Reserves s → Kept s (after_call c s)
call-keeps (open_log text n epoch first last) s r =
    by_cases (Kept s) (eqb (open_reply (opening text s.log n epoch first last).answer).number 0) (λ t. opening-keeps text n epoch first last s r (eqb-true _ 0 t)) (λ t. same-server s r)
call-keeps open_words s r =
    record {
      reserves = record { of-log = r.of-log; of_words = opened-reserved (length s.words) };
      own = λ o. record { of-log = o.of-log; of_words = opened-room (length s.words) };
    }
call-keeps (call (init_call name timeout time)) s r =
    coordinator-keeps (init s.coordinator (length s.log) name timeout time).action s r (init-reserved s.coordinator r.of-log (length s.log) name timeout time)
call-keeps (call (add_call name pid epoch set time)) s r =
    coordinator-keeps (add s.coordinator (length s.log) name pid epoch set time).action s r (add-reserved s.coordinator r.of-log (length s.log) name pid epoch set time)
call-keeps (call (end_call name pid epoch verdict time)) s r =
    coordinator-keeps (end s.coordinator (length s.log) name pid epoch verdict time).action s r (end-reserved s.coordinator r.of-log (length s.log) name pid epoch verdict time)
call-keeps (call (tick_call time)) s r =
    coordinator-keeps (tick s.coordinator (length s.log) time).action s r (tick-reserved s.coordinator r.of-log (length s.log) time)
call-keeps (call (flush_call n)) s r = coordinator-keeps (flush s.coordinator n).action s r (flush-reserved s.coordinator r.of-log n)
call-keeps (order_call up) s r = same-server s r
call-keeps (call (ack_call place pid epoch position)) s r =
    coordinator-keeps (ack s.coordinator (length s.log) place pid epoch position).action s r (ack-reserved s.coordinator r.of-log (length s.log) place pid epoch position)
call-keeps (produce_call name pid epoch position sequence payload) s r =
    partition-keeps (produce s.coordinator s.partition (length s.words) name pid epoch position sequence payload).action s r
    (produce-keeps s.coordinator s.partition (length s.words) name pid epoch position sequence payload r.of_words)
call-keeps (marker_call place pid epoch verdict coordinator) s r =
    partition-keeps (marker s.partition (length s.words) place pid epoch verdict coordinator).action s r
    (marker-keeps s.partition r.of_words (length s.words) place pid epoch verdict coordinator)
call-keeps (read_call from) s r =
    record {
      reserves = record { of-log = r.of-log; of_words = r.of_words };
      own = λ o. record { of-log = o.of-log; of_words = o.of_words };
    }

-- ---- another length

module _ (text log : List ℕ) (n : ℕ) (epoch first last : ℤ) (words out : List ℕ) where
  pub opened-reserves : Reserves (opened_with text log n epoch first last words out)
  opened-reserves = record { of-log = opening-reserved text log n epoch first last; of_words = opened-reserved (length words) }

  opened-own : (open_reply (opening text log n epoch first last).answer).number ≡ 0 → Own (opened_with text log n epoch first last words out)
  opened-own e =
      record { of-log = sym (opening-room text log n epoch first last (sym (open-number text log n epoch first last) ∙ e)); of_words = opened-room (length words) }

pub each-reserves : (xs : List Next) (s : Server) → Reserves s → Reserves (after_each xs s)
unfolding after_each
each-reserves [] s r = r
each-reserves (makes c ∷ xs) s r = each-reserves xs (after_call c s) (call-keeps c s r).reserves
each-reserves (lend log words out ∷ xs) s r = each-reserves xs _ (record { of-log = r.of-log; of_words = r.of_words })

reserves-admit : (s : Server) → Reserves s → Admits s
reserves-admit s r = record { of-log = admits-length s.coordinator r.of-log; of_words = words-admits s.partition r.of_words }

-- ---- own buffers

all-keeps : (calls : List Call) (s : Server) → Reserves s → Kept s (after_all calls s)
unfolding after_all
all-keeps [] s r = same-server s r
all-keeps (c ∷ calls) s r =
    let k = call-keeps c s r in
    let l = all-keeps calls (after_call c s) k.reserves in
    record { reserves = l.reserves; own = λ o. l.own (k.own o) }

log-admitted : (s : Server) → Reserves s → Own s → not (admits s.coordinator (length s.log)) ≡ false
log-admitted s r o = ap not (admits-length s.coordinator r.of-log (length s.log) ∙ eq-eqb _ _ o.of-log)

words-admitted : (s : Server) → Reserves s → Own s → not (partition_admits s.partition (length s.words)) ≡ false
words-admitted s r o = ap not (words-admits s.partition r.of_words (length s.words) ∙ eq-eqb _ _ o.of_words)

-- the first test does not apply, and no other has the number 8
abbrev Not8 : List Test → Type 0
Not8 [] = Unit {0}
Not8 (refuse number applies ∷ rest) = (applies ≡ false) × (among 8 (0 ∷ numbers_of rest) ≡ false)

not-8 : (tests : List Test) → Not8 tests → first_refusal tests ≡ 8 → ⊥
not-8 [] m e = unfold first_refusal in omega arith
not-8 (refuse number applies ∷ rest) (p, m) e =
    first-other 8 rest m (sym (first_passes number applies rest p) ∙ e)

-- a call that is decided by such tests
decided : {A B : Type 0} (number : A → ℕ) (refused : ℕ → A) (nothing : B) (tests : List Test) (d : Decision A B) → number d.answer ≡ 0 → ((k : ℕ) → number (refused k) ≡ k) → Not8 tests
    → number (unless (first_refusal tests) refused nothing d).answer ≡ 8
    → ⊥
decided number refused nothing tests d done same m e = not-8 tests m (sym (unless-number number (first_refusal tests) refused nothing d done (same (first_refusal tests))) ∙ e)

-- a call that has no test of a number
pub without : (k : ℕ) (c : Call) (s : Server) → among k (0 ∷ refusals_of c) ≡ false → (answer_of c s).number ≡ k → ⊥
without k c s m e = true≢false (sym (demand-1.numbered c s) ∙ ap (λ (n : ℕ). among n (0 ∷ refusals_of c)) e ∙ m)

never-8 : (c : Call) (s : Server) → Reserves s → Own s → (answer_of c s).number ≡ 8 → ⊥
unfolding among numbers_of init init_tests init_row_tests add add_tests add_row_tests end end_tests end_row_tests tick tick_tests ack ack_tests ack_row_tests produce produce_tests produce_row_tests marker marker_tests read_tests
never-8 (open_log text n epoch first last) s r o e = without 8 (open_log text n epoch first last) s refl e
never-8 open_words s r o e = without 8 open_words s refl e
never-8 (call (init_call name timeout time)) s r o e =
    decided (λ (a : InitAnswer). (init_reply a).number) InitRefused keep (init_tests s.coordinator (length s.log) name timeout time) _ (init-done s.coordinator name timeout time) (λ k. refl) (log-admitted s r o, refl) e
never-8 (call (add_call name pid epoch set time)) s r o e =
    decided (λ (a : Answer). (reply a).number) Refused keep (add_tests s.coordinator (length s.log) name pid epoch set time) _ refl (λ k. refl) (log-admitted s r o, refl) e
never-8 (call (end_call name pid epoch verdict time)) s r o e =
    decided (λ (a : Answer). (reply a).number) Refused keep (end_tests s.coordinator (length s.log) name pid epoch verdict) _ refl (λ k. refl) (log-admitted s r o, refl) e
never-8 (call (tick_call time)) s r o e =
    decided (λ (a : TickAnswer). (tick_reply a).number) TickRefused keep (tick_tests s.coordinator (length s.log)) _ (tick-done s.coordinator time) (λ k. refl) (log-admitted s r o, refl) e
never-8 (call (flush_call n)) s r o e = without 8 (call (flush_call n)) s refl e
never-8 (order_call up) s r o e = without 8 (order_call up) s refl e
never-8 (call (ack_call place pid epoch position)) s r o e =
    decided (λ (a : Answer). (reply a).number) Refused keep (ack_tests s.coordinator (length s.log) place pid epoch position) _ refl (λ k. refl) (log-admitted s r o, refl) e
never-8 (produce_call name pid epoch position sequence payload) s r o e =
    decided (λ (a : ProduceAnswer). (produce_reply a).number) ProduceRefused partition_keep (produce_tests s.coordinator s.partition (length s.words) name pid epoch position sequence) _ refl (λ k. refl) (words-admitted s r o, refl) e
never-8 (marker_call place pid epoch verdict coordinator) s r o e =
    decided (λ (a : Answer). (reply a).number) Refused partition_keep (marker_tests s.partition (length s.words) place pid epoch verdict coordinator) _ refl (λ k. refl) (words-admitted s r o, refl) e
never-8 (read_call from) s r o e =
    not-8 (read_tests s.partition (length s.words) from) (words-admitted s r o, refl) (sym (read_number s.partition s.words from s.out) ∙ e)

-- ---- the theorem

pub admitted : Admitted
admitted =
    record {
      another-length = λ text log n epoch first last words out xs. reserves-admit _ (each-reserves xs _ (opened-reserves text log n epoch first last words out));
      own-length =
          λ text log n epoch first last words out accepted calls c e.
          let k = all-keeps calls (opened_with text log n epoch first last words out) (opened-reserves text log n epoch first last words out) in
          never-8 c _ k.reserves (k.own (opened-own text log n epoch first last words out accepted)) e;
    }
