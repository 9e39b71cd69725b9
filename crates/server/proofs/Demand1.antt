-- Demand 1 holds of every call, on every state, with every argument and every buffer.
use Prim.Native.Nat.{ℕ}
use mathlib.Core.Path.{◌≡◌, refl, sym, ap, ◌∙◌, subst}
use mathlib.Core.Bool.{true}
use mathlib.Core.List.{List, [], ◌∷◌}
use lib.Dec.{eqb, ltb}
use lib.IntN.{ℤ}
use lib.ListN.{length}
use borrow.Author.Tests.{eqb-true}
use Rattle.numbers.proofs.Tests.{by_cases}
use Rattle.answers.specs.Answers.{reply, init_reply, tick_reply, order_reply, produce_reply, read_reply}
use Rattle.answers.specs.Refusals.{Test, first_refusal, numbers_of, among, Decision, unless}
use Rattle.answers.specs.Answer.{Answer}
use Rattle.answers.specs.Answer.{Refused}
use Rattle.answers.specs.InitAnswer.{InitAnswer}
use Rattle.answers.specs.InitAnswer.{Refused as InitRefused}
use Rattle.answers.specs.TickAnswer.{TickAnswer}
use Rattle.answers.specs.TickAnswer.{Refused as TickRefused}
use Rattle.answers.specs.OrderAnswer.{OrderAnswer}
use Rattle.answers.specs.ReadAnswer.{ReadAnswer}
use Rattle.answers.specs.Limits.{places}
use Rattle.row.specs.Row.{is_begin}
use Rattle.answers.specs.ProduceAnswer.{ProduceAnswer}
use Rattle.answers.specs.ProduceAnswer.{Refused as ProduceRefused}
use Rattle.answers.proofs.Laws.{first-among, unless-keeps, unless-number}
use Rattle.coordinator.specs.Coordinator.{row_of, clock_at, Action, keep}
use Rattle.log_reader.specs.Read.{read_tests}
use Rattle.coordinator.specs.Open.{take_over_tests, open_tests}
use Rattle.coordinator.specs.Calls.{init_call, add_call, end_call, tick_call, flush_call, ack_call}
use Rattle.coordinator.specs.declared.Coordinator.{Coordinator}
use Rattle.partition.specs.declared.Partition.{Partition}
use Rattle.coordinator.specs.Init.{init_row_tests, init_tests, init_accepted, init}
use Rattle.coordinator.specs.Add.{add_row_tests, add_tests, add}
use Rattle.coordinator.specs.End.{end_row_tests, end_tests, end}
use Rattle.coordinator.specs.Tick.{overdue_place, tick_tests, tick_accepted, tick}
use Rattle.coordinator.specs.Flush.{flush_tests, flush}
use Rattle.coordinator.specs.Order.{order_place, order}
use Rattle.coordinator.specs.Ack.{ack_row_tests, ack_tests, ack}
use Rattle.coordinator.proofs.OpenCases.{open-number}
use Rattle.partition.specs.Partition.{Action as PartitionAction, keep as partition_keep}
use Rattle.partition.specs.Marker.{marker_tests, marker}
use Rattle.partition.specs.Read.{read_tests as read_offset_tests, read_answer, read_out}
use Rattle.server.specs.Produce.{produce_row_tests, produce_tests, produce}
use Rattle.server.specs.Calls.{Server, Call, open_log, open_words, call, order_call, produce_call, marker_call, read_call, answer_of, after_call, coordinator_does, partition_does, with_out}
use Rattle.server.specs.Demand1.{refusals_of, Demand1}

-- ---- a call that is decided by its tests

-- the decision of a call: its tests, its refusal, doing nothing, and what it decides if it is accepted
module _ {Answer Action : Type 0} (number : Answer → ℕ) (refused : ℕ → Answer) (nothing : Action) (tests : List Test) (d : Decision Answer Action)
    (done : number d.answer ≡ 0) (same : number (refused (first_refusal tests)) ≡ first_refusal tests) where
  numbered-by : among (number (unless (first_refusal tests) refused nothing d).answer) (0 ∷ numbers_of tests) ≡ true
  numbered-by =
      subst (λ (n : ℕ). among n (0 ∷ numbers_of tests) ≡ true) (sym (unless-number number (first_refusal tests) refused nothing d done same)) (first-among tests)

  kept_by_lem : (number (unless (first_refusal tests) refused nothing d).answer ≡ 0 → ⊥) → (unless (first_refusal tests) refused nothing d).action ≡ nothing
  kept_by_lem h = unless-keeps number (first_refusal tests) refused nothing d done h

-- ---- the answers to accepted calls

pub init-done : (s : Coordinator) (name : List ℕ) (timeout time : ℤ) → (init_reply (init_accepted s name timeout time).answer).number ≡ 0
unfolding init_accepted
init-done s name timeout time = by_cases (λ (d : Decision InitAnswer Action). (init_reply d.answer).number ≡ 0) (is_begin (row_of s name).status) (λ t. refl) (λ t. refl)

pub tick-done : (s : Coordinator) (time : ℤ) → (tick_reply (tick_accepted s time).answer).number ≡ 0
unfolding tick_accepted
tick-done s time =
    by_cases (λ (d : Decision TickAnswer Action). (tick_reply d.answer).number ≡ 0) (ltb (overdue_place s (clock_at s time)) places) (λ t. refl) (λ t. refl)

order-done : (s : Coordinator) (up : ℕ) → (order_reply (order s up)).number ≡ 0
unfolding order
order-done s up = by_cases (λ (a : OrderAnswer). (order_reply a).number ≡ 0) (ltb (order_place s up) places) (λ t. refl) (λ t. refl)

-- ---- the calls that are not decided so

pub read_number : (p : Partition) (words : List ℕ) (from : ℕ) (out : List ℕ) → (read_reply (read_answer p words from out)).number ≡ first_refusal (read_offset_tests p (length words) from)
unfolding read_answer
read_number p words from out =
    by_cases (λ (a : ReadAnswer). (read_reply a).number ≡ first_refusal (read_offset_tests p (length words) from)) (eqb (first_refusal (read_offset_tests p (length words) from)) 0) (λ t. sym (eqb-true _ 0 t)) (λ t. refl)

read_keeps : (p : Partition) (words : List ℕ) (from : ℕ) (out : List ℕ) → ((read_reply (read_answer p words from out)).number ≡ 0 → ⊥) → read_out p words from out ≡ out
unfolding read_out
read_keeps p words from out h =
    by_cases (λ (l : List ℕ). l ≡ out) (eqb (first_refusal (read_offset_tests p (length words) from)) 0) (λ t. absurd (h (read_number p words from out ∙ eqb-true _ 0 t))) (λ t. refl)

-- ---- the two sentences

numbered-as : (k : ℕ) (tests : List Test) → k ≡ first_refusal tests → among k (0 ∷ numbers_of tests) ≡ true
numbered-as k tests e = subst (λ (n : ℕ). among n (0 ∷ numbers_of tests) ≡ true) (sym e) (first-among tests)

numbered : (c : Call) (s : Server) → among (answer_of c s).number (0 ∷ refusals_of c) ≡ true
unfolding numbers_of init init_tests init_row_tests add add_tests add_row_tests end end_tests end_row_tests tick tick_tests flush flush_tests ack ack_tests ack_row_tests produce produce_tests produce_row_tests marker marker_tests open_tests read_tests take_over_tests read_offset_tests
numbered (open_log text n epoch first last) s =
    numbered-as _ (open_tests text s.log n epoch first last) (open-number text s.log n epoch first last)
numbered open_words s = unfold among in refl
numbered (call (init_call name timeout time)) s =
    numbered-by (λ (a : InitAnswer). (init_reply a).number) InitRefused keep (init_tests s.coordinator (length s.log) name timeout time) _ (init-done s.coordinator name timeout time) refl
numbered (call (add_call name pid epoch set time)) s =
    numbered-by (λ (a : Answer). (reply a).number) Refused keep (add_tests s.coordinator (length s.log) name pid epoch set time) _ refl refl
numbered (call (end_call name pid epoch verdict time)) s =
    numbered-by (λ (a : Answer). (reply a).number) Refused keep (end_tests s.coordinator (length s.log) name pid epoch verdict) _ refl refl
numbered (call (tick_call time)) s =
    numbered-by (λ (a : TickAnswer). (tick_reply a).number) TickRefused keep (tick_tests s.coordinator (length s.log)) _ (tick-done s.coordinator time) refl
numbered (call (flush_call n)) s = numbered-by (λ (a : Answer). (reply a).number) Refused keep (flush_tests s.coordinator n) _ refl refl
numbered (order_call up) s = numbered-as _ [] (unfold first_refusal in order-done s.coordinator up)
numbered (call (ack_call place pid epoch position)) s =
    numbered-by (λ (a : Answer). (reply a).number) Refused keep (ack_tests s.coordinator (length s.log) place pid epoch position) _ refl refl
numbered (produce_call name pid epoch position sequence payload) s =
    numbered-by (λ (a : ProduceAnswer). (produce_reply a).number) ProduceRefused partition_keep
    (produce_tests s.coordinator s.partition (length s.words) name pid epoch position sequence) _ refl refl
numbered (marker_call place pid epoch verdict coordinator) s =
    numbered-by (λ (a : Answer). (reply a).number) Refused partition_keep (marker_tests s.partition (length s.words) place pid epoch verdict coordinator) _ refl refl
numbered (read_call from) s = numbered-as _ (read_offset_tests s.partition (length s.words) from) (read_number s.partition s.words from s.out)

-- a call that does nothing leaves all as it was
still : (a : Action) (s : Server) → a ≡ keep → coordinator_does a s ≡ s
still a s e = ap (λ (x : Action). coordinator_does x s) e

still-at : (a : PartitionAction) (s : Server) → a ≡ partition_keep → partition_does a s ≡ s
still-at a s e = ap (λ (x : PartitionAction). partition_does x s) e

unchanged : (c : Call) (s : Server) → ((answer_of c s).number ≡ 0 → ⊥) → after_call c s ≡ s
unfolding init add end tick flush ack produce marker
unchanged (open_log text n epoch first last) s h =
    by_cases (λ (x : Server). x ≡ s) (eqb (answer_of (open_log text n epoch first last) s).number 0) (λ t. absurd (h (eqb-true _ 0 t))) (λ t. refl)
unchanged open_words s h = absurd (h refl)
unchanged (call (init_call name timeout time)) s h =
    still _ s (kept_by_lem (λ (a : InitAnswer). (init_reply a).number) InitRefused keep (init_tests s.coordinator (length s.log) name timeout time) _ (init-done s.coordinator name timeout time) refl h)
unchanged (call (add_call name pid epoch set time)) s h =
    still _ s (kept_by_lem (λ (a : Answer). (reply a).number) Refused keep (add_tests s.coordinator (length s.log) name pid epoch set time) _ refl refl h)
unchanged (call (end_call name pid epoch verdict time)) s h =
    still _ s (kept_by_lem (λ (a : Answer). (reply a).number) Refused keep (end_tests s.coordinator (length s.log) name pid epoch verdict) _ refl refl h)
unchanged (call (tick_call time)) s h =
    still _ s (kept_by_lem (λ (a : TickAnswer). (tick_reply a).number) TickRefused keep (tick_tests s.coordinator (length s.log)) _ (tick-done s.coordinator time) refl h)
unchanged (call (flush_call n)) s h = still _ s (kept_by_lem (λ (a : Answer). (reply a).number) Refused keep (flush_tests s.coordinator n) _ refl refl h)
unchanged (order_call up) s h = refl
unchanged (call (ack_call place pid epoch position)) s h =
    still _ s (kept_by_lem (λ (a : Answer). (reply a).number) Refused keep (ack_tests s.coordinator (length s.log) place pid epoch position) _ refl refl h)
unchanged (produce_call name pid epoch position sequence payload) s h =
    still-at _ s (kept_by_lem (λ (a : ProduceAnswer). (produce_reply a).number) ProduceRefused partition_keep (produce_tests s.coordinator s.partition (length s.words) name pid epoch position sequence) _ refl refl h)
unchanged (marker_call place pid epoch verdict coordinator) s h =
    still-at _ s (kept_by_lem (λ (a : Answer). (reply a).number) Refused partition_keep (marker_tests s.partition (length s.words) place pid epoch verdict coordinator) _ refl refl h)
unchanged (read_call from) s h = ap (with_out s) (read_keeps s.partition s.words from s.out h)

pub demand-1 : Demand1
demand-1 = record { numbered = numbered; unchanged = unchanged }
