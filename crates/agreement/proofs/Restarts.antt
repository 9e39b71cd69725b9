-- A cut, an opening of what it left, and calls that are lent another slice, preserve the invariant.
use Prim.Native.Nat.{ℕ, ◌≤◌}
use mathlib.Core.Path.{◌≡◌, refl, sym, ap, subst, ◌∙◌}
use mathlib.Core.Bool.{true, false, ◌&&◌}
use mathlib.Core.List.{List, ◌∷◌}
use native.Mathlib.Omega.{arith}
use lib.Dec.{eqb, leb}
use lib.IntN.{ℤ, pos}
use lib.ListN.{length, take}
use lib.Signed.{le_z}
use borrow.Author.Tests.{eqb-true, ne_eqb, leb-true}
use Rattle.numbers.specs.Signed.{to_nat}
use Rattle.numbers.proofs.Signed.{at_least}
use Rattle.numbers.proofs.Tests.{not-both, and_left, and_right}
use Rattle.bits.proofs.Laws.{member-nothing}
use Rattle.catalogue.specs.Catalogue.{parse}
use Rattle.catalogue.specs.declared.Catalogue.{Catalogue}
use Rattle.answers.specs.Answers.{reply, open_reply}
use Rattle.answers.specs.Refusals.{first_refusal}
use Rattle.answers.specs.Answer.{Refused}
use Rattle.answers.specs.InitAnswer.{Refused as InitRefused}
use Rattle.answers.specs.TickAnswer.{Refused as TickRefused}
use Rattle.answers.specs.ProduceAnswer.{Refused as ProduceRefused}
use Rattle.answers.proofs.Laws.{unless-does}
use Rattle.row.proofs.Laws.{prepare-busy}
use Rattle.table.specs.Table.{empty_table, row_at}
use Rattle.table.proofs.Reserve.{busy-held}
use Rattle.table.proofs.Valid.{Valid}
use Rattle.log_reader.specs.Records.{table_of}
use Rattle.log_reader.proofs.RecordsRead.{scan-records}
use Rattle.log_reader.proofs.TableSays.{records-valid}
use Rattle.coordinator.specs.Flush.{flush}
use Rattle.coordinator.specs.Coordinator.{log_end, admits, Action, keep}
use Rattle.coordinator.specs.Init.{init_tests, init_accepted, init}
use Rattle.coordinator.specs.Add.{add_tests, add}
use Rattle.coordinator.specs.End.{end_tests, end}
use Rattle.coordinator.specs.Tick.{tick_tests, tick_accepted, tick}
use Rattle.coordinator.specs.Ack.{ack_tests, ack}
use Rattle.coordinator.specs.Open.{opening}
use Rattle.coordinator.specs.declared.Coordinator.{Coordinator}
use Rattle.coordinator.specs.OpenedLog.{OpenedLog}
use Rattle.coordinator.specs.Calls.{CoordinatorCall, init_call, add_call, end_call, tick_call, flush_call, ack_call, action_of}
use Rattle.coordinator.proofs.InitCases.{init-passed}
use Rattle.coordinator.proofs.AddCases.{add-passed}
use Rattle.coordinator.proofs.EndCases.{end-passed}
use Rattle.coordinator.proofs.TickCases.{tick-passed}
use Rattle.coordinator.proofs.AckCases.{ack-passed}
use Rattle.coordinator.proofs.OpenCases.{open-number, opening-taken}
use Rattle.writable_logs.specs.Writer.{opening_typed}
use Rattle.writable_logs.proofs.Written.{written-admits}
use Rattle.partition.specs.Marker.{marker_tests, marker}
use Rattle.partition.specs.Partition.{admits as partition_admits, Action as PartitionAction, keep as keep_partition, after as partition_after}
use Rattle.partition.proofs.MarkerCases.{marker-passed, marker-refused}
use Rattle.partition.proofs.Reserve.{admits-length}
use Rattle.server.specs.Produce.{produce_tests, produce}
use Rattle.server.proofs.ProduceCases.{produce-passed}
use Rattle.runs.specs.History.{Order, log_cut, log_opened, History, records_of, contents}
use Rattle.runs.specs.World.{Phase, up, down, nothing, World, catalogue_of, leader_at, coordinator_elsewhere, with_phase, with_partition, once_done}
use Rattle.runs.proofs.Unchanged.{flush-elsewhere}
use Rattle.protocol.proofs.WritesNothing.{cut-writes-nothing, opened-writes-nothing}
use Rattle.agreement.proofs.Invariant.{DownLog, LogSide, epoch_of, AcksAgree, Invariant}
use Rattle.agreement.proofs.LogSteps.{cut-may, cut_down, opened-may, opened_up}
use Rattle.agreement.proofs.Acknowledgements.{fresh-waits}
use Rattle.agreement.proofs.Preserves.{Preserves, log-of, carries-nothing-preserves, call-preserves, unwritten-preserves}
use Rattle.agreement.proofs.Produces.{own_at, same-leader-preserves}

-- ---- a cut

pub cut-preserves : (w : World) (i : Invariant w) (s : Coordinator) (u : w.phase ≡ up s) (n : ℕ) → (leb s.flushed n && leb n (log_end s)) ≡ true → Preserves w (with_phase w (down n s.epoch) (log_cut n))
cut-preserves w i s u n e =
    let c = catalogue_of w in
    let h = w.history in
    let low = leb-true s.flushed n (and_left (leb s.flushed n) (leb n (log_end s)) e) in
    let high = leb-true n (log_end s) (and_right (leb s.flushed n) (leb n (log_end s)) e) in
    let l = log-of w i s u in
    let may = cut-may c w.log s h l i.of-history n low in
    unwritten-preserves w i (log_cut n) (down n s.epoch) nothing (cut-writes-nothing h n may) (λ x. refl) may (cut_down c w.log s h l i.of-history n low high) tt
    (let e : epoch_of w.phase ≡ s.epoch = ap epoch_of u in omega arith) tt

-- ---- an opening

-- nothing is acknowledged in a table that records say
pub fresh-acks : (c : Catalogue) (h : History) (s : Coordinator) → Valid c s.table → AcksAgree c h s
fresh-acks c h s v =
    record {
      prepared = λ k x m. absurd (member-nothing x (rw (v.none-acknowledged k) at m));
      closed = λ k x m. absurd (member-nothing x (rw (v.none-acknowledged k) at m));
      small = λ k. rw (v.none-acknowledged k) (omega arith);
      waiting = λ k p z.
          fresh-waits c (row_at s.table k) (v.formed k (busy-held (row_at s.table k) (v.proper.each k) (prepare-busy (row_at s.table k).status p))) (v.none-acknowledged k) p z;
    }

pub opening-valid : (text log : List ℕ) (n : ℕ) (epoch first last : ℤ) → (open_reply (opening text log n epoch first last).answer).number ≡ 0
    → Valid (parse text).catalogue (opening text log n epoch first last).state.table × ((opening text log n epoch first last).state.epoch ≡ to_nat epoch)
opening-valid text log n epoch first last a =
    let c = (parse text).catalogue in
    let says = scan-records c (take n log) empty_table in
    let taken = opening-taken text log n epoch first last (sym (open-number text log n epoch first last) ∙ a) in
    let table : (opening text log n epoch first last).state.table ≡ table_of c says.records = ap (λ (o : OpenedLog). o.state.table) taken ∙ says.table in
    (rw table (records-valid c says.records says.come), ap (λ (o : OpenedLog). o.state.epoch) taken)

pub opening-preserves : (w : World) (i : Invariant w) (n before : ℕ) (u : w.phase ≡ down n before) (epoch first last : ℤ) → opening_typed epoch first last ≡ true
    → (eqb (open_reply (opening w.text w.log n epoch first last).answer).number 0 && le_z (pos before) epoch) ≡ true
    → Preserves w (with_phase w (up (opening w.text w.log n epoch first last).state) (log_opened epoch))
opening-preserves w i n before u epoch first last typed e =
    let c = catalogue_of w in
    let h = w.history in
    let accepted : (open_reply (opening w.text w.log n epoch first last).answer).number ≡ 0 = eqb-true _ 0
    (and_left (eqb (open_reply (opening w.text w.log n epoch first last).answer).number 0) (le_z (pos before) epoch) e) in
    let (m, m-is, low) = at_least before epoch (and_right (eqb (open_reply (opening w.text w.log n epoch first last).answer).number 0) (le_z (pos before) epoch) e) in
    let d : DownLog c w.log n h = subst (λ (p : Phase). LogSide c w.log p h) u i.log-side in
    let may = opened-may w.text w.log i.parsed n h d i.of-history epoch in
    let (valid, epoch-is) = opening-valid w.text w.log n epoch first last accepted in
    let rises : epoch_of w.phase ≤ (opening w.text w.log n epoch first last).state.epoch = omega (arith, ap epoch_of u, epoch-is, ap to_nat m-is) in
    unwritten-preserves w i (log_opened epoch) (up (opening w.text w.log n epoch first last).state) nothing (opened-writes-nothing h epoch may) (λ x. refl) may
    (opened_up w.text w.log i.parsed n h d i.of-history epoch first last typed accepted) (fresh-acks c (log_opened epoch ∷ h) (opening w.text w.log n epoch first last).state valid) rises tt

-- ---- another slice

-- lent a slice of another length every call is refused but Flush, which sees none
pub elsewhere-cases : (s : Coordinator) (n : ℕ) → admits s n ≡ false → (P : Action → Type 0) → P keep → ((m : ℕ) → P (flush s m).action) → (c : CoordinatorCall) → P (action_of c s n)
unfolding init add end tick ack
elsewhere-cases s n e P kept flushes (init_call name timeout time) =
    unless-does (first_refusal (init_tests s n name timeout time)) InitRefused keep (init_accepted s name timeout time) P kept (λ z. not-both e (init-passed s n name timeout time z).admitted)
elsewhere-cases s n e P kept flushes (add_call name pid epoch set time) =
    unless-does (first_refusal (add_tests s n name pid epoch set time)) Refused keep _ P kept (λ z. not-both e (add-passed s n name pid epoch set time z).admitted)
elsewhere-cases s n e P kept flushes (end_call name pid epoch verdict time) =
    unless-does (first_refusal (end_tests s n name pid epoch verdict)) Refused keep _ P kept (λ z. not-both e (end-passed s n name pid epoch verdict time z).admitted)
elsewhere-cases s n e P kept flushes (tick_call time) =
    unless-does (first_refusal (tick_tests s n)) TickRefused keep (tick_accepted s time) P kept (λ z. not-both e (tick-passed s n time z).admitted)
elsewhere-cases s n e P kept flushes (flush_call m) = flushes m
elsewhere-cases s n e P kept flushes (ack_call place pid epoch position) =
    unless-does (first_refusal (ack_tests s n place pid epoch position)) Refused keep _ P kept (λ z. not-both e (ack-passed s n place pid epoch position z).admitted)

module _ (w : World) (i : Invariant w) (s : Coordinator) (u : w.phase ≡ up s) (n : ℕ) (d : n ≡ length w.log → ⊥) where
  pub not-admitted : admits s n ≡ false
  not-admitted = written-admits (catalogue_of w) w.log s (contents (records_of w.history)) (log-of w i s u).written n ∙ ne_eqb n (length w.log) d

  same-state : Preserves w (coordinator_elsewhere keep s w)
  same-state = subst (λ (p : Phase). Preserves w (record { text = w.text; log = w.log; phase = p; leaders = w.leaders; carrying = nothing; history = w.history })) u (carries-nothing-preserves w i)

  pub call-elsewhere-preserves : (c : CoordinatorCall) → Preserves w (coordinator_elsewhere (action_of c s n) s w)
  call-elsewhere-preserves =
      elsewhere-cases s n not-admitted (λ (a : Action). Preserves w (coordinator_elsewhere a s w)) same-state (λ m. subst (Preserves w) (sym (flush-elsewhere m s w)) (call-preserves w i s u (flush_call m) refl refl))

module _ (w : World) (i : Invariant w) (x n : ℕ) (d : n ≡ length (leader_at w x).words → ⊥) where
  words-not-admitted : partition_admits (leader_at w x).partition n ≡ false
  words-not-admitted =
      let o = own_at w i.own x in
      admits-length (leader_at w x).partition o.reserved n ∙ ne_eqb n (leader_at w x).partition.room (λ z. d (z ∙ sym o.room))

  same-partition : Preserves w (with_partition w x (leader_at w x).partition nothing)
  same-partition = same-leader-preserves w i x

  pub produce-elsewhere-preserves : (s : Coordinator) (name : List ℕ) (pid epoch : ℤ) (position : ℕ) (sequence : ℤ) (payload : ℕ)
      → Preserves w (with_partition w x (partition_after (produce s (leader_at w x).partition n name pid epoch position sequence payload).action (leader_at w x).partition) nothing)
  unfolding produce
  produce-elsewhere-preserves s name pid epoch position sequence payload =
      unless-does (first_refusal (produce_tests s (leader_at w x).partition n name pid epoch position sequence)) ProduceRefused keep_partition _
      (λ (a : PartitionAction). Preserves w (with_partition w x (partition_after a (leader_at w x).partition) nothing)) same-partition
      (λ z. not-both words-not-admitted (produce-passed s (leader_at w x).partition n name pid epoch position sequence payload z).admitted)

  pub marker-elsewhere-preserves : (place : ℕ) (pid epoch : ℤ) (verdict : ℕ) (coordinator : ℤ) (k : ℕ) (o : Order)
      → Preserves w (with_partition w x (partition_after (marker (leader_at w x).partition n place pid epoch verdict coordinator).action (leader_at w x).partition) (once_done (reply (marker (leader_at w x).partition n place pid epoch verdict coordinator).answer) k o))
  marker-elsewhere-preserves place pid epoch verdict coordinator k o =
      let refused : first_refusal (marker_tests (leader_at w x).partition n place pid epoch verdict coordinator) ≡ 0 → ⊥ =
      λ z. not-both words-not-admitted (marker-passed (leader_at w x).partition n place pid epoch verdict coordinator z).admitted in
      rw (marker-refused (leader_at w x).partition n place pid epoch verdict coordinator refused, ne_eqb _ 0 refused) same-partition
