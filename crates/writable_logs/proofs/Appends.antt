-- After an opening with a block of its pid, the call for a record that may come next appends that record.
use Prim.Native.Nat.{ℕ, suc, ◌+◌, ◌*◌, ◌≤◌, ◌^◌}
use mathlib.Core.Path.{◌≡◌, refl, sym, ap, subst, ◌∙◌}
use mathlib.Core.Bool.{Bool, true, false, not, ◌&&◌, ◌||◌, and-false}
use mathlib.Core.List.{List}
use native.Mathlib.Omega.{arith}
use lib.Dec.{ltb}
use lib.IntN.{pos}
use lib.ListN.{get_or-eq_default}
use mir.Syntax.{w16, w32, w64}
use borrow.Author.Tests.{eq-eqb, le-leb, lt-leb, lt-ltb, le-ltb, ltb-true, ltb-false}
use Rattle.numbers.specs.Signed.{eq_z, in_range, to_nat}
use Rattle.numbers.specs.Padded.{padded}
use Rattle.numbers.proofs.Signed.{later-is, eq_z-true, eq_z-false, range-is, fits-is}
use Rattle.numbers.proofs.Tests.{by_cases, not-both}
use Rattle.catalogue.specs.declared.Catalogue.{Catalogue}
use Rattle.record.specs.Limits.{name_max, timeout_max, frame_max}
use Rattle.record.specs.Record.{record_name, idle, well_formed}
use Rattle.record.specs.declared.Record.{Record}
use Rattle.record.specs.declared.Status.{Status}
use Rattle.record.specs.declared.Status.TheVariants.{Empty, Begin, PrepareCommit, PrepareAbort}
use Rattle.record.proofs.Bounds.{WellFormed, well-formed-parts, name_back, name-fits, some-joined}
use Rattle.record.proofs.Lengths.{frame-most}
use Rattle.row.specs.Limits.{epoch_last, epoch_max}
use Rattle.row.specs.Row.{free_row, is_begin, is_prepare, held, record_of}
use Rattle.row.specs.Steps.{initialized, prepare_of, fenced, raise}
use Rattle.row.specs.declared.Row.{Row}
use Rattle.row.proofs.Laws.{idle-unbegun, idle-unprepared}
use Rattle.succession.specs.Moves.{same_status}
use Rattle.succession.specs.Succession.{first, follows}
use Rattle.succession.proofs.Laws.{NewProducer, Raises, Begins, Widens, Prepares, aborts-kept, aborts-next, first-new, follows-status, follows-raises, follows-renews, follows-begins, follows-widens, follows-commits, follows-aborts}
use Rattle.succession.proofs.Moves.{same-status}
use Rattle.succession.proofs.Steps.{begun-held, widened-held, prepared-held, raised-held, new-held, widens-more}
use Rattle.answers.specs.Limits.{places}
use Rattle.answers.specs.Refusals.{first_refusal, Decision}
use Rattle.table.specs.Limits.{reserve}
use Rattle.table.specs.Next.{may_come}
use Rattle.table.specs.Table.{row_at, place_of, lowest_free, id_count}
use Rattle.table.specs.declared.Table.{Table}
use Rattle.table.proofs.Laws.{ids-most, come-time, come-either, come-follows, come-back}
use Rattle.coordinator.specs.Coordinator.{admits, place_of_name, row_of, holds_name, unflushed, clock_at, new_pid, log_full, Action, append}
use Rattle.coordinator.specs.Init.{needs_pid, init_row, ids_then, init_tests}
use Rattle.coordinator.specs.Add.{all_joined, add_row, add_tests}
use Rattle.coordinator.specs.End.{end_fits}
use Rattle.coordinator.specs.Calls.{CoordinatorCall, init_call, add_call, end_call, call_typed, action_of}
use Rattle.coordinator.specs.declared.Coordinator.{Coordinator}
use Rattle.coordinator.proofs.Held.{held-name}
use Rattle.coordinator.proofs.Reserve.{admits-own}
use Rattle.coordinator.proofs.InitCases.{init-passes, init-aborting, init-new, init-next}
use Rattle.coordinator.proofs.AddCases.{add-passes, add-begun, add-widened}
use Rattle.coordinator.proofs.EndCases.{end-passes, end-prepared}
use Rattle.writable_logs.proofs.Reopened.{reopened, Reopens}
use Rattle.writable_logs.specs.Items.{abort_call}

-- a call, lent a buffer of n bytes, appends this record
pub record Appends (s : Coordinator) (n : ℕ) (call : CoordinatorCall) (r : Record) : Type 0 where
  pub typed : call_typed call ≡ true
  pub place : ℕ
  pub row : Row
  pub does : action_of call s n ≡ append place row
  pub record_is : record_of row ≡ r

-- what a decided call does
does : {A : Type 0} {d e : Decision A Action} → d ≡ e → d.action ≡ e.action
does {A} q = ap (λ (d : Decision A Action). d.action) q

module _ (c : Catalogue) (t : Table) (room : ℕ) (o : Reopens c t room) (r : Record) (w : well_formed c r ≡ true) (m : may_come t r ≡ true)
    (spacious : t.end + frame_max + reserve * suc places ≤ room) where
  abbrev s : Coordinator
  s = reopened c t room r.pid

  abbrev name : List ℕ
  name = record_name r

  -- whether the record's name is held, and what is held of it
  abbrev known : Bool
  known = holds_name s name

  abbrev before : Row
  before = row_of s name

  f : WellFormed c r
  f = well-formed-parts c r w

  -- ---- what every call asks of the state

  admitted : admits s room ≡ true
  admitted = admits-own s (record { proper = o.valid.proper; within = o.reserve-met })

  -- the whole log is flushed
  flushed : unflushed s.flushed before ≡ false
  flushed = le-ltb t.end before.end (o.ends (place_of_name s name))

  -- there is room for any record
  not_full : (row : Row) (ids : ℕ) → ids ≤ suc places → log_full s row ids ≡ false
  unfolding log_full
  not_full row ids few = le-ltb room _ (omega (arith, frame-most c (record_of row), spacious))

  -- the clock is the record's last update
  clock-is : clock_at s r.updated ≡ to_nat r.updated
  clock-is = later-is t.updated r.updated (come-time t r m)

  -- the pid that the block gives is the record's
  pid-is : NewProducer t.next r → new_pid s ≡ to_nat r.pid
  pid-is p = let above : t.next ≤ to_nat r.pid = rw p.pid-is p.pid-above in omega arith

  -- ---- what is held of the name

  either_way : {C : Type 0} → (known ≡ true → follows t.next before r ≡ true → C)
      → (known ≡ false → first t.next r ≡ true → ltb (lowest_free t) places ≡ true → C) → C
  either_way = rw (name_back c r w) (come-either t r m)

  held-follows : (r.status ≡ Empty → ⊥) → (known ≡ true) × (follows t.next before r ≡ true)
  held-follows = rw (name_back c r w) (come-follows t r m)

  same_name : known ≡ true → r.name ≡ before.name
  same_name k = sym (held-name s o.valid.proper.all name k ∙ name_back c r w)

  -- a call appends the record if it appends the row that holds it
  by_row : (call : CoordinatorCall) (place : ℕ) (row : Row) → call_typed call ≡ true → action_of call s room ≡ append place row → row ≡ held r 0 → Appends s room call r
  by_row call place row typed does e =
      record { typed = typed; place = place; row = row; does = does; record_is = ap record_of e ∙ come-back c t r w m 0 }

  -- ---- Init

  abbrev initializing : CoordinatorCall
  initializing = init_call name r.timeout r.updated

  init-typed : call_typed initializing ≡ true
  init-typed = rw (fits-is w32 r.timeout f.timeout-fits) (fits-is w64 r.updated f.updated-fits)

  timed : in_range (pos 1) (pos timeout_max) r.timeout ≡ true
  timed = let (n, e, low, high) = f.timeout-natural in rw e (range-is 1 timeout_max n low high)

  ids-few : (b : Bool) → ids_then s b ≤ suc places
  ids-few true = omega (arith, ids-most t, o.valid.proper.all)
  ids-few false = omega (arith, ids-most t, o.valid.proper.all)

  -- what is left to ask: no prepare, a place and a pid
  init-accepted : is_prepare before.status ≡ false → (not known && not (ltb (lowest_free t) places)) ≡ false
      → (not (is_begin before.status) && needs_pid known before && ltb s.last (new_pid s)) ≡ false
      → first_refusal (init_tests s room name r.timeout r.updated) ≡ 0
  init-accepted unprepared placed unspent =
      let row = init_row s (padded name_max name) known before r.timeout r.updated in
      init-passes s room name r.timeout r.updated
      (record {
        admitted = admitted;
        named = name-fits c r w;
        timed = timed;
        flushed = flushed;
        unprepared = unprepared;
        placed = placed;
        unspent = unspent;
        room = rw (not_full row (ids_then s known) (ids-few known)) (and-false (not (is_begin before.status)));
      })

  -- with a new pid
  new-appends : r.status ≡ Empty → idle before.status ≡ true → needs_pid known before ≡ true → (not known && not (ltb (lowest_free t) places)) ≡ false
      → NewProducer t.next r
      → Appends s room initializing r
  new-appends e quiet needs placed p =
      let left : ltb s.last (new_pid s) ≡ false = le-ltb s.last (new_pid s) (omega (arith, pid-is p)) in
      let accepted =
      init-accepted (idle-unprepared before.status quiet) placed (rw left (and-false (not (is_begin before.status) && needs_pid known before))) in
      by_row _ _ _ init-typed (does (init-new s room name r.timeout r.updated accepted (idle-unbegun before.status quiet) needs))
      (rw (clock-is, pid-is p, name_back c r w) (new-held c r w t.next e p))

  -- with the same pid and the next epoch
  raise-appends : r.status ≡ Empty → idle before.status ≡ true → known ≡ true → Raises before r → Appends s room initializing r
  raise-appends e quiet k p =
      let kept : needs_pid known before ≡ false = rw k (lt-leb epoch_last before.epoch p.epoch-below) in
      let accepted = init-accepted (idle-unprepared before.status quiet) (rw k) (rw (kept, and-false (not (is_begin before.status)))) in
      let named = ap (λ (l : List ℕ). initialized l before.pid (before.epoch + 1) (to_nat r.timeout) (to_nat r.updated)) (name_back c r w) in
      by_row _ _ _ init-typed (does (init-next s room name r.timeout r.updated accepted (idle-unbegun before.status quiet) kept))
      (rw clock-is (named ∙ raised-held c before r w (same_name k) e p))

  -- a transaction that has begun is aborted with the next epoch
  fence-appends : r.status ≡ PrepareAbort → known ≡ true → before.status ≡ Begin → Prepares before r (before.epoch + 1) → Appends s room initializing r
  fence-appends e k begins p =
      let b : is_begin before.status ≡ true = ap is_begin begins in
      let accepted = init-accepted (ap is_prepare begins) (rw k) (rw b) in
      let raised : raise fenced before.epoch ≡ before.epoch + 1 = omega (arith, o.valid.begun (place_of_name s name) b) in
      by_row _ _ _ init-typed (does (init-aborting s room name r.timeout r.updated accepted b))
      (rw (clock-is, raised) (prepared-held c before r w (same_name k) PrepareAbort (before.epoch + 1) e p))

  pub init-appends : r.status ≡ Empty → Appends (reopened c t room r.pid) room (init_call (record_name r) r.timeout r.updated) r
  init-appends e = either_way (λ k g. again k g (ltb before.epoch epoch_last) refl) anew
    where
      again : known ≡ true → follows t.next before r ≡ true → (b : Bool) → ltb before.epoch epoch_last ≡ b → Appends s room initializing r
      again k g true l =
          raise-appends e (follows-status t.next before r Empty e g) k (follows-raises t.next before r g e (ltb-true before.epoch epoch_last l))
      again k g false l =
          let p = follows-renews t.next before r g e (ltb-false before.epoch epoch_last l) in
          new-appends e (follows-status t.next before r Empty e g) (rw k (le-leb epoch_last before.epoch p.epoch-spent)) (rw k) p.producer

      anew : known ≡ false → first t.next r ≡ true → ltb (lowest_free t) places ≡ true → Appends s room initializing r
      anew k g place =
          let past : places ≤ place_of_name s name = ltb-false (place_of_name s name) places k in
          let none : before ≡ free_row = get_or-eq_default t.rows free_row (omega (arith, o.valid.proper.all)) in
          new-appends e (ap (λ (row : Row). idle row.status) none) (rw k) (rw (k, place)) (first-new t.next r g).1

  -- ---- Add

  abbrev adding : CoordinatorCall
  adding = add_call name r.pid r.epoch r.joined r.updated

  add_typed : call_typed adding ≡ true
  add_typed =
      rw (fits-is w64 r.pid f.pid-fits, fits-is w16 r.epoch f.epoch-fits, lt-ltb r.joined (2 ^ 64) f.joined-below)
      (fits-is w64 r.updated f.updated-fits)

  -- what is left to ask: the pid, an epoch with which a transaction may begin, and no prepare
  add-accepted : r.status ≡ Begin → known ≡ true → r.pid ≡ pos before.pid → r.epoch ≡ pos before.epoch → before.epoch ≤ epoch_last
      → is_prepare before.status ≡ false
      → first_refusal (add_tests s room name r.pid r.epoch r.joined r.updated) ≡ 0
  add-accepted e k pid epoch most unprepared =
      let row = add_row before r.joined (clock_at s r.updated) in
      add-passes s room name r.pid r.epoch r.joined r.updated
      (record {
        admitted = admitted;
        named = name-fits c r w;
        some = λ q. omega (arith, some-joined r.status r.joined (ap idle e) f.joined-status);
        listed = eq-eqb _ r.joined f.joined-inside;
        held = k;
        same-pid = pid;
        same-epoch = epoch;
        below = λ q. let z : before.epoch ≡ epoch_max = ap to_nat (sym epoch ∙ q) in omega arith;
        flushed = flushed;
        unprepared = unprepared;
        room = rw (not_full row (id_count t) (omega (arith, ids-most t, o.valid.proper.all))) (and-false (not (all_joined before r.joined)));
      })

  -- a transaction begins
  begin-appends : r.status ≡ Begin → known ≡ true → idle before.status ≡ true → Begins before r → Appends s room adding r
  begin-appends e k quiet p =
      let accepted = add-accepted e k p.pid-kept p.epoch-kept (omega (arith, p.epoch-most)) (idle-unprepared before.status quiet) in
      by_row _ _ _ add_typed (does (add-begun s room name r.pid r.epoch r.joined r.updated accepted (idle-unbegun before.status quiet)))
      (rw clock-is (begun-held c before r w (same_name k) e p))

  -- one that has begun is widened
  widen-appends : r.status ≡ Begin → known ≡ true → before.status ≡ Begin → Widens before r → Appends s room adding r
  unfolding all_joined
  widen-appends e k begins p =
      let b : is_begin before.status ≡ true = ap is_begin begins in
      let accepted = add-accepted e k p.pid-kept p.epoch-kept (o.valid.begun (place_of_name s name) b) (ap is_prepare begins) in
      let more : all_joined before r.joined ≡ false = rw b (widens-more before r p) in
      by_row _ _ _ add_typed (does (add-widened s room name r.pid r.epoch r.joined r.updated accepted b more))
      (rw clock-is (widened-held c before r w (same_name k) e p))

  pub add-appends : r.status ≡ Begin → Appends (reopened c t room r.pid) room (add_call (record_name r) r.pid r.epoch r.joined r.updated) r
  add-appends e =
      let (k, g) = held-follows (λ q. not-both (ap is_begin q) (ap is_begin e)) in
      go k g (idle before.status) refl (follows-status t.next before r Begin e g)
    where
      go : known ≡ true → follows t.next before r ≡ true → (b : Bool) → idle before.status ≡ b → (b || same_status before.status Begin) ≡ true
          → Appends s room adding r
      go k g true i q = begin-appends e k i (follows-begins t.next before r g e i)
      go k g false i q = widen-appends e k (same-status before.status Begin q) (follows-widens t.next before r g e i)

  -- ---- End

  abbrev ending : ℕ → CoordinatorCall
  ending verdict = end_call name r.pid r.epoch verdict r.updated

  end-typed : (verdict : ℕ) → call_typed (ending verdict) ≡ true
  end-typed verdict = rw (fits-is w64 r.pid f.pid-fits, fits-is w16 r.epoch f.epoch-fits) (fits-is w64 r.updated f.updated-fits)

  -- a transaction that has begun is prepared with the epoch that is held
  end-appends : (verdict : ℕ) → verdict ≤ 1 → r.status ≡ prepare_of verdict → known ≡ true → before.status ≡ Begin → Prepares before r before.epoch
      → Appends s room (ending verdict) r
  unfolding end_fits
  end-appends verdict few e k begins p =
      let accepted =
      end-passes s room name r.pid r.epoch verdict r.updated
      (record {
        admitted = admitted;
        named = name-fits c r w;
        verdict-fits = few;
        held = k;
        same-pid = p.pid-kept;
        same-epoch = p.epoch-is;
        flushed = flushed;
        status-fits = ap (λ (x : Status). end_fits x verdict) begins;
        unprepared = ap is_prepare begins;
      }) in
      by_row _ _ _ (end-typed verdict) (does (end-prepared s room name r.pid r.epoch verdict r.updated accepted (ap is_begin begins)))
      (rw clock-is (prepared-held c before r w (same_name k) (prepare_of verdict) before.epoch e p))

  pub commit-appends : r.status ≡ PrepareCommit → Appends (reopened c t room r.pid) room (end_call (record_name r) r.pid r.epoch 0 r.updated) r
  commit-appends e =
      let (k, g) = held-follows (λ q. not-both (ap is_prepare q) (ap is_prepare e)) in
      let begins = same-status before.status Begin (follows-status t.next before r PrepareCommit e g) in
      end-appends 0 (omega arith) e k begins (follows-commits t.next before r g e)

  -- an abort is of End, or of Init where its epoch is the next
  pub abort-appends : r.status ≡ PrepareAbort → Appends (reopened c t room r.pid) room (abort_call (row_at t (place_of t r.name)) r) r
  abort-appends e =
      let (k, g) = held-follows (λ q. not-both (ap is_prepare q) (ap is_prepare e)) in
      let begins = same-status before.status Begin (follows-status t.next before r PrepareAbort e g) in
      let p = follows-aborts t.next before r g e in
      subst (λ (l : List ℕ). Appends s room (abort_call (row_at t (place_of t l)) r) r) (name_back c r w)
      (by_cases (λ (call : CoordinatorCall). Appends s room call r) (eq_z r.epoch (pos before.epoch))
      (λ q. end-appends 1 (omega arith) e k begins (aborts-kept before r p (eq_z-true r.epoch (pos before.epoch) q)))
      (λ q. fence-appends e k begins (aborts-next before r p (eq_z-false r.epoch (pos before.epoch) q))))
