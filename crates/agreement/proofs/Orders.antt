-- Order: the order that it gives is for its place's latest record, a flushed prepare, and nothing else changes.
use Prim.Native.Nat.{ℕ, ◌-◌, ◌<◌, ◌^◌}
use mathlib.Core.Path.{◌≡◌, refl, sym, ap, subst, ◌∙◌}
use mathlib.Core.Bool.{true, false}
use mathlib.Core.List.{List, [], ◌∷◌}
use mathlib.Core.Option.{Option, some}
use native.Mathlib.Omega.{arith}
use lib.Bits.{bit_and, and_le_l, and_comm}
use lib.Dec.{ltb}
use lib.ListN.{length}
use mir.Syntax.{w16, w32, w64}
use borrow.Author.Tests.{ltb-true, ltb-false, le-leb}
use Rattle.numbers.specs.Signed.{signed_of}
use Rattle.numbers.proofs.Signed.{natural-back}
use Rattle.numbers.proofs.Tests.{either}
use Rattle.bits.specs.Bits.{Member, member, lowest}
use Rattle.bits.proofs.Laws.{member_is, lowest-member, left-parts, subset-and, subset-from}
use Rattle.catalogue.specs.declared.Catalogue.{Catalogue}
use Rattle.record.specs.Record.{status_code, well_formed}
use Rattle.record.specs.declared.Record.{Record}
use Rattle.record.proofs.Bounds.{well-formed-parts}
use Rattle.search.proofs.Found.{found-is, found-with}
use Rattle.search.proofs.Members.{In}
use Rattle.search.proofs.Find.{find-in}
use Rattle.answers.specs.Limits.{places}
use Rattle.row.specs.Row.{free, is_prepare, held, outstanding, record_of}
use Rattle.row.specs.Steps.{verdict_of}
use Rattle.row.specs.declared.Row.{Row}
use Rattle.row.proofs.Laws.{NotNegative, record-back, prepare-verdict, prepare-busy}
use Rattle.table.specs.Table.{row_at}
use Rattle.table.proofs.Reserve.{busy-held}
use Rattle.coordinator.specs.Order.{due, order_place, order}
use Rattle.coordinator.specs.declared.Coordinator.{Coordinator}
use Rattle.coordinator.proofs.OrderCases.{Ordered, order-given, order-none, order-found}
use Rattle.runs.specs.History.{Order, Event, order_given, History, Logged, records_of, flushed_of, latest_of, record_numbered, words_in}
use Rattle.runs.specs.World.{Phase, up, down, Carrying, to_deliver, World, catalogue_of, with_carrying, with_event, ordered_record, number_or, order_answered}
use Rattle.runs.specs.Demand3.{IsFor}
use Rattle.protocol.specs.NextEvent.{MayBeNext}
use Rattle.protocol.proofs.Cuts.{latest-name}
use Rattle.protocol.proofs.TableOfRecords.{come-record}
use Rattle.protocol.proofs.AfterPrepare.{latest-last}
use Rattle.protocol.proofs.Events.{given-records, KeepsRecords}
use Rattle.protocol.proofs.WritesNothing.{WritesNothing, given-writes-nothing}
use Rattle.protocol.proofs.Extends.{kept-stands}
use Rattle.agreement.proofs.Invariant.{place_in, AcksSide, UnderWay, CarryingSide, Invariant, ForPlace}
use Rattle.agreement.proofs.FlushedFirst.{proper}
use Rattle.agreement.proofs.LiveTable.{live-record-at, RecordAt}
use Rattle.agreement.proofs.Acknowledgements.{none-open-kept, acks-kept}
use Rattle.agreement.proofs.Preserves.{Preserves, log-same, log-of, acks-of, carries-nothing-preserves, unwritten-preserves, rows_of, ready_of}

-- ---- an event that says something of an order alone

pub record OrderOnly (h : History) (e : Event) : Type 0 where
  pub writes_nothing : WritesNothing h e
  pub no_words : (x : ℕ) → words_in x e ≡ []
  pub keeps : KeepsRecords h e

pub acks-order-only : (c : Catalogue) (p : Phase) (h : History) (e : Event) → OrderOnly h e → AcksSide c p h → AcksSide c p (e ∷ h)
acks-order-only c (up s) h e b a = acks-kept c h s e (λ x k m n. none-open-kept c h e b.writes_nothing.no-entry b.writes_nothing.no_kind b.keeps.records x k n) a
acks-order-only c (down n before) h e b a = tt

pub for-same : (o : Order) (h v : History) (q : Logged) → records_of v ≡ records_of h → flushed_of v ≡ flushed_of h → IsFor o h q → IsFor o v q
for-same o h v q r f i =
    record {
      prepare = i.prepare;
      flushed = rw f i.flushed;
      latest = rw r i.latest;
      pid = i.pid;
      epoch = i.epoch;
      verdict = i.verdict;
      position = i.position;
    }

pub way_same : (c : Catalogue) (h v : History) (s : Coordinator) (o : Order) → records_of v ≡ records_of h → flushed_of v ≡ flushed_of h → UnderWay c h s o → UnderWay c v s o
way_same c h v s o r f u =
    record {
      for-prepare = found-with (ForPlace c h o) (record_numbered o.for h) u.for-prepare
          (λ q e i. let e' : record_numbered o.for v ≡ some q = rw r e in found-is (ForPlace c v o) e' (record { is-for = for-same o h v q r f i.is-for; place = rw r i.place }));
      coordinator = u.coordinator;
      waits = u.waits;
    }

-- it preserves the invariant, if it may come next and what is carried then agrees
pub order-only-preserves : (w : World) → Invariant w → (e : Event) → OrderOnly w.history e → MayBeNext (catalogue_of w) w.history e → (k : Carrying) → CarryingSide (catalogue_of w) (e ∷ w.history) w.phase k
    → Preserves w (with_carrying (with_event w e) k)
order-only-preserves w i e b m k d =
    unwritten-preserves w i e w.phase k b.writes_nothing b.no_words m (log-same (catalogue_of w) w.log w.phase w.history (e ∷ w.history) b.keeps.records b.keeps.flushed i.log-side)
    (acks-order-only (catalogue_of w) w.phase w.history e b i.acks) (omega arith) d

-- ---- an order

-- the order that Order gives from a place
abbrev pub order_of : Coordinator → ℕ → ℕ → History → Order
order_of s set place h =
    let row = row_at s.table place in
    record {
      place = place;
      pid = signed_of w64 row.pid;
      epoch = signed_of w16 row.epoch;
      verdict = verdict_of row.status;
      position = lowest (due row set);
      coordinator = signed_of w32 s.epoch;
      for = ordered_record s place h;
    }

-- a prepare's place is held
pub prepare-held : (w : World) (i : Invariant w) (s : Coordinator) (u : w.phase ≡ up s) (k : ℕ) → is_prepare (row_at s.table k).status ≡ true → free (row_at s.table k) ≡ false
prepare-held w i s u k p =
    busy-held (row_at s.table k) ((proper s (ready_of w i s u)).each k) (prepare-busy (row_at s.table k).status p)

module _ (w : World) (i : Invariant w) (s : Coordinator) (u : w.phase ≡ up s) (set : ℕ) (place : ℕ) (o : Ordered s set (row_at s.table place)) where
  abbrev c : Catalogue
  c = catalogue_of w

  abbrev h : History
  h = w.history

  abbrev row : Row
  row = row_at s.table place

  abbrev given : Order
  given = order_of s set place h

  st : RecordAt c w.log s h (log-of w i s u) i.of-history place
  st = live-record-at c w.log s h (log-of w i s u) i.of-history place (prepare-held w i s u place o.prepares)

  abbrev q : Logged
  q = st.latest

  there : In q (records_of h)
  there = find-in _ (records_of h) q st.is

  sound : (well_formed c q.content ≡ true) × NotNegative q.content
  sound = come-record c (records_of h) i.of-history.come q there

  back : record_of (held q.content q.end) ≡ q.content
  back = record-back c q.content q.end sound.0 sound.1

  same_name : q.content.name ≡ row.name
  same_name = latest-name row.name (records_of h) q st.is

  joined_is : row.joined ≡ q.content.joined
  joined_is = ap (λ (r : Row). r.joined) st.row

  joined_small : row.joined < 2 ^ 64
  joined_small = let b = (well-formed-parts c q.content sound.0).joined-below in omega (arith, joined_is)

  -- its position is joined and not acknowledged
  position-left : (member row.joined (lowest (due row set)) ≡ true) × (member row.acknowledged (lowest (due row set)) ≡ false)
  position-left =
      let some : 0 < due row set = let n = o.some in omega arith in
      let out-small : outstanding row < 2 ^ 64 = let y = joined_small in let l = and_le_l row.joined ((2 ^ 64 - 1) - row.acknowledged) in omega arith in
      let small : due row set < 2 ^ 64 = let l = and_le_l (outstanding row) set in omega arith in
      let (below, m, _) = lowest-member (due row set) some small in
      let inside : Member (lowest (due row set)) (outstanding row) = subset-from (bit_and set (outstanding row)) (outstanding row) (subset-and set (outstanding row)) (lowest (due row set))
      (subst (λ (n : ℕ). Member (lowest (due row set)) n) (and_comm (outstanding row) set) m) in
      left-parts 64 row.joined row.acknowledged joined_small ((acks-of w i s u).small place) (lowest (due row set)) (member_is (outstanding row) (lowest (due row set)) inside)

  number_is : given.for ≡ q.number
  number_is = ap (λ (v : Option Logged). number_or v (length h)) st.is

  is-for : IsFor given h q
  is-for =
      record {
        prepare = sym (ap (λ (r : Row). is_prepare r.status) st.row) ∙ o.prepares;
        flushed = le-leb q.end (flushed_of h) (let e : row.end ≡ q.end = ap (λ (r : Row). r.end) st.row in let l = ltb-false s.flushed row.end o.flushed in omega (arith, (log-of w i s u).flushed));
        latest = latest-last q (length h) (records_of h) i.of-history.numbered (subst (λ (n : List ℕ). latest_of n h ≡ some q) (sym same_name) st.is);
        pid = sym (ap (λ (r : Record). r.pid) back) ∙ sym (ap (λ (r : Row). signed_of w64 r.pid) st.row);
        epoch = sym (ap (λ (r : Record). r.epoch) back) ∙ sym (ap (λ (r : Row). signed_of w16 r.epoch) st.row);
        verdict = sym (ap (λ (r : Row). status_code r.status) st.row) ∙ prepare-verdict row.status o.prepares;
        position = subst (λ (n : ℕ). member n (lowest (due row set)) ≡ true) joined_is position-left.0;
      }

  found-for : record_numbered given.for h ≡ some q
  found-for = ap (λ (n : ℕ). record_numbered n h) number_is ∙ kept-stands c h i.of-history q there

  under-way : UnderWay c h s given
  under-way =
      record {
        for-prepare = found-is (ForPlace c h given) found-for (record { is-for = is-for; place = ap (place_in c (records_of h)) same_name ∙ st.place });
        coordinator = natural-back w32 s.epoch (log-of w i s u).written.numbers.epoch-fits;
        waits = position-left.1;
      }

  order-only : OrderOnly h (order_given given)
  order-only = record { writes_nothing = given-writes-nothing h given; no_words = λ x. refl; keeps = given-records h given }

  gives : Preserves w (with_carrying (with_event w (order_given given)) (to_deliver (length h) given))
  gives =
      order-only-preserves w i (order_given given) order-only (found-is (IsFor given h) found-for is-for) (to_deliver (length h) given)
      (subst (λ (p : Phase). CarryingSide c (order_given given ∷ h) p (to_deliver (length h) given)) (sym u)
      (way_same c h (order_given given ∷ h) s given (given-records h given).records (given-records h given).flushed under-way))

pub order-preserves : (w : World) (i : Invariant w) (s : Coordinator) (u : w.phase ≡ up s) (set : ℕ) → Preserves w (order_answered (order s set) s w)
order-preserves w i s u set =
    let all = rows_of w i s u in
    either (ltb (order_place s set) places)
    (λ e. let l = ltb-true (order_place s set) places e in rw (order-given s set l) (gives w i s u set (order_place s set) (order-found s set all l)))
    (λ e. rw (order-none s set (ltb-false (order_place s set) places e)) (carries-nothing-preserves w i))
