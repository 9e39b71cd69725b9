-- Ack as it is carried: it is never refused, and completes a prepare only when nothing of its name is open.
use Prim.Native.Nat.{ℕ, ◌<◌, ◌^◌}
use mathlib.Core.Path.{◌≡◌, refl, sym, ap, subst, ◌∙◌}
use mathlib.Core.Bool.{true, false}
use mathlib.Core.List.{List, ◌∷◌}
use mathlib.Core.Option.{some}
use native.Mathlib.Decide.{ℕ_discrete}
use native.Mathlib.Omega.{arith}
use lib.IntN.{pos}
use lib.ListN.{length}
use borrow.Author.Tests.{leb-true, eq-eqb}
use Rattle.numbers.proofs.Signed.{at_least, eq_z-is, natural-pos}
use Rattle.numbers.proofs.Tests.{by_cases}
use Rattle.bits.specs.Bits.{member}
use Rattle.bits.proofs.Laws.{member_below, last-left}
use Rattle.catalogue.specs.declared.Catalogue.{Catalogue}
use Rattle.catalogue.specs.Catalogue.{parse}
use Rattle.catalogue.proofs.Laws.{all-bound, not-refused}
use Rattle.record.specs.Record.{well_formed}
use Rattle.record.proofs.Bounds.{well-formed-parts}
use Rattle.search.proofs.Found.{some_same}
use Rattle.search.proofs.Members.{In, in-each}
use Rattle.answers.specs.Refusals.{first_refusal}
use Rattle.answers.specs.Answer.{Refused}
use Rattle.answers.proofs.Laws.{none_is, unless-does}
use Rattle.row.specs.Row.{free, is_prepare, held, with_acknowledged}
use Rattle.row.specs.declared.Row.{Row}
use Rattle.table.specs.Table.{row_at}
use Rattle.coordinator.specs.Coordinator.{admits, keep}
use Rattle.coordinator.specs.Ack.{last_outstanding, ack_tests, ack_row_tests, ack_action, ack}
use Rattle.coordinator.specs.declared.Coordinator.{Coordinator}
use Rattle.coordinator.specs.Calls.{ack_call}
use Rattle.coordinator.proofs.AckCases.{ack-passed}
use Rattle.writable_logs.proofs.Decisions.{by_call}
use Rattle.writable_logs.proofs.Written.{written-admits}
use Rattle.runs.specs.History.{Order, order_carried, History, Logged, records_of, contents, flushed_of, latest_of}
use Rattle.runs.specs.World.{up, nothing, World, catalogue_of, with_carrying, with_event, coordinator_does}
use Rattle.runs.proofs.Admitted.{Own}
use Rattle.protocol.specs.RecordsOfName.{latest_in}
use Rattle.protocol.specs.Entries.{Entry, entries_of, under_of}
use Rattle.protocol.specs.NextEvent.{NothingOpen}
use Rattle.protocol.proofs.TableOfRecords.{come-record}
use Rattle.protocol.proofs.Events.{carried-records}
use Rattle.protocol.proofs.Consequences.{for-latest, open-now}
use Rattle.protocol.proofs.WritesNothing.{carried-writes-nothing}
use Rattle.protocol.proofs.Extends.{Extends, extends-then}
use Rattle.agreement.proofs.Invariant.{place_in, NoneOpen, UnderWay, Invariant}
use Rattle.agreement.proofs.FlushedFirst.{own-place}
use Rattle.agreement.proofs.LogSteps.{MayAppend}
use Rattle.agreement.proofs.Rows.{none-open-at}
use Rattle.agreement.proofs.Acknowledgements.{none-open-kept, acks-noted}
use Rattle.agreement.proofs.Preserves.{Preserves, AcknowledgesClosed, none-carried, log-of, acks-of, action-preserves, ready_of, rows_of, row-of, place-of}
use Rattle.agreement.proofs.PreparedRow.{row-flushed, row_small, row-prepares}
use Rattle.agreement.proofs.Orders.{OrderOnly, order-only-preserves, way_same, prepare-held}
use Rattle.agreement.proofs.Delivers.{PrepareOf, prepare-of, place-below, position-listed}

module _ (w : World) (i : Invariant w) (s : Coordinator) (u : w.phase ≡ up s) (o : Order) (way : UnderWay (catalogue_of w) w.history s o) where
  abbrev c : Catalogue
  c = catalogue_of w

  abbrev h : History
  h = w.history

  abbrev k0 : ℕ
  k0 = o.place

  abbrev row : Row
  row = row_at s.table k0

  abbrev it : PrepareOf w i s u o way
  it = prepare-of w i s u o way

  abbrev r : Logged
  r = it.prepare

  latest-is : latest_of r.content.name h ≡ some r
  latest-is = for-latest c h i.of-history o r it.there it.is-for

  -- the row of its place is its prepare's
  pub row_is : with_acknowledged row 0 ≡ held r.content r.end
  row_is = subst (λ (k : ℕ). with_acknowledged (row_at s.table k) 0 ≡ held r.content r.end) (place-of w i s u r.content.name ∙ it.place)
      (row-of w i s u r.content.name r latest-is)

  pub row-joins : member row.joined o.position ≡ true
  row-joins = ap (λ (y : Row). member y.joined o.position) row_is ∙ it.is-for.position

  formed : well_formed c r.content ≡ true
  formed = (come-record c (records_of h) i.of-history.come r it.there).0

  abbrev prepared : is_prepare row.status ≡ true
  prepared = row-prepares w i s u k0 r it.there it.is-for.prepare row_is

  row-held : free row ≡ false
  row-held = prepare-held w i s u k0 prepared

  pub joined_small : row.joined < 2 ^ 64
  joined_small = row_small w i s u k0 r it.there it.is-for.prepare row_is

  pub position-below : o.position < 64
  position-below = member_below 64 c.all o.position (all-bound w.text c (not-refused w.text i.parsed)) (position-listed w i s u o way)

  -- ---- it is not refused

  pub ack-passes : first_refusal (ack_tests s (length w.log) k0 o.pid o.epoch o.position) ≡ 0
  unfolding ack_tests ack_row_tests
  ack-passes =
      let l = log-of w i s u in
      let admitted : admits s (length w.log) ≡ true = written-admits c w.log s (contents (records_of h)) l.written (length w.log) ∙ eq-eqb (length w.log) (length w.log) refl in
      let listed : member s.catalogue.all o.position ≡ true = subst (λ (y : Catalogue). member y.all o.position ≡ true) (sym l.written.catalogue-is) (position-listed w i s u o way) in
      let (n, n-is) = (well-formed-parts c r.content formed).pid-natural in
      let (m, m-is, _) = at_least 0 r.content.epoch (come-record c (records_of h) i.of-history.come r it.there).1.epoch-natural in
      let pid : o.pid ≡ pos row.pid = sym it.is-for.pid ∙ sym (natural-pos r.content.pid n n-is) ∙ ap pos (sym (ap (λ (y : Row). y.pid) row_is)) in
      let epoch : o.epoch ≡ pos row.epoch = sym it.is-for.epoch ∙ sym (natural-pos r.content.epoch m m-is) ∙ ap pos (sym (ap (λ (y : Row). y.epoch) row_is)) in
      let flushed = row-flushed w i s u k0 r it.there it.is-for.prepare row_is (leb-true r.end (flushed_of h) it.is-for.flushed) in
      none_is (ack_tests s (length w.log) k0 o.pid o.epoch o.position)
      (rw admitted refl, (rw listed refl, (rw (row-held, eq_z-is o.pid (pos row.pid) pid) refl, (rw (eq_z-is o.epoch (pos row.epoch) epoch) refl, (flushed, (rw prepared refl, (rw row-joins refl, tt)))))))

  -- ---- what it does

  -- when all but its position are acknowledged and its own is closed, nothing of its name is open
  nothing-open : NoneOpen c h (records_of h) o.position k0 → last_outstanding row ≡ true → NothingOpen row.name h
  nothing-open n last =
      in-each _ (entries_of h) (λ d j name z.
      let same_name : d.what.name ≡ r.content.name = name ∙ ap (λ (y : Row). y.name) row_is in
      let at : place_in c (records_of h) d.what.name ≡ k0 = ap (place_in c (records_of h)) same_name ∙ it.place in
      open-now c h i.of-history d j z (λ l e b.
      let same : l ≡ r = some_same (sym e ∙ ap (λ (y : List ℕ). latest_in y (records_of h)) same_name ∙ latest-is) in
      let joins : member row.joined d.what.position ≡ true = ap (λ (y : Row). member y.joined d.what.position) row_is
      ∙ sym (ap (λ (y : Logged). member y.content.joined d.what.position) same) ∙ b.joined in
      go d j z at joins (ℕ_discrete d.what.position o.position)))
    where
      go : (d : Entry) → In d (entries_of h) → under_of h d ≡ 0 → place_in c (records_of h) d.what.name ≡ k0 → member row.joined d.what.position ≡ true → Dec (d.what.position ≡ o.position) → ⊥
      go d j z at joins (yes e) = none-open-at c h (records_of h) o.position k0 n d j e z at
      go d j z at joins (no m) =
          let acked = last-left row.joined row.acknowledged o.position joined_small ((acks-of w i s u).small k0) position-below row-joins way.waits last d.what.position joins m in
          none-open-at c h (records_of h) d.what.position k0 ((acks-of w i s u).closed k0 d.what.position acked) d j refl z at

  module _ (n : NoneOpen c h (records_of h) o.position k0) where
    inside : k0 < length s.table.rows
    inside = let b = place-below w i s u o way in omega (arith, rows_of w i s u)

    well : MayAppend s h (ack s (length w.log) k0 o.pid o.epoch o.position).action
    unfolding ack ack_action
    well =
        unless-does (first_refusal (ack_tests s (length w.log) k0 o.pid o.epoch o.position)) Refused keep _ (MayAppend s h) tt
        (λ e. by_cases (MayAppend s h) (member row.acknowledged o.position) (λ m. tt)
        (λ m. by_cases (MayAppend s h) (last_outstanding row)
        (λ l. let own = own-place s (ready_of w i s u) k0 row-held in
        record { flushed = rw own (ack-passed s (length w.log) k0 o.pid o.epoch o.position e).flushed; nothing-open = λ p. nothing-open n l }) (λ l. tt)))

    notes : AcknowledgesClosed c s h (ack s (length w.log) k0 o.pid o.epoch o.position).action
    unfolding ack ack_action
    notes =
        unless-does (first_refusal (ack_tests s (length w.log) k0 o.pid o.epoch o.position)) Refused keep _ (AcknowledgesClosed c s h) tt
        (λ e. by_cases (AcknowledgesClosed c s h) (member row.acknowledged o.position) (λ m. tt)
        (λ m. by_cases (AcknowledgesClosed c s h) (last_outstanding row) (λ l. tt)
        (λ l. acks-noted c h i.of-history s (acks-of w i s u) k0 o.position inside position-below prepared joined_small row-joins way.waits l n)))

    pub acked : Preserves w (coordinator_does (ack s (length w.log) k0 o.pid o.epoch o.position).action s w)
    acked = action-preserves w i s u (ack s (length w.log) k0 o.pid o.epoch o.position).action (by_call (ack_call k0 o.pid o.epoch o.position) refl refl) well notes

-- ---- with the event that the order is carried

pub preserves-then : (w v z : World) → Preserves w v → Own v → (Invariant v → Preserves v z) → Preserves w z
preserves-then w v z g o f =
    let k = f (g.holds o) in
    record {
      same_text = k.same_text ∙ g.same_text;
      extends = extends-then (catalogue_of w) w.history g.extends (subst (λ (y : List ℕ). Extends (parse y).catalogue v.history z.history) g.same_text k.extends);
      holds = k.holds;
    }

pub ack-preserves : (w : World) (i : Invariant w) (s : Coordinator) (u : w.phase ≡ up s) (o : Order) → UnderWay (catalogue_of w) w.history s o
    → NoneOpen (catalogue_of w) w.history (records_of w.history) o.position o.place
    → Preserves w (coordinator_does (ack s (length w.log) o.place o.pid o.epoch o.position).action s (with_event w (order_carried o)))
ack-preserves w i s u o way n =
    let c = catalogue_of w in
    let h = w.history in
    let b : OrderOnly h (order_carried o) = record { writes_nothing = carried-writes-nothing h o; no_words = λ x. refl; keeps = carried-records h o } in
    let v = with_carrying (with_event w (order_carried o)) nothing in
    preserves-then w v (coordinator_does (ack s (length w.log) o.place o.pid o.epoch o.position).action s (with_event w (order_carried o)))
    (order-only-preserves w i (order_carried o) b tt nothing (none-carried c (order_carried o ∷ h) w.phase)) (record { of-log = i.own.of-log; of_words = i.own.of_words })
    (λ j. acked v j s u o (way_same c h (order_carried o ∷ h) s o b.keeps.records b.keeps.flushed way)
    (none-open-kept c h (order_carried o) refl (λ position pid. refl) b.keeps.records o.position o.place n))
