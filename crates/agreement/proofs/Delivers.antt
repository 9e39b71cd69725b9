-- Marker as it is carried: it is never refused, writes at most one marker, and leaves nothing open of its place there.
use Prim.Native.Nat.{ℕ, ◌+◌, ◌*◌, ◌≤◌, ◌<◌}
use mathlib.Core.Path.{◌≡◌, refl, sym, ap, subst, ◌∙◌}
use mathlib.Core.Logic.{◌≢◌}
use mathlib.Core.Bool.{Bool, true, false, ◌&&◌}
use mathlib.Core.List.{List, ◌∷◌, ◌++◌}
use mathlib.Core.Option.{some}
use native.Mathlib.Omega.{arith}
use lib.Dec.{eqb, ltb}
use lib.IntN.{ℤ, pos}
use lib.ListN.{length, take, get_or, set}
use lib.Seq.{get_or-set_same, get_or-set_other, set-get_or}
use lib.Signed.{lt_z}
use borrow.Author.Tests.{ltb-true, lt-leb, le-ltb, eq-eqb, ne_eqb, eqb-true, eqb-false}
use Rattle.numbers.specs.Signed.{to_nat}
use Rattle.numbers.specs.Bytes.{overwrite}
use Rattle.numbers.proofs.Tests.{not-both, either}
use Rattle.numbers.proofs.Signed.{at_least}
use Rattle.numbers.proofs.Bytes.{take-through}
use Rattle.bits.specs.Bits.{member}
use Rattle.bits.proofs.Laws.{member_is, member-true, subset-from}
use Rattle.catalogue.specs.declared.Catalogue.{Catalogue}
use Rattle.record.specs.Record.{well_formed}
use Rattle.record.proofs.Bounds.{well-formed-parts}
use Rattle.search.proofs.Found.{found-is, found-with}
use Rattle.search.proofs.Members.{In, each_in, in-each}
use Rattle.search.proofs.Find.{find-in}
use Rattle.answers.specs.Limits.{places}
use Rattle.answers.specs.Refusals.{first_refusal}
use Rattle.answers.specs.Answers.{reply}
use Rattle.answers.proofs.Laws.{none_is}
use Rattle.row.specs.Row.{held}
use Rattle.row.proofs.Laws.{prepare-code}
use Rattle.table.specs.Table.{row_at}
use Rattle.log_reader.specs.Records.{table_of}
use Rattle.coordinator.specs.declared.Coordinator.{Coordinator}
use Rattle.partition.specs.Limits.{entry_words}
use Rattle.partition.specs.Marker.{marker_tests, closed, marker_entry, close_transaction, marker}
use Rattle.partition.specs.Partition.{admits, producer_at, no_producer, note, write, after as partition_after}
use Rattle.partition.specs.declared.Partition.{Partition}
use Rattle.partition.specs.declared.Producer.{Producer}
use Rattle.partition.proofs.Laws.{entry-fits}
use Rattle.partition.proofs.MarkerCases.{marker-other, marker-closes, marker-noted}
use Rattle.partition.proofs.Reserve.{admits-length}
use Rattle.runs.specs.History.{Order, marker_written, History, Logged, ending_by, records_of, contents, end_of, flushed_of, record_numbered, words_of, words_in}
use Rattle.runs.specs.World.{Phase, up, to_acknowledge, World, catalogue_of, leader_at, leader_does, once_done}
use Rattle.runs.specs.Demand3.{IsFor}
use Rattle.protocol.specs.RecordsOfName.{latest_in}
use Rattle.protocol.specs.Entries.{Entry, entries_of, under_of}
use Rattle.protocol.specs.NextEvent.{Markable}
use Rattle.protocol.proofs.Cuts.{ending-all}
use Rattle.protocol.proofs.TableOfRecords.{come-record, table-latest}
use Rattle.protocol.proofs.Events.{marker-records, same_entries}
use Rattle.protocol.proofs.Consequences.{for-latest}
use Rattle.protocol.proofs.Extends.{still, more}
use Rattle.agreement.proofs.Invariant.{NotAhead, epoch_of, place_in, NoneOpen, AcksSide, UnderWay, CarryingSide, Invariant, ForPlace}
use Rattle.agreement.proofs.Tables.{latest-starts, place-row}
use Rattle.agreement.proofs.Rows.{held-busy}
use Rattle.agreement.proofs.RowsAfterProduce.{rows_same, rows-marked-elsewhere}
use Rattle.agreement.proofs.RowsAfterMarker.{place-pid, marked-none, rows-marked, rows-noted, none-open-unless}
use Rattle.agreement.proofs.Acknowledgements.{none-open-marked, acks-kept}
use Rattle.agreement.proofs.Words.{words-next, words_same}
use Rattle.agreement.proofs.Preserves.{Preserves, log-same, acks-of, leaders-of}
use Rattle.agreement.proofs.Orders.{way_same}
use Rattle.agreement.proofs.Produces.{own_at, leader-preserves, position-below}

module _ (w : World) (i : Invariant w) (s : Coordinator) (u : w.phase ≡ up s) (o : Order) (way : UnderWay (catalogue_of w) w.history s o) where
  abbrev c : Catalogue
  c = catalogue_of w

  abbrev h : History
  h = w.history

  abbrev x : ℕ
  x = o.position

  abbrev p : Partition
  p = (leader_at w x).partition

  abbrev words : List ℕ
  words = (leader_at w x).words

  abbrev k0 : ℕ
  k0 = o.place

  -- its prepare
  pub record PrepareOf : Type 0 where
    pub prepare : Logged
    pub there : In prepare (records_of h)
    pub found : record_numbered o.for h ≡ some prepare
    pub is-for : IsFor o h prepare
    pub place : place_in c (records_of h) prepare.content.name ≡ k0

  pub prepare-of : PrepareOf
  prepare-of =
      found-with (ForPlace c h o) (record_numbered o.for h) way.for-prepare
      (λ q e f. record { prepare = q; there = find-in (λ (y : Logged). eqb y.number o.for) (records_of h) q e; found = e; is-for = f.is-for; place = f.place })

  abbrev r : Logged
  r = prepare-of.prepare

  abbrev f : IsFor o h r
  f = prepare-of.is-for

  formed : well_formed c r.content ≡ true
  formed = (come-record c (records_of h) i.of-history.come r prepare-of.there).0

  -- ---- the numbers of an order

  pid-natural : (n : ℕ) × (o.pid ≡ pos n)
  pid-natural = let (n, e) = (well-formed-parts c r.content formed).pid-natural in (n, sym f.pid ∙ e)

  epoch-natural : (n : ℕ) × (o.epoch ≡ pos n)
  epoch-natural = let (n, e, _) = at_least 0 r.content.epoch (come-record c (records_of h) i.of-history.come r prepare-of.there).1.epoch-natural in (n, sym f.epoch ∙ e)

  pub verdict-most : o.verdict ≤ 1
  verdict-most = let b = prepare-code r.content.status f.prepare in omega (arith, f.verdict)

  latest-is : latest_in r.content.name (records_of h) ≡ some r
  latest-is = for-latest c h i.of-history o r prepare-of.there f

  pub place-below : k0 < places
  place-below =
      let holding = (table-latest c (records_of h) i.of-history.come i.of-history.ends r.content.name (latest-starts c (records_of h) i.of-history.come r.content.name r latest-is) r latest-is).0 in
      subst (λ (k : ℕ). k < places) prepare-of.place (ltb-true (place_in c (records_of h) r.content.name) places holding)

  pub position-listed : member c.all x ≡ true
  position-listed =
      let inside = (well-formed-parts c r.content formed).joined-inside in
      member_is c.all x (subset-from r.content.joined c.all (eq-eqb _ _ inside) x (member-true r.content.joined x f.position))

  below : x < length w.leaders
  below = position-below w i x position-listed

  coordinator-is : to_nat o.coordinator ≡ s.epoch
  coordinator-is = ap to_nat way.coordinator

  -- ---- it is not refused

  not-negative-is : (z : ℤ) (n : ℕ) → z ≡ pos n → lt_z z (pos 0) ≡ false
  not-negative-is z n e = rw e (le-ltb n 0 (omega arith))

  pub marker-passes : first_refusal (marker_tests p (length words) k0 o.pid o.epoch o.verdict o.coordinator) ≡ 0
  unfolding marker_tests
  marker-passes =
      let own = own_at w i.own x in
      let all = i.leaders x in
      let k = flushed_of h + end_of (records_of h) in
      let view = ending-all k (records_of h) (omega arith) in
      let admitted : admits p (length words) ≡ true = admits-length p own.reserved (length words) ∙ eq-eqb (length words) p.room own.room in
      let (n, n-is) = pid-natural in
      let (m, m-is) = epoch-natural in
      let row : row_at (table_of c (contents (records_of h))) k0 ≡ held r.content r.end = subst (λ (j : ℕ). row_at (table_of c (contents (records_of h))) j ≡ held r.content r.end) prepare-of.place
      (place-row c (records_of h) i.of-history.come i.of-history.ends r.content.name r latest-is) in
      let epochs : (producer_at p k0).pid ≡ to_nat o.pid → (producer_at p k0).epoch ≤ to_nat o.epoch = λ e.
      let low = subst (λ (l : List Logged). NotAhead (producer_at p k0) (row_at (table_of c (contents l)) k0)) view (all.rows.epochs k (omega arith) k0) in
      let high : (producer_at p k0).epoch ≤ to_nat r.content.epoch = subst (NotAhead (producer_at p k0)) row low (held-busy c (records_of h) i.of-history.come r prepare-of.there) (e ∙ ap to_nat (sym f.pid)) in
      omega (arith, ap to_nat f.epoch) in
      let low : p.coordinator ≤ to_nat o.coordinator = omega (arith, (leaders-of w i s u x).coordinator, coordinator-is) in
      none_is (marker_tests p (length words) k0 o.pid o.epoch o.verdict o.coordinator) (
        rw admitted refl,
        (
          le-ltb 1 o.verdict verdict-most,
          (
            rw (lt-leb places k0 place-below, not-negative-is o.pid n n-is, not-negative-is o.epoch m m-is, not-negative-is o.coordinator s.epoch way.coordinator) refl,
            (
              le-ltb (to_nat o.coordinator) p.coordinator low,
              (fits epochs (eqb (producer_at p k0).pid (to_nat o.pid)) refl, tt),
            ),
          ),
        ),
      )
    where
      fits : ((producer_at p k0).pid ≡ to_nat o.pid → (producer_at p k0).epoch ≤ to_nat o.epoch) → (b : Bool) → eqb (producer_at p k0).pid (to_nat o.pid) ≡ b
          → (b && ltb (to_nat o.epoch) (producer_at p k0).epoch) ≡ false
      fits g true e = le-ltb (to_nat o.epoch) (producer_at p k0).epoch (g (eqb-true _ _ e))
      fits g false e = refl

  -- ---- what it leaves

  place_inside : k0 < length p.producers
  place_inside = let own = own_at w i.own x in let b = place-below in omega (arith, own.reserved.all)

  -- the row of another producer stays
  another : ((producer_at p k0).pid ≡ to_nat o.pid → ⊥) → (n : ℕ) → Preserves w (leader_does x (note (to_nat o.coordinator) k0 (producer_at p k0)) (marker_written o) (to_acknowledge n o) w)
  another d n =
      leader-preserves w i x below _ (to_acknowledge n o) h still i.offsets i.log-side i.acks
      (record {
        words = (i.leaders x).words;
        rows = rows_same c h i.of-history x p (i.leaders x).rows (partition_after (note (to_nat o.coordinator) k0 (producer_at p k0)) p)
            (λ k. ap (λ (l : List Producer). get_or l k no_producer) (set-get_or p.producers k0 no_producer)) (omega arith);
        coordinator = subst (λ (y : Phase). to_nat o.coordinator ≤ epoch_of y) (sym u) (omega (arith, coordinator-is));
      })
      (λ y m. i.leaders y)
      (subst (λ (y : Phase). CarryingSide c h y (to_acknowledge n o)) (sym u) (way, none-open-unless c h i.of-history o r prepare-of.there f k0 prepare-of.place x p (i.leaders x).rows refl (λ s. d)))

  module _ (e : (producer_at p k0).pid ≡ to_nat o.pid) where
    abbrev q : Producer
    q = closed (producer_at p k0) (to_nat o.epoch)

    q-shut : q.ongoing ≡ false
    unfolding closed
    q-shut = refl

    q-pid : q.pid ≡ (producer_at p k0).pid
    unfolding closed
    q-pid = refl

    q-epoch : q.epoch ≡ to_nat o.epoch
    unfolding closed
    q-epoch = refl

    here : get_or (set p.producers k0 q) k0 no_producer ≡ q
    here = get_or-set_same p.producers k0 q no_producer place_inside

    others : (k : ℕ) → k ≢ k0 → get_or (set p.producers k0 q) k no_producer ≡ producer_at p k
    others k n = get_or-set_other p.producers k0 k q no_producer n

    -- a row that is not open
    noted : (producer_at p k0).ongoing ≡ false → (n : ℕ) → Preserves w (leader_does x (note (to_nat o.coordinator) k0 q) (marker_written o) (to_acknowledge n o) w)
    noted d n =
        leader-preserves w i x below _ (to_acknowledge n o) h still i.offsets i.log-side i.acks
        (record {
          words = (i.leaders x).words;
          rows = rows-noted c h i.of-history o r prepare-of.there f k0 prepare-of.place x p (i.leaders x).rows refl
              (partition_after (note (to_nat o.coordinator) k0 q) p) q here others q-shut q-pid q-epoch (omega arith) d;
          coordinator = subst (λ (y : Phase). to_nat o.coordinator ≤ epoch_of y) (sym u) (omega (arith, coordinator-is));
        })
        (λ y m. i.leaders y)
        (subst (λ (y : Phase). CarryingSide c h y (to_acknowledge n o)) (sym u) (
          way,
          none-open-unless c h i.of-history o r prepare-of.there f k0 prepare-of.place x p
              (i.leaders x).rows refl (λ s y. not-both d s),
        ))

    -- an open one: the marker is written
    closes : (producer_at p k0).ongoing ≡ true → (n : ℕ) → Preserves w (leader_does x (close_transaction k0 (producer_at p k0) (to_nat o.epoch) o.verdict (to_nat o.coordinator)) (marker_written o) (to_acknowledge n o) w)
    closes d n =
        leader-preserves w i x below _ (to_acknowledge n o) (marker_written o ∷ h) (more still may)
        (rw (same_entries (marker_written o) h refl) i.offsets)
        (log-same c w.log w.phase h (marker_written o ∷ h) (marker-records h o).records (marker-records h o).flushed i.log-side)
        (subst (λ (y : Phase). AcksSide c y (marker_written o ∷ h)) (sym u) (acks-kept c h s (marker_written o) (λ y k m z. none-open-marked c h o y k z) (acks-of w i s u)))
        (record {
          words = new-words;
          rows = rows-marked c h i.of-history o r prepare-of.there f k0 prepare-of.place x p (i.leaders x).rows refl
              (partition_after (write (to_nat o.coordinator) k0 q four) p) q here others q-shut q-pid q-epoch (omega arith);
          coordinator = subst (λ (y : Phase). to_nat o.coordinator ≤ epoch_of y) (sym u) (omega (arith, coordinator-is));
        })
        (λ y m. record {
          words = (i.leaders y).words ∙ sym (words_same y (marker_written o) h (rw (ne_eqb x y (λ z. m (sym z))) refl));
          rows = rows-marked-elsewhere c h i.of-history y (leader_at w y).partition (i.leaders y).rows o (λ z. m (sym z));
          coordinator = (i.leaders y).coordinator;
        })
        (subst (λ (y : Phase). CarryingSide c (marker_written o ∷ h) y (to_acknowledge n o)) (sym u) (way_same c h (marker_written o ∷ h) s o (marker-records h o).records (marker-records h o).flushed way, none_left))
      where
        k : ℕ
        k = flushed_of h + end_of (records_of h)

        view : ending_by k (records_of h) ≡ records_of h
        view = ending-all k (records_of h) (omega arith)

        may : Markable h o
        may =
            record {
              for-prepare = found-is (IsFor o h) prepare-of.found f;
              some-open = λ z. (i.leaders x).rows.row-entry k (omega arith) k0 d
                  (in-each _ (entries_of h) (λ y j a b g. each_in (λ (y : Entry). y.what.position ≡ o.position → y.what.pid ≡ o.pid → under_of h y ≡ 0 → ⊥) (entries_of h) y z j a
                  (place-pid c h i.of-history o r prepare-of.there f k0 prepare-of.place k (omega arith) y j b g) b));
            }

        four : List ℕ
        four = marker_entry (producer_at p k0).pid (to_nat o.epoch) o.verdict (to_nat o.coordinator)

        new-words : take (entry_words * (p.end + 1)) (overwrite words (entry_words * p.end) four) ≡ words_of x (marker_written o ∷ h)
        new-words =
            let own = own_at w i.own x in
            let admitted : admits p (length words) ≡ true = admits-length p own.reserved (length words) ∙ eq-eqb (length words) p.room own.room in
            let fits : entry_words * p.end + entry_words ≤ length words = entry-fits p (length words) admitted k0 d in
            let size : entry_words * (p.end + 1) ≡ entry_words * p.end + length four = omega arith in
            let four_is : words_in x (marker_written o) ≡ four = rw (eq-eqb x x refl, ← e) refl in
            ap (λ (m : ℕ). take m (overwrite words (entry_words * p.end) four)) size ∙ take-through words (entry_words * p.end) four fits
            ∙ ap (λ (a : List ℕ). a ++ four) (i.leaders x).words ∙ ap (λ (b : List ℕ). words_of x h ++ b) (sym four_is) ∙ sym (words-next x (marker_written o) h)

        none_left : NoneOpen c (marker_written o ∷ h) (records_of (marker_written o ∷ h)) x k0
        none_left =
            rw ((marker-records h o).records, same_entries (marker_written o) h refl)
            (in-each _ (entries_of h) (λ y j a b g. marked-none c h i.of-history o r prepare-of.there f k0 prepare-of.place k (omega arith) y j a
            (ap (λ (l : List Logged). place_in c l y.what.name) view ∙ g) b))

  pub marker-preserves : (n : ℕ) → Preserves w (leader_does x (marker p (length words) k0 o.pid o.epoch o.verdict o.coordinator).action (marker_written o) (once_done (reply (marker p (length words) k0 o.pid o.epoch o.verdict o.coordinator).answer) n o) w)
  marker-preserves n =
      either (eqb (producer_at p k0).pid (to_nat o.pid))
      (λ a. let e = eqb-true (producer_at p k0).pid (to_nat o.pid) a in
      either (producer_at p k0).ongoing
      (λ d. rw (marker-closes p (length words) k0 o.pid o.epoch o.verdict o.coordinator marker-passes e d) (closes e d n))
      (λ d. rw (marker-noted p (length words) k0 o.pid o.epoch o.verdict o.coordinator marker-passes e d) (noted e d n)))
      (λ a. let d = eqb-false (producer_at p k0).pid (to_nat o.pid) a in rw (marker-other p (length words) k0 o.pid o.epoch o.verdict o.coordinator marker-passes d) (another d n))
