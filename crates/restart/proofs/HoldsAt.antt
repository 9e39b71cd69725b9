-- What holds at every moment of a run: each clause of demand 3 but the count of orders, from the invariant.
use Prim.Native.Nat.{ℕ, ◌+◌, ◌*◌, ◌≤◌, ◌<◌}
use mathlib.Core.Path.{◌≡◌, refl, sym, ap, subst, ◌∙◌}
use mathlib.Core.Bool.{true, false, not, ◌&&◌}
use mathlib.Core.List.{[], ◌∷◌}
use mathlib.Core.Option.{some}
use native.Mathlib.Omega.{arith}
use lib.ListN.{length, take}
use borrow.Author.Tests.{le-leb, leb-true, eq-eqb, not-true}
use Rattle.numbers.proofs.Tests.{not-both, and_left, and_right, and_both}
use Rattle.bits.specs.Bits.{subset}
use Rattle.catalogue.specs.declared.Catalogue.{Catalogue}
use Rattle.record.specs.Record.{status_code}
use Rattle.search.specs.Search.{Each, Found}
use Rattle.search.proofs.Found.{found-with}
use Rattle.search.proofs.Members.{In, each_in}
use Rattle.search.proofs.Each.{each-place}
use Rattle.answers.specs.Limits.{places}
use Rattle.answers.specs.Answers.{reply, order_reply}
use Rattle.answers.specs.Refusals.{first_refusal, Decision}
use Rattle.answers.specs.Answer.{Answer}
use Rattle.answers.specs.Answer.{Refused}
use Rattle.answers.proofs.Laws.{unless-accepted}
use Rattle.row.specs.Row.{is_prepare}
use Rattle.row.proofs.Laws.{prepare-code}
use Rattle.table.specs.Table.{place_of}
use Rattle.log_reader.specs.Records.{frames_of}
use Rattle.coordinator.specs.Coordinator.{Action, keep}
use Rattle.coordinator.specs.Ack.{ack_tests, ack}
use Rattle.coordinator.specs.Order.{order_place, order}
use Rattle.coordinator.specs.declared.Coordinator.{Coordinator}
use Rattle.coordinator.proofs.OrderCases.{order-given, order-lowest}
use Rattle.partition.specs.Limits.{entry_words}
use Rattle.partition.specs.Partition.{Action as PartitionAction}
use Rattle.partition.specs.Read.{stands_under}
use Rattle.partition.proofs.MarkerCases.{marker-accepted}
use Rattle.runs.specs.History.{Order, record_appended, log_flushed, log_cut, log_opened, order_given, marker_written, order_carried, entry_written, History, orders_in, collect, collect_with_before, Logged, records_of, contents, end_of, flushed_of, is_flushed, is_flushed_prepare, latest_of, next_of, record_numbered, is_completed, marker_over, words_of}
use Rattle.runs.specs.World.{Leader, open_leader, Phase, up, down, Carrying, nothing, to_deliver, to_acknowledge, World, catalogue_of, leader_at}
use Rattle.runs.specs.InEveryRun.{kind_of}
use Rattle.runs.specs.Demand3.{Completes, LogAgrees, SameLengths, WordsAgree, IsFor, OfLastOpening, UnderItsVerdict, GivenUpTo, OrdersGiven, AckDone, CarryingAccepted, Restarts, HoldsAt}
use Rattle.protocol.specs.Entries.{Entry, entries_of}
use Rattle.protocol.specs.HistoryInvariant.{ForPrepare}
use Rattle.protocol.proofs.AfterPrepare.{After, latest, completed, after-prepare}
use Rattle.protocol.proofs.Extends.{each-pending}
use Rattle.protocol.proofs.MarkerOver.{under-over}
use Rattle.protocol.proofs.UnderVerdict.{under-verdict}
use Rattle.agreement.proofs.Invariant.{LogSide, UnderWay, CarryingSide, Invariant}
use Rattle.agreement.proofs.LogSteps.{up-agrees, up-lengths, down-agrees, down-restarts}
use Rattle.agreement.proofs.Words.{MarkersFit, under-words}
use Rattle.agreement.proofs.Preserves.{place_inside, row-of}
use Rattle.agreement.proofs.PreparedRow.{row-ordered}
use Rattle.agreement.proofs.Produces.{words-length}
use Rattle.agreement.proofs.Delivers.{marker-passes}
use Rattle.agreement.proofs.Acknowledges.{ack-passes}

-- ---- the log

log-agrees : (w : World) → Invariant w → LogAgrees w
log-agrees w i = record { bytes = bytes w.phase i.log-side; ends = i.of-history.ends; lengths = lengths w.phase i.log-side }
  where
    bytes : (p : Phase) → LogSide (catalogue_of w) w.log p w.history → take (end_of (records_of w.history)) w.log ≡ frames_of (catalogue_of w) (contents (records_of w.history))
    bytes (up s) l = up-agrees (catalogue_of w) w.log s w.history l i.of-history
    bytes (down n before) l = down-agrees w.text w.log i.parsed n w.history l i.of-history

    lengths : (p : Phase) → LogSide (catalogue_of w) w.log p w.history → SameLengths p w.history
    lengths (up s) l = up-lengths (catalogue_of w) w.log s w.history l i.of-history
    lengths (down n before) l = (l.within, sym l.flushed)

restarts : (w : World) → Invariant w → Restarts w.phase w
restarts w i = go w.phase i.log-side
  where
    go : (p : Phase) → LogSide (catalogue_of w) w.log p w.history → Restarts p w
    go (up s) l = tt
    go (down n before) l = down-restarts w.text w.log i.parsed n w.history l i.of-history

-- ---- the words

words-agree : (w : World) → Invariant w → WordsAgree w
words-agree w i =
    record {
      words = each-place (λ x (l : Leader). take (entry_words * l.partition.end) l.words ≡ words_of x w.history) (open_leader []) 0 w.leaders
          (λ x. let z : 0 + x ≡ x = omega arith in rw z (i.leaders x).words);
      entitled = i.of-history.entitled;
      offsets = i.offsets;
    }

-- ---- under its verdict

-- every marker has a verdict
fit-one : (o : Order) (h : History) → Found (IsFor o h) (record_numbered o.for h) → o.verdict ≤ 1
fit-one o h f = found-with (IsFor o h) (record_numbered o.for h) f (λ q e g. let b = prepare-code q.content.status g.prepare in omega (arith, g.verdict))

pub markers-fit : (h : History) → Each ForPrepare (collect_with_before orders_in h) → MarkersFit h
unfolding collect collect_with_before
markers-fit [] i = tt
markers-fit (record_appended r end ∷ h) i = markers-fit h i
markers-fit (log_flushed n ∷ h) i = markers-fit h i
markers-fit (log_cut n ∷ h) i = markers-fit h i
markers-fit (log_opened epoch ∷ h) i = markers-fit h i
markers-fit (order_given o ∷ h) (i, is) = markers-fit h is
markers-fit (marker_written o ∷ h) (i, is) = (fit-one o h i, markers-fit h is)
markers-fit (order_carried o ∷ h) i = markers-fit h i
markers-fit (entry_written e ∷ h) i = markers-fit h i

under-its-verdict : (w : World) → Invariant w → UnderItsVerdict w
under-its-verdict w i = under-verdict (catalogue_of w) w.history i.of-history

-- Read finds the same in the words
pub stands-under : (w : World) → Invariant w → (p : Entry) → In p (entries_of w.history)
    → let l = leader_at w p.what.position in stands_under l.words l.partition.end p.what.offset ≡ kind_of (marker_over w.history p)
stands-under w i p j =
    let l = leader_at w p.what.position in
    under-words w.history (markers-fit w.history i.of-history.for-prepare) p j
    (each_in (λ (p : Entry). entry_words * p.what.offset ≡ length (words_of p.what.position p.before)) (entries_of w.history) p i.offsets j)
    l.words l.partition.end (i.leaders p.what.position).words (words-length w i p.what.position)
    ∙ under-over w.history p

-- ---- orders

-- a prepare that is flushed and not completed is its name's latest record
pub pending-latest : (w : World) → Invariant w → (p : Logged) → In p (records_of w.history) → (is_flushed_prepare w.history p && not (is_completed w.history p)) ≡ true
    → latest_of p.content.name w.history ≡ some p
pending-latest w i p j e = go (after-prepare c (length h) (records_of h) i.of-history.come i.of-history.ends i.of-history.numbered p j prepares)
  where
    c : Catalogue
    c = catalogue_of w

    h : History
    h = w.history

    prepares : is_prepare p.content.status ≡ true
    prepares = and_left (is_prepare p.content.status) (is_flushed h p) (and_left (is_flushed_prepare h p) (not (is_completed h p)) e)

    open-still : is_completed h p ≡ false
    open-still = not-true (is_completed h p) (and_right (is_flushed_prepare h p) (not (is_completed h p)) e)

    go : After p (records_of h) → latest_of p.content.name h ≡ some p
    go (latest n l) = l
    go (completed k) =
        found-with (Completes p) (next_of p h) k
        (λ x f g. not-both open-still (and_both (is_prepare p.content.status) _ prepares (rw f (eq-eqb (status_code x.content.status) (status_code p.content.status + 2) g.status))))

orders-given-up : (w : World) → Invariant w → (s : Coordinator) → w.phase ≡ up s → OrdersGiven (up s) w
orders-given-up w i s u =
    each-pending h _ go
  where
    c : Catalogue
    c = catalogue_of w

    h : History
    h = w.history

    go : (p : Logged) → In p (records_of h) → (is_flushed_prepare h p && not (is_completed h p)) ≡ true → (set : ℕ) → subset c.all set ≡ true
        → GivenUpTo (place_of s.table p.content.name) (order_reply (order s set)).results
    go p j e set more =
        let is = pending-latest w i p j e in
        let k = place_of s.table p.content.name in
        let flushed-prepare = and_left (is_flushed_prepare h p) (not (is_completed h p)) e in
        let prepare = and_left (is_prepare p.content.status) (is_flushed h p) flushed-prepare in
        let flushed = leb-true p.end (flushed_of h) (and_right (is_prepare p.content.status) (is_flushed h p) flushed-prepare) in
        let row_is = row-of w i s u p.content.name p is in
        let test = row-ordered w i s u k p j prepare row_is flushed set more in
        let low : k < order_place s set → ⊥ = λ b. not-both (order-lowest s set k b) test in
        let inside : k < places = place_inside w i s u p.content.name p is in
        rw (order-given s set (omega arith)) (le-leb (order_place s set) k (omega arith))

pub orders-given : (w : World) → Invariant w → OrdersGiven w.phase w
orders-given w i = go w.phase refl
  where
    go : (p : Phase) → w.phase ≡ p → OrdersGiven p w
    go (up s) u = orders-given-up w i s u
    go (down n before) u = tt

-- ---- carrying

ack-done : (w : World) (i : Invariant w) (s : Coordinator) (u : w.phase ≡ up s) (o : Order) → UnderWay (catalogue_of w) w.history s o
    → (reply (ack s (length w.log) o.place o.pid o.epoch o.position).answer).number ≡ 0
unfolding ack
ack-done w i s u o way = ap (λ (d : Decision Answer Action). (reply d.answer).number)
    (unless-accepted (first_refusal (ack_tests s (length w.log) o.place o.pid o.epoch o.position)) Refused keep _ (ack-passes w i s u o way))

pub carrying-accepted : (w : World) → Invariant w → CarryingAccepted w.carrying w
carrying-accepted w i = go w.carrying w.phase refl i.carried
  where
    go : (k : Carrying) (p : Phase) → w.phase ≡ p → CarryingSide (catalogue_of w) w.history w.phase k → CarryingAccepted k w
    go nothing p u d = tt
    go (to_deliver n o) (up s) u d =
        let way : UnderWay (catalogue_of w) w.history s o = subst (λ (y : Phase). CarryingSide (catalogue_of w) w.history y (to_deliver n o)) u d in
        let l = leader_at w o.position in
        ap (λ (x : Decision Answer PartitionAction). (reply x.answer).number) (marker-accepted l.partition (length l.words) o.place o.pid o.epoch o.verdict o.coordinator
        (marker-passes w i s u o way))
    go (to_deliver n o) (down m before) u d = absurd (subst (λ (y : Phase). CarryingSide (catalogue_of w) w.history y (to_deliver n o)) u d)
    go (to_acknowledge n o) (up s) u d =
        let (way, _) = subst (λ (y : Phase). CarryingSide (catalogue_of w) w.history y (to_acknowledge n o)) u d in
        subst (λ (y : Phase). AckDone y w o) (sym u) (ack-done w i s u o way)
    go (to_acknowledge n o) (down m before) u d = absurd (subst (λ (y : Phase). CarryingSide (catalogue_of w) w.history y (to_acknowledge n o)) u d)

-- ---- all of it

pub holds_at_lem : (w : World) → Invariant w → OfLastOpening w → HoldsAt w
holds_at_lem w i epochs =
    record {
      log-agrees = log-agrees w i;
      words-agree = words-agree w i;
      for-flushed-prepare = i.of-history.for-prepare;
      of-last-opening = epochs;
      one-marker = i.of-history.one-marker;
      under-its-verdict = under-its-verdict w i;
      orders-given = orders-given w i;
      carrying-accepted = carrying-accepted w i;
      restarts = restarts w i;
    }
