-- What the tests find is what the clauses of demand 3 say.
use Prim.Native.Nat.{ℕ, ◌+◌, ◌*◌}
use mathlib.Core.Path.{◌≡◌, refl, sym, ap, ◌∙◌}
use mathlib.Core.Bool.{true, not, ◌||◌, true≢false}
use mathlib.Core.List.{List, [], ◌∷◌}
use mathlib.Core.Option.{Option, none, some}
use lib.Dec.{eqb, leb}
use lib.IntN.{ℤ, pos}
use lib.ListN.{length, take}
use borrow.Author.Tests.{eqb-true, leb-true, le-leb, not-true}
use Rattle.numbers.specs.Signed.{eq_z}
use Rattle.numbers.specs.Bytes.{same}
use Rattle.numbers.proofs.Signed.{eq_z-true}
use Rattle.numbers.proofs.Bytes.{same_true}
use Rattle.numbers.proofs.Tests.{and_left, and_right, or-either, not-both}
use Rattle.bits.specs.Bits.{subset}
use Rattle.catalogue.specs.declared.Catalogue.{Catalogue}
use Rattle.record.specs.Frame.{frame}
use Rattle.record.specs.Record.{status_code}
use Rattle.record.specs.declared.Record.{Record}
use Rattle.row.proofs.Laws.{is-begin}
use Rattle.row.specs.Row.{outstanding}
use Rattle.row.specs.declared.Row.{Row}
use Rattle.search.specs.Search.{is_found, found, if_found, all, Each, Found}
use Rattle.search.proofs.Each.{each-true, each-at-true, found-true, if-found-true}
use Rattle.succession.proofs.Moves.{same-status}
use Rattle.answers.specs.Answers.{order_reply, read_reply}
use Rattle.table.specs.Table.{place_of}
use Rattle.coordinator.specs.Coordinator.{log_end}
use Rattle.coordinator.specs.Order.{order}
use Rattle.coordinator.proofs.OpenCases.{any-numbers, open-number}
use Rattle.coordinator.proofs.OrderCases.{order_same}
use Rattle.partition.specs.Limits.{entry_words}
use Rattle.answers.specs.ReadAnswer.{ReadAnswer}
use Rattle.answers.specs.ReadAnswer.{Copied, Refused as ReadRefused}
use Rattle.partition.specs.Read.{read_answer, read_out}
use Rattle.log_reader.specs.Records.{frames_of}
use Rattle.runs.specs.History.{Order, Produced, History, orders_in, given_in, produced_in, markers_in, collect, WithBefore, collect_with_before, Logged, records_of, contents, end_of, flushed_of, epoch_opened, record_numbered, latest_of, next_of, listed, is_completed, completed_prepares, pending_prepares, transaction, marker_over, carried_for, markers_for, words_of}
use Rattle.runs.specs.World.{Leader, Phase, up, down, Carrying, nothing, to_deliver, to_acknowledge, World, catalogue_of, Item, run}
use Rattle.runs.specs.Demand3.{Completes, Keeps, Kept, Ends, SameLengths, LogAgrees, Entitled, WordsAgree, IsFor, ForFlushedPrepare, OfLastOpening, OneMarker, UnderItsVerdict, GivenUpTo, OrdersGiven, AckDone, CarryingAccepted, CompletesInTime, Restarts, HoldsAt}
use Rattle.runs.specs.InEveryRun.{ReadsFrom}
use Rattle.run_examples.specs.Checks.{same_record, completes, kept, ends, same_lengths, log_agrees, entitled, words_agree, is_for, for_flushed_prepare, of_last_opening, one_marker, stands_under_verdict, under_its_verdict, ack_done, carrying_accepted, completes_in_time, given_up_to, orders_given, restarts, holds_at, is_copied, reads_from}

-- ---- kept

same-record : (a b : Record) → same_record a b ≡ true → a ≡ b
same-record a b e = go
  where
    names : a.name ≡ b.name
    names = same_true a.name b.name (search (and_left, and_right) depth 10)

    pids : a.pid ≡ b.pid
    pids = eq_z-true a.pid b.pid (search (and_left, and_right) depth 10)

    epochs : a.epoch ≡ b.epoch
    epochs = eq_z-true a.epoch b.epoch (search (and_left, and_right) depth 10)

    timeouts : a.timeout ≡ b.timeout
    timeouts = eq_z-true a.timeout b.timeout (search (and_left, and_right) depth 10)

    statuses : a.status ≡ b.status
    statuses = same-status a.status b.status (search (and_left, and_right) depth 10)

    sets : a.joined ≡ b.joined
    sets = eqb-true a.joined b.joined (search (and_left, and_right) depth 10)

    updates : a.updated ≡ b.updated
    updates = eq_z-true a.updated b.updated (search (and_left, and_right) depth 10)

    starts : a.start ≡ b.start
    starts = eq_z-true a.start b.start (search (and_left, and_right) depth 10)

    go : a ≡ b
    go = λ i. record { name = names i; pid = pids i; epoch = epochs i; timeout = timeouts i; status = statuses i; joined = sets i; updated = updates i; start = starts i }

keeps-true : (p x : Logged) → same_record x.content p.content ≡ true → Keeps p x
keeps-true p x e =
    let is = same-record x.content p.content e in
    record {
      verdict = ap (λ (r : Record). status_code r.status) is;
      pid = ap (λ (r : Record). r.pid) is;
      epoch = ap (λ (r : Record). r.epoch) is;
      partitions = ap (λ (r : Record). r.joined) is;
      unchanged = is;
    }

completes-true : (p c : Logged) → completes p c ≡ true → Completes p c
completes-true p c e =
    record {
      status = eqb-true (status_code c.content.status) (status_code p.content.status + 2) (search (and_left, and_right) depth 10);
      pid = eq_z-true c.content.pid p.content.pid (search (and_left, and_right) depth 10);
      epoch = eq_z-true c.content.epoch p.content.epoch (search (and_left, and_right) depth 10);
    }

pub kept-true : (w : World) (p : Logged) → kept w p ≡ true → Kept w p
kept-true w p e =
    let stands = record_numbered p.number w.history in
    let next = next_of p w.history in
    record {
      stands = found-true (Keeps p) (λ (x : Logged). same_record x.content p.content) (keeps-true p) stands (and_left (found (λ (x : Logged). same_record x.content p.content) stands) (if_found (completes p) next) e);
      next = if-found-true (Completes p) (completes p) (completes-true p) next (and_right (found (λ (x : Logged). same_record x.content p.content) stands) (if_found (completes p) next) e);
    }

-- ---- the log and the words

ends-true : (c : Catalogue) (records : List Logged) → ends c records ≡ true → Ends c records
unfolding ends
ends-true c [] e = tt
ends-true c (x ∷ records) e =
    let here = eqb x.end (end_of records + length (frame c x.content)) in
    (eqb-true x.end _ (and_left here (ends c records) e), ends-true c records (and_right here (ends c records) e))

lengths-true : (phase : Phase) (h : History) → same_lengths phase h ≡ true → SameLengths phase h
lengths-true (up s) h e = (
  eqb-true (log_end s) (end_of (records_of h)) (search (and_left, and_right)),
  eqb-true s.flushed (flushed_of h) (search (and_left, and_right)),
  leb-true (flushed_of h) (end_of (records_of h)) (search (and_left, and_right)),
)
lengths-true (down n epoch) h e =
    (leb-true (end_of (records_of h)) n (search (and_left, and_right)), eqb-true n (flushed_of h) (search (and_left, and_right)))

log-true : (w : World) → log_agrees w ≡ true → LogAgrees w
log-true w e =
    let records = records_of w.history in
    record {
      bytes = same_true (take (end_of records) w.log) (frames_of (catalogue_of w) (contents records)) (search (and_left, and_right));
      ends = ends-true (catalogue_of w) records (search (and_left, and_right));
      lengths = lengths-true w.phase w.history (search (and_left, and_right));
    }

entitled-true : (p : WithBefore Produced) → entitled p ≡ true → Found (Entitled p.what p.before) (latest_of p.what.name p.before)
entitled-true p =
    found-true (Entitled p.what p.before) _
    (λ x e. record {
      status = is-begin x.content.status (search (and_left, and_right) depth 10);
      flushed = search (and_left, and_right) depth 10;
      pid = eq_z-true x.content.pid p.what.pid (search (and_left, and_right) depth 10);
      epoch = eq_z-true x.content.epoch p.what.epoch (search (and_left, and_right) depth 10);
      joined = search (and_left, and_right) depth 10;
    })
    (latest_of p.what.name p.before)

words-true : (w : World) → words_agree w ≡ true → WordsAgree w
words-true w e =
    record {
      words =
          each-at-true _ (λ x (l : Leader). same (take (entry_words * l.partition.end) l.words) (words_of x w.history))
          (λ x l. same_true (take (entry_words * l.partition.end) l.words) (words_of x w.history)) 0 w.leaders
          (search (and_left, and_right));
      entitled = each-true _ entitled entitled-true (collect_with_before produced_in w.history) (search (and_left, and_right));
      offsets =
          each-true _ (λ (p : WithBefore Produced). eqb (entry_words * p.what.offset) (length (words_of p.what.position p.before)))
          (λ p. eqb-true (entry_words * p.what.offset) (length (words_of p.what.position p.before))) (collect_with_before produced_in w.history)
          (search (and_left, and_right));
    }

-- ---- orders, markers and entries

not_found : {A : Type 0} (o : Option A) → not (is_found o) ≡ true → o ≡ none
not_found none e = refl
not_found (some x) e = not-both refl e

is-for-true : (p : WithBefore Order) → is_for p ≡ true → Found (IsFor p.what p.before) (record_numbered p.what.for p.before)
is-for-true p =
    found-true (IsFor p.what p.before) _
    (λ x e. record {
      prepare = search (and_left, and_right) depth 10;
      flushed = search (and_left, and_right) depth 10;
      latest = not_found (next_of x p.before) (search (and_left, and_right) depth 10);
      pid = eq_z-true x.content.pid p.what.pid (search (and_left, and_right) depth 10);
      epoch = eq_z-true x.content.epoch p.what.epoch (search (and_left, and_right) depth 10);
      verdict = eqb-true (status_code x.content.status) (p.what.verdict + 2) (search (and_left, and_right) depth 10);
      position = search (and_left, and_right) depth 10;
    })
    (record_numbered p.what.for p.before)

for-flushed-true : (w : World) → for_flushed_prepare w ≡ true → ForFlushedPrepare w
for-flushed-true w e = each-true _ is_for is-for-true (collect_with_before orders_in w.history) e

of-opening-true : (w : World) → of_last_opening w ≡ true → OfLastOpening w
of-opening-true w e =
    each-true _ (λ (p : WithBefore Order). eq_z p.what.coordinator (epoch_opened p.before)) (λ p. eq_z-true p.what.coordinator (epoch_opened p.before))
    (collect_with_before given_in w.history) e

one-marker-true : (w : World) → one_marker w ≡ true → OneMarker w
one-marker-true w e =
    each-true _ (λ (o : Order). eqb (markers_for o w.history) 1) (λ o. eqb-true (markers_for o w.history) 1) (collect markers_in w.history) e

under-true : (w : World) → under_its_verdict w ≡ true → UnderItsVerdict w
under-true w e =
    each-true _ (λ (p : Logged). all (stands_under_verdict w.history p.content.status) (transaction p w.history))
    (λ p t. each-true _ (stands_under_verdict w.history p.content.status)
    (λ d. found-true _ (λ (m : Order). eqb (status_code p.content.status) (m.verdict + 2)) (λ m. eqb-true (status_code p.content.status) (m.verdict + 2)) (marker_over w.history d))
    (transaction p w.history) t)
    (completed_prepares w.history) e

-- ---- progress

ack-true : (phase : Phase) (w : World) (o : Order) → ack_done phase w o ≡ true → AckDone phase w o
ack-true (up s) w o e = eqb-true _ 0 e
ack-true (down n epoch) w o e = not-both refl e

carrying-true : (c : Carrying) (w : World) → carrying_accepted c w ≡ true → CarryingAccepted c w
carrying-true nothing w e = tt
carrying-true (to_deliver i o) w e = eqb-true _ 0 e
carrying-true (to_acknowledge i o) w e = ack-true w.phase w o e

pub in-time-true : (w : World) (items : List Item) → completes_in_time w (run items w) ≡ true → CompletesInTime w items
in-time-true w items e undisturbed =
    each-true _
    (λ (p : Logged). not (leb (carried_for p w.history + listed p) (carried_for p (run items w).history)) || is_completed (run items w).history p)
    (λ p t enough. or-either (not (leb (carried_for p w.history + listed p) (carried_for p (run items w).history))) (is_completed (run items w).history p) t
    (λ few. absurd (true≢false (sym (le-leb _ _ enough) ∙ not-true _ few))) (λ done. done))
    (pending_prepares w.history) e

given-true : (place : ℕ) (results : List ℤ) → given_up_to place results ≡ true → GivenUpTo place results
given-true place [] e = not-both refl e
given-true place (at ∷ results) e = e

orders-true : (phase : Phase) (w : World) → orders_given phase w ≡ true → OrdersGiven phase w
orders-true (up s) w e =
    each-true _ (λ (p : Logged). given_up_to (place_of s.table p.content.name) (order_reply (order s (catalogue_of w).all)).results)
    (λ p t set more. rw (order_same s (catalogue_of w).all set more within) (given-true (place_of s.table p.content.name) (order_reply (order s (catalogue_of w).all)).results t))
    (pending_prepares w.history) (search (and_left, and_right))
  where
    within : Each (λ (row : Row). subset (outstanding row) (catalogue_of w).all ≡ true) s.table.rows
    within = each-true _ (λ (row : Row). subset (outstanding row) (catalogue_of w).all) (λ row t. t) s.table.rows (search (and_left, and_right))
orders-true (down n epoch) w e = tt

-- ---- restart

restarts-true : (phase : Phase) (w : World) → restarts phase w ≡ true → Restarts phase w
restarts-true (up s) w e = tt
restarts-true (down n before) w e =
    λ epoch first last h.
    open-number w.text w.log n epoch first last
    ∙ any-numbers w.text w.log n (pos 0) (pos 0) (pos 0) epoch first last (sym (open-number w.text w.log n (pos 0) (pos 0) (pos 0)) ∙ eqb-true _ 0 e) h

-- ---- every moment

pub holds-true : (w : World) → holds_at w ≡ true → HoldsAt w
holds-true w e =
    record {
      log-agrees = log-true w (search (and_left, and_right) depth 12);
      words-agree = words-true w (search (and_left, and_right) depth 12);
      for-flushed-prepare = for-flushed-true w (search (and_left, and_right) depth 12);
      of-last-opening = of-opening-true w (search (and_left, and_right) depth 12);
      one-marker = one-marker-true w (search (and_left, and_right) depth 12);
      under-its-verdict = under-true w (search (and_left, and_right) depth 12);
      orders-given = orders-true w.phase w (search (and_left, and_right) depth 12);
      carrying-accepted = carrying-true w.carrying w (search (and_left, and_right) depth 12);
      restarts = restarts-true w.phase w (search (and_left, and_right) depth 12);
    }

-- ---- Read

copied-true : (a : ReadAnswer) (n m : ℕ) → is_copied a n m ≡ true → a ≡ Copied n m
copied-true (Copied count next) n m e = go
  where
    counts : count ≡ n
    counts = eqb-true count n (search (and_left, and_right))

    nexts : next ≡ m
    nexts = eqb-true next m (search (and_left, and_right))

    go : Copied count next ≡ Copied n m
    go = λ i. Copied (counts i) (nexts i)
copied-true (ReadRefused number) n m e = not-both refl e

pub reads-true : (w : World) (x : ℕ) (l : Leader) (from : ℕ) (out : List ℕ) → reads_from w x l from out ≡ true → ReadsFrom w x l from out
reads-true w x l from out e =
    record {
      answers = ap read_reply (copied-true (read_answer l.partition l.words from out) _ _ (search (and_left, and_right)));
      copies = same_true (read_out l.partition l.words from out) _ (search (and_left, and_right));
    }
