-- A record that may come next keeps the invariant: an entry of its name that is open then belongs to the prepare that comes, and to no earlier one.
use Prim.Native.Nat.{ℕ, suc, ◌≤◌, ◌<◌}
use mathlib.Core.Path.{◌≡◌, refl, sym, ap, subst, ◌∙◌}
use mathlib.Core.Bool.{Bool, true, false, ◌&&◌, true≢false}
use mathlib.Core.List.{List, ◌∷◌}
use mathlib.Core.Option.{Option, some}
use native.Mathlib.Omega.{arith}
use lib.Dec.{leb}
use lib.IntN.{pos}
use lib.ListN.{length}
use borrow.Author.Tests.{leb-true, leb-false, le-leb}
use Rattle.numbers.specs.Signed.{to_nat}
use Rattle.numbers.proofs.Tests.{and_left, and_right, and_both, either, not-both}
use Rattle.numbers.proofs.Bytes.{same_true}
use Rattle.numbers.proofs.Signed.{natural-pos}
use Rattle.bits.proofs.Laws.{member_is, member-true, subset-from}
use Rattle.catalogue.specs.declared.Catalogue.{Catalogue}
use Rattle.record.specs.declared.Record.{Record}
use Rattle.record.specs.declared.Status.TheVariants.{Begin}
use Rattle.record.specs.Record.{idle}
use Rattle.search.specs.Search.{Each}
use Rattle.search.proofs.Each.{each-then}
use Rattle.search.proofs.Found.{found-is, found-with, if-found-is}
use Rattle.search.proofs.Members.{In, each_in, in-each}
use Rattle.search.proofs.Find.{find-hit, find-miss, find-in}
use Rattle.row.specs.Row.{is_prepare, held}
use Rattle.row.proofs.Laws.{prepare-code, prepare-busy}
use Rattle.succession.proofs.Laws.{Move, raising, renewing, beginning, widening, committing, aborting, completing, follows-move}
use Rattle.table.specs.Table.{empty_table}
use Rattle.log_reader.specs.Records.{table_of}
use Rattle.log_reader.proofs.RecordLaws.{come-newest}
use Rattle.runs.specs.History.{Order, Event, record_appended, History, prepared_before, number_after, orders_in, markers_in, collect, collect_with_before, Logged, ending_by, records_of, contents, flushed_of, is_flushed, is_flushed_prepare, is_of}
use Rattle.protocol.specs.RecordsOfName.{latest_in, is_prepare_of, prepares_in, nth_prepare}
use Rattle.protocol.specs.Entries.{Entry, entries_of, ordinal_of, under_of}
use Rattle.protocol.specs.HistoryInvariant.{Stage, begun, prepared, OpenTransaction, Closes, Standing, still_open, closed, InTransaction, AlreadyClosed, HistoryInvariant, MarksPrepare}
use Rattle.protocol.specs.NextEvent.{NothingOpen, Appendable}
use Rattle.protocol.proofs.Cuts.{ending-stays, ending-drops, prepares-other, is-of}
use Rattle.protocol.proofs.TableOfRecords.{next-follows}
use Rattle.protocol.proofs.AfterPrepare.{next-completes}
use Rattle.protocol.proofs.Events.{collect-same, collect-before-same, entry-before, events-all, same_entries, appended-records, AddsRecord, new_record}
use Rattle.protocol.proofs.Entries.{under-each}
use Rattle.protocol.proofs.Ordinals.{prepares-more, prepares-same, nth_here, nth-is, nth-more, latest-ends, find-newest}
use Rattle.protocol.proofs.Consequences.{closed_at, closed-now, marker-for, ordinal-was, standing-now, natural-pid}

module _ (c : Catalogue) (h : History) (t : HistoryInvariant c h) where
  module _ (r : Record) (end : ℕ) (a : Appendable c h r end) where
    abbrev new : Logged
    new = new_record h r end

    abbrev appending : Event
    appending = record_appended r end

    -- the step from the latest record of its name
    step_from : (l : Logged) → latest_in r.name (records_of h) ≡ some l → Move (table_of c (contents (records_of h))).next (held l.content l.end) r
    step_from l e = follows-move _ (held l.content l.end) r (next-follows c (records_of h) t.come t.ends r a.formed a.comes l e)

    -- an entry of another name
    stage-other : (p : Entry) (l : Logged) → prepares_in p.what.name (new ∷ records_of h) ≡ prepares_in p.what.name (records_of h) → Stage p (records_of h) l → Stage p (new ∷ records_of h) l
    stage-other p l e (begun s q) = begun s (e ∙ q)
    stage-other p l e (prepared s q b) = prepared s (e ∙ q) b

    -- an open entry of the record's own name
    own : (p : Entry) → In p (entries_of h) → under_of h p ≡ 0 → (l : Logged) → latest_in p.what.name (records_of h) ≡ some l → OpenTransaction p (records_of h) l → is_of p.what.name new ≡ true
        → OpenTransaction p (new ∷ records_of h) new
    own p j z l e b y = go (step_from l is) b.stage
      where
        name : r.name ≡ p.what.name
        name = same_true r.name p.what.name y

        is : latest_in r.name (records_of h) ≡ some l
        is = rw name e

        pid-same : r.pid ≡ pos (to_nat l.content.pid) → r.pid ≡ p.what.pid
        pid-same q = let (n, k) = natural-pid c h t l (find-in (is_of p.what.name) (records_of h) l e) in q ∙ natural-pos l.content.pid n k ∙ b.pid

        not-idle : Stage p (records_of h) l → idle l.content.status ≡ true → ⊥
        not-idle (begun s q) i = let k : true ≡ false = sym i ∙ ap idle s in true≢false k
        not-idle (prepared s q u) i = not-both (prepare-busy l.content.status s) i

        to-prepare : is_prepare r.status ≡ true → r.joined ≡ l.content.joined → r.pid ≡ pos (to_nat l.content.pid) → l.content.status ≡ Begin → Stage p (records_of h) l
            → OpenTransaction p (new ∷ records_of h) new
        to-prepare s f q u (begun v w) =
            record {
              pid = pid-same q;
              joined = rw f b.joined;
              stage = prepared s (prepares-more p.what.name new (records_of h) (and_both (is_of p.what.name new) (is_prepare r.status) y s) ∙ ap suc w) (entry-before h p j);
            }
        to-prepare s f q u (prepared v w x) = absurd (let k : ◌≡◌ {A = Bool} true false = sym v ∙ ap is_prepare u in true≢false k)

        go : Move (table_of c (contents (records_of h))).next (held l.content l.end) r → Stage p (records_of h) l → OpenTransaction p (new ∷ records_of h) new
        go (raising i s m) g = absurd (not-idle g i)
        go (renewing i s m) g = absurd (not-idle g i)
        go (beginning i s m) g = absurd (not-idle g i)
        go (widening i s m) (begun v w) =
            record {
              pid = pid-same m.pid-kept;
              joined = member_is r.joined p.what.position (subset-from l.content.joined r.joined m.joined-all p.what.position (member-true l.content.joined p.what.position b.joined));
              stage = begun s (prepares-same p.what.name new (records_of h) (rw (y, s)) ∙ w);
            }
        go (widening i s m) (prepared v w x) = absurd (let k : ◌≡◌ {A = Bool} true false = sym v ∙ ap is_prepare i in true≢false k)
        go (committing i s m) g = to-prepare (ap is_prepare s) m.joined-kept m.pid-kept i g
        go (aborting i s m) g = to-prepare (ap is_prepare s) m.prepare.joined-kept m.prepare.pid-kept i g
        go (completing i s m) g =
            absurd (each_in (λ (p : Entry). p.what.name ≡ r.name → under_of h p ≡ 0 → ⊥) (entries_of h) p
            (if-found-is (λ (x : Logged). is_prepare x.content.status ≡ true → NothingOpen r.name h) is a.last i) j (sym name) z)

    standing-with : (p : Entry) → In p (entries_of h) → Standing (under_of h p) (records_of h) p → Standing (under_of h p) (new ∷ records_of h) p
    standing-with p j (closed f) =
        closed (found-with (Closes (under_of h p) p) (nth_prepare p.what.name (ordinal_of p) (records_of h)) f
        (λ q e k. found-is (Closes (under_of h p) p) (nth-more p.what.name new (records_of h) (ordinal_of p) q e) k))
    standing-with p j (still_open z f) =
        still_open z (found-with (OpenTransaction p (records_of h)) (latest_in p.what.name (records_of h)) f
        (λ l e b. either (is_of p.what.name new)
        (λ y. found-is (OpenTransaction p (new ∷ records_of h)) (find-hit (is_of p.what.name) new (records_of h) y) (own p j z l e b y))
        (λ y. found-is (OpenTransaction p (new ∷ records_of h)) (find-miss (is_of p.what.name) new (records_of h) y ∙ e)
        (record { pid = b.pid; joined = b.joined; stage = stage-other p l (prepares-other p.what.name new (records_of h) y) b.stage }))))

    -- a prepare and the entries of its transaction: no prepare of its name came after them
    joins : is_prepare r.status ≡ true → (p : Entry) → In p (entries_of h) → InTransaction (appending ∷ h) new p → nth_prepare p.what.name (ordinal_of p) (new ∷ records_of h) ≡ some new
    joins prepares p j w = go (standing-now c h t p j)
      where
        mine : is_prepare_of p.what.name new ≡ true
        mine = and_both (is_of p.what.name new) (is_prepare r.status) (is-of p.what.name new (sym w.name)) prepares

        since : number_after (prepared_before r.name h) ≤ length p.before
        since = subst (λ (v : History). number_after (prepared_before r.name v) ≤ length p.before) (events-all appending h) w.since

        open-case : (l : Logged) → latest_in p.what.name (records_of h) ≡ some l → Stage p (records_of h) l → nth_prepare p.what.name (ordinal_of p) (new ∷ records_of h) ≡ some new
        open-case l e (begun s q) = nth_here p.what.name new (records_of h) (ordinal_of p) mine q
        open-case l e (prepared s q b) =
            let k = next-completes c (records_of h) t.come t.ends new a.formed a.comes l (subst (λ (n : List ℕ). latest_in n (records_of h) ≡ some l) w.name e) s in
            absurd (let x = prepare-code r.status prepares in let y = prepare-code l.content.status s in omega (arith, k.status))

        late : (q : Logged) → nth_prepare p.what.name (ordinal_of p) (records_of h) ≡ some q → length p.before < q.number → ⊥
        late q e b =
            let (m, i) = nth-is p.what.name (records_of h) (ordinal_of p) q e in
            let o : is_of r.name q ≡ true = subst (λ (n : List ℕ). is_of n q ≡ true) w.name (and_left (is_of p.what.name q) (is_prepare q.content.status) m) in
            found-with (λ (y : Logged). q.number ≤ y.number) (latest_in r.name (records_of h)) (find-newest (is_of r.name) (length h) (records_of h) t.numbered q i o)
            (λ l f _.
            let flushed : l.end ≤ flushed_of h = leb-true l.end (flushed_of h) (if-found-is (λ (x : Logged). is_flushed h x ≡ true) f a.waits) in
            let ends : q.end ≤ l.end = latest-ends c (records_of h) t.ends r.name l f q i o in
            let test : (is_of r.name q && is_flushed_prepare h q) ≡ true = and_both (is_of r.name q) (is_flushed_prepare h q) o
            (and_both (is_prepare q.content.status) (is_flushed h q) (and_right (is_of p.what.name q) (is_prepare q.content.status) m) (le-leb q.end (flushed_of h) (omega arith))) in
            found-with (λ (y : Logged). q.number ≤ y.number) (prepared_before r.name h) (find-newest (λ (x : Logged). is_of r.name x && is_flushed_prepare h x) (length h) (records_of h) t.numbered q i test)
            (λ y g n. let z : number_after (some y) ≤ length p.before = subst (λ (v : Option Logged). number_after v ≤ length p.before) g since in omega arith))

        go : Standing (under_of h p) (records_of h) p → nth_prepare p.what.name (ordinal_of p) (new ∷ records_of h) ≡ some new
        go (still_open z f) = found-with (OpenTransaction p (records_of h)) (latest_in p.what.name (records_of h)) f (λ l e b. open-case l e b.stage)
        go (closed f) = found-with (Closes (under_of h p) p) (nth_prepare p.what.name (ordinal_of p) (records_of h)) f (λ q e k. absurd (late q e k.later))

    pub appended-keeps : HistoryInvariant c (appending ∷ h)
    appended-keeps =
        record {
          come = rw added.records (come-newest c empty_table r (contents (records_of h)) t.come a.formed a.comes);
          ends = rw added.records (a.ends, t.ends);
          numbered = rw added.records (omega arith, t.numbered);
          entitled = rw entries t.entitled;
          standing = λ k b. rw (added.records, entries) (under-each h appending (λ position pid. refl) (λ (n : ℕ) (p : Entry). Standing n (ending_by k (new ∷ records_of h)) p) (standing-cut k (rw added.flushed at b)));
          by-ordinal = simp (added.records, entries) (
            λ prepares. in-each _ (entries_of h) (λ p j w. joins prepares p j w),
            in-each _ (records_of h) (λ q i prepares. in-each _ (entries_of h)
                (λ p j w. nth-more p.what.name new (records_of h) (ordinal_of p) q (ordinal-was c h t appending q i prepares p j w))),
          );
          for-prepare = rw same-orders t.for-prepare;
          marks = rw same-markers (each-then (MarksPrepare h) (MarksPrepare (appending ∷ h))
              (λ m i. record { earlier = omega (arith, i.earlier); marked = rw added.records (λ q. absurd (omega (arith, i.earlier)), i.marked) }) (collect markers_in h) t.marks);
          already-closed = λ k b. rw (added.records, same-markers, entries)
              (in-each _ (collect markers_in h) (λ o i. under-each h appending (λ position pid. refl) (λ (n : ℕ) (p : Entry). AlreadyClosed n (ending_by k (new ∷ records_of h)) o p)
              (already-closed-cut k (rw added.flushed at b) o i)));
          one-marker = rw same-markers t.one-marker;
        }
      where
        added : AddsRecord h r end
        added = appended-records h r end

        entries : entries_of (appending ∷ h) ≡ entries_of h
        entries = same_entries appending h refl

        same-orders : collect_with_before orders_in (appending ∷ h) ≡ collect_with_before orders_in h
        same-orders = collect-before-same orders_in appending h refl

        same-markers : collect markers_in (appending ∷ h) ≡ collect markers_in h
        same-markers = collect-same markers_in appending h refl

        standing-cut : (k : ℕ) → flushed_of h ≤ k → Each (λ (p : Entry). Standing (under_of h p) (ending_by k (new ∷ records_of h)) p) (entries_of h)
        standing-cut k b =
            either (leb end k) (λ e. rw (ending-stays k new (records_of h) (leb-true end k e)) (in-each _ (entries_of h) (λ p j. standing-with p j (standing-now c h t p j))))
            (λ e. rw (ending-drops k new (records_of h) (leb-false end k e)) (t.standing k b))

        already-closed-cut : (k : ℕ) → flushed_of h ≤ k → (o : Order) → In o (collect markers_in h) → Each (λ (p : Entry). AlreadyClosed (under_of h p) (ending_by k (new ∷ records_of h)) o p) (entries_of h)
        already-closed-cut k b o i =
            either (leb end k)
            (λ e.
            let far : end ≤ k = leb-true end k e in
            let for-below = (marker-for c h t o i).earlier in
            let before : Each (λ (p : Entry). AlreadyClosed (under_of h p) (records_of h) o p) (entries_of h) = in-each _ (entries_of h) (λ p j. closed-now c h t o i p j) in
            rw (ending-stays k new (records_of h) far)
            (each-then (λ (p : Entry). AlreadyClosed (under_of h p) (records_of h) o p) (λ (p : Entry). AlreadyClosed (under_of h p) (new ∷ records_of h) o p)
            (λ p s x y z. either (is_of p.what.name new)
            (λ m. rw (find-hit (is_of p.what.name) new (records_of h) m) (λ q. omega arith))
            (λ m. rw (find-miss (is_of p.what.name) new (records_of h) m) (s x y z))) (entries_of h) before))
            (λ e. rw (ending-drops k new (records_of h) (leb-false end k e)) (closed_at c h t o i k b))
