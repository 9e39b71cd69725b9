-- What the invariant of a history says of one record, one entry, one marker and one order.
use Prim.Native.Nat.{ℕ, ◌≤◌, ◌<◌}
use mathlib.Core.Path.{◌≡◌, sym, ap, subst, ◌∙◌}
use mathlib.Core.Bool.{true}
use mathlib.Core.List.{List, ◌∷◌}
use mathlib.Core.Option.{some}
use native.Mathlib.Omega.{arith}
use lib.IntN.{pos}
use lib.ListN.{length}
use borrow.Author.Tests.{leb-true}
use Rattle.numbers.specs.Signed.{to_nat}
use Rattle.numbers.proofs.Tests.{and_right}
use Rattle.catalogue.specs.declared.Catalogue.{Catalogue}
use Rattle.record.proofs.Bounds.{well-formed-parts}
use Rattle.search.specs.Search.{Each, Found}
use Rattle.search.proofs.Found.{none-some, found-with}
use Rattle.search.proofs.Members.{In, each_in}
use Rattle.search.proofs.Find.{find-in}
use Rattle.row.specs.Row.{is_prepare}
use Rattle.row.proofs.Laws.{prepare-code}
use Rattle.table.specs.Table.{empty_table}
use Rattle.log_reader.specs.Records.{all_come}
use Rattle.runs.specs.History.{Order, Event, History, prepared_before, number_after, markers_in, collect, Logged, ending_by, records_of, contents, flushed_of, is_of, next_of}
use Rattle.runs.specs.Demand3.{Ends, Completes, IsFor}
use Rattle.protocol.specs.RecordsOfName.{latest_in, nth_prepare, AtEveryCut}
use Rattle.protocol.specs.Entries.{Entry, entries_of, ordinal_of, under_of}
use Rattle.protocol.specs.HistoryInvariant.{OpenTransaction, Closes, Standing, still_open, closed, InTransaction, Marks, AlreadyClosed, HistoryInvariant, MarksPrepare, OfOrdinal}
use Rattle.protocol.proofs.Cuts.{ending-in, ending-ends, ending-come, numbered_below, latest-name, latest-settled, every-cut-all}
use Rattle.protocol.proofs.TableOfRecords.{come-record}
use Rattle.protocol.proofs.AfterPrepare.{After, latest, completed, after-prepare}
use Rattle.protocol.proofs.ProducerIds.{pid-owner}
use Rattle.protocol.proofs.Events.{events-before}
use Rattle.protocol.proofs.Ordinals.{nth-is}

-- the kind of the marker over a closed entry is that of its prepare, and not 0
pub closed-kind : (kind : ℕ) (p : Entry) (records : List Logged) (l : Logged) → nth_prepare p.what.name (ordinal_of p) records ≡ some l → Closes kind p l → kind ≡ 0 → ⊥
closed-kind kind p records l e g z =
    let s = prepare-code l.content.status (and_right (is_of p.what.name l) (is_prepare l.content.status) (nth-is p.what.name records (ordinal_of p) l e).0) in
    omega (arith, g.verdict)

-- an entry that is of a prepare's transaction was so before an event
in-transaction-before : (h : History) (e : Event) (q : Logged) → q.number ≤ length h → (p : Entry) → InTransaction (e ∷ h) q p → InTransaction h q p
in-transaction-before h e q b p w =
    record {
      name = w.name;
      since = subst (λ (v : History). number_after (prepared_before q.content.name v) ≤ length p.before) (events-before q.number e h b) w.since;
      before = w.before;
    }

module _ (c : Catalogue) (h : History) (t : HistoryInvariant c h) where
  -- ---- a record

  pub number-below : (q : Logged) → In q (records_of h) → q.number < length h
  number-below q i = each_in (λ (x : Logged). x.number < length h) (records_of h) q (numbered_below (length h) (records_of h) t.numbered) i

  pub natural-pid : (r : Logged) → In r (records_of h) → (n : ℕ) × (r.content.pid ≡ pos n)
  natural-pid r i = (well-formed-parts c r.content (come-record c (records_of h) t.come r i).0).pid-natural

  pub cut-come : (k : ℕ) → all_come c empty_table (contents (ending_by k (records_of h))) ≡ true
  cut-come k = ending-come k c (records_of h) t.come

  pub cut-ends : (k : ℕ) → Ends c (ending_by k (records_of h))
  cut-ends k = ending-ends k c (records_of h) t.ends

  -- ---- an entry

  -- it has the ordinal of the prepare whose transaction it is of, and had it before an event
  pub ordinal-is : (q : Logged) → In q (records_of h) → is_prepare q.content.status ≡ true → (p : Entry) → In p (entries_of h) → InTransaction h q p
      → nth_prepare p.what.name (ordinal_of p) (records_of h) ≡ some q
  ordinal-is q i r p j =
      each_in (λ (p : Entry). InTransaction h q p → nth_prepare p.what.name (ordinal_of p) (records_of h) ≡ some q) (entries_of h) p (each_in (OfOrdinal h) (records_of h) q t.by-ordinal i r) j

  pub ordinal-was : (e : Event) (q : Logged) → In q (records_of h) → is_prepare q.content.status ≡ true → (p : Entry) → In p (entries_of h) → InTransaction (e ∷ h) q p
      → nth_prepare p.what.name (ordinal_of p) (records_of h) ≡ some q
  ordinal-was e q i r p j w = ordinal-is q i r p j (in-transaction-before h e q (let b = number-below q i in omega arith) p w)

  pub standing-at : (p : Entry) → In p (entries_of h) → AtEveryCut h (λ records. Standing (under_of h p) records p)
  standing-at p j k b = each_in (λ (p : Entry). Standing (under_of h p) (ending_by k (records_of h)) p) (entries_of h) p (t.standing k b) j

  pub standing-now : (p : Entry) → In p (entries_of h) → Standing (under_of h p) (records_of h) p
  standing-now p j = every-cut-all h (λ records. Standing (under_of h p) records p) (standing-at p j)

  -- an open one: the latest record of its name is of its transaction
  open-found : (p : Entry) → under_of h p ≡ 0 → (records : List Logged) → Standing (under_of h p) records p → Found (OpenTransaction p records) (latest_in p.what.name records)
  open-found p z records (still_open y b) = b
  open-found p z records (closed b) =
      found-with (Closes (under_of h p) p) (nth_prepare p.what.name (ordinal_of p) records) b (λ l e g. absurd (closed-kind (under_of h p) p records l e g z))

  pub open_at : {X : Type 0} (k : ℕ) → flushed_of h ≤ k → (p : Entry) → In p (entries_of h) → under_of h p ≡ 0
      → ((l : Logged) → latest_in p.what.name (ending_by k (records_of h)) ≡ some l → OpenTransaction p (ending_by k (records_of h)) l → X) → X
  open_at k b p j z g = found-with _ (latest_in p.what.name (ending_by k (records_of h))) (open-found p z (ending_by k (records_of h)) (standing-at p j k b)) g

  pub open-now : {X : Type 0} (p : Entry) → In p (entries_of h) → under_of h p ≡ 0
      → ((l : Logged) → latest_in p.what.name (records_of h) ≡ some l → OpenTransaction p (records_of h) l → X) → X
  open-now p j z g = found-with _ (latest_in p.what.name (records_of h)) (open-found p z (records_of h) (standing-now p j)) g

  -- ---- a marker

  pub marker-for : (m : Order) → In m (collect markers_in h) → MarksPrepare h m
  marker-for m i = each_in (MarksPrepare h) (collect markers_in h) m t.marks i

  pub marked-record : (m : Order) → In m (collect markers_in h) → (r : Logged) → In r (records_of h) → r.number ≡ m.for → Marks m r
  marked-record m i r j = each_in (λ (r : Logged). r.number ≡ m.for → Marks m r) (records_of h) r (marker-for m i).marked j

  pub closed_at : (m : Order) → In m (collect markers_in h) → AtEveryCut h (λ records. Each (λ (p : Entry). AlreadyClosed (under_of h p) records m p) (entries_of h))
  closed_at m i k b =
      each_in (λ (m : Order). Each (λ (p : Entry). AlreadyClosed (under_of h p) (ending_by k (records_of h)) m p) (entries_of h)) (collect markers_in h) m (t.already-closed k b) i

  pub closed-now : (m : Order) → In m (collect markers_in h) → (p : Entry) → In p (entries_of h) → AlreadyClosed (under_of h p) (records_of h) m p
  closed-now m i p j =
      each_in (λ (p : Entry). AlreadyClosed (under_of h p) (records_of h) m p) (entries_of h) p
      (every-cut-all h (λ records. Each (λ (p : Entry). AlreadyClosed (under_of h p) records m p) (entries_of h)) (closed_at m i)) j

  -- ---- an order

  -- its prepare is its name's latest record, at every cut
  module _ (o : Order) (q : Logged) (i : In q (records_of h)) (f : IsFor o h q) where
    pub for-latest : latest_in q.content.name (records_of h) ≡ some q
    for-latest = go (after-prepare c (length h) (records_of h) t.come t.ends t.numbered q i f.prepare)
      where
        go : After q (records_of h) → latest_in q.content.name (records_of h) ≡ some q
        go (latest n l) = l
        go (completed k) = found-with (Completes q) (next_of q h) k (λ y e g. none-some (sym f.latest ∙ e))

    pub for-latest-at : (k : ℕ) → flushed_of h ≤ k → latest_in q.content.name (ending_by k (records_of h)) ≡ some q
    for-latest-at k b = (latest-settled q.content.name (flushed_of h) k b (records_of h) q for-latest (leb-true q.end (flushed_of h) f.flushed)).0

    -- an open entry of its producer is of its prepare's name: no two names have one pid
    pub open-name : (k : ℕ) → flushed_of h ≤ k → (p : Entry) → In p (entries_of h) → under_of h p ≡ 0 → to_nat o.pid ≡ to_nat p.what.pid → q.content.name ≡ p.what.name
    open-name k b p j z same =
        open_at k b p j z (λ l e g.
        let there-l = ending-in k (records_of h) l (find-in (is_of p.what.name) (ending_by k (records_of h)) l e) in
        let (m, m-is) = natural-pid l there-l in
        let (n, n-is) = natural-pid q i in
        let numbers : n ≡ m = ap to_nat (sym n-is ∙ f.pid) ∙ same ∙ ap to_nat (sym g.pid ∙ m-is) in
        let pids : q.content.pid ≡ l.content.pid = n-is ∙ ap pos numbers ∙ sym m-is in
        pid-owner c (records_of h) t.come t.ends q l i there-l pids ∙ latest-name p.what.name (ending_by k (records_of h)) l e)
