-- The theorem of demand 3 (`demand-3`). Why it holds:
-- Both runs go on from the world that the shared list reaches, and the invariant holds in every world of a run (`always`). So each clause is shown once,
-- of any list from any world with the invariant; the cut run is the list that starts with the cut and the opening.
-- Kept: no cut takes a flushed record, so a flushed prepare stands in both runs; the record that follows it for its name completes it, with its producer.
-- At the end of a run (`HoldsAt`): a marker is for a flushed prepare, one for each prepare and partition, and every entry of a completed transaction
-- stands under its verdict. These are clauses of the invariant of the history, or follow from them.
-- In time: the orders carried for a prepare and its partitions that are not acknowledged have one sum as long as it is not completed (`TotalOrders`).
-- Only an Ack of an order for it changes either of them: one more is carried and one fewer is left. With none left it is completed. As at first no more
-- are left than it lists partitions, it completes after at most that many carried orders.
use Prim.Native.Nat.{ℕ, ◌+◌, ◌-◌, ◌≤◌, ◌<◌, ◌^◌}
use mathlib.Core.Path.{◌≡◌, refl, sym, ap, subst, ◌∙◌}
use mathlib.Core.Bool.{true, not, ◌&&◌, true≢false}
use mathlib.Core.List.{List, [], ◌∷◌}
use mathlib.Core.Option.{none, some}
use native.Mathlib.Omega.{arith}
use lib.ListN.{length}
use borrow.Author.Tests.{leb-true}
use Rattle.numbers.proofs.Tests.{and_left, and_right}
use Rattle.bits.specs.Bits.{count}
use Rattle.bits.proofs.Laws.{count-zero, count-part}
use Rattle.catalogue.specs.Catalogue.{parse}
use Rattle.record.proofs.Bounds.{some-joined}
use Rattle.search.specs.Search.{Each, found}
use Rattle.search.proofs.Found.{found-is}
use Rattle.search.proofs.Members.{In}
use Rattle.search.proofs.Find.{find-in}
use Rattle.row.specs.Row.{is_prepare}
use Rattle.row.proofs.Laws.{prepare-busy}
use Rattle.table.specs.Table.{row_at, place_of}
use Rattle.runs.specs.History.{History, Logged, records_of, latest_of, next_of, flushed_of, is_flushed, is_flushed_prepare, flushed_prepares, listed, is_completed, carried_for}
use Rattle.runs.specs.World.{Phase, up, down, World, catalogue_of, start, Item, cut, reopen, step, run}
use Rattle.runs.specs.Demand3.{Keeps, Kept, Undisturbed, CompletesInTime, Promised, Demand3}
use Rattle.runs.proofs.Admitted.{step-own}
use Rattle.runs.proofs.Epochs.{Epochs, start-epochs, run-epochs}
use Rattle.protocol.specs.HistoryInvariant.{HistoryInvariant}
use Rattle.protocol.proofs.AfterPrepare.{latest-last}
use Rattle.protocol.proofs.Extends.{FlushedIn, flushed-stays, each-flushed-prepare, each-pending, kept-stands, kept_next, extends-keeps}
use Rattle.agreement.proofs.Invariant.{Invariant}
use Rattle.agreement.proofs.Preserves.{row-of}
use Rattle.agreement.proofs.PreparedRow.{record-parts, row-joined, row_small, some-outstanding}
use Rattle.agreement.proofs.Steps.{step-preserves, Reached, run-reached, always}
use Rattle.restart.proofs.HoldsAt.{holds_at_lem, pending-latest}
use Rattle.restart.proofs.TotalOrders.{left_of, TotalOrders, finished, unfinished}
use Rattle.restart.proofs.TotalOrdersKept.{step_counts}

-- ---- kept

kept : (w : World) → Invariant w → (items : List Item) → Each (Kept (run items w)) (flushed_prepares w.history)
kept w i items =
    let r = run-reached items w i in
    let c = catalogue_of w in
    let t : HistoryInvariant c (run items w).history = extends-keeps c w.history i.of-history r.extends in
    each-flushed-prepare w.history (Kept (run items w))
    (λ p f prepares.
    let g = flushed-stays c w.history i.of-history p f r.extends in
    record {
      stands = found-is (Keeps p) (kept-stands c (run items w).history t p g.stands)
          (record { verdict = refl; pid = refl; epoch = refl; partitions = refl; unchanged = refl });
      next = kept_next c (run items w).history t p g.stands prepares;
    })

-- ---- the count of carried orders

run-counts : (all : ℕ) (p : Logged) → is_prepare p.content.status ≡ true → (n : ℕ) (items : List Item) (w : World) → all ≡ (catalogue_of w).all → Invariant w → FlushedIn w.history p
    → TotalOrders p n w.phase w.history
    → Each (Undisturbed all) items → TotalOrders p n (run items w).phase (run items w).history
unfolding run
run-counts all p prepares n [] w e i f t d = t
run-counts all p prepares n (x ∷ items) w e i f t (d, ds) =
    let g = step-preserves w i x in
    let j = g.holds (step-own x w i.own) in
    run-counts all p prepares n items (step x w) (e ∙ ap (λ (y : List ℕ). (parse y).catalogue.all) (sym g.same_text)) j
    (flushed-stays (catalogue_of w) w.history i.of-history p f g.extends) (step_counts p prepares n w i f.stands t x (subst (λ (a : ℕ). Undisturbed a x) e d) j) ds

module _ (w : World) (i : Invariant w) (p : Logged) (there : In p (records_of w.history)) (pending : (is_flushed_prepare w.history p && not (is_completed w.history p)) ≡ true) (items : List Item)
    (undisturbed : Each (Undisturbed (catalogue_of w).all) items) where
  abbrev h : History
  h = w.history

  abbrev v : History
  v = (run items w).history

  prepares : is_prepare p.content.status ≡ true
  prepares = and_left (is_prepare p.content.status) (is_flushed h p) (and_left (is_flushed_prepare h p) (not (is_completed h p)) pending)

  is-flushed : FlushedIn h p
  is-flushed = record { stands = there; flushed = leb-true p.end (flushed_of h) (and_right (is_prepare p.content.status) (is_flushed h p) (and_left (is_flushed_prepare h p) (not (is_completed h p)) pending)) }

  pub total : TotalOrders p (carried_for p h + left_of p w.phase) (run items w).phase v
  total = run-counts (catalogue_of w).all p prepares (carried_for p h + left_of p w.phase) items w refl i is-flushed (unfinished (pending-latest w i p there pending) refl) undisturbed

  after : Reached w (run items w)
  after = run-reached items w i

  small : p.content.joined < 2 ^ 64
  small = (record-parts w i p there).joined-below

  joins-some : 0 < p.content.joined
  joins-some =
      some-joined p.content.status p.content.joined (prepare-busy p.content.status prepares)
      (record-parts w i p there).joined-status

  -- while it is not completed some partition is left
  pub some_left : latest_of p.content.name v ≡ some p → 1 ≤ left_of p (run items w).phase
  some_left e = go (run items w).phase refl
    where
      go : (y : Phase) → (run items w).phase ≡ y → 1 ≤ left_of p y
      go (up s) u =
          let z = run items w in
          let j = after.invariant in
          let row_is = row-of z j s u p.content.name p e in
          let n = some-outstanding z j s u (place_of s.table p.content.name) p (find-in _ (records_of v) p e) prepares row_is in
          omega arith
      go (down m before) u = let n : count p.content.joined ≡ 0 → ⊥ = λ q. let z = count-zero 64 p.content.joined small q in omega (arith, joins-some) in omega arith

  -- at most as many as it lists
  left-most : left_of p w.phase ≤ listed p
  left-most = go w.phase refl
    where
      go : (y : Phase) → w.phase ≡ y → left_of p y ≤ listed p
      go (up s) u =
          let k = place_of s.table p.content.name in
          let row_is = row-of w i s u p.content.name p (pending-latest w i p there pending) in
          let b = count-part 64 (row_at s.table k).joined ((2 ^ 64 - 1) - (row_at s.table k).acknowledged) (row_small w i s u k p there prepares row_is) in
          omega (arith, ap count (row-joined w i s u k p there prepares row_is))
      go (down m before) u = omega arith

  pub latest-open : latest_of p.content.name v ≡ some p → is_completed v p ≡ true → ⊥
  latest-open e q =
      let z : next_of p v ≡ none = latest-last p (length v) (records_of v) after.invariant.of-history.numbered e in
      let f : found _ (next_of p v) ≡ true = and_right (is_prepare p.content.status) _ q in
      true≢false (sym (rw z at f))

  in-time : carried_for p h + listed p ≤ carried_for p v → is_completed v p ≡ true
  in-time b = go total
    where
      go : TotalOrders p (carried_for p h + left_of p w.phase) (run items w).phase v → is_completed v p ≡ true
      go (finished e f) = e
      go (unfinished e f) = absurd (let a = some_left e in let m = left-most in omega arith)

completes-in-time : (w : World) → Invariant w → (items : List Item) → CompletesInTime w items
completes-in-time w i items undisturbed =
    each-pending w.history _ (λ p there pending. in-time w i p there pending items undisturbed)

-- ---- the theorem

promised : (w : World) → Invariant w → Epochs w → (items : List Item) → Promised w items
promised w i epochs items =
    record {
      kept = kept w i items;
      holds = holds_at_lem (run items w) (run-reached items w i).invariant (run-epochs items w epochs).orders;
      completes-in-time = completes-in-time w i items;
    }

pub demand-3 : Demand3
demand-3 o accepted shared straight left epoch first last afterwards =
    let i = always o accepted shared in
    let epochs = run-epochs shared (start o) (start-epochs o accepted) in
    (promised (run shared (start o)) i epochs straight, promised (run shared (start o)) i epochs (cut left ∷ reopen epoch first last ∷ afterwards))
