-- A flushed prepare completes after exactly as many carried orders as it has partitions not acknowledged.
use Prim.Native.Nat.{ℕ, ◌+◌, ◌≤◌}
use mathlib.Core.Path.{◌≡◌, refl, ap, ◌∙◌}
use mathlib.Core.Bool.{true, false, not, ◌&&◌}
use mathlib.Core.List.{List, []}
use mathlib.Core.Option.{some}
use native.Mathlib.Omega.{arith}
use lib.ListN.{length}
use Rattle.numbers.proofs.Tests.{and_left, not-both}
use Rattle.search.specs.Search.{Each}
use Rattle.search.proofs.Members.{In}
use Rattle.row.specs.Row.{is_prepare}
use Rattle.coordinator.specs.Left.{left}
use Rattle.coordinator.specs.declared.Coordinator.{Coordinator}
use Rattle.runs.specs.History.{History, Logged, records_of, latest_of, is_flushed, is_flushed_prepare, is_completed, carried_for}
use Rattle.runs.specs.World.{up, World, catalogue_of, Item, run}
use Rattle.runs.specs.Demand3.{Undisturbed}
use Rattle.runs.specs.ExactOrders.{not_acknowledged, shown_of, carried_since, Exactly, Displayed, Continued}
use Rattle.protocol.proofs.Extends.{each-pending}
use Rattle.agreement.proofs.Invariant.{Invariant}
use Rattle.agreement.proofs.Steps.{Reached, run-reached}
use Rattle.restart.proofs.HoldsAt.{pending-latest, orders-given, carrying-accepted}
use Rattle.restart.proofs.TotalOrders.{left_of, TotalOrders, finished, unfinished}
use Rattle.restart.proofs.Demand3.{total, some_left, latest-open}
use Rattle.exact_orders.proofs.Acknowledged.{Acknowledged}
use Rattle.exact_orders.proofs.NotAcknowledged.{left_is}
use Rattle.exact_orders.proofs.Shows.{named-left}
use Rattle.exact_orders.proofs.CarriedSince.{carried-since}

module _ (w : World) (i : Invariant w) (a : Acknowledged w.phase w.history) (items : List Item) (undisturbed : Each (Undisturbed (catalogue_of w).all) items)
    (b : Acknowledged (run items w).phase (run items w).history) where
  abbrev h : History
  h = w.history

  abbrev v : History
  v = (run items w).history

  after : Reached w (run items w)
  after = run-reached items w i

  module _ (p : Logged) (there : In p (records_of h)) (pending : (is_flushed_prepare h p && not (is_completed h p)) ≡ true) where
    prepares : is_prepare p.content.status ≡ true
    prepares = and_left (is_prepare p.content.status) (is_flushed h p) (and_left (is_flushed_prepare h p) (not (is_completed h p)) pending)

    latest : latest_of p.content.name h ≡ some p
    latest = pending-latest w i p there pending

    left-before : not_acknowledged p h ≡ left_of p w.phase
    left-before = left_is w i a p latest prepares

    left_after : latest_of p.content.name v ≡ some p → not_acknowledged p v ≡ left_of p (run items w).phase
    left_after e = left_is (run items w) after.invariant b p e prepares

    since : carried_for p v ≡ carried_since (length h) p v + carried_for p h
    since = carried-since (catalogue_of w) h p after.extends

    some-before : 1 ≤ not_acknowledged p h
    some-before = let b = least in omega (arith, left-before)
      where
        least : 1 ≤ left_of p w.phase
        least = unfold run in some_left w i p there pending [] tt latest

    exactly : Exactly p h v
    exactly = go (total w i p there pending items undisturbed)
      where
        go : TotalOrders p (carried_for p h + left_of p w.phase) (run items w).phase v → Exactly p h v
        go (finished e f) =
            let all : carried_since (length h) p v ≡ not_acknowledged p h = omega (arith, since, left-before) in
            record {
              some_left = some-before;
              at_most = omega arith;
              completes = (λ q. all, λ q. e);
              until-then = λ q. not-both q e;
            }
        go (unfinished e f) =
            let more = some_left w i p there pending items undisturbed e in
            let rest : carried_since (length h) p v + not_acknowledged p v ≡ not_acknowledged p h = omega (arith, since, left-before, left_after e) in
            let some_after : 1 ≤ not_acknowledged p v = omega (arith, left_after e) in
            record {
              some_left = some-before;
              at_most = omega arith;
              completes = (λ q. absurd (latest-open w i p there pending items undisturbed e q), λ q. absurd (omega arith));
              until-then = λ q. rest;
            }

    -- while it is not completed it is its name's latest record, and the display is of it
    latest-after : is_completed v p ≡ false → latest_of p.content.name v ≡ some p
    latest-after q = go (total w i p there pending items undisturbed)
      where
        go : TotalOrders p (carried_for p h + left_of p w.phase) (run items w).phase v → latest_of p.content.name v ≡ some p
        go (finished e f) = not-both q e
        go (unfinished e f) = e

    displays : (s : Coordinator) → (run items w).phase ≡ up s → Displayed p s h v
    displays s u place named q =
        let shown : left s place ≡ not_acknowledged p v = named-left (run items w) after.invariant b s u place ∙ ap (λ (name : List ℕ). shown_of v (latest_of name v)) named ∙ rw (latest-after q, prepares) refl in
        omega (arith, exactly.until-then q)

  pub continued : Continued w (run items w)
  continued =
      record {
        exactly = each-pending h (λ (p : Logged). Exactly p h v) exactly;
        displayed = λ s u. each-pending h (λ (p : Logged). Displayed p s h v) (λ p there pending. displays p there pending s u);
        orders-given = orders-given (run items w) after.invariant;
        carrying-accepted = carrying-accepted (run items w) after.invariant;
      }
