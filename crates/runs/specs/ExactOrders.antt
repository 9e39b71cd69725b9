-- Request 11 of document 02: in every run what a display shows of a place is how many orders its prepare still needs, and a flushed prepare completes
-- after exactly as many. What is acknowledged is read from the run's history, and not from the set that the server keeps.
use Rattle.std.specs.Prelude.{ℕ, ◌+◌, ◌≤◌, ◌≡◌, ◌↔◌, Bool, true, false, cond, not, ◌&&◌, List, [], ◌∷◌, map, eqb, ℤ, length, get_or}
use Rattle.std.proofs.Math.Option.{Option, none, some}
use Rattle.bits.specs.Bits.{members}
use Rattle.catalogue.specs.Limits.{positions}
use Rattle.search.specs.Search.{find, is_found, count_where, Each}
use Rattle.coordinator.specs.Left.{left}
use Rattle.coordinator.specs.declared.Coordinator.{Coordinator}
use Rattle.runs.specs.History.{Order, record_appended, log_flushed, log_cut, log_opened, order_given, marker_written, order_carried, entry_written, History, events_from, Logged, latest_of, names, name_at, is_prepare, listed, is_completed, pending_prepares, carried_for}
use Rattle.runs.specs.World.{up, down, World, catalogue_of, FirstOpening, Accepted, start, Item, reopen, step, run}
use Rattle.runs.specs.Demand3.{OrdersGiven, CarryingAccepted, Undisturbed}

-- ---- what the history says of acknowledgements

-- the orders whose Acks came "since opening", newest first; with a cut "the table goes"
unfoldable pub acknowledged_orders : History → List Order
acknowledged_orders [] = []
acknowledged_orders (record_appended r end ∷ h) = acknowledged_orders h
acknowledged_orders (log_flushed n ∷ h) = acknowledged_orders h
acknowledged_orders (log_cut n ∷ h) = []
acknowledged_orders (log_opened epoch ∷ h) = []
acknowledged_orders (order_given o ∷ h) = acknowledged_orders h
acknowledged_orders (marker_written o ∷ h) = acknowledged_orders h
acknowledged_orders (order_carried o ∷ h) = o ∷ acknowledged_orders h
acknowledged_orders (entry_written e ∷ h) = acknowledged_orders h

-- whether a position is in the acknowledged set of a record: one of these orders was for the record and that position
abbrev pub is_acknowledged : Logged → History → ℕ → Bool
is_acknowledged p h x = is_found (find (λ (o : Order). eqb o.for p.number && eqb o.position x) (acknowledged_orders h))

-- "partitions not in its acknowledged set"
abbrev pub not_acknowledged : Logged → History → ℕ
not_acknowledged p h = count_where (λ (x : ℕ). not (is_acknowledged p h x)) (members positions p.content.joined)

-- ---- the display

-- what is left of a name's latest record: 0 where that is no prepare
abbrev pub shown_of : History → Option Logged → ℕ
shown_of h none = 0
shown_of h (some p) = cond (is_prepare p.content.status) (not_acknowledged p h) 0

-- "the number of ones left in the set", of the name at a place; 0 where no name is
abbrev pub shown_at : History → ℕ → ℕ
shown_at h place = get_or (map (λ (name : List ℕ). shown_of h (latest_of name h)) (names h)) place 0

-- ---- the count

-- how many orders for a record were carried, "counted at their Acks", after the first n events
abbrev pub carried_since : ℕ → Logged → History → ℕ
carried_since n p h = carried_for p (events_from n h)

-- "a flushed prepare completes after exactly as many carried orders for it … as it then has partitions not in its acknowledged set": `earlier` is the
-- history then, `later` that of any moment after it
-- Not met by an Ack that completes one early or one late, nor by an Order that offers a position already acknowledged.
pub record Exactly (p : Logged) (earlier later : History) : Type 0 where
  pub some_left : 1 ≤ not_acknowledged p earlier
  pub at_most : carried_since (length earlier) p later ≤ not_acknowledged p earlier
  pub completes : (is_completed later p ≡ true) ↔ (carried_since (length earlier) p later ≡ not_acknowledged p earlier)
  -- before that, what is left is what has not been carried
  pub until-then : is_completed later p ≡ false → carried_since (length earlier) p later + not_acknowledged p later ≡ not_acknowledged p earlier

-- until then the display shows at its place how many are still to be carried
-- Not met by a display of all partitions, nor by a server that forgets an acknowledgement at another call.
abbrev pub Displayed : Logged → Coordinator → History → History → Type 0
Displayed p s earlier later =
    (place : ℕ) → name_at later place ≡ p.content.name → is_completed later p ≡ false
    → carried_since (length earlier) p later + left s place ≡ not_acknowledged p earlier

-- after an undisturbed list: "With no order or acknowledgement lost", for Order gives one as long as a flushed prepare is not completed, and no Marker
-- and no Ack of it is refused
pub record Continued (w v : World) : Type 0 where
  pub exactly : Each (λ (p : Logged). Exactly p w.history v.history) (pending_prepares w.history)
  pub displayed : (s : Coordinator) → v.phase ≡ up s → Each (λ (p : Logged). Displayed p s w.history v.history) (pending_prepares w.history)
  pub orders-given : OrdersGiven v.phase v
  pub carrying-accepted : CarryingAccepted v.carrying v

-- ---- the statement

pub record ExactOrders : Type 0 where
  -- at every moment of every run at which the coordinator is up
  -- Not met by a display that counts all partitions of the prepare, nor by a server that keeps acknowledgements over a cut.
  pub shows : (o : FirstOpening) → Accepted o → (items : List Item) (s : Coordinator)
      → let w = run items (start o) in
      w.phase ≡ up s → (place : ℕ) → left s place ≡ shown_at w.history place
  -- "counted as 3's last sentence is": from any moment of any run, the coordinator up or down, with any undisturbed list; each beginning of such a list
  -- is one, so it holds at every moment after
  pub continues : (o : FirstOpening) → Accepted o → (items afterwards : List Item)
      → let w = run items (start o) in
      Each (Undisturbed (catalogue_of w).all) afterwards → Continued w (run afterwards w)
  -- after a cut, and after the opening that follows it, none of a prepare's partitions is acknowledged
  pub none-after-cut : (o : FirstOpening) → Accepted o → (items : List Item) (n before : ℕ) (epoch first last : ℤ)
      → let w = run items (start o) in
      w.phase ≡ down n before
      → let h = (step (reopen epoch first last) w).history in
      Each (λ (p : Logged). not_acknowledged p h ≡ listed p) (pending_prepares h)
