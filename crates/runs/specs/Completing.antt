-- From every moment with the coordinator up some list of Orders with all partitions up, each carried at once, completes every flushed prepare. The list
-- is built here, with as many Orders as are outstanding.
use Rattle.std.specs.Prelude.{ℕ, zero, suc, ◌+◌, ◌≡◌, true, cond, not, ◌&&◌, List, [], ◌∷◌, ◌++◌, length}
use Rattle.bits.specs.Bits.{count}
use Rattle.row.specs.Row.{is_prepare, outstanding}
use Rattle.row.specs.declared.Row.{Row}
use Rattle.search.specs.Search.{sum_of, Each}
use Rattle.coordinator.specs.Coordinator.{unflushed}
use Rattle.coordinator.specs.declared.Coordinator.{Coordinator}
use Rattle.runs.specs.History.{Logged, collect, carried_in, flushed_prepares, is_completed}
use Rattle.runs.specs.World.{up, World, catalogue_of, FirstOpening, Accepted, start, own, Item, call_order, deliver, acknowledge, run}

-- an Order with all partitions up, and the order that it answers carried: its number is that of the next event
abbrev pub carry_one : World → List Item
carry_one w = call_order (catalogue_of w).all ∷ deliver own (length w.history) ∷ acknowledge own (length w.history) ∷ []

-- this many of them, one after the other
unfoldable pub carry_each : ℕ → World → List Item
carry_each zero w = []
carry_each (suc n) w = carry_one w ++ carry_each n (run (carry_one w) w)

-- the orders that are outstanding: one for each partition of a flushed prepare that is not acknowledged
abbrev pub row_left : ℕ → Row → ℕ
row_left flushed row = cond (is_prepare row.status && not (unflushed flushed row)) (count (outstanding row)) 0

abbrev pub orders_left : Coordinator → ℕ
orders_left s = sum_of (row_left s.flushed) s.table.rows

-- every one of n orders is carried, and then every prepare that was flushed is completed
pub record AllCompleted (w v : World) (n : ℕ) : Type 0 where
  pub carried : length (collect carried_in v.history) ≡ n + length (collect carried_in w.history)
  pub completed : Each (λ (p : Logged). is_completed v.history p ≡ true) (flushed_prepares w.history)

-- Not met by a server that gives the same order again and again, nor by one whose prepares wait for another call.
abbrev pub Completing : Type 0
Completing =
    (o : FirstOpening) → Accepted o → (items : List Item) (s : Coordinator)
    → let w = run items (start o) in
    w.phase ≡ up s → AllCompleted w (run (carry_each (orders_left s) w) w) (orders_left s)
