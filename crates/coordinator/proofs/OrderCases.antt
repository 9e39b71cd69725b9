-- Order by cases: what it answers, that its place is the lowest with a marker to be written, and that it answers none only if there is none.
use Prim.Native.Nat.{ℕ, ◌≤◌, ◌<◌}
use mathlib.Core.Path.{◌≡◌, refl, sym, subst, ◌∙◌}
use mathlib.Core.Logic.{◌↔◌}
use mathlib.Core.Bool.{Bool, true, false}
use native.Mathlib.Omega.{arith}
use lib.Bits.{and_zero_l}
use lib.Dec.{ltb}
use lib.ListN.{length}
use borrow.Author.Tests.{ltb-true, ltb-false, lt-ltb, le-ltb, eqb-false, ne_eqb, eq-eqb, not-true}
use Rattle.numbers.proofs.Tests.{and_left, and_right}
use Rattle.bits.specs.Bits.{subset}
use Rattle.bits.proofs.Laws.{subset-same, subset-trans}
use Rattle.search.specs.Search.{first_where, Each}
use Rattle.search.proofs.Laws.{first_found, first-before, first-nowhere}
use Rattle.search.proofs.Each.{each_at, each-then, first-same}
use Rattle.row.specs.Row.{free_row, is_prepare, outstanding}
use Rattle.row.specs.declared.Row.{Row}
use Rattle.answers.specs.Limits.{places}
use Rattle.answers.specs.OrderAnswer.{NoOrder}
use Rattle.table.specs.Table.{row_at}
use Rattle.coordinator.specs.Coordinator.{unflushed}
use Rattle.coordinator.specs.Order.{due, ordered, order_place, order_from, order}
use Rattle.coordinator.specs.declared.Coordinator.{Coordinator}

module _ (s : Coordinator) (up : ℕ) where
  pub order-given : order_place s up < places → order s up ≡ order_from s up (order_place s up) (row_at s.table (order_place s up))
  unfolding order
  order-given h = rw (lt-ltb (order_place s up) places h)

  pub order-none : places ≤ order_place s up → order s up ≡ NoOrder
  unfolding order
  order-none h = rw (le-ltb (order_place s up) places h)

  outside : order s up ≡ NoOrder → places ≤ order_place s up
  outside e = go (ltb (order_place s up) places) refl
    where
      go : (b : Bool) → ltb (order_place s up) places ≡ b → places ≤ order_place s up
      go true t = let g = order-given (ltb-true _ _ t) in absurd (let z : ◌≡◌ {A = ℕ} 0 1 = cc in omega arith)
      go false t = ltb-false _ _ t

  -- ---- what the test means

  pub record Ordered (row : Row) : Type 0 where
    pub prepares : is_prepare row.status ≡ true
    pub flushed : unflushed s.flushed row ≡ false
    pub some : due row up ≡ 0 → ⊥

  pub ordered-means : (row : Row) → ordered s.flushed up row ≡ true → Ordered row
  unfolding ordered
  ordered-means row e =
      record {
        prepares = search (and_left, and_right) depth 8;
        flushed = not-true _ (search (and_left, and_right) depth 8);
        some = eqb-false (due row up) 0 (not-true _ (search (and_left, and_right) depth 8));
      }

  pub ordered-is : (row : Row) → Ordered row → ordered s.flushed up row ≡ true
  unfolding ordered
  ordered-is row o = rw (o.prepares, o.flushed, ne_eqb (due row up) 0 o.some)

  -- ---- which place it is

  pub order-lowest : (place : ℕ) → place < order_place s up → ordered s.flushed up (row_at s.table place) ≡ false
  unfolding order_place
  order-lowest place h = first-before (ordered s.flushed up) s.table.rows free_row place h

  module _ (whole : length s.table.rows ≡ places) where
    pub order-found : order_place s up < places → Ordered (row_at s.table (order_place s up))
    unfolding order_place
    order-found h = ordered-means _ (first_found (ordered s.flushed up) s.table.rows free_row (omega arith))

    pub order-nowhere : (places ≤ order_place s up) ↔ ((place : ℕ) → place < places → ordered s.flushed up (row_at s.table place) ≡ false)
    unfolding order_place
    order-nowhere =
        subst (λ (n : ℕ). (n ≤ first_where (ordered s.flushed up) s.table.rows) ↔ ((place : ℕ) → place < n → ordered s.flushed up (row_at s.table place) ≡ false)) whole (first-nowhere (ordered s.flushed up) s.table.rows free_row)

    pub no-order-means : (order s up ≡ NoOrder) ↔ ((place : ℕ) → place < places → ordered s.flushed up (row_at s.table place) ≡ false)
    no-order-means = (λ e. order-nowhere.0 (outside e), λ h. order-none (order-nowhere.1 h))

-- ---- which set it is

-- Where every outstanding position is in a set, an Order with more up answers the same.
module _ (s : Coordinator) (all set : ℕ) (more : subset all set ≡ true) where
  abbrev Within : Row → Type 0
  Within row = subset (outstanding row) all ≡ true

  due-same : (row : Row) → Within row → due row set ≡ due row all
  due-same row h = subset-same (outstanding row) set (subset-trans (outstanding row) all set h more) ∙ sym (subset-same (outstanding row) all h)

  ordered_same : (row : Row) → Within row → ordered s.flushed set row ≡ ordered s.flushed all row
  unfolding ordered
  ordered_same row h = rw (due-same row h)

  pub order_same : Each (λ (row : Row). subset (outstanding row) all ≡ true) s.table.rows → order s set ≡ order s all
  unfolding order order_place
  order_same h =
      let place = first-same (ordered s.flushed set) (ordered s.flushed all) s.table.rows (each-then Within _ ordered_same s.table.rows h) in
      rw (place, due-same (row_at s.table (first_where (ordered s.flushed all) s.table.rows)) (each_at Within s.table.rows free_row _ h free-within))
    where
      free-within : Within free_row
      free-within = eq-eqb _ _ (and_zero_l all)
