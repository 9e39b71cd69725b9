-- None of the false counts is exact and none of the false displays right, and the true ones are; a world without progress is not reached by an undisturbed list.
use Prim.Native.Nat.{ℕ, ◌+◌}
use mathlib.Core.Path.{◌≡◌, refl, sym, ◌∙◌}
use mathlib.Core.Bool.{true, false, true≢false}
use native.Mathlib.Omega.{arith}
use lib.Count.{ones}
use lib.Dec.{leb, ltb}
use lib.ListN.{length}
use borrow.Author.Tests.{leb-true, ltb-true}
use Rattle.numbers.specs.Bytes.{same}
use Rattle.bits.specs.Bits.{members}
use Rattle.search.specs.Search.{find, find_last, filter, count_where}
use Rattle.coordinator.specs.Left.{left}
use Rattle.writable_logs.specs.RecordsSay.{has_name, names_of}
use Rattle.runs.specs.History.{collect, ending_by, records_of, flushed_of, is_completed}
use Rattle.runs.specs.World.{World}
use Rattle.runs.specs.ExactOrders.{acknowledged_orders, not_acknowledged, carried_since, Continued}
use Rattle.false_worlds.specs.ExactOrders.{Count, IsExact, FalseCount, one_early, none_carried, order_for_another, one_late, all_counted, offered_again, completed_by_three, other_position, kept_over_cut, nothing_left, false_count, TrueCount, at_once, after_one, after_both, afterwards, from_half, from_cut, from_opening, next_prepare, true_count, state_of, IsShown, showing, FalseDisplay, shows_all, keeps_over_cut, keeps_over_prepare, shows_completed, hides_flushed, hides_appended, shows_begin, false_display, TrueDisplay, of_begin, of_appended, of_flushed, of_half, of_completed, of_no_name, past_last, true_display}
use Rattle.false_worlds.specs.Histories.{with_history}
use Rattle.false_worlds.specs.Progress.{NoOrder, without_order, NotAccepted, not_accepted}
use Rattle.false_worlds.proofs.Differ.{differ, fails, above}
use Rattle.false_worlds.proofs.Progress.{no-order-given, carrying-refused}

-- ---- counts

-- two are left of the prepare, and one where half of it is acknowledged
pub false-counts : (x : FalseCount) → IsExact (false_count x) → ⊥
unfolding acknowledged_orders collect ending_by records_of find find_last count_where members same
false-counts one_early = λ e. differ 1 2 refl refl (e.completes.0 refl)
false-counts none_carried = λ e. differ 0 2 refl refl (e.completes.0 refl)
false-counts order_for_another = λ e. differ 1 2 refl refl (e.completes.0 refl)
false-counts one_late = λ e. fails (e.completes.1 refl)
false-counts all_counted = λ e. fails (e.completes.1 refl)
false-counts offered_again = λ e. fails (e.completes.1 refl)
false-counts completed_by_three = λ e. above 3 2 refl e.at_most
false-counts other_position = λ e. differ 3 2 refl refl (e.until-then refl)
false-counts kept_over_cut = λ e. differ 1 2 refl refl (e.completes.0 refl)
false-counts nothing_left = λ e. above 1 0 refl e.some_left

-- a count that has come to its end with k orders
at-end : (c : Count) (k : ℕ) → leb 1 k ≡ true → not_acknowledged c.of c.earlier ≡ k → carried_since (length c.earlier) c.of c.later ≡ k → is_completed c.later c.of ≡ true → IsExact c
at-end c k some left since done =
    let one = leb-true 1 k some in
    record { some_left = omega arith; at_most = omega arith; completes = (λ e. since ∙ sym left, λ e. done); until-then = λ e. absurd (true≢false (sym done ∙ e)) }

-- one that has carried n of them
on-the-way : (c : Count) (k n : ℕ) → ltb n k ≡ true → not_acknowledged c.of c.earlier ≡ k → carried_since (length c.earlier) c.of c.later ≡ n → is_completed c.later c.of ≡ false
    → n + not_acknowledged c.of c.later ≡ k → IsExact c
on-the-way c k n fewer left since unfinished rest =
    let less = ltb-true n k fewer in
    record {
      some_left = omega arith;
      at_most = omega arith;
      completes = (λ e. absurd (true≢false (sym e ∙ unfinished)), λ e. absurd (omega arith));
      until-then = λ e. omega arith;
    }

pub true-counts : (x : TrueCount) → IsExact (true_count x)
unfolding acknowledged_orders collect ending_by records_of find find_last count_where members same
true-counts at_once = on-the-way (true_count at_once) 2 0 refl refl refl refl refl
true-counts after_one = on-the-way (true_count after_one) 2 1 refl refl refl refl refl
true-counts after_both = at-end (true_count after_both) 2 refl refl refl refl
true-counts afterwards = at-end (true_count afterwards) 2 refl refl refl refl
true-counts from_half = at-end (true_count from_half) 1 refl refl refl refl
true-counts from_cut = at-end (true_count from_cut) 2 refl refl refl refl
true-counts from_opening = at-end (true_count from_opening) 2 refl refl refl refl
true-counts next_prepare = on-the-way (true_count next_prepare) 2 0 refl refl refl refl refl

-- ---- displays

-- the number shown, and the number left
pub false-displays : (x : FalseDisplay) → IsShown (false_display x) → ⊥
unfolding left ones acknowledged_orders has_name names_of ending_by records_of flushed_of find count_where members same
false-displays shows_all = λ e. differ 2 1 refl refl e
false-displays keeps_over_cut = λ e. differ 1 2 refl refl e
false-displays keeps_over_prepare = λ e. differ 1 2 refl refl e
false-displays shows_completed = λ e. differ 2 0 refl refl e
false-displays hides_flushed = λ e. differ 0 2 refl refl e
false-displays hides_appended = λ e. differ 0 2 refl refl e
false-displays shows_begin = λ e. differ 2 0 refl refl e

pub true-displays : (x : TrueDisplay) → IsShown (true_display x)
unfolding left ones acknowledged_orders has_name names_of ending_by records_of flushed_of find count_where members same
true-displays of_begin = refl
true-displays of_appended = refl
true-displays of_flushed = refl
true-displays of_half = refl
true-displays of_completed = refl
true-displays of_no_name = refl
true-displays past_last = refl

-- ---- an undisturbed list does not lead there

-- one early
pub count-lost : Continued (with_history (false_count one_early).earlier) (with_history (false_count one_early).later) → ⊥
unfolding records_of flushed_of find find_last filter same
count-lost = λ c. let (here, rest) = c.exactly in false-counts one_early here

-- one order is carried of two, and the display shows two
pub display-lost : Continued (with_history (true_count after_one).earlier) (showing (false_display shows_all)) → ⊥
unfolding left ones acknowledged_orders collect has_name names_of records_of flushed_of find find_last filter count_where members same
display-lost = λ c. let (here, rest) = c.displayed (state_of (false_display shows_all)) refl in differ 3 2 refl refl (here 0 refl refl)

pub order-lost : (w : World) (x : NoOrder) → Continued w (without_order x) → ⊥
order-lost w x = λ c. no-order-given x c.orders-given

pub acknowledgement-lost : (w : World) (x : NotAccepted) → Continued w (not_accepted x) → ⊥
acknowledgement-lost w x = λ c. carrying-refused x c.carrying-accepted
