-- Moments of runs with what a display shows at each of them, and from one moment to a later one the orders that a prepare had left and those carried since.
use Rattle.std.specs.Prelude.{ℕ, cond, List, [], ◌∷◌, ◌++◌, map, length}
use Rattle.coordinator.specs.Left.{left}
use Rattle.runs.specs.History.{History, Logged, pending_prepares, is_completed}
use Rattle.runs.specs.ExactOrders.{not_acknowledged, shown_at, carried_since}
use Rattle.runs.specs.World.{Phase, up, down, World, own, another, Item, call_order, deliver, acknowledge, cut, run}
use Rattle.run_examples.specs.Runs.{both, carry, reopening, beginning, ending, prepared, ticked, two_prepared, complete_lost}
use Rattle.run_examples.specs.Examples.{after}

-- ---- moments

-- the first order of the prepare is given; its partition has answered done
abbrev ordered : List Item
ordered = prepared ++ (call_order both ∷ [])

abbrev delivered : List Item
delivered = ordered ++ (deliver own 9 ∷ [])

-- it is carried
abbrev pub half : List Item
half = prepared ++ carry 9

-- then a cut behind the prepare, and an opening
abbrev pub half_cut : List Item
half_cut = half ++ (cut 195 ∷ [])

abbrev half_restarted : List Item
half_restarted = half_cut ++ (reopening ∷ [])

pub data Moment : Type 0 where
  -- BEGIN; the prepare is appended; flushed; an abort is, which a Tick appended
  begun prepare_appended prepare_flushed abort_flushed : Moment
  -- an order is given; delivered; acknowledged; its Ack is lent another slice and meets 8
  order_given order_delivered order_acknowledged ack_refused : Moment
  -- both are acknowledged; then a cut takes the complete record
  completed complete_lost_by_cut : Moment
  -- one is acknowledged, and the log is opened anew
  restarted : Moment
  -- `rig7` has two partitions left and `lab3` one; the first order of `rig7` is carried
  two_places first_of_two : Moment

abbrev pub items_of : Moment → List Item
items_of begun = beginning
items_of prepare_appended = beginning ++ (ending ∷ [])
items_of prepare_flushed = prepared
items_of abort_flushed = ticked
items_of order_given = ordered
items_of order_delivered = delivered
items_of order_acknowledged = half
items_of ack_refused = delivered ++ (acknowledge (another []) 9 ∷ [])
items_of completed = half ++ carry 12
items_of complete_lost_by_cut = complete_lost
items_of restarted = half_restarted
items_of two_places = two_prepared
items_of first_of_two = two_prepared ++ carry 14

-- what the display shows of places 0, 1, 31 and 32, the first past the last
abbrev pub displays : Phase → List ℕ
displays (up s) = left s 0 ∷ left s 1 ∷ left s 31 ∷ left s 32 ∷ []
displays (down n before) = []

-- what the history says of them
abbrev pub shown : History → List ℕ
shown h = shown_at h 0 ∷ shown_at h 1 ∷ shown_at h 31 ∷ shown_at h 32 ∷ []

abbrev pub expected_displays : Moment → List ℕ
expected_displays begun = 0 ∷ 0 ∷ 0 ∷ 0 ∷ []
expected_displays prepare_appended = 2 ∷ 0 ∷ 0 ∷ 0 ∷ []
expected_displays prepare_flushed = 2 ∷ 0 ∷ 0 ∷ 0 ∷ []
expected_displays abort_flushed = 2 ∷ 0 ∷ 0 ∷ 0 ∷ []
expected_displays order_given = 2 ∷ 0 ∷ 0 ∷ 0 ∷ []
expected_displays order_delivered = 2 ∷ 0 ∷ 0 ∷ 0 ∷ []
expected_displays order_acknowledged = 1 ∷ 0 ∷ 0 ∷ 0 ∷ []
expected_displays ack_refused = 2 ∷ 0 ∷ 0 ∷ 0 ∷ []
expected_displays completed = 0 ∷ 0 ∷ 0 ∷ 0 ∷ []
expected_displays complete_lost_by_cut = 2 ∷ 0 ∷ 0 ∷ 0 ∷ []
expected_displays restarted = 2 ∷ 0 ∷ 0 ∷ 0 ∷ []
expected_displays two_places = 2 ∷ 1 ∷ 0 ∷ 0 ∷ []
expected_displays first_of_two = 1 ∷ 1 ∷ 0 ∷ 0 ∷ []

-- ---- from one moment to a later one

pub data Window : Type 0 where
  -- from the flushed prepare on: one order is carried, and both
  one_of_two two_of_two : Window
  -- "counted at their Acks": from between a Marker and its Ack, to that Ack; from after it, to the next
  from_marker from_ack : Window
  -- half of it was acknowledged before a cut: from the cut on, and from the opening on, both are carried
  from_cut from_opening : Window
  -- two prepares are pending, and the first two orders are for the first
  of_two_places : Window

abbrev pub earlier_of : Window → List Item
earlier_of one_of_two = prepared
earlier_of two_of_two = prepared
earlier_of from_marker = delivered
earlier_of from_ack = half
earlier_of from_cut = half_cut
earlier_of from_opening = half_restarted
earlier_of of_two_places = two_prepared

abbrev pub later_of : Window → List Item
later_of one_of_two = carry 9
later_of two_of_two = carry 9 ++ carry 12
later_of from_marker = acknowledge own 9 ∷ []
later_of from_ack = carry 12
later_of from_cut = reopening ∷ carry 14 ++ carry 16
later_of from_opening = carry 14 ++ carry 16
later_of of_two_places = carry 14 ++ carry 17

-- of each prepare that is pending at the earlier moment: its partitions not acknowledged then, its orders carried since, whether it is completed, and its
-- partitions not acknowledged now
abbrev pub counts : World → World → List (List ℕ)
counts w v =
    map
    (λ (p : Logged).
    not_acknowledged p w.history ∷
    carried_since (length w.history) p v.history ∷
    cond (is_completed v.history p) 1 0 ∷
    not_acknowledged p v.history ∷
    [])
    (pending_prepares w.history)

abbrev pub window_counts : Window → List (List ℕ)
window_counts x = let w = after (earlier_of x) in counts w (run (later_of x) w)

-- newest prepare first
abbrev pub expected_counts : Window → List (List ℕ)
expected_counts one_of_two = (2 ∷ 1 ∷ 0 ∷ 1 ∷ []) ∷ []
expected_counts two_of_two = (2 ∷ 2 ∷ 1 ∷ 0 ∷ []) ∷ []
expected_counts from_marker = (2 ∷ 1 ∷ 0 ∷ 1 ∷ []) ∷ []
expected_counts from_ack = (1 ∷ 1 ∷ 1 ∷ 0 ∷ []) ∷ []
expected_counts from_cut = (2 ∷ 2 ∷ 1 ∷ 0 ∷ []) ∷ []
expected_counts from_opening = (2 ∷ 2 ∷ 1 ∷ 0 ∷ []) ∷ []
expected_counts of_two_places = (1 ∷ 0 ∷ 0 ∷ 1 ∷ []) ∷ (2 ∷ 2 ∷ 1 ∷ 0 ∷ []) ∷ []
