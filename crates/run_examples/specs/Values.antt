-- What the history's definitions say of example runs: two transactions of one name, two names, a prepare that is not flushed or is lost, and orders given
-- again after a cut.
use Rattle.std.specs.Prelude.{ℕ, ◌+◌, ◌≤◌, ◌≡◌, true, List, [], ◌∷◌, ◌++◌, map, pos}
use Rattle.std.proofs.Math.Option.{Option, none, some}
use Rattle.numbers.specs.Signed.{to_nat}
use Rattle.search.specs.Search.{filter, Each}
use Rattle.server.specs.Lines.{rig7}
use Rattle.coordinator.specs.Calls.{init_call, end_call}
use Rattle.runs.specs.History.{Order, Produced, given_in, markers_in, collect, WithBefore, number_of, History, Logged, records_of, is_flushed, next_of, is_prepare, flushed_prepares, listed, is_completed, completed_prepares, pending_prepares, transaction, marker_over, carried_for, markers_for}
use Rattle.runs.specs.Completing.{orders_left}
use Rattle.runs.specs.World.{World, catalogue_of, own, Item, call, call_order, call_produce, deliver, acknowledge, cut, run, Phase, up, down}
use Rattle.runs.specs.Demand3.{Undisturbed}
use Rattle.run_examples.specs.Runs.{join, ending, flushing, carry, reopening, beginning, prepared, complete_lost, complete_lost_carried, two_prepared, two_carried}

-- ---- the runs

-- a commit of both partitions is completed, and a transaction of partition 0 is aborted by End: the log ends at 382, and the next event is 22
abbrev pub two_in_turn : List Item
two_in_turn =
    prepared
    ++ carry 9
    ++ carry 12
    ++ (flushing 248 ∷
    join 1 ∷
    flushing 315 ∷
    call_produce own 0 rig7 (pos 1000) (pos 0) 0 (pos 1) 502 ∷
    call own (end_call rig7 (pos 1000) (pos 0) 1 (pos 130)) ∷
    flushing 382 ∷
    [])

-- of two names with a prepare each, the first order is given to its partition and not acknowledged, and the next is given
abbrev pub two_under_way : List Item
two_under_way = two_prepared ++ (call_order 1 ∷ deliver own 14 ∷ call_order 2 ∷ [])

-- of the same two, the first order of the one name is carried, and the order of the other is given to its partition and not acknowledged
abbrev pub both_under_way : List Item
both_under_way = two_prepared ++ (call_order 1 ∷ deliver own 14 ∷ acknowledge own 14 ∷ call_order 1 ∷ deliver own 17 ∷ [])

-- a prepare that is appended and not flushed, and flushed up to one byte before its end
abbrev pub not_flushed : List Item
not_flushed = beginning ++ (ending ∷ [])

abbrev pub short_of_it : List Item
short_of_it = not_flushed ++ (flushing 194 ∷ [])

-- that prepare is lost in a cut, and an Init appends one of ABORT, which is flushed
abbrev pub prepared_anew : List Item
prepared_anew = not_flushed ++ (cut 124 ∷ reopening ∷ call own (init_call rig7 (pos 60000) (pos 130)) ∷ flushing 195 ∷ [])

-- both orders of a prepare are carried, and a cut takes the complete record; no opening has come yet
abbrev pub cut_off : List Item
cut_off = prepared ++ carry 9 ++ carry 12 ++ (cut 195 ∷ [])

-- ---- what is said of them

abbrev pub numbers : List Logged → List ℕ
numbers records = map (λ (x : Logged). x.number) records

-- the number of a record, and 0 where there is none
abbrev pub number_or_none : Option Logged → ℕ
number_or_none none = 0
number_or_none (some x) = x.number

-- the verdict of a marker, and 9 where there is none
abbrev pub verdict_or_none : Option Order → ℕ
verdict_or_none none = 9
verdict_or_none (some m) = m.verdict

-- all prepares, flushed or not
abbrev pub prepares_of : History → List Logged
prepares_of h = filter (λ (x : Logged). is_prepare x.content.status) (records_of h)

-- numbers of events, newest first
pub record Facts : Type 0 where
  -- records that stand, and those of them that are flushed
  pub records : List ℕ
  pub flushed : List ℕ
  -- prepares: flushed, completed, and pending
  pub prepares : List ℕ
  pub completed : List ℕ
  pub pending : List ℕ
  -- of each prepare, flushed or not: its transaction's entries and the verdicts that these stand under, the next record of the name, the partitions
  -- listed, and the orders carried for it
  pub entries : List (List ℕ)
  pub verdicts : List (List ℕ)
  pub nexts : List ℕ
  pub listing : List ℕ
  pub carried : List ℕ
  -- of each order given: the record that it is for, its place, position and coordinator epoch
  pub given : List (List ℕ)
  -- of each marker written: the record that it is for, its position, and how many there are for that record at that position
  pub markers : List (List ℕ)

abbrev pub facts_of : History → Facts
facts_of h =
    record {
      records = numbers (records_of h);
      flushed = numbers (filter (is_flushed h) (records_of h));
      prepares = numbers (flushed_prepares h);
      completed = numbers (completed_prepares h);
      pending = numbers (pending_prepares h);
      entries = map (λ (p : Logged). map (λ (e : WithBefore Produced). number_of e) (transaction p h)) (prepares_of h);
      verdicts = map (λ (p : Logged). map (λ (e : WithBefore Produced). verdict_or_none (marker_over h e)) (transaction p h)) (prepares_of h);
      nexts = map (λ (p : Logged). number_or_none (next_of p h)) (prepares_of h);
      listing = map listed (prepares_of h);
      carried = map (λ (p : Logged). carried_for p h) (prepares_of h);
      given = map (λ (o : Order). o.for ∷ o.place ∷ o.position ∷ to_nat o.coordinator ∷ []) (collect given_in h);
      markers = map (λ (o : Order). o.for ∷ o.position ∷ markers_for o h ∷ []) (collect markers_in h);
    }

-- ---- the table

pub data Moment : Type 0 where
  unflushed_prepare short_flush flushed_prepare lost_prepare : Moment
  second_transaction orders_under_way orders_of_both both_completed : Moment
  complete_cut complete_lost_then carried_again : Moment

abbrev pub items_to : Moment → List Item
items_to unflushed_prepare = not_flushed
items_to short_flush = short_of_it
items_to flushed_prepare = prepared
items_to lost_prepare = prepared_anew
items_to second_transaction = two_in_turn
items_to orders_under_way = two_under_way
items_to orders_of_both = both_under_way
items_to both_completed = two_carried
items_to complete_cut = cut_off
items_to complete_lost_then = complete_lost
items_to carried_again = complete_lost_carried

-- the orders that are left at each of these moments: one for each partition of a flushed prepare that is not acknowledged
abbrev pub left_at : Phase → ℕ
left_at (up s) = orders_left s
left_at (down n epoch) = 0

abbrev pub expected_left : Moment → ℕ
expected_left unflushed_prepare = 0
expected_left short_flush = 0
expected_left flushed_prepare = 2
expected_left lost_prepare = 2
expected_left second_transaction = 1
expected_left orders_under_way = 3
expected_left orders_of_both = 2
expected_left both_completed = 0
expected_left complete_cut = 0
expected_left complete_lost_then = 2
expected_left carried_again = 0

-- of events 0 opening, 1 EMPTY, 3 BEGIN, 5 and 6 entries, 7 prepare: it is appended and not flushed
abbrev pub facts_unflushed : Facts
facts_unflushed =
    record {
      records = 7 ∷ 3 ∷ 1 ∷ [];
      flushed = 3 ∷ 1 ∷ [];
      prepares = [];
      completed = [];
      pending = [];
      entries = (6 ∷ 5 ∷ []) ∷ [];
      verdicts = (9 ∷ 9 ∷ []) ∷ [];
      nexts = 0 ∷ [];
      listing = 2 ∷ [];
      carried = 0 ∷ [];
      given = [];
      markers = [];
    }

-- 9 and 12 orders, 10 and 13 markers, 15 complete: the cut undoes 15, and with it the completion
abbrev pub facts_cut : Facts
facts_cut =
    record {
      records = 7 ∷ 3 ∷ 1 ∷ [];
      flushed = 7 ∷ 3 ∷ 1 ∷ [];
      prepares = 7 ∷ [];
      completed = [];
      pending = 7 ∷ [];
      entries = (6 ∷ 5 ∷ []) ∷ [];
      verdicts = (0 ∷ 0 ∷ []) ∷ [];
      nexts = 0 ∷ [];
      listing = 2 ∷ [];
      carried = 2 ∷ [];
      given = (7 ∷ 0 ∷ 1 ∷ 1 ∷ []) ∷ (7 ∷ 0 ∷ 0 ∷ 1 ∷ []) ∷ [];
      markers = (7 ∷ 1 ∷ 1 ∷ []) ∷ (7 ∷ 0 ∷ 1 ∷ []) ∷ [];
    }

abbrev pub expected_facts : Moment → Facts
expected_facts unflushed_prepare = facts_unflushed
expected_facts short_flush = facts_unflushed
expected_facts flushed_prepare =
    record {
      records = 7 ∷ 3 ∷ 1 ∷ [];
      flushed = 7 ∷ 3 ∷ 1 ∷ [];
      prepares = 7 ∷ [];
      completed = [];
      pending = 7 ∷ [];
      entries = (6 ∷ 5 ∷ []) ∷ [];
      verdicts = (9 ∷ 9 ∷ []) ∷ [];
      nexts = 0 ∷ [];
      listing = 2 ∷ [];
      carried = 0 ∷ [];
      given = [];
      markers = [];
    }
-- 7 is lost in the cut, event 8; the entries are of the transaction of 10
expected_facts lost_prepare =
    record {
      records = 10 ∷ 3 ∷ 1 ∷ [];
      flushed = 10 ∷ 3 ∷ 1 ∷ [];
      prepares = 10 ∷ [];
      completed = [];
      pending = 10 ∷ [];
      entries = (6 ∷ 5 ∷ []) ∷ [];
      verdicts = (9 ∷ 9 ∷ []) ∷ [];
      nexts = 0 ∷ [];
      listing = 2 ∷ [];
      carried = 0 ∷ [];
      given = [];
      markers = [];
    }
-- 9 and 12 orders, 10 and 13 markers, 15 complete; 17 BEGIN, 19 entry, 20 the second prepare, whose transaction has that entry alone
expected_facts second_transaction =
    record {
      records = 20 ∷ 17 ∷ 15 ∷ 7 ∷ 3 ∷ 1 ∷ [];
      flushed = 20 ∷ 17 ∷ 15 ∷ 7 ∷ 3 ∷ 1 ∷ [];
      prepares = 20 ∷ 7 ∷ [];
      completed = 7 ∷ [];
      pending = 20 ∷ [];
      entries = (19 ∷ []) ∷ (6 ∷ 5 ∷ []) ∷ [];
      verdicts = (9 ∷ []) ∷ (0 ∷ 0 ∷ []) ∷ [];
      nexts = 0 ∷ 15 ∷ [];
      listing = 1 ∷ 2 ∷ [];
      carried = 0 ∷ 2 ∷ [];
      given = (7 ∷ 0 ∷ 1 ∷ 1 ∷ []) ∷ (7 ∷ 0 ∷ 0 ∷ 1 ∷ []) ∷ [];
      markers = (7 ∷ 1 ∷ 1 ∷ []) ∷ (7 ∷ 0 ∷ 1 ∷ []) ∷ [];
    }
-- 5 and 6 BEGIN of two names, 8, 9 and 10 entries, 11 and 12 prepares; 14 and 16 orders for the first, one of them marked
expected_facts orders_under_way =
    record {
      records = 12 ∷ 11 ∷ 6 ∷ 5 ∷ 3 ∷ 1 ∷ [];
      flushed = 12 ∷ 11 ∷ 6 ∷ 5 ∷ 3 ∷ 1 ∷ [];
      prepares = 12 ∷ 11 ∷ [];
      completed = [];
      pending = 12 ∷ 11 ∷ [];
      entries = (10 ∷ []) ∷ (9 ∷ 8 ∷ []) ∷ [];
      verdicts = (9 ∷ []) ∷ (9 ∷ 0 ∷ []) ∷ [];
      nexts = 0 ∷ 0 ∷ [];
      listing = 1 ∷ 2 ∷ [];
      carried = 0 ∷ 0 ∷ [];
      given = (11 ∷ 0 ∷ 1 ∷ 1 ∷ []) ∷ (11 ∷ 0 ∷ 0 ∷ 1 ∷ []) ∷ [];
      markers = (11 ∷ 0 ∷ 1 ∷ []) ∷ [];
    }
-- 14 the order for the first, which is carried, 17 that for the second, which is marked: ABORT, under which the entry 10 stands; both are at partition 0
expected_facts orders_of_both =
    record {
      records = 12 ∷ 11 ∷ 6 ∷ 5 ∷ 3 ∷ 1 ∷ [];
      flushed = 12 ∷ 11 ∷ 6 ∷ 5 ∷ 3 ∷ 1 ∷ [];
      prepares = 12 ∷ 11 ∷ [];
      completed = [];
      pending = 12 ∷ 11 ∷ [];
      entries = (10 ∷ []) ∷ (9 ∷ 8 ∷ []) ∷ [];
      verdicts = (1 ∷ []) ∷ (9 ∷ 0 ∷ []) ∷ [];
      nexts = 0 ∷ 0 ∷ [];
      listing = 1 ∷ 2 ∷ [];
      carried = 0 ∷ 1 ∷ [];
      given = (12 ∷ 1 ∷ 0 ∷ 1 ∷ []) ∷ (11 ∷ 0 ∷ 0 ∷ 1 ∷ []) ∷ [];
      markers = (12 ∷ 0 ∷ 1 ∷ []) ∷ (11 ∷ 0 ∷ 1 ∷ []) ∷ [];
    }
-- all three carried: 20 completes the commit, 24 the abort of the other name
expected_facts both_completed =
    record {
      records = 24 ∷ 20 ∷ 12 ∷ 11 ∷ 6 ∷ 5 ∷ 3 ∷ 1 ∷ [];
      flushed = 12 ∷ 11 ∷ 6 ∷ 5 ∷ 3 ∷ 1 ∷ [];
      prepares = 12 ∷ 11 ∷ [];
      completed = 12 ∷ 11 ∷ [];
      pending = [];
      entries = (10 ∷ []) ∷ (9 ∷ 8 ∷ []) ∷ [];
      verdicts = (1 ∷ []) ∷ (0 ∷ 0 ∷ []) ∷ [];
      nexts = 24 ∷ 20 ∷ [];
      listing = 1 ∷ 2 ∷ [];
      carried = 1 ∷ 2 ∷ [];
      given = (12 ∷ 1 ∷ 0 ∷ 1 ∷ []) ∷ (11 ∷ 0 ∷ 1 ∷ 1 ∷ []) ∷ (11 ∷ 0 ∷ 0 ∷ 1 ∷ []) ∷ [];
      markers = (12 ∷ 0 ∷ 1 ∷ []) ∷ (11 ∷ 1 ∷ 1 ∷ []) ∷ (11 ∷ 0 ∷ 1 ∷ []) ∷ [];
    }
expected_facts complete_cut = facts_cut
expected_facts complete_lost_then = facts_cut
-- both orders are given again, with the next coordinator epoch; their markers write no entry, and 22 completes
expected_facts carried_again =
    record {
      records = 22 ∷ 7 ∷ 3 ∷ 1 ∷ [];
      flushed = 7 ∷ 3 ∷ 1 ∷ [];
      prepares = 7 ∷ [];
      completed = 7 ∷ [];
      pending = [];
      entries = (6 ∷ 5 ∷ []) ∷ [];
      verdicts = (0 ∷ 0 ∷ []) ∷ [];
      nexts = 22 ∷ [];
      listing = 2 ∷ [];
      carried = 4 ∷ [];
      given = (7 ∷ 0 ∷ 1 ∷ 2 ∷ []) ∷ (7 ∷ 0 ∷ 0 ∷ 2 ∷ []) ∷ (7 ∷ 0 ∷ 1 ∷ 1 ∷ []) ∷ (7 ∷ 0 ∷ 0 ∷ 1 ∷ []) ∷ [];
      markers = (7 ∷ 1 ∷ 1 ∷ []) ∷ (7 ∷ 0 ∷ 1 ∷ []) ∷ [];
    }

-- ---- the premise of progress

-- a prepare is pending at a moment, nothing disturbs the list, as many orders for it are carried in it as it lists partitions, and then it is completed
pub record PremiseMet (w : World) (items : List Item) (number : ℕ) : Type 0 where
  pub undisturbed : Each (Undisturbed (catalogue_of w).all) items
  pub pending : numbers (pending_prepares w.history) ≡ number ∷ []
  pub enough : Each (λ (p : Logged). carried_for p w.history + listed p ≤ carried_for p (run items w).history) (pending_prepares w.history)
  pub completes : Each (λ (p : Logged). is_completed (run items w).history p ≡ true) (pending_prepares w.history)
