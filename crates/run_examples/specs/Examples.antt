-- The examples: clauses of demand 3 on example runs, each as one test that computes.
use Rattle.std.specs.Prelude.{ℕ, Bool, ◌&&◌, List, [], ◌∷◌, ◌++◌, map, eqb, pos, length, take}
use Rattle.numbers.specs.Bytes.{same}
use Rattle.record.specs.Reading.{is_torn_rest}
use Rattle.record.specs.Record.{well_formed}
use Rattle.search.specs.Search.{all, sum_of}
use Rattle.answers.specs.Answers.{open_reply}
use Rattle.catalogue.specs.Catalogue.{parse}
use Rattle.coordinator.specs.Coordinator.{log_end}
use Rattle.coordinator.specs.Open.{opening}
use Rattle.coordinator.specs.OpenedLog.{OpenedLog}
use Rattle.log_reader.specs.Records.{frames_of}
use Rattle.server.specs.Lines.{scan_text}
use Rattle.runs.specs.History.{Order, Logged, collect, carried_in, markers_in, flushed_prepares, pending_prepares, completed_prepares, transaction}
use Rattle.runs.specs.World.{World, start, leader_at, own, another, Item, call, call_order, call_produce, call_read, deliver, cut, run}
use Rattle.coordinator.specs.Calls.{Writer, tick_call}
use Rattle.writable_logs.specs.Writer.{writes}
use Rattle.run_examples.specs.Checks.{kept, completes_in_time, for_flushed_prepare, under_its_verdict, holds_at, reads_from}
use Rattle.run_examples.specs.Runs.{buffer, length_left, opened, both, carry, reopening, prepared, straight, after_cut, after_shared, ordered_early, flushed_short, flushed_past, restarted, restarted_carried, complete_lost, complete_lost_carried, widened_early, ticked_late, ticked, ticked_carried, some_down, all_down, same_epoch, same_epoch_carried, two_prepared, two_carried, carried_late, carried_after, epoch_lowered, carried_twice, acknowledged_only, opened_later, lent_others, writer_items, gap_items, gap_records, left_records, left_rest}

pub data Example : Type 0 where
  -- one of two acknowledgements is there
  half_acknowledged : Example
  -- an order is given, and its partition answered done
  while_carrying : Example
  -- the straight run from the end of the shared list
  straight_run : Example
  -- "Giving an order once the prepare is appended, not flushed."
  order_before_flush order_before_whole_flush : Example
  -- "7 … in Flush … past the end"
  flush_past_end : Example
  -- "Letting Produce in on a widened set that isn't flushed."
  widened_not_flushed : Example
  -- "Trusting acknowledgements from before a cut."
  orders_after_restart completes_after_restart completes_again : Example
  -- "Aborting a recovered prepare because its timeout has passed."
  timeout_passed : Example
  -- a Tick aborts, and what was written stands under ABORT
  tick_aborts : Example
  -- "the lowest joined, unacknowledged, up position; else the next place"
  partitions_down : Example
  -- "which never lowers the coordinator epoch": an equal one is accepted
  equal_epoch : Example
  -- two prepares are pending at two places
  two_pending : Example
  -- between a cut inside a frame and the opening, which is accepted
  cut_inside_frame : Example
  -- the cut run from there
  cut_run : Example
  -- a run that starts from a log with records
  opened_with_records : Example
  -- "or a slice that meets 8"
  slices_that_meet8 : Example
  -- what a cut leaves could have been written, and its rest is torn
  could_have_written : Example
  -- a writer opens its log again, with another block
  writes_with_a_gap : Example
  -- Read answers the payload that stands under COMMIT, also into a slice without room
  reads_committed : Example
  -- the runs are as their descriptions say; "before the next call or cut, or never", and once
  runs_as_described : Example

-- from the first opening
abbrev pub after : List Item → World
after items = run items (start opened)

-- what is promised at a moment, computed at a later one
abbrev pub promised : World → World → Bool
promised w v = all (kept v) (flushed_prepares w.history) && completes_in_time w v && holds_at v

-- how many prepares are completed, how many entries their transactions have, how many orders were carried, and how many markers written
abbrev pub figures : World → List ℕ
figures w =
    let done = completed_prepares w.history in
    length done ∷
    sum_of (λ (p : Logged). length (transaction p w.history)) done ∷
    length (collect carried_in w.history) ∷
    length (collect markers_in w.history) ∷
    []

abbrev pub has_figures : World → ℕ → ℕ → ℕ → ℕ → Bool
has_figures w completed entries carried markers = same (figures w) (completed ∷ entries ∷ carried ∷ markers ∷ [])

abbrev pub cut_run_items : List Item
cut_run_items = cut length_left ∷ reopening ∷ after_cut

abbrev pub cut_run_end : World
cut_run_end = run cut_run_items after_shared

abbrev pub later_end : World
later_end = run (carry 4 ++ carry 6) (start opened_later)

-- what a writer leaves that opens the empty log in that buffer
abbrev pub writer_opening : OpenedLog
writer_opening = opening scan_text buffer 0 (pos 1) (pos 1000) (pos 1999)

abbrev pub writer_end : Writer
writer_end = writes scan_text writer_items (record { state = writer_opening.state; log = buffer })

abbrev pub holds : Example → Bool
holds half_acknowledged = let w = run (carry 9) (after prepared) in promised (after prepared) w
holds while_carrying =
    holds_at (run (call_order both ∷ []) (after prepared)) && holds_at (run (call_order both ∷ deliver own 9 ∷ []) (after prepared))
holds straight_run = promised after_shared (run straight after_shared)
holds order_before_flush = let w = after ordered_early in for_flushed_prepare w && under_its_verdict w
holds order_before_whole_flush = for_flushed_prepare (after flushed_short)
holds flush_past_end = holds_at (after flushed_past)
holds widened_not_flushed = holds_at (after widened_early)
holds orders_after_restart = let w = after complete_lost in eqb (length (pending_prepares w.history)) 1 && holds_at w
holds completes_after_restart = promised (after restarted) (after restarted_carried)
holds completes_again = promised (after complete_lost) (after complete_lost_carried)
holds timeout_passed = promised (after restarted) (after ticked_late)
holds tick_aborts = promised (after ticked) (after ticked_carried)
holds partitions_down = promised (after prepared) (after some_down) && holds_at (after all_down)
holds equal_epoch = let w = after same_epoch_carried in promised (after same_epoch) w && eqb (length (completed_prepares w.history)) 1
holds two_pending = let w = after two_prepared in eqb (length (pending_prepares w.history)) 2 && promised w (after two_carried)
holds cut_inside_frame = promised after_shared (run (cut length_left ∷ []) after_shared)
holds cut_run = promised after_shared cut_run_end
holds opened_with_records = promised (start opened_later) later_end
holds slices_that_meet8 = promised (after prepared) (after lent_others)
holds could_have_written =
    let frames = frames_of (parse scan_text).catalogue left_records in
    all (well_formed (parse scan_text).catalogue) left_records
    && eqb (open_reply writer_opening.answer).number 0
    && same (take (log_end writer_end.state) writer_end.log) frames
    && same (take length_left after_shared.log) (frames ++ left_rest)
    && is_torn_rest left_rest
holds writes_with_a_gap =
    let x = writes scan_text gap_items (record { state = writer_opening.state; log = buffer }) in
    same (take (log_end x.state) x.log) (frames_of (parse scan_text).catalogue gap_records)
holds reads_committed =
    let w = run straight after_shared in
    let l = leader_at w 0 in
    reads_from w 0 l 0 (0 ∷ 0 ∷ []) && reads_from w 0 l 0 [] && reads_from w 0 l 1 (0 ∷ 0 ∷ [])
holds runs_as_described =
    has_figures (run straight after_shared) 1 2 2 2
    && has_figures cut_run_end 1 2 3 2
    && has_figures (after ordered_early) 1 2 2 2
    && has_figures (after flushed_short) 0 0 0 0
    && has_figures (after restarted_carried) 1 2 2 2
    && has_figures (after complete_lost) 0 0 2 2
    && has_figures (after complete_lost_carried) 1 2 4 2
    && has_figures (after widened_early) 1 1 1 1
    && has_figures (after carried_late) 0 0 0 0
    && has_figures (after (carried_after (call (another []) (tick_call (pos 130))))) 0 0 0 0
    && has_figures (after (carried_after (call_read own 0 0 []))) 0 0 0 0
    && has_figures (after (carried_after (call_read (another []) 0 0 []))) 0 0 0 0
    && has_figures (after (carried_after (call_produce (another []) 0 [] (pos 0) (pos 0) 0 (pos 0) 0))) 0 0 0 0
    && has_figures (after (carried_after (call_order 0))) 0 0 0 0
    && has_figures (after carried_twice) 0 0 1 1
    && has_figures (after acknowledged_only) 0 0 0 0
    && has_figures (after epoch_lowered) 0 0 0 0
    && has_figures (run (carry 9) (after prepared)) 0 0 1 1
    && has_figures later_end 1 0 2 0
    && has_figures (after lent_others) 0 0 0 1
    && has_figures (after ticked_carried) 1 2 2 2
    && has_figures (after some_down) 1 2 2 2
    && same (map (λ (m : Order). m.position) (collect markers_in (after some_down).history)) (0 ∷ 1 ∷ [])
    && has_figures (after all_down) 0 0 0 0
    && has_figures (after same_epoch_carried) 1 2 2 2
    && has_figures (after two_carried) 2 3 3 3
