-- On the examples the statements themselves hold, not only their tests: both runs keep what demand 3 promises, what a cut leaves is such a log as demand 2 opens, and Read answers what stands under COMMIT.
use Prim.Native.Nat.{ℕ}
use mathlib.Core.Path.{◌≡◌, refl}
use mathlib.Core.Bool.{true, ◌&&◌}
use mathlib.Core.List.{List, [], ◌∷◌, ◌++◌}
use lib.IntN.{pos}
use lib.ListN.{take}
use borrow.Author.Tests.{eqb-true}
use Rattle.numbers.proofs.Bytes.{same_true}
use Rattle.numbers.proofs.Tests.{and_left, and_right}
use Rattle.record.specs.Record.{well_formed}
use Rattle.search.specs.Search.{all}
use Rattle.search.proofs.Each.{each-true}
use Rattle.catalogue.specs.Catalogue.{parse}
use Rattle.answers.specs.Answers.{open_reply}
use Rattle.coordinator.specs.Coordinator.{log_end}
use Rattle.log_reader.specs.Records.{frames_of}
use Rattle.server.specs.Lines.{scan_text}
use Rattle.runs.specs.History.{flushed_prepares}
use Rattle.runs.specs.World.{World, leader_at, Item, cut, run}
use Rattle.writable_logs.specs.Demand2.{Openable}
use Rattle.runs.specs.Demand3.{Kept, Promised}
use Rattle.runs.specs.InEveryRun.{ReadsFrom}
use Rattle.run_examples.specs.Checks.{kept, completes_in_time, holds_at}
use Rattle.run_examples.specs.Runs.{buffer, length_left, straight, after_shared, writer_items, left_records, left_rest}
use Rattle.run_examples.specs.Examples.{holds, promised, straight_run, cut_inside_frame, cut_run, could_have_written, reads_committed, cut_run_items, writer_opening, writer_end}
use Rattle.run_examples.proofs.Evaluated.{examples-hold}
use Rattle.run_examples.proofs.Sound.{kept-true, in-time-true, holds-true, reads-true}

-- what the tests find is promised
pub promised-true : (w : World) (items : List Item) → promised w (run items w) ≡ true → Promised w items
promised-true w items e =
    record {
      kept = each-true (Kept (run items w)) (kept (run items w)) (kept-true (run items w)) (flushed_prepares w.history) (search (and_left, and_right) depth 10);
      holds = holds-true (run items w) (and_right (all (kept (run items w)) (flushed_prepares w.history) && completes_in_time w (run items w)) (holds_at (run items w)) e);
      completes-in-time = in-time-true w items (search (and_left, and_right) depth 10);
    }

pub straight-promised : Promised after_shared straight
straight-promised = promised-true after_shared straight (examples-hold straight_run)

-- between the cut inside a frame and the opening, and to the end
pub down-promised : Promised after_shared (cut length_left ∷ [])
down-promised = promised-true after_shared (cut length_left ∷ []) (examples-hold cut_inside_frame)

pub cut-promised : Promised after_shared cut_run_items
cut-promised = promised-true after_shared cut_run_items (examples-hold cut_run)

-- what the cut left: the records could have been written, and the rest is torn
pub openable : Openable scan_text (take length_left after_shared.log) left_records left_rest
openable = go (examples-hold could_have_written)
  where
    frames : List ℕ
    frames = frames_of (parse scan_text).catalogue left_records

    go : holds could_have_written ≡ true → Openable scan_text (take length_left after_shared.log) left_records left_rest
    go e =
        record {
          bytes-are = same_true (take length_left after_shared.log) (frames ++ left_rest) (search (and_left, and_right) depth 10);
          written =
              record {
                well-formed = each-true _ (well_formed (parse scan_text).catalogue) (λ r t. t) left_records (search (and_left, and_right) depth 10);
                start =
                    record {
                      log = buffer;
                      epoch = pos 1;
                      first = pos 1000;
                      last = pos 1999;
                      typed = refl;
                      accepted = eqb-true (open_reply writer_opening.answer).number 0 (search (and_left, and_right) depth 10);
                    };
                items = writer_items;
                left = same_true (take (log_end writer_end.state) writer_end.log) frames (search (and_left, and_right) depth 10);
              };
          torn = search (and_left, and_right) depth 10;
        }

-- Read of partition 0 from its first entry on, into two words
pub read-committed : ReadsFrom (run straight after_shared) 0 (leader_at (run straight after_shared) 0) 0 (0 ∷ 0 ∷ [])
read-committed = go (examples-hold reads_committed)
  where
    go : holds reads_committed ≡ true → ReadsFrom (run straight after_shared) 0 (leader_at (run straight after_shared) 0) 0 (0 ∷ 0 ∷ [])
    go e = reads-true (run straight after_shared) 0 (leader_at (run straight after_shared) 0) 0 (0 ∷ 0 ∷ []) (search (and_left, and_right) depth 10)
