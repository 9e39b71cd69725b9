-- Records that the server could not have written, offsets that are not that of the first bad frame, and a buffer that lacks its reserve.
use Rattle.std.specs.Prelude.{ℕ, List, [], ◌∷◌}
use Rattle.record.specs.declared.Record.{Record}
use Rattle.record.specs.declared.Status.TheVariants.{Begin, PrepareCommit, CompleteCommit, CompleteAbort}
use Rattle.log_reader.specs.Records.{frames_of}
use Rattle.false_worlds.specs.Histories.{record_at}
use Rattle.false_worlds.specs.Tables.{scans, empty7, given3}

-- EMPTY of `rig7` and its BEGIN of one partition, both at 110
abbrev pub begins7 : List Record
begins7 = record_at Begin 1000 0 1 110 ∷ empty7 ∷ []

-- ---- records that are well formed, each by itself, and that no list of calls writes; the newest comes first

pub data OutOfTurn : Type 0 where
  -- a BEGIN comes first; a COMPLETE comes without a prepare; it is of the other verdict; a prepare has another set
  begin_first not_prepared other_verdict other_set : OutOfTurn
  -- an EMPTY comes twice; a pid is given to two names; a last update falls
  same_again pid_of_another update_falls : OutOfTurn

abbrev pub out_of_turn : OutOfTurn → List Record
out_of_turn begin_first = record_at Begin 1000 0 1 110 ∷ []
out_of_turn not_prepared = record_at CompleteCommit 1000 0 0 120 ∷ begins7
out_of_turn other_verdict = record_at CompleteAbort 1000 0 0 130 ∷ record_at PrepareCommit 1000 0 1 120 ∷ begins7
out_of_turn other_set = record_at PrepareCommit 1000 0 3 120 ∷ begins7
out_of_turn same_again = empty7 ∷ empty7 ∷ []
out_of_turn pid_of_another = given3 1000 115 ∷ empty7 ∷ []
out_of_turn update_falls = given3 1001 109 ∷ empty7 ∷ []

-- ---- offsets, of a log whose second frame is bad, at 53, since its last update falls; the frame behind it starts at 106

abbrev pub bad_second : List ℕ
bad_second = frames_of scans (given3 1002 115 ∷ given3 1001 109 ∷ empty7 ∷ [])

pub data OtherOffset : Type 0 where
  -- of the good frame before; made up; of the frame behind; of the log's end
  frame_before made_up frame_behind logs_end : OtherOffset

abbrev pub offset_of : OtherOffset → ℕ
offset_of frame_before = 0
offset_of made_up = 60
offset_of frame_behind = 106
offset_of logs_end = 159
