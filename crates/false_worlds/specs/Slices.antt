-- Worlds in which refusal 8 is met by the wrong slices, or Read answers what the history does not have, one for each way.
use Rattle.std.specs.Prelude.{ℕ, true, List, [], ◌∷◌, replicate}
use Rattle.record.specs.declared.Status.TheVariants.{Begin}
use Rattle.coordinator.specs.Open.{blank_state}
use Rattle.partition.specs.Partition.{open_partition}
use Rattle.partition.specs.declared.Producer.{Producer}
use Rattle.server.specs.Calls.{Server}
use Rattle.runs.specs.History.{History, marker_written, entry_written}
use Rattle.runs.specs.World.{World, up, nothing}
use Rattle.false_worlds.specs.Histories.{begun, order7, entry7, state, row_in, leader_of, world_of}

pub data WrongSlice : Type 0 where
  -- a log buffer of another length is taken; its own is refused because the reserve is spent
  other_log own_log : WrongSlice
  -- the same of a partition slice
  other_words own_words : WrongSlice

-- a producer whose transaction is open
abbrev pub opened : Producer
opened = record { pid = 1000; epoch = 0; sequence = 0; ongoing = true; first = 0 }

abbrev pub wrong_slice : WrongSlice → World
wrong_slice other_log = world_of (replicate 4 0) (up (state [] 0 0 5)) [] nothing []
wrong_slice own_log = world_of (replicate 4 0) (up (state (row_in Begin 1 0 ∷ []) 0 0 4)) [] nothing []
wrong_slice other_words =
    world_of [] (up blank_state) (record { partition = record { room = 5; end = 0; producers = []; coordinator = 0 }; words = replicate 4 0 } ∷ []) nothing []
wrong_slice own_words = world_of [] (up blank_state) (leader_of (replicate 4 0) 1 (opened ∷ []) 0 ∷ []) nothing []

-- servers that refuse the length that they were opened with, because the reserve is spent
pub data SpentServer : Type 0 where
  spent_log spent_words : SpentServer

abbrev pub spent_server : SpentServer → Server
spent_server spent_log =
    record { coordinator = state (row_in Begin 1 0 ∷ []) 0 0 4; log = replicate 4 0; partition = open_partition 0; words = []; out = [] }
spent_server spent_words =
    record {
      coordinator = blank_state;
      log = [];
      partition = record { room = 4; end = 1; producers = opened ∷ []; coordinator = 0 };
      words = replicate 4 0;
      out = [];
    }

pub data WrongRead : Type 0 where
  -- Read finds a COMMIT that was not written, another verdict, or no marker where one was
  made_up_marker other_marker missed_marker : WrongRead
  -- an entry without a marker lies below the stable end: its transaction is taken for over
  unsettled : WrongRead
  -- a made-up count, and a made-up payload
  made_up_count made_up_payload : WrongRead
  -- a made-up payload of the second entry, read from there
  later_payload : WrongRead

-- partition 0 with these entries and no open transaction
abbrev pub read_of : List ℕ → ℕ → History → World
read_of words end h = world_of [] (up blank_state) (leader_of words end [] 1 ∷ []) nothing h

-- an entry, and it under COMMIT
abbrev pub entry_words : List ℕ
entry_words = 1000 ∷ 0 ∷ 0 ∷ 501 ∷ []

abbrev pub committed_words : List ℕ
committed_words = 1000 ∷ 0 ∷ 0 ∷ 501 ∷ 1000 ∷ 1 ∷ 1 ∷ 0 ∷ []

abbrev pub wrong_read : WrongRead → World
wrong_read made_up_marker = read_of committed_words 2 (entry_written (entry7 0 0 501 0) ∷ begun)
wrong_read other_marker = read_of committed_words 2 (marker_written (order7 4 1000 0 1 0) ∷ entry_written (entry7 0 0 501 0) ∷ begun)
wrong_read missed_marker = read_of entry_words 1 (marker_written (order7 4 1000 0 0 0) ∷ entry_written (entry7 0 0 501 0) ∷ begun)
wrong_read unsettled = read_of entry_words 1 (entry_written (entry7 0 0 501 0) ∷ begun)
wrong_read made_up_count = read_of committed_words 2 begun
wrong_read made_up_payload = read_of committed_words 2 (marker_written (order7 4 1000 0 0 0) ∷ entry_written (entry7 0 0 502 0) ∷ begun)
wrong_read later_payload =
    read_of (1000 ∷ 0 ∷ 0 ∷ 501 ∷ 1000 ∷ 0 ∷ 1 ∷ 502 ∷ 1000 ∷ 1 ∷ 1 ∷ 0 ∷ []) 3
    (marker_written (order7 4 1000 0 0 0) ∷ entry_written (entry7 0 1 503 1) ∷ entry_written (entry7 0 0 501 0) ∷ begun)
