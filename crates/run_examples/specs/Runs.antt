-- Example runs: a commit over two partitions that a restart splits, with a cut inside a frame; and, for each reading that tempts, a run in which it would do harm.
use Rattle.std.specs.Prelude.{ℕ, List, [], ◌∷◌, ◌++◌, map, pos, negsuc, take, drop, replicate}
use Rattle.numbers.specs.Padded.{padded}
use Rattle.record.specs.Limits.{name_max}
use Rattle.record.specs.declared.Record.{Record}
use Rattle.record.specs.declared.Status.TheVariants.{Empty}
use Rattle.server.specs.Lines.{rig7, scan_text, lab3}
use Rattle.runs.specs.History.{records_of, contents}
use Rattle.coordinator.specs.Calls.{init_call, add_call, end_call, tick_call, flush_call}
use Rattle.runs.specs.World.{World, FirstOpening, start, own, another, Item, call, call_order, call_produce, call_read, deliver, acknowledge, cut, reopen, run}
use Rattle.writable_logs.specs.Writer.{WriterItem, call as by_writer, restart}

-- a log buffer
abbrev pub buffer : List ℕ
buffer = replicate 2800 0

-- the empty log in it, and room for four entries at each partition
abbrev pub opened : FirstOpening
opened =
    record {
      text = scan_text;
      log = buffer;
      length = 0;
      epoch = pos 1;
      first = pos 1000;
      last = pos 1999;
      words = replicate 16 0 ∷ replicate 16 0 ∷ [];
    }

-- both partitions
abbrev pub both : ℕ
both = 3

-- ---- items of `rig7`, which has pid 1000 and epoch 0

-- Add of a set
abbrev pub join : ℕ → Item
join set = call own (add_call rig7 (pos 1000) (pos 0) set (pos 110))

-- its first entry at a partition
abbrev pub put : ℕ → Item
put position = call_produce own 0 rig7 (pos 1000) (pos 0) position (pos 0) 501

-- End with COMMIT
abbrev pub ending : Item
ending = call own (end_call rig7 (pos 1000) (pos 0) 0 (pos 120))

-- Flush of this length
abbrev pub flushing : ℕ → Item
flushing n = call own (flush_call n)

-- Order with both partitions up, and the order of this event carried
abbrev pub carry : ℕ → List Item
carry i = call_order both ∷ deliver own i ∷ acknowledge own i ∷ []

-- an opening with the next coordinator epoch
abbrev pub reopening : Item
reopening = reopen (pos 2) (pos 1000) (pos 1999)

-- ---- a commit that a restart splits

-- Init, flushed: the log ends at 53, and the next event is 3
abbrev pub initialized : List Item
initialized = call own (init_call rig7 (pos 60000) (pos 100)) ∷ flushing 53 ∷ []

-- Add of both partitions, flushed, and an entry at each: the log ends at 124, and the next event is 7
abbrev pub beginning : List Item
beginning = initialized ++ (join both ∷ flushing 124 ∷ put 0 ∷ put 1 ∷ [])

-- End, flushed: the log ends at 195, and the next event is 9
abbrev pub prepared : List Item
prepared = beginning ++ (ending ∷ flushing 195 ∷ [])

-- the order for partition 0 is carried, and Init of `lab3` is appended and not flushed: the log ends at 248, and the next event is 13
abbrev pub shared : List Item
shared = prepared ++ carry 9 ++ (call own (init_call lab3 (pos 60000) (pos 130)) ∷ [])

-- the straight run: the order for partition 1 is carried, which completes the transaction
abbrev pub straight : List Item
straight = carry 13

-- the length that the cut leaves
abbrev pub length_left : ℕ
length_left = 220

-- the cut run: 25 bytes of the frame of `lab3` are left, and both orders are carried anew
abbrev pub after_cut : List Item
after_cut = carry 15 ++ carry 17

-- the end of the shared list
abbrev pub after_shared : World
after_shared = run shared (start opened)

-- ---- the same log by a writer without partitions

-- the calls that leave the first three records
abbrev pub writer_items : List WriterItem
writer_items =
    map by_writer
    (init_call rig7 (pos 60000) (pos 100) ∷
    flush_call 53 ∷
    add_call rig7 (pos 1000) (pos 0) both (pos 110) ∷
    flush_call 124 ∷
    end_call rig7 (pos 1000) (pos 0) 0 (pos 120) ∷
    [])

-- two Inits, and between them an opening with another block: the pids have a gap
abbrev pub gap_items : List WriterItem
gap_items =
    by_writer (init_call rig7 (pos 60000) (pos 100)) ∷
    by_writer (flush_call 53) ∷
    restart 53 (pos 2) (pos 1500) (pos 1500) ∷
    by_writer (init_call lab3 (pos 60000) (pos 110)) ∷
    []

-- EMPTY of a name with a new pid
abbrev pub empty_of : List ℕ → ℕ → ℕ → Record
empty_of name pid updated =
    record {
      name = padded name_max name;
      pid = pos pid;
      epoch = pos 0;
      timeout = pos 60000;
      status = Empty;
      joined = 0;
      updated = pos updated;
      start = negsuc 0;
    }

-- the records that these leave, the newest first
abbrev pub gap_records : List Record
gap_records = empty_of lab3 1500 110 ∷ empty_of rig7 1000 100 ∷ []

-- the records that that cut leaves whole, and the 25 bytes behind them
abbrev pub left_records : List Record
left_records = contents (records_of (run (cut length_left ∷ []) after_shared).history)

abbrev pub left_rest : List ℕ
left_rest = drop 195 (take length_left after_shared.log)

-- ---- runs in which a reading that tempts would do harm

-- an Order between End and its flush, as if it were carried; then a cut loses the prepare, and Init aborts the transaction
abbrev pub ordered_early : List Item
ordered_early =
    beginning ++ (ending ∷ []) ++ carry 8 ++ (cut 124 ∷ reopening ∷ call own (init_call rig7 (pos 60000) (pos 130)) ∷ flushing 195 ∷ []) ++ carry 12 ++ carry 15

-- the same, with the flushed length one byte before the end of the prepare
abbrev pub flushed_short : List Item
flushed_short = beginning ++ (ending ∷ flushing 194 ∷ []) ++ carry 9

-- a Flush one byte past the end
abbrev pub flushed_past : List Item
flushed_past = initialized ++ (flushing 54 ∷ [])

-- a prepare, none of whose orders is carried before the cut; then both are
abbrev pub restarted : List Item
restarted = prepared ++ (cut 195 ∷ reopening ∷ [])

abbrev pub restarted_carried : List Item
restarted_carried = restarted ++ carry 11 ++ carry 14

-- both orders are carried, and the cut takes the complete record; then both are carried again
abbrev pub complete_lost : List Item
complete_lost = prepared ++ carry 9 ++ carry 12 ++ (cut 195 ∷ reopening ∷ [])

abbrev pub complete_lost_carried : List Item
complete_lost_carried = complete_lost ++ carry 18 ++ carry 20

-- partition 1 joins and is not flushed, an entry is tried there, and a cut loses the widening; then partition 0 alone is committed
abbrev pub widened_early : List Item
widened_early =
    initialized ++ (join 1 ∷ flushing 120 ∷ put 0 ∷ join 2 ∷ put 1 ∷ cut 120 ∷ reopening ∷ ending ∷ flushing 187 ∷ []) ++ carry 11

-- a Tick long after the timeout of a prepare that was recovered
abbrev pub ticked_late : List Item
ticked_late = restarted ++ (call own (tick_call (pos 999999)) ∷ [])

-- ---- more than one transaction, verdict or coordinator

-- the transaction outlives its timeout and is aborted by a Tick: the log ends at 195, the next event is 9
abbrev pub ticked : List Item
ticked = beginning ++ (call own (tick_call (pos 60111)) ∷ flushing 195 ∷ [])

abbrev pub ticked_carried : List Item
ticked_carried = ticked ++ carry 9 ++ carry 12

-- partition 1 alone is up, then partition 0 alone
abbrev pub carry_up : ℕ → ℕ → List Item
carry_up up i = call_order up ∷ deliver own i ∷ acknowledge own i ∷ []

abbrev pub some_down : List Item
some_down = prepared ++ carry_up 2 9 ++ carry_up 1 12

-- none of the transaction's partitions is up
abbrev pub all_down : List Item
all_down = prepared ++ carry_up 4 9

-- an opening with the coordinator epoch of the one before
abbrev pub same_epoch : List Item
same_epoch = prepared ++ (cut 195 ∷ reopen (pos 1) (pos 1000) (pos 1999) ∷ [])

abbrev pub same_epoch_carried : List Item
same_epoch_carried = same_epoch ++ carry 11 ++ carry 14

-- `rig7` commits both partitions and `lab3`, which has place 1 and pid 1001, aborts partition 0: the log ends at 382, the next event is 14
abbrev pub two_prepared : List Item
two_prepared =
    initialized
    ++ (call own (init_call lab3 (pos 60000) (pos 105)) ∷
    flushing 106 ∷
    join both ∷
    call own (add_call lab3 (pos 1001) (pos 0) 1 (pos 111)) ∷
    flushing 244 ∷
    put 0 ∷
    put 1 ∷
    call_produce own 0 lab3 (pos 1001) (pos 0) 0 (pos 0) 601 ∷
    ending ∷
    call own (end_call lab3 (pos 1001) (pos 0) 1 (pos 121)) ∷
    flushing 382 ∷
    [])

abbrev pub two_carried : List Item
two_carried = two_prepared ++ carry 14 ++ carry 17 ++ carry 21

-- ---- what is not carried

-- an order after which another call comes, and then its partition and its Ack
abbrev pub carried_late : List Item
carried_late = prepared ++ (call_order both ∷ flushing 195 ∷ deliver own 9 ∷ acknowledge own 9 ∷ [])

-- the same where this item comes between
abbrev pub carried_after : Item → List Item
carried_after x = prepared ++ (call_order both ∷ x ∷ deliver own 9 ∷ acknowledge own 9 ∷ [])

-- an order that is given to its partition twice and acknowledged twice
abbrev pub carried_twice : List Item
carried_twice = prepared ++ (call_order both ∷ deliver own 9 ∷ deliver own 9 ∷ acknowledge own 9 ∷ acknowledge own 9 ∷ [])

-- an acknowledgement without a marker
abbrev pub acknowledged_only : List Item
acknowledged_only = prepared ++ (call_order both ∷ acknowledge own 9 ∷ [])

-- "which never lowers the coordinator epoch": after an opening with a lower one the coordinator is still down, and no order is given
abbrev pub epoch_lowered : List Item
epoch_lowered = prepared ++ (cut 195 ∷ reopen (pos 0) (pos 1000) (pos 1999) ∷ []) ++ carry 11

-- ---- other starts, and slices that meet 8

-- a first opening of what that cut left of the log: three records, so that the next event is 4
abbrev pub opened_later : FirstOpening
opened_later = record { text = scan_text; log = after_shared.log; length = length_left; epoch = pos 2; first = pos 1000; last = pos 1999; words = opened.words }

-- calls that are lent a slice of no bytes or words, an entry for a position outside the catalogue, and orders that are lost on their way
abbrev pub lent_others : List Item
lent_others =
    prepared
    ++ (call (another []) (init_call lab3 (pos 60000) (pos 130)) ∷
    call_produce (another []) 0 rig7 (pos 1000) (pos 0) 0 (pos 1) 502 ∷
    call_produce own 1 rig7 (pos 1000) (pos 0) 70 (pos 1) 502 ∷
    call_read own 0 0 [] ∷
    call_order both ∷
    deliver (another []) 9 ∷
    acknowledge own 9 ∷
    call_order both ∷
    deliver own 10 ∷
    acknowledge (another []) 10 ∷
    [])
