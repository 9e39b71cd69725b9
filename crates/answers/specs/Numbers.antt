-- The numbers of the refusals, each under its name; document 01, "Refused for the input" and "Refused for the state".
use Rattle.std.specs.Prelude.{ℕ}

-- "1 name"
abbrev pub invalid_name : ℕ
invalid_name = 1

-- "2 timeout not 1..900000"
abbrev pub invalid_timeout : ℕ
invalid_timeout = 2

-- "3 set empty or outside the catalogue, or such a position"
abbrev pub invalid_set : ℕ
invalid_set = 3

-- "4 verdict not 0 or 1"
abbrev pub invalid_verdict : ℕ
invalid_verdict = 4

-- "5 catalogue"
abbrev pub invalid_catalogue : ℕ
invalid_catalogue = 5

-- "6 log, with the offset of the first bad frame"
abbrev pub invalid_log : ℕ
invalid_log = 6

-- "7 a number"
abbrev pub invalid_number : ℕ
invalid_number = 7

-- "8 log buffer or partition slice not of the length it was opened with"
abbrev pub invalid_length : ℕ
invalid_length = 8

-- "10 name not held or pid differs (Ack: place or pid)"
abbrev pub unknown_producer : ℕ
unknown_producer = 10

-- "11 epoch differs"
abbrev pub wrong_epoch : ℕ
wrong_epoch = 11

-- "12 not flushed"
abbrev pub not_flushed : ℕ
not_flushed = 12

-- "13 wrong status"
abbrev pub wrong_status : ℕ
wrong_status = 13

-- "14 busy"
abbrev pub busy : ℕ
busy = 14

-- "15 a 33rd name"
abbrev pub too_many_names : ℕ
too_many_names = 15

-- "16 pids spent"
abbrev pub pids_spent : ℕ
pids_spent = 16

-- "17 log full"
abbrev pub no_log_room : ℕ
no_log_room = 17

-- "18 position not joined"
abbrev pub not_joined : ℕ
not_joined = 18

-- "19 sequence ahead"
abbrev pub sequence_gap : ℕ
sequence_gap = 19

-- "20 sequence below the next or equal to the last"
abbrev pub repeated_sequence : ℕ
repeated_sequence = 20

-- "21 Marker with a coordinator epoch below the partition's"
abbrev pub stale_coordinator : ℕ
stale_coordinator = 21

-- "22 partition full"
abbrev pub no_partition_room : ℕ
no_partition_room = 22
