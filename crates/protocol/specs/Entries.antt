-- The entries of a history: the ordinal of the transaction that each is of, and the marker that it stands under.
-- No reader has to believe what is defined here: it serves the invariant, and no promise is stated with it.
use Rattle.std.specs.Prelude.{ℕ, zero, suc, ◌+◌, cond, ◌&&◌, List, [], ◌∷◌, eqb, leb, length}
use Rattle.numbers.specs.Signed.{to_nat}
use Rattle.runs.specs.History.{Produced, Event, record_appended, log_flushed, log_cut, log_opened, order_given, marker_written, order_carried, entry_written, History, records_of, produced_in, WithBefore, collect_with_before}
use Rattle.protocol.specs.RecordsOfName.{prepares_in}

-- the entries that Produce wrote, each with the events before it
abbrev pub Entry : Type 0
Entry = WithBefore Produced

abbrev pub entries_of : History → List Entry
entries_of h = collect_with_before produced_in h

-- how many prepares its name had when it was written: the entry is of the transaction of the next one
abbrev pub ordinal_of : Entry → ℕ
ordinal_of p = prepares_in p.what.name (records_of p.before)

-- the kind of the marker that an event wrote at a position for a pid, and 0 where it wrote none
abbrev pub kind_in : ℕ → ℕ → Event → ℕ
kind_in position pid (record_appended r end) = 0
kind_in position pid (log_flushed n) = 0
kind_in position pid (log_cut n) = 0
kind_in position pid (log_opened epoch) = 0
kind_in position pid (order_given o) = 0
kind_in position pid (marker_written o) = cond (eqb o.position position && eqb (to_nat o.pid) pid) (o.verdict + 1) 0
kind_in position pid (order_carried o) = 0
kind_in position pid (entry_written e) = 0

-- the first of two kinds that is not 0
abbrev pub first_of : ℕ → ℕ → ℕ
first_of zero k = k
first_of (suc n) k = suc n

-- the kind of the first marker at a position for a pid, among the events from a number on
unfoldable pub marked_from : ℕ → ℕ → ℕ → History → ℕ
marked_from position pid number [] = 0
marked_from position pid number (x ∷ h) = cond (leb number (length h)) (first_of (marked_from position pid number h) (kind_in position pid x)) 0

-- the kind of the marker that an entry stands under, and 0 while it is open
abbrev pub under_of : History → Entry → ℕ
under_of h p = marked_from p.what.position (to_nat p.what.pid) (suc (length p.before)) h
