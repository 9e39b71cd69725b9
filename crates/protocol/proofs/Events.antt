-- What each event changes: the records, the flushed length, the entries, the orders and the markers of a history.
use Prim.Native.Nat.{ℕ, suc, ◌-◌, ◌≤◌, ◌<◌}
use mathlib.Core.Path.{◌≡◌, refl}
use mathlib.Core.List.{List, [], ◌∷◌, ◌++◌, map}
use native.Mathlib.Omega.{arith}
use lib.ListN.{length}
use lib.IntN.{ℤ}
use Rattle.record.specs.declared.Record.{Record}
use Rattle.search.specs.Search.{Each}
use Rattle.search.proofs.Members.{In, each_in}
use Rattle.runs.specs.History.{Order, Produced, Event, record_appended, log_flushed, log_opened, order_given, marker_written, order_carried, entry_written, History, events_before, orders_in, markers_in, produced_in, collect, WithBefore, collect_with_before, Logged, records_of, end_of, flushed_of}
use Rattle.protocol.specs.Entries.{Entry, entries_of}

-- the record that an event appends, and the entry that it writes
abbrev pub new_record : History → Record → ℕ → Logged
new_record h r end = record { number = length h; content = r; end = end }

abbrev pub new_entry : History → Produced → Entry
new_entry h e = record { what = e; before = h }

-- ---- the records and the flushed length

-- an event that changes neither
pub record KeepsRecords (h : History) (e : Event) : Type 0 where
  pub records : records_of (e ∷ h) ≡ records_of h
  pub flushed : flushed_of (e ∷ h) ≡ flushed_of h

-- an event that appends a record
pub record AddsRecord (h : History) (r : Record) (end : ℕ) : Type 0 where
  pub records : records_of (record_appended r end ∷ h) ≡ new_record h r end ∷ records_of h
  pub flushed : flushed_of (record_appended r end ∷ h) ≡ flushed_of h

module _ (h : History) where
  pub appended-records : (r : Record) (end : ℕ) → AddsRecord h r end
  unfolding records_of flushed_of
  appended-records r end = record { records = refl; flushed = refl }

  pub given-records : (o : Order) → KeepsRecords h (order_given o)
  unfolding records_of flushed_of
  given-records o = record { records = refl; flushed = refl }

  pub marker-records : (o : Order) → KeepsRecords h (marker_written o)
  unfolding records_of flushed_of
  marker-records o = record { records = refl; flushed = refl }

  pub carried-records : (o : Order) → KeepsRecords h (order_carried o)
  unfolding records_of flushed_of
  carried-records o = record { records = refl; flushed = refl }

  pub entry-records : (e : Produced) → KeepsRecords h (entry_written e)
  unfolding records_of flushed_of
  entry-records e = record { records = refl; flushed = refl }

  pub flush-records : (n : ℕ) → records_of (log_flushed n ∷ h) ≡ records_of h
  unfolding records_of
  flush-records n = refl

  pub opened-records : (epoch : ℤ) → records_of (log_opened epoch ∷ h) ≡ records_of h
  unfolding records_of
  opened-records epoch = refl

  pub opened-flushed : (epoch : ℤ) → flushed_of (log_opened epoch ∷ h) ≡ end_of (records_of h)
  unfolding flushed_of
  opened-flushed epoch = refl

-- ---- the entries, the orders and the markers

-- an event with nothing to say adds nothing
pub collect-same : {A : Type 0} (f : Event → List A) (e : Event) (h : History) → f e ≡ [] → collect f (e ∷ h) ≡ collect f h
unfolding collect
collect-same f e h q = rw q

pub collect-before-same : {A : Type 0} (f : Event → List A) (e : Event) (h : History) → f e ≡ [] → collect_with_before f (e ∷ h) ≡ collect_with_before f h
unfolding collect_with_before
collect-before-same f e h q = rw q

pub same_entries : (e : Event) (h : History) → produced_in e ≡ [] → entries_of (e ∷ h) ≡ entries_of h
same_entries e h q = collect-before-same produced_in e h q

pub more-entries : (e : Produced) (h : History) → entries_of (entry_written e ∷ h) ≡ new_entry h e ∷ entries_of h
unfolding collect_with_before
more-entries e h = refl

pub more-orders : (o : Order) (h : History) → collect_with_before orders_in (marker_written o ∷ h) ≡ record { what = o; before = h } ∷ collect_with_before orders_in h
unfolding collect_with_before
more-orders o h = refl

pub more-markers : (o : Order) (h : History) → collect markers_in (marker_written o ∷ h) ≡ o ∷ collect markers_in h
unfolding collect
more-markers o h = refl

-- ---- the events before

-- the events before what one says are fewer
pub before-shorter : {A : Type 0} (f : Event → List A) (h : History) → Each (λ (p : WithBefore A). length p.before < length h) (collect_with_before f h)
unfolding collect_with_before
before-shorter f [] = tt
before-shorter {A} f (e ∷ h) = go (f e) (weaken (collect_with_before f h) (before-shorter f h))
  where
    weaken : (l : List (WithBefore A)) → Each (λ (p : WithBefore A). length p.before < length h) l → Each (λ (p : WithBefore A). length p.before < suc (length h)) l
    weaken [] i = tt
    weaken (x ∷ l) (i, is) = (omega arith, weaken l is)

    go : (l : List A) → Each (λ (p : WithBefore A). length p.before < suc (length h)) (collect_with_before f h)
        → Each (λ (p : WithBefore A). length p.before < suc (length h)) (map (λ (a : A). record { what = a; before = h }) l ++ collect_with_before f h)
    go [] i = i
    go (x ∷ l) i = (omega arith, go l i)

pub entry-before : (h : History) (p : Entry) → In p (entries_of h) → length p.before < length h
entry-before h p i = each_in (λ (q : Entry). length q.before < length h) (entries_of h) p (before-shorter produced_in h) i

-- the events before a number are the same after one more event
pub events-before : (n : ℕ) (e : Event) (h : History) → n ≤ length h → events_before n (e ∷ h) ≡ events_before n h
events-before n e h b = let q : suc (length h) - n ≡ suc (length h - n) = omega arith in rw q

pub events-all : (e : Event) (h : History) → events_before (length h) (e ∷ h) ≡ h
events-all e h = let q : suc (length h) - length h ≡ suc 0 = omega arith in rw q
