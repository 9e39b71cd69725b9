-- In none of these worlds are orders and markers as demand 3 has them.
use mathlib.Core.Path.{refl}
use mathlib.Core.Option.{none}
use lib.IntN.{pos}
use Rattle.numbers.specs.Bytes.{same}
use Rattle.search.specs.Search.{find, find_last, count_where, is_found}
use Rattle.runs.specs.History.{records_of, flushed_of, collect, collect_with_before, next_of}
use Rattle.runs.specs.Demand3.{ForFlushedPrepare, OfLastOpening, OneMarker, HoldsAt}
use Rattle.false_worlds.specs.Histories.{prepare}
use Rattle.false_worlds.specs.Orders.{Misordered, no_record, not_prepared, unflushed, overtaken, order_of_pid, order_of_epoch, order_of_verdict, outside, misordered, given, marked, OtherOpening, always_one, kept_from_before, ahead, after_openings, Repeated, marked_twice, marked_again, repeated}
use Rattle.false_worlds.proofs.Differ.{apart, differ, differ-signed, fails}

pub order-not-for : (x : Misordered) → ForFlushedPrepare (given (misordered x)) → ⊥
unfolding find find_last records_of flushed_of same collect_with_before
order-not-for no_record = λ (here, rest). here
order-not-for not_prepared = λ (here, rest). fails here.prepare
order-not-for unflushed = λ (here, rest). fails here.flushed
order-not-for overtaken = λ (here, rest). apart is_found (next_of prepare (misordered overtaken).before) none refl refl here.latest
order-not-for order_of_pid = λ (here, rest). differ-signed (pos 1000) (pos 1001) refl refl here.pid
order-not-for order_of_epoch = λ (here, rest). differ-signed (pos 0) (pos 1) refl refl here.epoch
order-not-for order_of_verdict = λ (here, rest). differ 2 3 refl refl here.verdict
order-not-for outside = λ (here, rest). fails here.position

pub marker-not-for : (x : Misordered) → ForFlushedPrepare (marked (misordered x)) → ⊥
unfolding find find_last records_of flushed_of same collect_with_before
marker-not-for no_record = λ (here, rest). here
marker-not-for not_prepared = λ (here, rest). fails here.prepare
marker-not-for unflushed = λ (here, rest). fails here.flushed
marker-not-for overtaken = λ (here, rest). apart is_found (next_of prepare (misordered overtaken).before) none refl refl here.latest
marker-not-for order_of_pid = λ (here, rest). differ-signed (pos 1000) (pos 1001) refl refl here.pid
marker-not-for order_of_epoch = λ (here, rest). differ-signed (pos 0) (pos 1) refl refl here.epoch
marker-not-for order_of_verdict = λ (here, rest). differ 2 3 refl refl here.verdict
marker-not-for outside = λ (here, rest). fails here.position

pub of-other-opening : (x : OtherOpening) → OfLastOpening (after_openings x) → ⊥
unfolding collect collect_with_before
of-other-opening always_one = λ (here, rest). differ-signed (pos 1) (pos 5) refl refl here
of-other-opening kept_from_before = λ (here, rest). differ-signed (pos 1) (pos 2) refl refl here
of-other-opening ahead = λ (here, rest). differ-signed (pos 1) (pos 0) refl refl here

pub not-one-marker : (x : Repeated) → OneMarker (repeated x) → ⊥
unfolding collect count_where
not-one-marker marked_twice = λ (here, rest). differ 2 1 refl refl here
not-one-marker marked_again = λ (here, rest). differ 2 1 refl refl here

-- so demand 3 does not hold there
pub orders-not-held : (x : Misordered) → HoldsAt (given (misordered x)) → ⊥
orders-not-held x = λ h. order-not-for x h.for-flushed-prepare

pub markers-not-held : (x : Misordered) → HoldsAt (marked (misordered x)) → ⊥
markers-not-held x = λ h. marker-not-for x h.for-flushed-prepare

pub opening-not-held : (x : OtherOpening) → HoldsAt (after_openings x) → ⊥
opening-not-held x = λ h. of-other-opening x h.of-last-opening

pub repeat-not-held : (x : Repeated) → HoldsAt (repeated x) → ⊥
repeat-not-held x = λ h. not-one-marker x h.one-marker
