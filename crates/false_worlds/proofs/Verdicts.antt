-- In none of these worlds do all entries stand under their verdict.
use mathlib.Core.Path.{refl}
use Rattle.numbers.specs.Bytes.{same}
use Rattle.search.specs.Search.{find, find_last, filter}
use Rattle.runs.specs.History.{records_of, flushed_of, collect, collect_with_before}
use Rattle.runs.specs.Demand3.{UnderItsVerdict, HoldsAt}
use Rattle.false_worlds.specs.Verdicts.{Misjudged, no_commit, no_abort, abort_over_commit, commit_over_abort, one_early, marker_of_pid, marker_before, misjudged}
use Rattle.false_worlds.proofs.Differ.{differ}

pub not-under-verdict : (x : Misjudged) → UnderItsVerdict (misjudged x) → ⊥
unfolding find find_last filter records_of flushed_of same collect collect_with_before
not-under-verdict no_commit = λ (here, rest). let (entry, more) = here in entry
not-under-verdict no_abort = λ (here, rest). let (entry, more) = here in entry
not-under-verdict abort_over_commit = λ (here, rest). let (entry, more) = here in differ 2 3 refl refl entry
not-under-verdict commit_over_abort = λ (here, rest). let (entry, more) = here in differ 3 2 refl refl entry
not-under-verdict one_early = λ (here, rest). let (entry, more) = here in entry
not-under-verdict marker_of_pid = λ (here, rest). let (entry, more) = here in entry
not-under-verdict marker_before = λ (here, rest). let (entry, more) = here in entry

-- so demand 3 does not hold there
pub verdict-not-held : (x : Misjudged) → HoldsAt (misjudged x) → ⊥
verdict-not-held x = λ h. not-under-verdict x h.under-its-verdict
