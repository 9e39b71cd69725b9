-- In none of these worlds do the words agree.
use mathlib.Core.Path.{refl, ap}
use mathlib.Core.List.{[], ◌∷◌}
use lib.IntN.{pos}
use Rattle.numbers.specs.Bytes.{same}
use Rattle.record.specs.Record.{status_code}
use Rattle.search.specs.Search.{find}
use Rattle.runs.specs.History.{records_of, flushed_of, words_of, collect_with_before}
use Rattle.runs.specs.Demand3.{WordsAgree, HoldsAt}
use Rattle.false_worlds.specs.Words.{WrongWords, commit_for_abort, other_marker_epoch, other_coordinator, nothing_written, stray_entry, elsewhere, other_payload, other_sequence, wrong_words, NotEntitled, no_name, not_begun, already_prepared, widened_unflushed, begin_of_pid, begin_of_epoch, not_joined, wrong_offset, not_entitled}
use Rattle.false_worlds.proofs.Differ.{differ, differ-signed, differ-lists, fails}

pub words-differ : (x : WrongWords) → WordsAgree (wrong_words x) → ⊥
unfolding same words_of collect_with_before
words-differ commit_for_abort = λ k. let (first, more) = k.words in differ-lists (1000 ∷ 1 ∷ 1 ∷ 0 ∷ []) (1000 ∷ 2 ∷ 1 ∷ 0 ∷ []) refl refl first
words-differ other_marker_epoch = λ k. let (first, more) = k.words in differ-lists (1000 ∷ 1 ∷ 1 ∷ 0 ∷ []) (1000 ∷ 1 ∷ 4294967297 ∷ 0 ∷ []) refl refl first
words-differ other_coordinator = λ k. let (first, more) = k.words in differ-lists (1000 ∷ 1 ∷ 2 ∷ 0 ∷ []) (1000 ∷ 1 ∷ 1 ∷ 0 ∷ []) refl refl first
words-differ nothing_written = λ k. let (first, more) = k.words in differ-lists [] (1000 ∷ 0 ∷ 0 ∷ 501 ∷ []) refl refl first
words-differ stray_entry = λ k. let (first, more) = k.words in differ-lists (1000 ∷ 0 ∷ 0 ∷ 501 ∷ []) [] refl refl first
words-differ elsewhere = λ k. let (first, more) = k.words in let (second, rest) = more in differ-lists (1000 ∷ 0 ∷ 0 ∷ 501 ∷ []) [] refl refl second
words-differ other_payload = λ k. let (first, more) = k.words in differ-lists (1000 ∷ 0 ∷ 0 ∷ 502 ∷ []) (1000 ∷ 0 ∷ 0 ∷ 501 ∷ []) refl refl first
words-differ other_sequence = λ k. let (first, more) = k.words in differ-lists (1000 ∷ 0 ∷ 1 ∷ 501 ∷ []) (1000 ∷ 0 ∷ 0 ∷ 501 ∷ []) refl refl first

pub entry-not-entitled : (x : NotEntitled) → WordsAgree (not_entitled x) → ⊥
unfolding find records_of flushed_of same words_of collect_with_before
entry-not-entitled no_name = λ k. let (here, rest) = k.entitled in here
entry-not-entitled not_begun = λ k. let (here, rest) = k.entitled in differ 0 1 refl refl (ap status_code here.status)
entry-not-entitled already_prepared = λ k. let (here, rest) = k.entitled in differ 2 1 refl refl (ap status_code here.status)
entry-not-entitled widened_unflushed = λ k. let (here, rest) = k.entitled in fails here.flushed
entry-not-entitled begin_of_pid = λ k. let (here, rest) = k.entitled in differ-signed (pos 1001) (pos 1000) refl refl here.pid
entry-not-entitled begin_of_epoch = λ k. let (here, rest) = k.entitled in differ-signed (pos 1) (pos 0) refl refl here.epoch
entry-not-entitled not_joined = λ k. let (here, rest) = k.entitled in fails here.joined
entry-not-entitled wrong_offset = λ k. let (here, rest) = k.offsets in differ 4 0 refl refl here

-- so demand 3 does not hold there
pub words-not-held : (x : WrongWords) → HoldsAt (wrong_words x) → ⊥
words-not-held x = λ h. words-differ x h.words-agree

pub entry-not-held : (x : NotEntitled) → HoldsAt (not_entitled x) → ⊥
entry-not-held x = λ h. entry-not-entitled x h.words-agree
