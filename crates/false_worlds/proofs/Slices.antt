-- In none of these worlds is refusal 8 for other lengths alone, or Read right.
use mathlib.Core.Path.{refl}
use mathlib.Core.List.{[], ◌∷◌}
use lib.IntN.{pos}
use lib.ListN.{get_or}
use borrow.Author.Tests.{leb-true}
use Rattle.numbers.specs.Signed.{eq_z}
use Rattle.numbers.specs.Bytes.{overwrite, same}
use Rattle.search.specs.Search.{find_last, filter, count_where, sum_of}
use Rattle.answers.specs.Answers.{Reply, accepted}
use Rattle.answers.specs.Refusals.{first_refusal}
use Rattle.table.specs.Table.{reserved}
use Rattle.coordinator.specs.Coordinator.{admits}
use Rattle.partition.specs.Partition.{open_count, oldest, admits as partition_admits}
use Rattle.partition.specs.Read.{next_marker, committed, copy, read_tests, read_answer, read_out}
use Rattle.server.specs.Admitted.{Admits}
use Rattle.runs.specs.History.{collect, collect_with_before}
use Rattle.runs.specs.InEveryRun.{AdmitsExactly, ReadsCommitted}
use Rattle.false_worlds.specs.Slices.{WrongSlice, other_log, own_log, other_words, own_words, wrong_slice, SpentServer, spent_log, spent_words, spent_server, WrongRead, made_up_marker, other_marker, missed_marker, unsettled, made_up_count, made_up_payload, later_payload, wrong_read}
use Rattle.false_worlds.proofs.Differ.{apart, differ, differ-lists, fails, passes}

pub not-admitted-exactly : (x : WrongSlice) → AdmitsExactly (wrong_slice x) → ⊥
unfolding sum_of count_where reserved admits open_count partition_admits
not-admitted-exactly other_log = λ k. passes (k.log 5)
not-admitted-exactly own_log = λ k. fails (k.log 4)
not-admitted-exactly other_words = λ k. let (here, rest) = k.words in passes (here 5)
not-admitted-exactly own_words = λ k. let (here, rest) = k.words in fails (here 4)

pub spent-not-admitted : (x : SpentServer) → Admits (spent_server x) → ⊥
unfolding sum_of count_where reserved admits open_count partition_admits
spent-not-admitted spent_log = λ k. fails (k.of-log 4)
spent-not-admitted spent_words = λ k. fails (k.of_words 4)

pub not-read-committed : (x : WrongRead) → ReadsCommitted (wrong_read x) → ⊥
unfolding find_last filter collect collect_with_before oldest next_marker committed copy read_tests read_answer read_out first_refusal count_where open_count partition_admits overwrite same
not-read-committed made_up_marker = λ k. let (here, rest) = k.stands-under in differ 1 0 refl refl here
not-read-committed other_marker = λ k. let (here, rest) = k.stands-under in differ 1 2 refl refl here
not-read-committed missed_marker = λ k. let (here, rest) = k.stands-under in differ 0 1 refl refl here
not-read-committed unsettled = λ k. let (here, rest) = k.settled in let (entry, more) = here in fails entry
not-read-committed made_up_count = λ k.
    let (here, rest) = k.reads in
    apart (λ (r : Reply). eq_z (get_or r.results 0 (pos 7)) (pos 1)) (accepted (pos 1 ∷ pos 2 ∷ [])) (accepted (pos 0 ∷ pos 2 ∷ [])) refl refl
    (here 0 (leb-true 0 2 refl) (0 ∷ [])).answers
not-read-committed made_up_payload = λ k.
    let (here, rest) = k.reads in differ-lists (501 ∷ []) (502 ∷ []) refl refl (here 0 (leb-true 0 2 refl) (0 ∷ [])).copies
not-read-committed later_payload = λ k.
    let (here, rest) = k.reads in differ-lists (502 ∷ []) (503 ∷ []) refl refl (here 1 (leb-true 1 3 refl) (0 ∷ [])).copies
