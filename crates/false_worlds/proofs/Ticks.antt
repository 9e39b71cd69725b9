-- None of the false Ticks is right, and both true ones are; a Tick that ends transactions in time aborts the widened one; no row of false times is in order. All by computation.
use Prim.Native.Nat.{ℕ}
use mathlib.Core.Path.{◌≡◌, refl, sym, ap, subst, ◌∙◌}
use mathlib.Core.Bool.{Bool, true, false, true≢false}
use mathlib.Core.List.{List, [], ◌∷◌}
use native.Mathlib.Omega.{arith}
use lib.Dec.{eqb}
use lib.IntN.{pos}
use lib.ListN.{length, get_or}
use borrow.Author.Tests.{leb-true, ltb-true, le-leb, lt-ltb}
use Rattle.numbers.specs.Signed.{eq_z}
use Rattle.numbers.specs.Bytes.{same}
use Rattle.record.specs.Record.{status_code}
use Rattle.record.specs.declared.Record.{Record}
use Rattle.search.specs.Search.{first_where, find, filter, found, Found}
use Rattle.answers.specs.Answers.{Reply, accepted}
use Rattle.writable_logs.specs.RecordsSay.{has_name, names_of}
use Rattle.runs.specs.History.{record_appended, History, Logged, records_of, flushed_of, latest_of, name_at}
use Rattle.runs.specs.Timeouts.{beginning_of, abort_of, Appends, EndsInTime, TimesInOrder}
use Rattle.false_worlds.specs.Ticks.{IsRight, widened, abort_at, FalseTick, from_last_update, renewed_start, from_transaction_before, at_the_timeout, unflushed_widening, prepared_aborted, higher_place, both_aborted, other_place, epoch_kept, old_clock, other_start, narrower_set, committed, silent, spurious_record, false_tick, TrueTick, still_in_time, outlived_timeout, true_tick, FalseTimes, started_later, updated_later, false_times}
use Rattle.false_worlds.specs.Histories.{name7}
use Rattle.false_worlds.proofs.Differ.{apart, above}

-- ---- tests that tell Ticks apart

-- no place is answered; this place is
abbrev answers_none : Reply → Bool
answers_none r = eqb (length r.results) 0

abbrev answers_place : ℕ → Reply → Bool
answers_place place r = eq_z (get_or r.results 0 (pos 0)) (pos place)

-- the latest record of `rig7` passes
abbrev latest_has : (Record → Bool) → History → Bool
latest_has test h = found (λ (x : Logged). test x.content) (latest_of name7 h)

-- ---- the false Ticks and the true ones

-- `0 < 1` says that place 0 of one is due, and `1 ≤ 1` that none of one is
pub false-ticks : (x : FalseTick) → IsRight (false_tick x) → ⊥
unfolding beginning_of has_name names_of records_of flushed_of first_where find filter same
false-ticks from_last_update = λ r. apart answers_none _ _ refl refl (r.aborts (ltb-true 0 1 refl)).0
false-ticks renewed_start = λ r. apart answers_none _ _ refl refl (r.aborts (ltb-true 0 1 refl)).0
false-ticks from_transaction_before = λ r. apart answers_none _ _ refl refl (sym (r.none-due (leb-true 1 1 refl)).0)
false-ticks at_the_timeout = λ r. apart answers_none _ _ refl refl (sym (r.none-due (leb-true 1 1 refl)).0)
false-ticks unflushed_widening = λ r. apart answers_none _ _ refl refl (sym (r.none-due (leb-true 1 1 refl)).0)
false-ticks prepared_aborted = λ r. apart answers_none _ _ refl refl (sym (r.none-due (leb-true 1 1 refl)).0)
false-ticks higher_place = λ r. apart (answers_place 1) _ _ refl refl (r.aborts (ltb-true 0 2 refl)).0
false-ticks both_aborted = λ r. let (end, e) = (r.aborts (ltb-true 0 2 refl)).1 in apart (λ (h : History). eqb (length h) 11) _ _ refl refl e
false-ticks other_place = λ r. apart (answers_place 1) _ _ refl refl (r.aborts (ltb-true 0 1 refl)).0
false-ticks epoch_kept = λ r. let (end, e) = (r.aborts (ltb-true 0 1 refl)).1 in apart (latest_has (λ (x : Record). eq_z x.epoch (pos 0))) _ _ refl refl e
false-ticks old_clock = λ r. let (end, e) = (r.aborts (ltb-true 0 1 refl)).1 in apart (latest_has (λ (x : Record). eq_z x.updated (pos 140))) _ _ refl refl e
false-ticks other_start = λ r. let (end, e) = (r.aborts (ltb-true 0 1 refl)).1 in apart (latest_has (λ (x : Record). eq_z x.start (pos 151))) _ _ refl refl e
false-ticks narrower_set = λ r. let (end, e) = (r.aborts (ltb-true 0 1 refl)).1 in apart (latest_has (λ (x : Record). eqb x.joined 1)) _ _ refl refl e
false-ticks committed = λ r. let (end, e) = (r.aborts (ltb-true 0 1 refl)).1 in apart (latest_has (λ (x : Record). eqb (status_code x.status) 2)) _ _ refl refl e
false-ticks silent = λ r. apart answers_none _ _ refl refl (r.aborts (ltb-true 0 1 refl)).0
false-ticks spurious_record = λ r. apart (λ (h : History). eqb (length h) 8) _ _ refl refl (r.none-due (leb-true 1 1 refl)).1

pub true-ticks : (x : TrueTick) → IsRight (true_tick x)
unfolding beginning_of has_name names_of records_of flushed_of first_where find filter same
true-ticks still_in_time = record { none-due = λ _. (refl, refl); aborts = λ l. absurd (true≢false (sym (lt-ltb 1 1 l))) }
true-ticks outlived_timeout = record { none-due = λ l. absurd (true≢false (sym (le-leb 1 0 l))); aborts = λ _. (refl, (262, refl)) }

-- ---- in time

-- what `EndsInTime` says of the transaction that began at 100 with timeout 50 and was widened once, at clock 151
pub widened-ended : (answer : Reply) (after : History) → EndsInTime 151 widened answer after
    → (answer ≡ accepted (pos 0 ∷ [])) × ((end : ℕ) × (after ≡ record_appended (abort_at 151) end ∷ widened))
unfolding beginning_of has_name names_of records_of flushed_of first_where find filter same
widened-ended answer after ends =
    let aborted = ends 0 100 50 (ltb-true 0 1 refl)
    (record {
      widenings = _ ∷ [];
      first = _;
      older = _ ∷ [];
      records = refl;
      begins = (refl, (refl, tt));
      before = λ x rest e. ap (λ (l : List Logged). eqb (status_code (get_or l 0 x).content.status) 1) (sym e);
      at = refl;
      timeout = refl;
    })
    refl (ltb-true 150 151 refl) in
    let zero : aborted.lowest ≡ 0 = omega (arith, aborted.up_to) in
    let appended : Found (λ (x : Logged). Appends widened (abort_of 151 x.content) after) (latest_of (name_at widened 0) widened) =
    subst (λ (place : ℕ). Found (λ (x : Logged). Appends widened (abort_of 151 x.content) after) (latest_of (name_at widened place) widened)) zero aborted.appends in
    (aborted.answers ∙ ap (λ (place : ℕ). accepted (pos place ∷ [])) zero, appended)

-- ---- times

pub times-not-in-order : (x : FalseTimes) → TimesInOrder 151 (false_times x) → ⊥
times-not-in-order started_later = λ o. above 141 140 refl o.started
times-not-in-order updated_later = λ o. above 152 151 refl o.updated-by
