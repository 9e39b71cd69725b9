-- End(name, pid, epoch, verdict, time): a producer ends its transaction.
use Rattle.std.specs.Prelude.{ℕ, Bool, true, false, cond, not, List, [], ◌∷◌, eqb, ltb, ℤ, pos}
use Rattle.numbers.specs.Signed.{eq_z}
use Rattle.record.specs.Record.{name_fits}
use Rattle.record.specs.declared.Status.{Status}
use Rattle.record.specs.declared.Status.TheVariants.{Empty, Begin, PrepareCommit, PrepareAbort, CompleteCommit, CompleteAbort}
use Rattle.row.specs.Row.{is_begin, is_prepare}
use Rattle.row.specs.Steps.{prepared, prepare_of, verdict_of, ended, raise}
use Rattle.row.specs.declared.Row.{Row}
use Rattle.answers.specs.Numbers.{invalid_name, invalid_verdict, invalid_length, unknown_producer, wrong_epoch, not_flushed, wrong_status, busy}
use Rattle.answers.specs.Refusals.{Test, refuse, first_refusal, Decision, unless}
use Rattle.answers.specs.Answer.{Answer}
use Rattle.answers.specs.Answer.{Done, Refused}
use Rattle.coordinator.specs.Coordinator.{admits, place_of_name, row_of, not_held, unflushed, clock_at, Action, keep, advance, append}
use Rattle.coordinator.specs.declared.Coordinator.{Coordinator}

-- "11 epoch differs"
abbrev pub end_epoch_fits : Row → ℤ → Bool
end_epoch_fits row epoch = eq_z epoch (pos row.epoch)

-- whether End of this verdict may find this status: BEGIN, or 2 to 5 of that verdict; "All else: 13."
unfoldable pub end_fits : Status → ℕ → Bool
end_fits Empty verdict = false
end_fits Begin verdict = true
end_fits PrepareCommit verdict = eqb verdict (verdict_of PrepareCommit)
end_fits PrepareAbort verdict = eqb verdict (verdict_of PrepareAbort)
end_fits CompleteCommit verdict = eqb verdict (verdict_of CompleteCommit)
end_fits CompleteAbort verdict = eqb verdict (verdict_of CompleteAbort)

-- the tests of the row that holds the name
unfoldable pub end_row_tests : Coordinator → Row → ℤ → ℕ → List Test
end_row_tests s row epoch verdict =
    refuse wrong_epoch (not (end_epoch_fits row epoch)) ∷
    -- "12 not flushed"
    refuse not_flushed (unflushed s.flushed row) ∷
    -- "All else: 13."
    refuse wrong_status (not (end_fits row.status verdict)) ∷
    -- "Status 2 or 3 of that verdict: 14."
    refuse busy (is_prepare row.status) ∷
    []

unfoldable pub end_tests : Coordinator → ℕ → List ℕ → ℤ → ℤ → ℕ → List Test
end_tests s n name pid epoch verdict =
    refuse invalid_length (not (admits s n)) ∷
    refuse invalid_name (not (name_fits name)) ∷
    -- "4 verdict not 0 or 1"
    refuse invalid_verdict (ltb 1 verdict) ∷
    -- "10 name not held or pid differs"
    refuse unknown_producer (not_held s name pid) ∷
    end_row_tests s (row_of s name) epoch verdict

-- "0 commit, 1 abort. Status 1 prepares. Status 4 or 5 of that verdict: done, nothing appended."
unfoldable pub end_action : Coordinator → List ℕ → ℕ → ℤ → Action
end_action s name verdict time =
    let row = row_of s name in
    cond (is_begin row.status)
    (append (place_of_name s name) (prepared row (prepare_of verdict) (raise ended row.epoch) (clock_at s time)))
    (advance (clock_at s time))

unfoldable pub end : Coordinator → ℕ → List ℕ → ℤ → ℤ → ℕ → ℤ → Decision Answer Action
end s n name pid epoch verdict time =
    unless (first_refusal (end_tests s n name pid epoch verdict)) Refused keep (record { answer = Done; action = end_action s name verdict time })
