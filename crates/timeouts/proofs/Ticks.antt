-- A Tick in every run: it aborts the lowest transaction that outlived its timeout by the records of the history, and answers none only if there is none.
use Prim.Native.Nat.{ℕ, ◌+◌, ◌^◌, ◌≤◌, ◌<◌, max}
use mathlib.Core.Path.{◌≡◌, refl, sym, ap, subst, ◌∙◌}
use mathlib.Core.Bool.{Bool, true, false, cond, not}
use mathlib.Core.List.{List, [], ◌∷◌}
use mathlib.Core.Option.{some}
use native.Mathlib.Omega.{arith}
use lib.IntN.{ℤ, pos}
use lib.ListN.{length}
use mir.Syntax.{w16, w32, w64}
use borrow.Author.Tests.{eq-eqb}
use Rattle.numbers.specs.Signed.{signed_of, fits, to_nat}
use Rattle.numbers.proofs.Signed.{natural-back, signed_back, at_least, later-max, later-fits, fits-true}
use Rattle.numbers.proofs.Tests.{and_both}
use Rattle.catalogue.specs.declared.Catalogue.{Catalogue}
use Rattle.record.specs.Record.{well_formed}
use Rattle.record.specs.declared.Record.{Record}
use Rattle.record.specs.declared.Status.TheVariants.{PrepareAbort}
use Rattle.record.proofs.Bounds.{well-formed-parts}
use Rattle.search.specs.Search.{Found}
use Rattle.search.proofs.Found.{found-is}
use Rattle.search.proofs.Find.{find-in}
use Rattle.answers.specs.Answers.{accepted, tick_reply}
use Rattle.answers.specs.Refusals.{first_refusal, Decision}
use Rattle.answers.specs.TickAnswer.{TickAnswer}
use Rattle.answers.specs.TickAnswer.{Aborted}
use Rattle.answers.proofs.Laws.{none_is}
use Rattle.row.specs.Limits.{epoch_last}
use Rattle.row.specs.Row.{free, is_begin, held, record_of}
use Rattle.row.specs.Steps.{prepared, fenced, raise}
use Rattle.row.specs.declared.Row.{Row}
use Rattle.row.proofs.Laws.{NotNegative, begin-busy}
use Rattle.table.specs.Table.{row_at}
use Rattle.table.proofs.Reserve.{busy-held}
use Rattle.table.proofs.Unacknowledged.{plain_row}
use Rattle.coordinator.specs.Calls.{tick_call, answered, action_of}
use Rattle.coordinator.specs.Coordinator.{log_end, row_frame, admits, clock_at, Action, append}
use Rattle.coordinator.specs.Tick.{overdue_place, tick_tests, tick}
use Rattle.coordinator.specs.declared.Coordinator.{Coordinator}
use Rattle.coordinator.proofs.TickCases.{overdue-found, tick-aborted, tick-none}
use Rattle.writable_logs.proofs.Written.{written-admits}
use Rattle.runs.specs.History.{record_appended, History, Logged, records_of, contents, is_of, latest_of, names}
use Rattle.runs.specs.World.{Phase, up, World, catalogue_of, start, own, call, next, step, while_up, coordinator_lent, history_after}
use Rattle.protocol.specs.HistoryInvariant.{HistoryInvariant}
use Rattle.protocol.proofs.TableOfRecords.{come-record}
use Rattle.agreement.proofs.Invariant.{UpLog, Invariant}
use Rattle.agreement.proofs.FlushedFirst.{proper}
use Rattle.agreement.proofs.Preserves.{log-of}
use Rattle.agreement.proofs.LiveTable.{live-ready, live-record-at, RecordAt, name-at}
use Rattle.runs.specs.Timeouts.{due_place, due_record, abort_of, Appends, Ticks}
use Rattle.timeouts.proofs.Due.{whole, due-nowhere, due-within, due-there}

-- ---- the record of an abort

-- it is the latest record but for status, epoch and last update, and nothing of it is cut to its type
abort-record : (c : Catalogue) (r : Record) (end clock : ℕ) → well_formed c r ≡ true → NotNegative r → is_begin r.status ≡ true → to_nat r.epoch ≤ epoch_last → clock < 2 ^ 63
    → record_of (prepared (held r end) PrepareAbort (raise fenced (to_nat r.epoch)) clock) ≡ abort_of clock r
abort-record c r end clock w n b most below =
    let f = well-formed-parts c r w in
    let (pid, pid-is) = f.pid-natural in
    let (timeout, timeout-is, m, o) = f.timeout-natural in
    let (start, start_is, l) = at_least 0 r.start (n.start-natural (begin-busy r.status b)) in
    let raised : raise fenced (to_nat r.epoch) ≡ to_nat r.epoch + 1 = omega arith in
    let epoch : signed_of w16 (raise fenced (to_nat r.epoch)) ≡ pos (to_nat r.epoch + 1) = ap (signed_of w16) raised ∙ natural-back w16 (to_nat r.epoch + 1) (omega arith) in
    rw (
      signed_back w64 r.pid pid f.pid-fits pid-is,
      epoch,
      signed_back w32 r.timeout timeout f.timeout-fits timeout-is,
      natural-back w64 clock below,
      signed_back w64 r.start start f.start_fits start_is,
    )

-- ---- a Tick on a state that agrees with a history

module _ (c : Catalogue) (log : List ℕ) (s : Coordinator) (h : History) (u : UpLog c log s h) (t : HistoryInvariant c h) (time : ℤ) (timed : fits w64 time ≡ true)
    (passes : first_refusal (tick_tests s (length log)) ≡ 0) where
  abbrev clock : ℕ
  clock = clock_at s time

  abbrev decided : Decision TickAnswer Action
  decided = tick s (length log) time

  clock-below : clock < 2 ^ 63
  clock-below = later-fits w64 s.clock time (live-ready c log s h u t).numbers.clock-fits (fits-true w64 time timed)

  none-answered : length (names h) ≤ due_place clock h → (tick_reply decided.answer ≡ accepted []) × (history_after decided.action s h ≡ h)
  none-answered n =
      let d = tick-none s (length log) time passes (due-nowhere c log s h u t clock n) in
      (ap (λ (x : Decision TickAnswer Action). tick_reply x.answer) d, ap (λ (x : Decision TickAnswer Action). history_after x.action s h) d)

  module _ (n : due_place clock h < length (names h)) where
    abbrev place : ℕ
    place = due_place clock h

    abbrev row : Row
    row = row_at s.table place

    -- the row that Tick appends
    abbrev aborted : Row
    aborted = prepared row PrepareAbort (raise fenced row.epoch) clock

    there : overdue_place s clock ≡ place
    there = due-there c log s h u t clock n

    begins : is_begin row.status ≡ true
    begins = subst (λ (k : ℕ). is_begin (row_at s.table k).status ≡ true) there (overdue-found s clock (whole c log s h u t clock) (due-within c log s h u t clock n)).begins

    is_held : free row ≡ false
    is_held = busy-held row ((proper s (live-ready c log s h u t)).each place) (begin-busy row.status begins)

    known : RecordAt c log s h u t place
    known = live-record-at c log s h u t place is_held

    abbrev latest : Logged
    latest = known.latest

    latest-is : due_record clock h ≡ some latest
    latest-is = ap (λ (name : List ℕ). latest_of name h) (sym (name-at c log s h u t place n)) ∙ known.is

    -- "epoch at most 32766" where a transaction has begun
    epoch-most : row.epoch ≤ epoch_last
    epoch-most = rw (plain_row s.table place) at ((live-ready c log s h u t).valid.begun place (rw (plain_row s.table place) begins))

    abort-is : record_of aborted ≡ abort_of clock latest.content
    abort-is =
        let (formed, natural) = come-record c (records_of h) t.come latest (find-in (is_of row.name) (records_of h) latest known.is) in
        ap (λ (x : Row). record_of (prepared x PrepareAbort (raise fenced x.epoch) clock)) known.row
        ∙ abort-record c latest.content latest.end clock formed natural (sym (ap (λ (x : Row). is_begin x.status) known.row) ∙ begins)
        (let e : row.epoch ≡ to_nat latest.content.epoch = ap (λ (x : Row). x.epoch) known.row in omega (arith, epoch-most)) clock-below

    decision : decided ≡ record { answer = Aborted place; action = append place aborted }
    decision =
        tick-aborted s (length log) time passes (due-within c log s h u t clock n)
        ∙ ap (λ (k : ℕ). record { answer = Aborted k; action = append k (prepared (row_at s.table k) PrepareAbort (raise fenced (row_at s.table k).epoch) clock) }) there

    appends : Appends h (abort_of clock latest.content) (history_after decided.action s h)
    appends =
        let end = log_end s + length (row_frame s aborted) in
        (end, ap (λ (x : Decision TickAnswer Action). history_after x.action s h) decision ∙ ap (λ (r : Record). record_appended r end ∷ h) abort-is)

    abort-answered : (tick_reply decided.answer ≡ accepted (pos place ∷ []))
        × Found (λ (x : Logged). Appends h (abort_of clock x.content) (history_after decided.action s h)) (due_record clock h)
    abort-answered = (
      ap (λ (x : Decision TickAnswer Action). tick_reply x.answer) decision,
      found-is (λ (x : Logged). Appends h (abort_of clock x.content) (history_after decided.action s h)) latest-is appends,
    )

  tick-does : Ticks clock h (tick_reply decided.answer) (history_after decided.action s h)
  tick-does = record { none-due = none-answered; aborts = abort-answered }

-- ---- a Tick in a world in which the invariant holds

module _ (w : World) (i : Invariant w) (s : Coordinator) (e : w.phase ≡ up s) (time : ℤ) (timed : fits w64 time ≡ true) where
  -- the log buffer is admitted, which is all that a Tick tests
  tick-passes : first_refusal (tick_tests s (length w.log)) ≡ 0
  unfolding tick_tests
  tick-passes =
      let admitted : admits s (length w.log) ≡ true =
      written-admits (catalogue_of w) w.log s (contents (records_of w.history)) (log-of w i s e).written (length w.log) ∙ eq-eqb (length w.log) (length w.log) refl in
      none_is (tick_tests s (length w.log)) (ap not admitted, tt)

  tick-history : (step (call own (tick_call time)) w).history ≡ history_after (tick s (length w.log) time).action s w.history
  tick-history =
      ap (λ (b : Bool). (cond b (next (call own (tick_call time)) w) w).history) (and_both (fits w64 time) true timed refl)
      ∙ ap (λ (p : Phase). (while_up p w (λ x. coordinator_lent own (action_of (tick_call time) x) x w)).history) e

  pub world-ticks : Ticks (max s.clock (to_nat time)) w.history (answered (tick_call time) (record { state = s; log = w.log })) (step (call own (tick_call time)) w).history
  world-ticks =
      let answer = answered (tick_call time) (record { state = s; log = w.log }) in
      subst (λ (k : ℕ). Ticks k w.history answer (step (call own (tick_call time)) w).history) (later-max s.clock time)
      (subst (Ticks (clock_at s time) w.history answer) (sym tick-history) (tick-does (catalogue_of w) w.log s w.history (log-of w i s e) i.of-history time timed tick-passes))
