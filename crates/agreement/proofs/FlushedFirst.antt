-- Refusal 12 in every call but Ack: what the call appends follows a record of its name that is flushed and is no prepare.
use Prim.Native.Nat.{ℕ}
use mathlib.Core.Path.{◌≡◌, refl, sym, ap, ◌∙◌}
use mathlib.Core.Bool.{true, false}
use mathlib.Core.List.{List}
use lib.Dec.{ltb}
use lib.IntN.{ℤ}
use lib.ListN.{get_or}
use borrow.Author.Tests.{eqb-false, ltb-true}
use Rattle.numbers.proofs.Tests.{by_cases, not-both}
use Rattle.answers.specs.Limits.{places}
use Rattle.answers.specs.Refusals.{first_refusal, Decision}
use Rattle.answers.specs.Answer.{Refused}
use Rattle.answers.specs.InitAnswer.{InitAnswer}
use Rattle.answers.specs.InitAnswer.{Refused as InitRefused}
use Rattle.answers.specs.TickAnswer.{TickAnswer}
use Rattle.answers.specs.TickAnswer.{Refused as TickRefused}
use Rattle.answers.proofs.Laws.{unless-does}
use Rattle.row.specs.Row.{free, is_begin, is_prepare}
use Rattle.row.specs.declared.Row.{Row}
use Rattle.row.proofs.Laws.{begin-busy, begin-unprepared}
use Rattle.table.specs.Table.{row_at, place_of}
use Rattle.table.proofs.Reserve.{busy-held, Proper}
use Rattle.table.proofs.Records.{place-own}
use Rattle.table.proofs.Unacknowledged.{unacknowledged, plain_row, plain-place, plain-proper}
use Rattle.coordinator.specs.Coordinator.{row_of, place_of_name, holds_name, unflushed, clock_at, Action, keep, advance, append, acknowledge, flush_to}
use Rattle.coordinator.specs.Init.{init_row, init_tests, init_accepted, init, needs_pid}
use Rattle.coordinator.specs.Add.{all_joined, add_row, add_tests, add_action, add}
use Rattle.coordinator.specs.End.{end_tests, end_action, end}
use Rattle.coordinator.specs.Tick.{overdue_place, tick_tests, tick_accepted, tick}
use Rattle.coordinator.specs.Flush.{flush_tests, flush}
use Rattle.coordinator.specs.declared.Coordinator.{Coordinator}
use Rattle.coordinator.specs.Calls.{CoordinatorCall, init_call, add_call, end_call, tick_call, flush_call, ack_call, action_of}
use Rattle.coordinator.proofs.Held.{held-row}
use Rattle.coordinator.proofs.InitCases.{init-passed}
use Rattle.coordinator.proofs.AddCases.{add-passed}
use Rattle.coordinator.proofs.EndCases.{end-passed}
use Rattle.coordinator.proofs.TickCases.{overdue-found}
use Rattle.writable_logs.proofs.Lawful.{Ready}
use Rattle.runs.specs.World.{is_ack}

-- what a name's row must be for a record of it to be appended
pub record MayFollow (s : Coordinator) (name : List ℕ) : Type 0 where
  pub flushed : unflushed s.flushed (row_at s.table (place_of s.table name)) ≡ false
  pub unprepared : is_prepare (row_at s.table (place_of s.table name)).status ≡ false

abbrev pub FlushedFirst : Coordinator → Action → Type 0
FlushedFirst s keep = Unit {0}
FlushedFirst s (advance clock) = Unit {0}
FlushedFirst s (append place row) = MayFollow s row.name
FlushedFirst s (acknowledge place position) = ⊥
FlushedFirst s (flush_to n) = Unit {0}

module _ (s : Coordinator) (r : Ready s) where
  pub proper : Proper s.table.rows
  proper = plain-proper s.table r.valid.proper

  -- a name that stands at a place is found there
  pub own-place : (k : ℕ) → free (row_at s.table k) ≡ false → place_of s.table (row_at s.table k).name ≡ k
  own-place k f =
      sym (plain-place s.table (row_at s.table k).name)
      ∙ place-own (unacknowledged s.table) (row_at s.table k).name r.valid.proper.all r.valid.differ k (λ z. eqb-false (get_or (row_at s.table k).name 0 0) 0 f z)
      (ap (λ (row : Row). row.name) (plain_row s.table k))

  -- over a row that is held
  over : (k : ℕ) → free (row_at s.table k) ≡ false → unflushed s.flushed (row_at s.table k) ≡ false → is_prepare (row_at s.table k).status ≡ false → (name : List ℕ) → name ≡ (row_at s.table k).name
      → MayFollow s name
  over k f u p name e = let q : place_of s.table name ≡ k = rw e (own-place k f) in record { flushed = rw q u; unprepared = rw q p }

  begun-held : (k : ℕ) → is_begin (row_at s.table k).status ≡ true → free (row_at s.table k) ≡ false
  begun-held k b = busy-held (row_at s.table k) (proper.each k) (begin-busy (row_at s.table k).status b)

  init-flushed-first : (n : ℕ) (name : List ℕ) (timeout time : ℤ) → FlushedFirst s (init s n name timeout time).action
  unfolding init init_accepted init_row
  init-flushed-first n name timeout time =
      unless-does (first_refusal (init_tests s n name timeout time)) InitRefused keep (init_accepted s name timeout time) (FlushedFirst s) tt
      (λ e.
      let p = init-passed s n name timeout time e in
      by_cases (λ (d : Decision InitAnswer Action). FlushedFirst s d.action) (is_begin (row_of s name).status)
      (λ b. over (place_of_name s name) (begun-held (place_of_name s name) b) p.flushed p.unprepared (row_of s name).name refl)
      (λ b. by_cases (λ (row : Row). MayFollow s row.name) (needs_pid (holds_name s name) (row_of s name)) (λ q. record { flushed = p.flushed; unprepared = p.unprepared })
      (λ q. record { flushed = p.flushed; unprepared = p.unprepared })))

  add-flushed-first : (n : ℕ) (name : List ℕ) (pid epoch : ℤ) (set : ℕ) (time : ℤ) → FlushedFirst s (add s n name pid epoch set time).action
  unfolding add add_action add_row
  add-flushed-first n name pid epoch set time =
      unless-does (first_refusal (add_tests s n name pid epoch set time)) Refused keep _ (FlushedFirst s) tt
      (λ e.
      let p = add-passed s n name pid epoch set time e in
      let f = held-row s proper.all name p.named p.held in
      by_cases (FlushedFirst s) (all_joined (row_of s name) set) (λ j. tt)
      (λ j. by_cases (λ (row : Row). MayFollow s row.name) (is_begin (row_of s name).status) (λ b. over (place_of_name s name) f p.flushed p.unprepared (row_of s name).name refl)
      (λ b. over (place_of_name s name) f p.flushed p.unprepared (row_of s name).name refl)))

  end-flushed-first : (n : ℕ) (name : List ℕ) (pid epoch : ℤ) (verdict : ℕ) (time : ℤ) → FlushedFirst s (end s n name pid epoch verdict time).action
  unfolding end end_action
  end-flushed-first n name pid epoch verdict time =
      unless-does (first_refusal (end_tests s n name pid epoch verdict)) Refused keep _ (FlushedFirst s) tt
      (λ e.
      let p = end-passed s n name pid epoch verdict time e in
      by_cases (FlushedFirst s) (is_begin (row_of s name).status) (λ b. over (place_of_name s name) (begun-held (place_of_name s name) b) p.flushed p.unprepared (row_of s name).name refl) (λ b. tt))

  tick-flushed-first : (n : ℕ) (time : ℤ) → FlushedFirst s (tick s n time).action
  unfolding tick tick_accepted
  tick-flushed-first n time =
      unless-does (first_refusal (tick_tests s n)) TickRefused keep (tick_accepted s time) (FlushedFirst s) tt
      (λ e. by_cases (λ (d : Decision TickAnswer Action). FlushedFirst s d.action) (ltb place places)
      (λ l. let o = overdue-found s (clock_at s time) proper.all (ltb-true place places l) in over place (begun-held place o.begins) o.flushed
      (begin-unprepared (row_at s.table place).status o.begins) (row_at s.table place).name refl)
      (λ l. tt))
    where
      place : ℕ
      place = overdue_place s (clock_at s time)

  flush-flushed-first : (n : ℕ) → FlushedFirst s (flush s n).action
  unfolding flush
  flush-flushed-first n = unless-does (first_refusal (flush_tests s n)) Refused keep _ (FlushedFirst s) tt (λ e. tt)

  pub call-flushed-first : (n : ℕ) (c : CoordinatorCall) → is_ack c ≡ false → FlushedFirst s (action_of c s n)
  call-flushed-first n (init_call name timeout time) b = init-flushed-first n name timeout time
  call-flushed-first n (add_call name pid epoch set time) b = add-flushed-first n name pid epoch set time
  call-flushed-first n (end_call name pid epoch verdict time) b = end-flushed-first n name pid epoch verdict time
  call-flushed-first n (tick_call time) b = tick-flushed-first n time
  call-flushed-first n (flush_call length) b = flush-flushed-first length
  call-flushed-first n (ack_call place pid epoch position) b = not-both b refl
