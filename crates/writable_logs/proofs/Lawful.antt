-- Every action that a call decides on is lawful: a record that is appended may come next, and the clock and the flushed length do not fall.
use Prim.Native.Nat.{ℕ, ◌+◌, ◌≤◌, ◌<◌, ◌^◌}
use mathlib.Core.Path.{◌≡◌, refl, sym, ap, subst, ◌∙◌}
use mathlib.Core.Bool.{Bool, true, false, cond, not, ◌&&◌}
use mathlib.Core.List.{List}
use native.Mathlib.Omega.{arith}
use lib.Dec.{eqb, leb, ltb}
use lib.IntN.{ℤ, pos}
use lib.ListN.{length}
use mir.Syntax.{w32, w64}
use borrow.Author.Tests.{lt-ltb, le-ltb, ltb-true, ltb-false, leb-true, leb-false, not-false}
use Rattle.numbers.specs.Signed.{fits, to_nat}
use Rattle.numbers.specs.Padded.{padded}
use Rattle.numbers.proofs.Signed.{natural-back, later-at-least, later-fits, at-least-is, range-natural, fits-true}
use Rattle.numbers.proofs.Tests.{by_cases, and_left, and_right, and_both, and-false-right}
use Rattle.bits.specs.Bits.{member, subset}
use Rattle.record.specs.Limits.{name_max, timeout_max}
use Rattle.record.specs.Record.{idle, well_formed}
use Rattle.record.specs.declared.Status.{Status}
use Rattle.record.specs.declared.Status.TheVariants.{PrepareCommit, PrepareAbort}
use Rattle.record.proofs.Bounds.{formed-starts}
use Rattle.record.proofs.Statuses.{each}
use Rattle.row.specs.Limits.{epoch_last, epoch_max}
use Rattle.row.specs.Row.{free, is_begin, is_prepare, record_of}
use Rattle.row.specs.Steps.{initialized, begun, widened, prepared, completed, prepare_of, fenced, raise}
use Rattle.row.specs.declared.Row.{Row}
use Rattle.row.proofs.Laws.{begin-busy, else-idle, Fits, fits-acknowledged}
use Rattle.succession.specs.Succession.{follows}
use Rattle.succession.proofs.Steps.{MayFollow, MayStart, begun-follows, widened-follows, committed-follows, aborted-follows, completed-follows, raised-follows, renewed-follows, follows-plain, initialized-starts}
use Rattle.answers.specs.Limits.{places}
use Rattle.answers.specs.Refusals.{first_refusal, Decision}
use Rattle.answers.specs.Answer.{Refused}
use Rattle.answers.specs.InitAnswer.{InitAnswer}
use Rattle.answers.specs.InitAnswer.{Refused as InitRefused}
use Rattle.answers.specs.TickAnswer.{TickAnswer}
use Rattle.answers.specs.TickAnswer.{Refused as TickRefused}
use Rattle.answers.proofs.Laws.{unless-does}
use Rattle.table.specs.Next.{in_time, may_come}
use Rattle.table.specs.Table.{row_at, place_of, lowest_free, place_for}
use Rattle.table.specs.declared.Table.{Table}
use Rattle.table.proofs.Laws.{come-held, come-new}
use Rattle.table.proofs.Reserve.{busy-held, Proper}
use Rattle.table.proofs.Records.{Starts, place-holds, place-own}
use Rattle.table.proofs.Unacknowledged.{unacknowledged, plain_row, plain-place, plain-lowest, plain-place-for, plain-next, plain-updated, plain-proper}
use Rattle.table.proofs.Valid.{Valid}
use Rattle.coordinator.specs.Coordinator.{log_end, place_of_name, row_of, holds_name, clock_at, new_pid, Action, keep, advance, append, acknowledge, flush_to}
use Rattle.coordinator.specs.Init.{needs_pid, init_row, init_tests, init_accepted, init}
use Rattle.coordinator.specs.Add.{all_joined, add_row, add_tests, add_action, add}
use Rattle.coordinator.specs.End.{end_tests, end_action, end}
use Rattle.coordinator.specs.Tick.{overdue_place, tick_tests, tick_accepted, tick}
use Rattle.coordinator.specs.Flush.{flush_tests, flush}
use Rattle.coordinator.specs.Ack.{last_outstanding, ack_tests, ack_action, ack}
use Rattle.coordinator.specs.Calls.{CoordinatorCall, init_call, add_call, end_call, tick_call, flush_call, ack_call, call_typed, action_of}
use Rattle.coordinator.specs.declared.Coordinator.{Coordinator}
use Rattle.coordinator.proofs.Held.{held-name, held-row, begun-place}
use Rattle.coordinator.proofs.InitCases.{InitPassed, init-passed}
use Rattle.coordinator.proofs.AddCases.{AddPassed, add-passed}
use Rattle.coordinator.proofs.TickCases.{overdue-found}
use Rattle.coordinator.proofs.FlushCases.{flush-passed}
use Rattle.coordinator.proofs.AckCases.{AckPassed, ack-passed}
use Rattle.writable_logs.proofs.Decisions.{Decided, by_call}

-- the numbers beside the table are those of document 01's types
pub record NumbersFit (s : Coordinator) : Type 0 where
  pub clock-fits : s.clock < 2 ^ 63
  pub epoch-fits : s.epoch < 2 ^ 31
  pub first_fits : s.first < 2 ^ 63
  pub last_fits : s.last < 2 ^ 63

-- what calls need of a state: its table is that of records, and its numbers fit
pub record Ready (s : Coordinator) : Type 0 where
  pub valid : Valid s.catalogue (unacknowledged s.table)
  pub updated-by : s.table.updated ≤ s.clock
  pub numbers : NumbersFit s

-- a row whose record may come next, at the place of its name
pub record ComesNext (s : Coordinator) (place : ℕ) (row : Row) : Type 0 where
  pub place_is : place_for s.table row.name ≡ place
  pub fits : Fits row
  pub formed : well_formed s.catalogue (record_of row) ≡ true
  pub comes : may_come (unacknowledged s.table) (record_of row) ≡ true
  pub none-acknowledged : row.acknowledged ≡ 0

-- what an action of a call may be: neither the clock nor the flushed length falls, and what is appended comes next
abbrev pub Lawful : Coordinator → Action → Type 0
Lawful s keep = Unit {0}
Lawful s (advance clock) = (s.clock ≤ clock) × (clock < 2 ^ 63)
Lawful s (append place row) = ComesNext s place row
Lawful s (acknowledge place position) = Unit {0}
Lawful s (flush_to n) = (s.flushed ≤ n) × (n ≤ log_end s)

-- ---- a record that may come next

module _ (s : Coordinator) (r : Ready s) where
  -- the table whose rows say nothing of acknowledgements
  abbrev plain : Table
  plain = unacknowledged s.table

  proper : Proper s.table.rows
  proper = plain-proper s.table r.valid.proper

  row_fits : (place : ℕ) → Fits (row_at s.table place)
  row_fits place = fits-acknowledged (row_at s.table place) 0 (rw (plain_row s.table place) at (r.valid.fits.each place))

  row-formed : (place : ℕ) → free (row_at s.table place) ≡ false → well_formed s.catalogue (record_of (row_at s.table place)) ≡ true
  row-formed place f = rw (plain_row s.table place) at (r.valid.formed place (rw (plain_row s.table place) f))

  in-time : (new : Row) → Fits new → s.table.updated ≤ new.updated → in_time plain (record_of new) ≡ true
  in-time new f u =
      at-least-is plain.updated (record_of new).updated new.updated (natural-back w64 new.updated f.updated-fits)
      (rw (plain-updated s.table) u)

  -- over a row that is held
  held_next : (place : ℕ) → free (row_at s.table place) ≡ false → (new : Row) → MayFollow s.catalogue s.table.next (row_at s.table place) new
      → s.table.updated ≤ new.updated → new.acknowledged ≡ 0
      → ComesNext s place new
  held_next place f new m u a =
      record {
        place_is = sym (plain-place-for s.table new.name) ∙ rw (lt-ltb (place_of plain new.name) places holding) own;
        fits = m.fits;
        formed = m.formed;
        comes = come-held plain (record_of new) (in-time new m.fits u) holding follow;
        none-acknowledged = a;
      }
    where
      starts : Starts new.name
      starts = formed-starts s.catalogue (record_of new) m.formed

      named : (row_at plain place).name ≡ new.name
      named = ap (λ (row : Row). row.name) (plain_row s.table place) ∙ sym m.same_name

      holding : place_of plain new.name < places
      holding = place-holds plain new.name r.valid.proper.all place starts named

      own : place_of plain new.name ≡ place
      own = place-own plain new.name r.valid.proper.all r.valid.differ place starts named

      follow : follows plain.next (row_at plain (place_of plain new.name)) (record_of new) ≡ true
      follow =
          rw (
            own,
            plain_row s.table place,
            plain-next s.table,
            follows-plain s.table.next (row_at s.table place) 0 (record_of new),
          )
          m.following

  -- of a name that is not held
  new-next : (new : Row) → MayStart s.catalogue s.table.next new → places ≤ place_of s.table new.name → lowest_free s.table < places
      → s.table.updated ≤ new.updated → new.acknowledged ≡ 0
      → ComesNext s (lowest_free s.table) new
  new-next new m n l u a =
      record {
        place_is = rw (le-ltb (place_of s.table new.name) places n) refl;
        fits = m.fits;
        formed = m.formed;
        comes =
            come-new plain (record_of new) (in-time new m.fits u) (rw (plain-place s.table new.name) n) (rw (plain-next s.table) m.starting)
            (rw (plain-lowest s.table) l);
        none-acknowledged = a;
      }

  -- a transaction that has begun is of a name that is held
  begun-held : (place : ℕ) → is_begin (row_at s.table place).status ≡ true → free (row_at s.table place) ≡ false
  begun-held place b = busy-held (row_at s.table place) (proper.each place) (begin-busy (row_at s.table place).status b)

  -- ---- Flush and Ack

  flush-lawful : (length : ℕ) → Lawful s (flush s length).action
  unfolding flush
  flush-lawful length =
      unless-does (first_refusal (flush_tests s length)) Refused keep _ (Lawful s) tt (λ e. let p = flush-passed s length e in (p.rises, p.within))

  ack-lawful : (n place : ℕ) (pid epoch : ℤ) (position : ℕ) → Lawful s (ack s n place pid epoch position).action
  unfolding ack ack_action
  ack-lawful n place pid epoch position =
      unless-does (first_refusal (ack_tests s n place pid epoch position)) Refused keep _ (Lawful s) tt (λ e. accepted (ack-passed s n place pid epoch position e))
    where
      row : Row
      row = row_at s.table place

      completes : free row ≡ false → is_prepare row.status ≡ true → ComesNext s place (completed row s.clock)
      completes f p =
          held_next place f _ (completed-follows s.catalogue s.table.next row (row_fits place) (row-formed place f) s.clock r.numbers.clock-fits p)
          r.updated-by refl

      accepted : AckPassed s n place pid epoch position → Lawful s (ack_action s place position row)
      accepted p =
          by_cases (Lawful s) (member row.acknowledged position) (λ m. tt)
          (λ m. by_cases (Lawful s) (last_outstanding row) (λ l. completes p.held p.prepares) (λ l. tt))

  -- ---- the calls that are given a time

  module _ (time : ℤ) (timed : fits w64 time ≡ true) where
    abbrev clock : ℕ
    clock = clock_at s time

    clock-below : clock < 2 ^ 63
    clock-below = later-fits w64 s.clock time r.numbers.clock-fits (fits-true w64 time timed)

    rises : s.table.updated ≤ clock
    rises = omega (arith, r.updated-by, later-at-least s.clock time)

    advance-lawful : Lawful s (advance clock)
    advance-lawful = (later-at-least s.clock time, clock-below)

    -- an abort with the held epoch or the next
    abort-next : (place epoch : ℕ) → is_begin (row_at s.table place).status ≡ true → (row_at s.table place).epoch ≤ epoch → epoch ≤ (row_at s.table place).epoch + 1 → epoch < 2 ^ 15
        → ComesNext s place (prepared (row_at s.table place) PrepareAbort epoch clock)
    abort-next place epoch b low high below =
        let f = begun-held place b in
        held_next place f _
        (aborted-follows s.catalogue s.table.next (row_at s.table place) (row_fits place) (row-formed place f) clock clock-below epoch b low high below)
        rises refl

    -- one that fences its producer
    fenced-next : (place : ℕ) → is_begin (row_at s.table place).status ≡ true
        → ComesNext s place (prepared (row_at s.table place) PrepareAbort (raise fenced (row_at s.table place).epoch) clock)
    fenced-next place b =
        let l = (row_fits place).epoch-fits in
        abort-next place (raise fenced (row_at s.table place).epoch) b (omega arith) (omega arith) (omega arith)

    -- ---- Tick

    tick-lawful : (n : ℕ) → Lawful s (tick s n time).action
    unfolding tick tick_accepted
    tick-lawful n =
        unless-does (first_refusal (tick_tests s n)) TickRefused keep (tick_accepted s time) (Lawful s) tt
        (λ e. by_cases (λ (d : Decision TickAnswer Action). Lawful s d.action) (ltb place places) aborts (λ l. advance-lawful))
      where
        place : ℕ
        place = overdue_place s clock

        aborts : ltb place places ≡ true → ComesNext s place (prepared (row_at s.table place) PrepareAbort (raise fenced (row_at s.table place).epoch) clock)
        aborts l = fenced-next place (overdue-found s clock proper.all (ltb-true place places l)).begins

    -- ---- the calls by name

    module _ (n : ℕ) (name : List ℕ) where
      abbrev place : ℕ
      place = place_of_name s name

      abbrev row : Row
      row = row_of s name

      -- ---- End

      end-lawful : (pid epoch : ℤ) (verdict : ℕ) → Lawful s (end s n name pid epoch verdict time).action
      unfolding end end_action
      end-lawful pid epoch verdict =
          unless-does (first_refusal (end_tests s n name pid epoch verdict)) Refused keep _ (Lawful s) tt
          (λ e. by_cases (Lawful s) (is_begin row.status) prepares (λ b. advance-lawful))
        where
          commits : is_begin row.status ≡ true → ComesNext s place (prepared row PrepareCommit row.epoch clock)
          commits b =
              let f = begun-held place b in
              held_next place f _ (committed-follows s.catalogue s.table.next row (row_fits place) (row-formed place f) clock clock-below b) rises refl

          aborts : is_begin row.status ≡ true → ComesNext s place (prepared row PrepareAbort row.epoch clock)
          aborts b = abort-next place row.epoch b (omega arith) (omega arith) (row_fits place).epoch-fits

          prepares : is_begin row.status ≡ true → ComesNext s place (prepared row (prepare_of verdict) row.epoch clock)
          prepares b = by_cases (λ (x : Status). ComesNext s place (prepared row x row.epoch clock)) (eqb verdict 0) (λ q. commits b) (λ q. aborts b)

      -- ---- Add

      module _ (pid epoch : ℤ) (set : ℕ) (small : set < 2 ^ 64) where
        module _ (p : AddPassed s n name pid epoch set time) where
          widens : is_begin row.status ≡ true → all_joined row set ≡ false → ComesNext s place (widened row set clock)
          unfolding all_joined
          widens b j =
              let f = begun-held place b in
              let more = and-false-right (is_begin row.status) (subset set row.joined) b j in
              held_next place f _
              (widened-follows s.catalogue s.table.next row (row_fits place) (row-formed place f) clock clock-below set b small p.listed more)
              rises refl

          -- "Epoch 32767 is refusal 11."
          epoch-most : row.epoch ≤ epoch_last
          epoch-most =
              let l = (row_fits place).epoch-fits in
              let d : row.epoch ≡ epoch_max → ⊥ = λ q. p.below (p.same-epoch ∙ ap pos q) in
              omega arith

          begins : is_begin row.status ≡ false → ComesNext s place (begun row set clock)
          begins b =
              let f = held-row s proper.all name p.named p.held in
              let i = else-idle row.status b p.unprepared in
              held_next place f _
              (begun-follows s.catalogue s.table.next row (row_fits place) (row-formed place f) clock clock-below set i (omega (arith, epoch-most)) p.some small p.listed)
              rises refl

          joins : all_joined row set ≡ false → ComesNext s place (add_row row set clock)
          unfolding add_row
          joins j = by_cases (ComesNext s place) (is_begin row.status) (λ b. widens b j) begins

        add-lawful : Lawful s (add s n name pid epoch set time).action
        unfolding add add_action
        add-lawful =
            unless-does (first_refusal (add_tests s n name pid epoch set time)) Refused keep _ (Lawful s) tt
            (λ e. by_cases (Lawful s) (all_joined row set) (λ j. advance-lawful) (joins (add-passed s n name pid epoch set time e)))

      -- ---- Init

      module _ (timeout : ℤ) where
        -- the row of status 0 that is appended
        abbrev taken : ℕ → ℕ → Row
        taken pid epoch = initialized (padded name_max name) pid epoch (to_nat timeout) clock

        aborts : is_begin row.status ≡ true → ComesNext s (place_for s.table (padded name_max name)) (prepared row PrepareAbort (raise fenced row.epoch) clock)
        aborts b =
            subst (λ (q : ℕ). ComesNext s q (prepared row PrepareAbort (raise fenced row.epoch) clock)) (sym (begun-place s proper.all name b)) (fenced-next place b)

        module _ (p : InitPassed s n name timeout time) (b : is_begin row.status ≡ false) where
          -- "2 timeout not 1..900000"
          timeout-least : 1 ≤ to_nat timeout
          timeout-least = let (k, e, l, m) = range-natural 1 timeout_max timeout p.timed in rw e l

          timeout-most : to_nat timeout ≤ timeout_max
          timeout-most = let (k, e, l, m) = range-natural 1 timeout_max timeout p.timed in rw e m

          -- "16 pids spent"
          pid-below : needs_pid (holds_name s name) row ≡ true → new_pid s < 2 ^ 63
          pid-below q =
              let new : (not (is_begin row.status) && needs_pid (holds_name s name) row) ≡ true = and_both _ _ (ap not b) q in
              omega (arith, r.numbers.last_fits, ltb-false s.last (new_pid s) (and-false-right _ (ltb s.last (new_pid s)) new p.unspent))

          module _ (e : holds_name s name ≡ true) where
            named : free row ≡ false
            named = held-row s proper.all name p.named e

            idles : idle row.status ≡ true
            idles = else-idle row.status b p.unprepared

            -- over the row that is held, which has the name that was given
            over : (pid epoch : ℕ) → MayFollow s.catalogue s.table.next row (initialized row.name pid epoch (to_nat timeout) clock) → ComesNext s place (taken pid epoch)
            over pid epoch m =
                subst (λ (l : List ℕ). ComesNext s place (initialized l pid epoch (to_nat timeout) clock)) (held-name s proper.all name e) (held_next place named _ m rises refl)

            renews : leb epoch_last row.epoch ≡ true → ComesNext s place (taken (new_pid s) 0)
            renews q =
                over (new_pid s) 0
                (renewed-follows s.catalogue s.table.next row (row_fits place) (row-formed place named) clock clock-below (new_pid s) (to_nat timeout) idles (leb-true epoch_last row.epoch q) (omega arith) (pid-below (rw e q)) timeout-least timeout-most)

            raises : leb epoch_last row.epoch ≡ false → ComesNext s place (taken row.pid (row.epoch + 1))
            raises q =
                over row.pid (row.epoch + 1)
                (raised-follows s.catalogue s.table.next row (row_fits place) (row-formed place named) clock clock-below (to_nat timeout) idles (leb-false epoch_last row.epoch q) timeout-least timeout-most)

          starts : holds_name s name ≡ false → ComesNext s (lowest_free s.table) (taken (new_pid s) 0)
          starts e =
              new-next _
              (initialized-starts s.catalogue s.table.next name (new_pid s) (to_nat timeout) clock p.named (omega arith) (pid-below (rw e refl)) timeout-least timeout-most clock-below)
              (ltb-false place places e) (ltb-true (lowest_free s.table) places (not-false _ (rw e at p.placed))) rises refl

          -- at the place that holds the name, or at the lowest free one
          gives : (known : Bool) → holds_name s name ≡ known → ComesNext s (cond known place (lowest_free s.table)) (init_row s (padded name_max name) known row timeout time)
          unfolding init_row
          gives true e = by_cases (ComesNext s place) (leb epoch_last row.epoch) (renews e) (raises e)
          gives false e = starts e

        init-lawful : Lawful s (init s n name timeout time).action
        unfolding init init_accepted
        init-lawful =
            unless-does (first_refusal (init_tests s n name timeout time)) InitRefused keep (init_accepted s name timeout time) (Lawful s) tt
            (λ e. by_cases (λ (d : Decision InitAnswer Action). Lawful s d.action) (is_begin row.status) aborts (λ b. gives (init-passed s n name timeout time e) b (holds_name s name) refl))

  -- ---- whichever call it is

  call-lawful : (n : ℕ) (c : CoordinatorCall) → call_typed c ≡ true → Lawful s (action_of c s n)
  call-lawful n (init_call name timeout time) t = init-lawful time (and_right (fits w32 timeout) (fits w64 time) t) n name timeout
  call-lawful n (add_call name pid epoch set time) t =
      add-lawful time (search (and_left, and_right) depth 8) n name pid epoch set (ltb-true set (2 ^ 64) (search (and_left, and_right) depth 8))
  call-lawful n (end_call name pid epoch verdict time) t = end-lawful time (search (and_left, and_right) depth 8) n name pid epoch verdict
  call-lawful n (tick_call time) t = tick-lawful time t n
  call-lawful n (flush_call length) t = flush-lawful length
  call-lawful n (ack_call place pid epoch position) t = ack-lawful n place pid epoch position

pub decided-lawful : (s : Coordinator) → Ready s → (n : ℕ) (a : Action) → Decided s n a → Lawful s a
decided-lawful s r n a (by_call c t e) = rw e (call-lawful s r n c t)
