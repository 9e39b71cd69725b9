-- The call that raises the clock after an opening appends nothing: an Add of partitions that are all joined, or a Tick where no transaction has begun.
use Prim.Native.Nat.{ℕ, ◌^◌, ◌≤◌, ◌<◌}
use mathlib.Core.Path.{◌≡◌, refl, sym, ap, ◌∙◌}
use mathlib.Core.Bool.{true, false, not}
use mathlib.Core.List.{List}
use native.Mathlib.Omega.{arith}
use lib.Dec.{ltb}
use lib.IntN.{ℤ, pos}
use lib.Signed.{le_z}
use borrow.Author.Tests.{lt-ltb, le-ltb, ltb-true, ltb-false}
use mir.Syntax.{w16, w64}
use Rattle.numbers.specs.Signed.{fits, to_nat}
use Rattle.numbers.specs.Padded.{padded}
use Rattle.numbers.proofs.Signed.{natural-back, later-is, fits-is}
use Rattle.numbers.proofs.Tests.{by_cases}
use Rattle.bits.proofs.Laws.{subset-is}
use Rattle.catalogue.specs.declared.Catalogue.{Catalogue}
use Rattle.record.specs.Limits.{name_max}
use Rattle.record.specs.Record.{idle, record_name, well_formed}
use Rattle.record.proofs.Bounds.{WellFormed, well-formed-parts, name-starts, name_back, name-fits, some-joined}
use Rattle.search.proofs.Laws.{first_found, first-before}
use Rattle.row.specs.Limits.{epoch_max}
use Rattle.row.specs.Row.{free_row, free, is_begin, is_prepare, record_of}
use Rattle.row.specs.declared.Row.{Row}
use Rattle.row.proofs.Laws.{is-begin, begin-busy}
use Rattle.answers.specs.Limits.{places}
use Rattle.answers.specs.Refusals.{first_refusal, Decision}
use Rattle.answers.specs.Answer.{Answer}
use Rattle.answers.specs.TickAnswer.{TickAnswer}
use Rattle.answers.proofs.Laws.{none_is}
use Rattle.table.specs.Table.{row_at, place_of}
use Rattle.table.specs.declared.Table.{Table}
use Rattle.table.proofs.Records.{place-own}
use Rattle.table.proofs.Reserve.{busy-held}
use Rattle.coordinator.specs.Coordinator.{admits, clock_at, Action, advance}
use Rattle.coordinator.specs.Add.{all_joined, add_tests}
use Rattle.coordinator.specs.Tick.{overdue, tick_tests}
use Rattle.coordinator.specs.declared.Coordinator.{Coordinator}
use Rattle.coordinator.proofs.AddCases.{add-passes, add_nothing}
use Rattle.coordinator.proofs.Reserve.{admits-own}
use Rattle.coordinator.proofs.TickCases.{overdue-nowhere, tick-none}
use Rattle.writable_logs.specs.Items.{begun_place, add_joined, clock_call}
use Rattle.writable_logs.proofs.Reopened.{reopened, Reopens}
use Rattle.coordinator.specs.Calls.{CoordinatorCall, tick_call, call_typed, action_of}

module _ (c : Catalogue) (t : Table) (room : ℕ) (o : Reopens c t room) (pid updated : ℤ) (fit : fits w64 updated ≡ true)
    (time : le_z (pos t.updated) updated ≡ true) where
  abbrev s : Coordinator
  s = reopened c t room pid

  -- the buffer is admitted
  admitted : admits s room ≡ true
  admitted = admits-own s (record { proper = o.valid.proper; within = o.reserve-met })

  -- ---- where a transaction has begun

  module _ (h : begun_place t < places) where
    abbrev row : Row
    row = row_at t (begun_place t)

    abbrev name : List ℕ
    name = record_name (record_of row)

    begins : is_begin row.status ≡ true
    begins = first_found (λ (x : Row). is_begin x.status) t.rows free_row (omega (arith, o.valid.proper.all))

    busy : idle row.status ≡ false
    busy = begin-busy row.status begins

    -- the row holds a name, for a free row is idle
    held : free row ≡ false
    held = busy-held row (o.valid.proper.each (begun_place t)) busy

    formed : well_formed c (record_of row) ≡ true
    formed = o.valid.formed (begun_place t) held

    known : WellFormed c (record_of row)
    known = well-formed-parts c (record_of row) formed

    -- its name is held at its place
    own : place_of t (padded name_max name) ≡ begun_place t
    own =
        place-own t (padded name_max name) o.valid.proper.all o.valid.differ (begun_place t) (name-starts name (name-fits c (record_of row) formed))
        (sym (name_back c (record_of row) formed))

    -- all that it has joined is joined
    joined : all_joined row row.joined ≡ true
    unfolding all_joined
    joined = rw begins (subset-is row.joined row.joined (λ p m. m))

    some : row.joined ≡ 0 → ⊥
    some z = omega (arith, some-joined row.status row.joined busy known.joined-status)

    -- its numbers are those of its record
    same-pid : (record_of row).pid ≡ pos row.pid
    same-pid = natural-back w64 row.pid (o.valid.fits.each (begun_place t)).pid-fits

    same-epoch : (record_of row).epoch ≡ pos row.epoch
    same-epoch = natural-back w16 row.epoch (o.valid.fits.each (begun_place t)).epoch-fits

    -- "Epoch 32767 is refusal 11.", and no transaction has begun with it
    below : (record_of row).epoch ≡ pos epoch_max → ⊥
    below q = let e : row.epoch ≡ epoch_max = ap to_nat (sym same-epoch ∙ q) in omega (arith, o.valid.begun (begun_place t) begins)

    unprepared : is_prepare row.status ≡ false
    unprepared = ap is_prepare (is-begin row.status begins)

    -- no test of an Add of it applies
    passes : first_refusal (add_tests s room name (record_of row).pid (record_of row).epoch row.joined updated) ≡ 0
    passes =
        add-passes s room name (record_of row).pid (record_of row).epoch row.joined updated
        (record {
          admitted = admitted;
          named = name-fits c (record_of row) formed;
          some = some;
          listed = o.valid.fits.joined (begun_place t);
          held = rw own (lt-ltb (begun_place t) places h);
          same-pid = rw own same-pid;
          same-epoch = rw own same-epoch;
          below = below;
          flushed = rw own (le-ltb t.end row.end (o.ends (begun_place t)));
          unprepared = rw own unprepared;
          room = rw (own, joined) refl;
        })

    -- so it advances the clock
    joined-advances : action_of (add_joined row updated) s room ≡ advance (clock_at s updated)
    joined-advances =
        ap (λ (d : Decision Answer Action). d.action)
        (add_nothing s room name (record_of row).pid (record_of row).epoch row.joined updated passes (rw own joined))

    joined_typed : call_typed (add_joined row updated) ≡ true
    joined_typed =
        rw (fits-is w64 (record_of row).pid known.pid-fits, fits-is w16 (record_of row).epoch known.epoch-fits, lt-ltb row.joined (2 ^ 64) known.joined-below) fit

  -- ---- where none has begun

  -- no transaction is overdue
  none-overdue : places ≤ begun_place t → (place : ℕ) → place < places → overdue t.end (clock_at s updated) (row_at t place) ≡ false
  unfolding overdue
  none-overdue h place l = rw (first-before (λ (x : Row). is_begin x.status) t.rows free_row place (omega arith))

  -- so a Tick advances the clock
  tick-advances : places ≤ begun_place t → action_of (tick_call updated) s room ≡ advance (clock_at s updated)
  unfolding tick_tests
  tick-advances h =
      ap (λ (d : Decision TickAnswer Action). d.action)
      (tick-none s room updated (none_is (tick_tests s room) (ap not admitted, tt)) ((overdue-nowhere s (clock_at s updated) o.valid.proper.all).1 (none-overdue h)))

  -- ---- either way

  pub clock-typed : call_typed (clock_call t updated) ≡ true
  clock-typed =
      by_cases (λ (call : CoordinatorCall). call_typed call ≡ true) (ltb (begun_place t) places) (λ e. joined_typed (ltb-true (begun_place t) places e)) (λ e. fit)

  -- the clock is the time given
  pub clock-advances : action_of (clock_call t updated) (reopened c t room pid) room ≡ advance (to_nat updated)
  clock-advances =
      by_cases (λ (call : CoordinatorCall). action_of call s room ≡ advance (clock_at s updated)) (ltb (begun_place t) places)
      (λ e. joined-advances (ltb-true (begun_place t) places e)) (λ e. tick-advances (ltb-false (begun_place t) places e))
      ∙ ap advance (later-is t.updated updated time)
