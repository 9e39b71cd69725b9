-- After an opening with a block of its pid and with the clock raised, a prepare awaits the Acks that append its complete record.
use Prim.Native.Nat.{ℕ, ◌<◌, ◌^◌}
use mathlib.Core.Path.{◌≡◌, refl, sym, ap, ◌∙◌}
use mathlib.Core.Bool.{true, false}
use mathlib.Core.List.{List}
use native.Mathlib.Omega.{arith}
use lib.ListN.{length, get_or}
use borrow.Author.Tests.{ne_eqb, le-ltb, ltb-true}
use Rattle.numbers.specs.Signed.{to_nat}
use Rattle.numbers.proofs.Tests.{not-both}
use Rattle.bits.specs.Bits.{member}
use Rattle.bits.proofs.Laws.{bit-of-none, member-is-not, member_below, none-member, left-parts, left_is}
use Rattle.catalogue.specs.Limits.{positions}
use Rattle.catalogue.specs.declared.Catalogue.{Catalogue}
use Rattle.record.specs.Record.{idle, well_formed}
use Rattle.record.specs.declared.Record.{Record}
use Rattle.record.specs.declared.Status.TheVariants.{Empty}
use Rattle.record.proofs.Bounds.{WellFormed, well-formed-parts, formed-starts, some-joined}
use Rattle.row.specs.Row.{free, is_prepare, record_of, outstanding}
use Rattle.row.specs.declared.Row.{Row}
use Rattle.row.proofs.Laws.{of-prepare}
use Rattle.succession.specs.Succession.{follows}
use Rattle.succession.proofs.Laws.{follows-completes}
use Rattle.succession.proofs.Steps.{completed-held}
use Rattle.answers.specs.Limits.{places}
use Rattle.table.specs.Next.{may_come}
use Rattle.table.specs.Table.{row_at, place_of, holds}
use Rattle.table.specs.declared.Table.{Table}
use Rattle.table.proofs.Laws.{place_found, come-follows, come-back}
use Rattle.coordinator.specs.Coordinator.{advance, after}
use Rattle.coordinator.specs.declared.Coordinator.{Coordinator}
use Rattle.coordinator.proofs.Reserve.{admits-own}
use Rattle.writable_logs.proofs.Acks.{Acknowledging}
use Rattle.writable_logs.proofs.Reopened.{reopened, Reopens}

module _ (c : Catalogue) (t : Table) (log : List ℕ) (o : Reopens c t (length log)) (r : Record) (w : well_formed c r ≡ true) (m : may_come t r ≡ true)
    (new : r.status ≡ Empty → ⊥) (prepares : is_prepare (row_at t (place_of t r.name)).status ≡ true) where
  abbrev place : ℕ
  place = place_of t r.name

  abbrev row : Row
  row = row_at t place

  -- the record follows a prepare of its name
  found : (holds t r.name ≡ true) × (follows t.next row r ≡ true)
  found = come-follows t r m new

  named : r.name ≡ row.name
  named = sym (place_found t r.name (omega (arith, ltb-true place places found.0, o.valid.proper.all)))

  busy : free row ≡ false
  busy = ne_eqb _ 0 (λ z. formed-starts c r w (ap (λ (l : List ℕ). get_or l 0 0) named ∙ z))

  parts : WellFormed c (record_of row)
  parts = well-formed-parts c (record_of row) (o.valid.formed place busy)

  -- a prepare lists partitions
  joined-some : row.joined ≡ 0 → ⊥
  joined-some z = omega (arith, some-joined row.status row.joined (of-prepare (λ s. idle s ≡ false) refl refl row.status prepares) parts.joined-status)

  none_yet : row.acknowledged < 2 ^ 64
  none_yet = omega (arith, o.valid.none-acknowledged place)

  -- none of them is acknowledged
  some-outstanding : outstanding row ≡ 0 → ⊥
  some-outstanding z =
      joined-some (none-member row.joined
      (λ q j. not-both (rw z (none q)) (left_is 64 row.joined row.acknowledged parts.joined-below none_yet q j (rw (o.valid.none-acknowledged place) (none q)))))
    where
      none : (q : ℕ) → member 0 q ≡ false
      none q = member-is-not 0 q (bit-of-none q)

  -- the state that awaits them
  abbrev raised : Coordinator
  raised = after (advance (to_nat r.updated)) (reopened c t (length log) r.pid)

  pub awaiting : Acknowledging (record { state = after (advance (to_nat r.updated)) (reopened c t (length log) r.pid); log = log }) (place_of t r.name) r positions
  awaiting =
      let (status, kept) = follows-completes t.next row r found.1 prepares in
      record {
        admitted = admits-own raised (record { proper = o.valid.proper; within = o.reserve-met });
        flushed-within = omega arith;
        held = busy;
        pid-is = kept.pid-kept;
        epoch-is = kept.epoch-kept;
        flushed = le-ltb t.end row.end (o.ends place);
        prepares = prepares;
        joined-fits = parts.joined-below;
        inside = o.valid.fits.joined place;
        acknowledged-fits = none_yet;
        some = some-outstanding;
        below = λ q e. member_below 64 row.joined q parts.joined-below (left-parts 64 row.joined row.acknowledged parts.joined-below none_yet q e).0;
        completes = ap record_of (completed-held c row r w named prepares status kept) ∙ come-back c t r w m 0;
      }
