-- Ack by cases: when it is refused, what its tests leave when they pass, and what it then answers and does; what an acknowledged position changes.
use Prim.Native.Nat.{ℕ, ◌<◌}
use mathlib.Core.Path.{◌≡◌, refl, ◌∙◌}
use mathlib.Core.Bool.{true, false}
use native.Mathlib.Omega.{arith}
use lib.IntN.{ℤ, pos}
use lib.ListN.{length}
use borrow.Author.Tests.{not-false}
use Rattle.bits.specs.Bits.{member, insert}
use Rattle.numbers.proofs.Signed.{eq_z-true}
use Rattle.row.specs.Row.{free, is_prepare, with_acknowledged}
use Rattle.row.specs.Steps.{completed}
use Rattle.answers.specs.Refusals.{first_refusal, numbers_of, among}
use Rattle.answers.specs.Answer.{Done, Refused}
use Rattle.answers.proofs.Laws.{or-false-left, or-false-right, none-applies, unless-accepted, unless-refused}
use Rattle.table.specs.Table.{row_at, reserved, with_row}
use Rattle.table.proofs.Laws.{with-same}
use Rattle.table.proofs.Reserve.{reserved-with}
use Rattle.coordinator.specs.Coordinator.{admits, unflushed, keep, append, acknowledge, acknowledged}
use Rattle.coordinator.specs.Ack.{last_outstanding, ack_row_tests, ack_tests, ack_action, ack}
use Rattle.coordinator.specs.declared.Coordinator.{Coordinator}

module _ (s : Coordinator) (n place : ℕ) (pid epoch : ℤ) (position : ℕ) where
  pub ack-refused : (first_refusal (ack_tests s n place pid epoch position) ≡ 0 → ⊥)
      → ack s n place pid epoch position ≡ record { answer = Refused (first_refusal (ack_tests s n place pid epoch position)); action = keep }
  unfolding ack
  ack-refused h = unless-refused _ Refused keep _ h

  -- ---- what the tests leave

  pub record AckPassed : Type 0 where
    pub admitted : admits s n ≡ true
    pub listed : member s.catalogue.all position ≡ true
    pub held : free (row_at s.table place) ≡ false
    pub same-pid : pid ≡ pos (row_at s.table place).pid
    pub same-epoch : epoch ≡ pos (row_at s.table place).epoch
    pub flushed : unflushed s.flushed (row_at s.table place) ≡ false
    pub prepares : is_prepare (row_at s.table place).status ≡ true
    pub joins : member (row_at s.table place).joined position ≡ true

  pub ack-passed : first_refusal (ack_tests s n place pid epoch position) ≡ 0 → AckPassed
  unfolding ack_tests ack_row_tests numbers_of among
  ack-passed e =
      let (a, (b, (c, (d, (flushed, (f, (g, _))))))) = none-applies (ack_tests s n place pid epoch position) refl e in
      record {
        admitted = not-false _ a;
        listed = not-false _ b;
        held = or-false-left _ _ c;
        same-pid = eq_z-true pid _ (not-false _ (or-false-right (free (row_at s.table place)) _ c));
        same-epoch = eq_z-true epoch _ (not-false _ d);
        flushed = flushed;
        prepares = not-false _ f;
        joins = not-false _ g;
      }

  -- ---- what it answers and does

  module _ (e : first_refusal (ack_tests s n place pid epoch position) ≡ 0) where
    pub ack-accepted : ack s n place pid epoch position ≡ record { answer = Done; action = ack_action s place position (row_at s.table place) }
    unfolding ack
    ack-accepted = unless-accepted _ Refused keep _ e

    pub ack-nothing : member (row_at s.table place).acknowledged position ≡ true
        → ack s n place pid epoch position ≡ record { answer = Done; action = keep }
    unfolding ack_action
    ack-nothing m = ack-accepted ∙ rw m

    pub ack-completed : member (row_at s.table place).acknowledged position ≡ false → last_outstanding (row_at s.table place) ≡ true
        → ack s n place pid epoch position ≡ record { answer = Done; action = append place (completed (row_at s.table place) s.clock) }
    unfolding ack_action
    ack-completed m l = ack-accepted ∙ rw (m, l)

    pub ack-noted : member (row_at s.table place).acknowledged position ≡ false → last_outstanding (row_at s.table place) ≡ false
        → ack s n place pid epoch position ≡ record { answer = Done; action = acknowledge place position }
    unfolding ack_action
    ack-noted m l = ack-accepted ∙ rw (m, l)

-- ---- a position acknowledged

module _ (s : Coordinator) (place position : ℕ) (h : place < length s.table.rows) where
  -- the row of the place has it beside what it had
  pub acknowledged-row : row_at (acknowledged s place position).table place
      ≡ with_acknowledged (row_at s.table place) (insert (row_at s.table place).acknowledged position)
  unfolding acknowledged
  acknowledged-row = with-same s.table place _ h

  -- and the same buffers are admitted
  pub acknowledged-admits : (n : ℕ) → admits (acknowledged s place position) n ≡ admits s n
  unfolding acknowledged admits
  acknowledged-admits n =
      let row = row_at s.table place in
      let same : reserved (with_row s.table place (with_acknowledged row (insert row.acknowledged position))) ≡ reserved s.table = omega (arith, reserved-with s.table place (with_acknowledged row (insert row.acknowledged position)) h) in
      rw same
