-- Acks from all positions, the highest first, complete a prepare: those that are not outstanding change nothing, and the last outstanding one appends the complete record.
use Prim.Native.Nat.{ℕ, zero, suc, ◌≤◌, ◌<◌, ◌^◌}
use mathlib.Core.Path.{◌≡◌, refl, sym, ap, ◌∙◌, subst}
use mathlib.Core.Bool.{Bool, true, false, not}
use mathlib.Core.List.{List}
use native.Mathlib.Omega.{arith}
use lib.Dec.{eqb}
use lib.IntN.{pos}
use lib.ListN.{length}
use borrow.Author.Tests.{eqb-true, eqb-false}
use Rattle.numbers.proofs.Signed.{eq_z-is}
use Rattle.numbers.proofs.Tests.{not-both}
use Rattle.bits.specs.Bits.{member, insert, subset, difference, count}
use Rattle.bits.proofs.Laws.{member-true, member_is, member-false, member_below, none-member, subset-from, insert-below, left-parts, left_is, left-without, count_none, count_left}
use Rattle.record.specs.declared.Record.{Record}
use Rattle.row.specs.Row.{free, is_prepare, outstanding, record_of}
use Rattle.row.specs.Steps.{completed}
use Rattle.row.specs.declared.Row.{Row}
use Rattle.answers.specs.Refusals.{first_refusal, Decision}
use Rattle.answers.specs.Answer.{Answer}
use Rattle.answers.proofs.Laws.{none_is}
use Rattle.table.specs.Table.{row_at}
use Rattle.table.proofs.Reserve.{needs-prepare, needs-place}
use Rattle.coordinator.specs.Coordinator.{log_end, admits, unflushed, Action, keep, append, acknowledge, acknowledged}
use Rattle.coordinator.specs.Ack.{last_outstanding, ack_row_tests, ack_tests, ack}
use Rattle.coordinator.specs.declared.Coordinator.{Coordinator}
use Rattle.coordinator.proofs.Laws.{appended-unflushed}
use Rattle.coordinator.proofs.AckCases.{ack-refused, ack-passed, ack-nothing, ack-completed, ack-noted, acknowledged-row, acknowledged-admits}
use Rattle.writable_logs.specs.Items.{acks_below}
use Rattle.coordinator.specs.Calls.{ack_call, Writer, acts}
use Rattle.writable_logs.specs.Writer.{writes}
use Rattle.writable_logs.proofs.Decisions.{Decided, by_call}

-- the row at a place is a flushed prepare that a record completes, with positions outstanding, all of them below k
pub record Acknowledging (x : Writer) (place : ℕ) (r : Record) (k : ℕ) : Type 0 where
  pub admitted : admits x.state (length x.log) ≡ true
  pub flushed-within : x.state.flushed ≤ log_end x.state
  pub held : free (row_at x.state.table place) ≡ false
  pub pid-is : r.pid ≡ pos (row_at x.state.table place).pid
  pub epoch-is : r.epoch ≡ pos (row_at x.state.table place).epoch
  pub flushed : unflushed x.state.flushed (row_at x.state.table place) ≡ false
  pub prepares : is_prepare (row_at x.state.table place).status ≡ true
  pub joined-fits : (row_at x.state.table place).joined < 2 ^ 64
  pub inside : subset (row_at x.state.table place).joined x.state.catalogue.all ≡ true
  pub acknowledged-fits : (row_at x.state.table place).acknowledged < 2 ^ 64
  pub some : outstanding (row_at x.state.table place) ≡ 0 → ⊥
  pub below : (p : ℕ) → member (outstanding (row_at x.state.table place)) p ≡ true → p < k
  pub completes : record_of (completed (row_at x.state.table place) x.state.clock) ≡ r

module _ (text : List ℕ) (place : ℕ) (r : Record) where
  -- what an Ack for the record's producer from a position does
  abbrev ack_of : Writer → ℕ → Action
  ack_of x position = (ack x.state (length x.log) place r.pid r.epoch position).action

  acks-none : (x : Writer) → writes text (acks_below 0 place r) x ≡ x
  unfolding acks_below writes
  acks-none x = refl

  -- the first Ack comes from the highest position, and the others find what it leaves
  acks-first : (n : ℕ) (x : Writer) (a : Action) → ack_of x n ≡ a → writes text (acks_below (suc n) place r) x ≡ writes text (acks_below n place r) (acts a x)
  unfolding acks_below writes
  acks-first n x a e = ap (λ (b : Action). writes text (acks_below n place r) (acts b x)) e

  -- every Ack of a row that is not flushed is refused
  pub acks-refused : (k : ℕ) (x : Writer) → unflushed x.state.flushed (row_at x.state.table place) ≡ true → writes text (acks_below k place r) x ≡ x
  acks-refused zero x u = acks-none x
  acks-refused (suc n) x u =
      let refused = ack-refused x.state (length x.log) place r.pid r.epoch n (λ e. not-both (ack-passed x.state (length x.log) place r.pid r.epoch n e).flushed u) in
      acks-first n x keep (ap (λ (d : Decision Answer Action). d.action) refused) ∙ acks-refused n x u

  -- ---- one Ack

  module _ (x : Writer) (n : ℕ) (a : Acknowledging x place r (suc n)) where
    abbrev s : Coordinator
    s = x.state

    abbrev row : Row
    row = row_at x.state.table place

    abbrev refusal : ℕ
    refusal = first_refusal (ack_tests s (length x.log) place r.pid r.epoch n)

    abbrev does : Decision Answer Action → Action
    does d = d.action

    -- the place is one of the table's
    here : place < length s.table.rows
    here = needs-place s.table place (omega (arith, needs-prepare row.status a.prepares))

    -- a position that is not outstanding
    module _ (m : member (outstanding row) n ≡ false) where
      -- is acknowledged if it is joined
      known : member row.joined n ≡ true → member row.acknowledged n ≡ true
      known joins = go (member row.acknowledged n) refl
        where
          go : (b : Bool) → member row.acknowledged n ≡ b → b ≡ true
          go true e = refl
          go false e = not-both m (left_is 64 row.joined row.acknowledged a.joined-fits a.acknowledged-fits n joins e)

      -- so its Ack does nothing
      keeps : ack_of x n ≡ keep
      keeps = go (eqb refusal 0) refl
        where
          go : (b : Bool) → eqb refusal 0 ≡ b → ack_of x n ≡ keep
          go true e =
              let z = eqb-true refusal 0 e in
              ap does (ack-nothing s (length x.log) place r.pid r.epoch n z (known (ack-passed s (length x.log) place r.pid r.epoch n z).joins))
          go false e = ap does (ack-refused s (length x.log) place r.pid r.epoch n (eqb-false refusal 0 e))

      -- and all that are outstanding are below it
      kept : Acknowledging x place r n
      kept =
          record {
            admitted = a.admitted;
            flushed-within = a.flushed-within;
            held = a.held;
            pid-is = a.pid-is;
            epoch-is = a.epoch-is;
            flushed = a.flushed;
            prepares = a.prepares;
            joined-fits = a.joined-fits;
            inside = a.inside;
            acknowledged-fits = a.acknowledged-fits;
            some = a.some;
            below = λ p e. let other : p ≡ n → ⊥ = λ i. not-both m (ap (member (outstanding row)) (sym i) ∙ e) in omega (arith, a.below p e);
            completes = a.completes;
          }

    -- a position that is outstanding
    module _ (m : member (outstanding row) n ≡ true) where
      -- is joined and not acknowledged
      parts : (member row.joined n ≡ true) × (member row.acknowledged n ≡ false)
      parts = left-parts 64 row.joined row.acknowledged a.joined-fits a.acknowledged-fits n m

      few : n < 64
      few = member_below 64 row.joined n a.joined-fits parts.0

      -- its Ack passes the tests
      passes : refusal ≡ 0
      unfolding ack_tests ack_row_tests
      passes =
          let listed = member_is s.catalogue.all n (subset-from row.joined s.catalogue.all a.inside n (member-true row.joined n parts.0)) in
          none_is (ack_tests s (length x.log) place r.pid r.epoch n)
          (ap not a.admitted, (ap not listed, (rw a.held (ap not (eq_z-is _ _ a.pid-is)), (ap not (eq_z-is _ _ a.epoch-is), (a.flushed, (ap not a.prepares, (ap not parts.0, tt)))))))

      -- the last one completes
      ends : last_outstanding row ≡ true → ack_of x n ≡ append place (completed row s.clock)
      ends l = ap does (ack-completed s (length x.log) place r.pid r.epoch n passes parts.1 l)

      -- and all others are refused
      ended : writes text (acks_below n place r) (acts (append place (completed row s.clock)) x) ≡ acts (append place (completed row s.clock)) x
      ended = acks-refused n _ (appended-unflushed s place (completed row s.clock) here a.flushed-within)

      -- one that is not the last is acknowledged
      module _ (l : last_outstanding row ≡ false) where
        notes : ack_of x n ≡ acknowledge place n
        notes = ap does (ack-noted s (length x.log) place r.pid r.epoch n passes parts.1 l)

        -- others are left
        some_left : difference row.joined (insert row.acknowledged n) ≡ 0 → ⊥
        some_left z =
            let joins = member-true row.joined n parts.0 in
            let new = member-false row.acknowledged n parts.1 in
            let one_less = count_left row.joined row.acknowledged n a.joined-fits a.acknowledged-fits few joins new in
            eqb-false (count (outstanding row)) 1 l (one_less ∙ rw (z, count_none))

        -- all below it
        left_below : (p : ℕ) → member (difference row.joined (insert row.acknowledged n)) p ≡ true → p < n
        left_below p e =
            let (before, other) = left-without row.joined row.acknowledged n p a.joined-fits a.acknowledged-fits few e in
            omega (arith, a.below p before)

        noted : Acknowledging (acts (acknowledge place n) x) place r n
        unfolding acknowledged
        noted =
            let new = acknowledged-row s place n here in
            record {
              admitted = acknowledged-admits s place n here (length x.log) ∙ a.admitted;
              flushed-within = a.flushed-within;
              held = rw new a.held;
              pid-is = rw new a.pid-is;
              epoch-is = rw new a.epoch-is;
              flushed = rw new a.flushed;
              prepares = rw new a.prepares;
              joined-fits = rw new a.joined-fits;
              inside = rw new a.inside;
              acknowledged-fits = rw new (insert-below 64 row.acknowledged n a.acknowledged-fits few);
              some = rw new some_left;
              below = rw new left_below;
              completes = rw new a.completes;
            }

  -- ---- all Acks

  -- P holds while positions are acknowledged, and Q once the record is appended
  module _ (P Q : Writer → Type 0)
      (acknowledging : (x : Writer) (position : ℕ) → P x → Decided x.state (length x.log) (acknowledge place position) → P (acts (acknowledge place position) x))
      (completing : (x : Writer) (row : Row) → P x → Decided x.state (length x.log) (append place row) → record_of row ≡ r → Q (acts (append place row) x)) where
    -- one Ack more, where the Acks from all lower positions append the record
    acks-next : (n : ℕ) → ((x : Writer) → P x → Acknowledging x place r n → Q (writes text (acks_below n place r) x))
        → (x : Writer) → P x → Acknowledging x place r (suc n) → Q (writes text (acks_below (suc n) place r) x)
    acks-next n rest x p a = go (member (outstanding (row_at x.state.table place)) n) refl (last_outstanding (row_at x.state.table place)) refl
      where
        first_does : (act : Action) → ack_of x n ≡ act → Q (writes text (acks_below n place r) (acts act x)) → Q (writes text (acks_below (suc n) place r) x)
        first_does act e q = subst Q (sym (acks-first n x act e)) q

        decided : {act : Action} → ack_of x n ≡ act → Decided x.state (length x.log) act
        decided e = by_call (ack_call place r.pid r.epoch n) refl (sym e)

        go : (b : Bool) → member (outstanding (row_at x.state.table place)) n ≡ b → (c : Bool) → last_outstanding (row_at x.state.table place) ≡ c
            → Q (writes text (acks_below (suc n) place r) x)
        go false m c l = first_does keep (keeps x n a m) (rest x p (kept x n a m))
        go true m false l = let e = notes x n a m l in first_does _ e (rest _ (acknowledging x n p (decided e)) (noted x n a m l))
        go true m true l = let e = ends x n a m l in first_does _ e (subst Q (sym (ended x n a m)) (completing x _ p (decided e) a.completes))

    -- Acks from all positions below k append the record
    pub acks-complete : (k : ℕ) (x : Writer) → P x → Acknowledging x place r k → Q (writes text (acks_below k place r) x)
    acks-complete zero x p a = absurd (a.some (none-member _ (λ q m. omega (arith, a.below q m))))
    acks-complete (suc n) x p a = acks-next n (acks-complete n) x p a
