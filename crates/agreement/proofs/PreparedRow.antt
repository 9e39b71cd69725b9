-- The row of a prepare that is its name's latest record: what Order and Ack find at its place.
use Prim.Native.Nat.{ℕ, ◌-◌, ◌≤◌, ◌<◌, ◌^◌}
use mathlib.Core.Bool.{true, false}
use mathlib.Core.Path.{◌≡◌, sym, ap, subst, ◌∙◌}
use native.Mathlib.Omega.{arith}
use lib.Bits.{and_le_l}
use borrow.Author.Tests.{eq-eqb, le-ltb}
use Rattle.bits.specs.Bits.{count, member, subset}
use Rattle.bits.proofs.Laws.{count-zero, member-true, subset-same, subset-is, subset-from, left-parts, member_is, subset-trans}
use Rattle.record.proofs.Bounds.{WellFormed, well-formed-parts}
use Rattle.search.proofs.Members.{In}
use Rattle.row.specs.Row.{is_prepare, outstanding, with_acknowledged, held}
use Rattle.row.specs.declared.Row.{Row}
use Rattle.table.specs.Table.{row_at}
use Rattle.coordinator.specs.Coordinator.{unflushed}
use Rattle.coordinator.specs.Order.{due, ordered}
use Rattle.coordinator.specs.declared.Coordinator.{Coordinator}
use Rattle.coordinator.proofs.OrderCases.{ordered-is}
use Rattle.runs.specs.History.{Logged, records_of, flushed_of}
use Rattle.runs.specs.World.{up, World, catalogue_of}
use Rattle.protocol.proofs.TableOfRecords.{come-record}
use Rattle.agreement.proofs.Invariant.{Invariant}
use Rattle.agreement.proofs.Preserves.{log-of, acks-of}

-- what is known of every record
pub record-parts : (w : World) → Invariant w → (p : Logged) → In p (records_of w.history) → WellFormed (catalogue_of w) p.content
record-parts w i p stands = well-formed-parts (catalogue_of w) p.content (come-record (catalogue_of w) (records_of w.history) i.of-history.come p stands).0

module _ (w : World) (i : Invariant w) (s : Coordinator) (u : w.phase ≡ up s) (k : ℕ) (p : Logged) (there : In p (records_of w.history)) (prepare : is_prepare p.content.status ≡ true)
    (row_is : with_acknowledged (row_at s.table k) 0 ≡ held p.content p.end) where
  abbrev row : Row
  row = row_at s.table k

  abbrev all : ℕ
  all = (catalogue_of w).all

  pub row-prepares : is_prepare row.status ≡ true
  row-prepares = ap (λ (y : Row). is_prepare y.status) row_is ∙ prepare

  pub row-joined : row.joined ≡ p.content.joined
  row-joined = ap (λ (y : Row). y.joined) row_is

  pub row_small : row.joined < 2 ^ 64
  row_small = let b = (record-parts w i p there).joined-below in omega (arith, row-joined)

  pub row-flushed : p.end ≤ flushed_of w.history → unflushed s.flushed row ≡ false
  row-flushed b = let e : row.end ≡ p.end = ap (λ (y : Row). y.end) row_is in le-ltb s.flushed row.end (omega (arith, (log-of w i s u).flushed))

  -- some partition is not acknowledged
  pub some-outstanding : count (outstanding row) ≡ 0 → ⊥
  some-outstanding z =
      let small : outstanding row < 2 ^ 64 = let b = and_le_l row.joined ((2 ^ 64 - 1) - row.acknowledged) in omega (arith, row_small) in
      (acks-of w i s u).waiting k row-prepares (count-zero 64 (outstanding row) small z)

  -- with all partitions up every outstanding one is due
  pub all-due : (set : ℕ) → subset all set ≡ true → due row set ≡ outstanding row
  all-due set more =
      let inside : subset (outstanding row) all ≡ true = subset-is (outstanding row) all (λ x m.
      let (a, _) = left-parts 64 row.joined row.acknowledged row_small ((acks-of w i s u).small k) x (member_is (outstanding row) x m) in
      subset-from p.content.joined all (eq-eqb _ _ (record-parts w i p there).joined-inside) x
      (member-true p.content.joined x (subst (λ (n : ℕ). member n x ≡ true) row-joined a))) in
      subset-same (outstanding row) set (subset-trans (outstanding row) all set inside more)

  -- so Order finds it
  pub row-ordered : p.end ≤ flushed_of w.history → (set : ℕ) → subset all set ≡ true → ordered s.flushed set row ≡ true
  row-ordered b set more =
      ordered-is s set row (record { prepares = row-prepares; flushed = row-flushed b; some = λ z. (acks-of w i s u).waiting k row-prepares (sym (all-due set more) ∙ z) })
