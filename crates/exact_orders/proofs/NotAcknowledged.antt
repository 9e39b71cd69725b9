-- What the history says is not acknowledged of a prepare is what the state has left of it.
use Prim.Native.Nat.{ℕ, ◌^◌, ◌<◌}
use mathlib.Core.Path.{◌≡◌, refl, sym, ap, ◌∙◌}
use mathlib.Core.Bool.{true, false, not}
use mathlib.Core.List.{[]}
use mathlib.Core.Option.{some}
use native.Mathlib.Omega.{arith}
use Rattle.bits.specs.Bits.{member, difference, count, members}
use Rattle.bits.proofs.Laws.{bit-of-none, member-is-not, difference-none}
use Rattle.catalogue.specs.Limits.{positions}
use Rattle.search.specs.Search.{find}
use Rattle.search.proofs.Laws.{count_same}
use Rattle.search.proofs.Members.{In}
use Rattle.search.proofs.Find.{find-in}
use Rattle.row.specs.Row.{is_prepare}
use Rattle.table.specs.Table.{row_at, place_of}
use Rattle.runs.specs.History.{History, Logged, records_of, is_of, latest_of, listed}
use Rattle.runs.specs.World.{Phase, up, down, World}
use Rattle.runs.specs.ExactOrders.{acknowledged_orders, is_acknowledged, not_acknowledged}
use Rattle.agreement.proofs.Invariant.{Invariant}
use Rattle.agreement.proofs.Preserves.{acks-of, row-of}
use Rattle.agreement.proofs.PreparedRow.{record-parts, row-joined}
use Rattle.restart.proofs.TotalOrders.{left_of}
use Rattle.exact_orders.proofs.Acknowledged.{RowsAcknowledged, Acknowledged}
use Rattle.exact_orders.proofs.Counts.{count-outside}

module _ (p : Logged) (h : History) (small : p.content.joined < 2 ^ positions) where
  -- a set that has the acknowledged positions
  by-set : (set : ℕ) → set < 2 ^ positions → ((x : ℕ) → member set x ≡ is_acknowledged p h x) → not_acknowledged p h ≡ count (difference p.content.joined set)
  by-set set below same =
      count_same (λ (x : ℕ). not (is_acknowledged p h x)) (λ (x : ℕ). not (member set x)) (λ x. ap not (sym (same x))) (members positions p.content.joined)
      ∙ count-outside positions p.content.joined set small below

  -- with no acknowledged order all partitions are left
  pub none-acknowledged : acknowledged_orders h ≡ [] → not_acknowledged p h ≡ listed p
  none-acknowledged e = by-set 0 (omega arith) (λ x. member-is-not 0 x (bit-of-none x) ∙ sym (not-one x)) ∙ ap count (difference-none p.content.joined small)
    where
      not-one : (x : ℕ) → is_acknowledged p h x ≡ false
      not-one x = rw e (unfold find in refl)

pub left_is : (w : World) → Invariant w → Acknowledged w.phase w.history → (p : Logged) → latest_of p.content.name w.history ≡ some p → is_prepare p.content.status ≡ true
    → not_acknowledged p w.history ≡ left_of p w.phase
left_is w i a p e prepares = go w.phase refl a.rows
  where
    there : In p (records_of w.history)
    there = find-in (is_of p.content.name) (records_of w.history) p e

    go : (y : Phase) → w.phase ≡ y → RowsAcknowledged y w.history → not_acknowledged p w.history ≡ left_of p y
    go (up s) u rows =
        let k = place_of s.table p.content.name in
        let row = row_at s.table k in
        by-set p w.history (record-parts w i p there).joined-below row.acknowledged ((acks-of w i s u).small k) (rows p e prepares)
        ∙ ap (λ (n : ℕ). count (difference n row.acknowledged)) (sym (row-joined w i s u k p there prepares (row-of w i s u p.content.name p e)))
    go (down n before) u empty = none-acknowledged p w.history (record-parts w i p there).joined-below empty
