-- The theorem of request 11 of document 02 (`exact-orders`). Why it holds:
-- The acknowledged set of a prepare's row has the positions whose orders the history says were carried since the opening. So what the display counts, what
-- is left of a prepare (`left_of`, crate restart) and what the history says is not acknowledged are one number, with the coordinator up or down.
-- The orders carried for a prepare and what is left of it have one sum as long as it is not completed (`TotalOrders`), and with none left it is completed.
use mathlib.Core.Path.{◌≡◌, refl, subst}
use mathlib.Core.List.{[], ◌++◌}
use lib.IntN.{ℤ}
use Rattle.search.specs.Search.{Each}
use Rattle.runs.specs.History.{Logged, pending_prepares, listed}
use Rattle.runs.specs.World.{Phase, World, start, reopen, step, run}
use Rattle.runs.specs.ExactOrders.{acknowledged_orders, not_acknowledged, ExactOrders}
use Rattle.runs.proofs.Admitted.{step-own}
use Rattle.runs.proofs.Cases.{step-cases, reopened-cases}
use Rattle.runs.proofs.Run.{run-append}
use Rattle.protocol.proofs.Extends.{each-pending}
use Rattle.agreement.proofs.Invariant.{Invariant}
use Rattle.agreement.proofs.PreparedRow.{record-parts}
use Rattle.agreement.proofs.Steps.{step-preserves, always}
use Rattle.exact_orders.proofs.Acknowledged.{RowsAcknowledged, Acknowledged}
use Rattle.exact_orders.proofs.AcknowledgedKept.{always-acknowledged}
use Rattle.exact_orders.proofs.NotAcknowledged.{none-acknowledged}
use Rattle.exact_orders.proofs.Shows.{shows-place}
use Rattle.exact_orders.proofs.Completes.{continued}

-- ---- after a cut

abbrev NoneAcknowledged : World → Type 0
NoneAcknowledged w = acknowledged_orders w.history ≡ []

-- while the coordinator is down, and after the opening that follows
reopened-none : (w : World) → NoneAcknowledged w → (epoch first last : ℤ) → NoneAcknowledged (step (reopen epoch first last) w)
reopened-none w e epoch first last =
    step-cases NoneAcknowledged (reopen epoch first last) w e (λ t. reopened-cases NoneAcknowledged w e epoch first last (λ n before d r. unfold acknowledged_orders in refl))

all_left : (w : World) → Invariant w → NoneAcknowledged w → Each (λ (p : Logged). not_acknowledged p w.history ≡ listed p) (pending_prepares w.history)
all_left w i e =
    let h = w.history in
    each-pending h (λ (p : Logged). not_acknowledged p h ≡ listed p) (λ p there pending. none-acknowledged p h (record-parts w i p there).joined-below e)

-- ---- the theorem

pub exact-orders : ExactOrders
exact-orders =
    record {
      shows = λ o accepted items s u place. shows-place (run items (start o)) (always o accepted items) (always-acknowledged o accepted items) s u place;
      continues = λ o accepted items afterwards undisturbed.
          continued (run items (start o)) (always o accepted items) (always-acknowledged o accepted items) afterwards undisturbed
          (subst (λ (v : World). Acknowledged v.phase v.history) (run-append items afterwards (start o)) (always-acknowledged o accepted (items ++ afterwards)));
      none-after-cut = λ o accepted items n before epoch first last u.
          let w = run items (start o) in
          let i = always o accepted items in
          let empty : NoneAcknowledged w = subst (λ (y : Phase). RowsAcknowledged y w.history) u (always-acknowledged o accepted items).rows in
          all_left (step (reopen epoch first last) w) ((step-preserves w i (reopen epoch first last)).holds (step-own (reopen epoch first last) w i.own)) (reopened-none w empty epoch first last);
    }
