-- The orders for a record that are carried in a longer history: those of the earlier one, and those since.
use Prim.Native.Nat.{suc, ◌+◌, ◌-◌, ◌≤◌}
use mathlib.Core.Path.{◌≡◌}
use mathlib.Core.List.{◌∷◌}
use native.Mathlib.Omega.{arith}
use lib.Dec.{eqb}
use lib.ListN.{length}
use Rattle.catalogue.specs.declared.Catalogue.{Catalogue}
use Rattle.search.specs.Search.{count_where}
use Rattle.search.proofs.Laws.{count-append}
use Rattle.runs.specs.History.{Order, Event, History, carried_in, collect, Logged, events_from, carried_for}
use Rattle.runs.specs.ExactOrders.{carried_since}
use Rattle.protocol.proofs.Extends.{Extends, still, more}

-- one event more
carried-next : (p : Logged) (e : Event) (h : History) → carried_for p (e ∷ h) ≡ count_where (λ (o : Order). eqb o.for p.number) (carried_in e) + carried_for p h
carried-next p e h = unfold collect in count-append (λ (o : Order). eqb o.for p.number) (carried_in e) (collect carried_in h)

extends-length : (c : Catalogue) (h : History) {v : History} → Extends c h v → length h ≤ length v
extends-length c h still = omega arith
extends-length c h (more g a) = omega (arith, extends-length c h g)

pub carried-since : (c : Catalogue) (h : History) (p : Logged) {v : History} → Extends c h v → carried_for p v ≡ carried_since (length h) p v + carried_for p h
carried-since c h p still =
    let z : length h - length h ≡ 0 = omega arith in
    rw z (unfold collect count_where in omega arith)
carried-since c h p (more {v} {e} g a) =
    let z : suc (length v) - length h ≡ suc (length v - length h) = omega (arith, extends-length c h g) in
    rw z (omega (arith, carried-next p e v, carried-next p e (events_from (length h) v), carried-since c h p g))
