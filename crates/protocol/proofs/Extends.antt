-- Histories that grow event by event: what is flushed stays, and a flushed prepare is kept.
use Prim.Native.Nat.{ℕ, ◌≤◌}
use mathlib.Core.Path.{◌≡◌, ap}
use mathlib.Core.Bool.{true, not, ◌&&◌}
use mathlib.Core.List.{List, [], ◌∷◌}
use mathlib.Core.Option.{some}
use native.Mathlib.Omega.{arith}
use lib.Dec.{leb}
use lib.ListN.{length}
use borrow.Author.Tests.{leb-true, leb-false}
use Rattle.numbers.proofs.Tests.{by_cases, and_left, and_right}
use Rattle.catalogue.specs.declared.Catalogue.{Catalogue}
use Rattle.search.specs.Search.{Each, IfFound}
use Rattle.search.proofs.Found.{found-with}
use Rattle.search.proofs.Members.{In, there, in-cons, in-each}
use Rattle.search.proofs.Find.{each-filter}
use Rattle.row.specs.Row.{is_prepare}
use Rattle.runs.specs.History.{Event, record_appended, log_flushed, log_cut, log_opened, order_given, marker_written, order_carried, entry_written, History, Logged, ending_by, records_of, flushed_of, is_flushed, is_flushed_prepare, record_numbered, next_of, flushed_prepares, is_completed, pending_prepares}
use Rattle.runs.specs.Demand3.{Completes}
use Rattle.protocol.specs.HistoryInvariant.{HistoryInvariant}
use Rattle.protocol.specs.NextEvent.{MayBeNext}
use Rattle.protocol.proofs.Cuts.{numbered-found}
use Rattle.protocol.proofs.AfterPrepare.{After, latest, completed, after-prepare}
use Rattle.protocol.proofs.Ordinals.{ends-most}
use Rattle.protocol.proofs.NextEvent.{next-keeps}

-- ---- histories that grow event by event

pub data Extends (c : Catalogue) (h : History) : History → Type 0 where
  still : Extends c h h
  more : {v : History} {e : Event} → Extends c h v → MayBeNext c v e → Extends c h (e ∷ v)

pub extends-then : (c : Catalogue) (h : History) {v w : History} → Extends c h v → Extends c v w → Extends c h w
extends-then c h g still = g
extends-then c h g (more k a) = more (extends-then c h g k) a

pub extends-keeps : (c : Catalogue) (h : History) → HistoryInvariant c h → {v : History} → Extends c h v → HistoryInvariant c v
extends-keeps c h t still = t
extends-keeps c h t (more {v} {e} g a) = next-keeps c v (extends-keeps c h t g) e a

-- ---- what is flushed stays

pub record FlushedIn (h : History) (r : Logged) : Type 0 where
  pub stands : In r (records_of h)
  pub flushed : r.end ≤ flushed_of h

ending-keeps : (n : ℕ) (l : List Logged) (r : Logged) → In r l → r.end ≤ n → In r (ending_by n l)
unfolding ending_by
ending-keeps n [] r i b = i
ending-keeps n (x ∷ l) r i b =
    by_cases (In r) (leb x.end n) (λ e. i)
    (λ e. in-cons i (λ q. let z : x.end ≡ r.end = ap (λ (y : Logged). y.end) q in absurd (let k = leb-false x.end n e in omega arith)) (λ j. ending-keeps n l r j b))

flushed-next : (c : Catalogue) (h : History) → HistoryInvariant c h → (r : Logged) → FlushedIn h r → (e : Event) → MayBeNext c h e → FlushedIn (e ∷ h) r
unfolding records_of flushed_of
flushed-next c h t r f (record_appended x end) a = record { stands = there f.stands; flushed = f.flushed }
flushed-next c h t r f (log_flushed n) a = record { stands = f.stands; flushed = omega (arith, f.flushed) }
flushed-next c h t r f (log_cut n) a = record { stands = ending-keeps n (records_of h) r f.stands (omega (arith, f.flushed)); flushed = omega (arith, f.flushed) }
flushed-next c h t r f (log_opened epoch) a = record { stands = f.stands; flushed = ends-most c (records_of h) t.ends r f.stands }
flushed-next c h t r f (order_given o) a = record { stands = f.stands; flushed = f.flushed }
flushed-next c h t r f (marker_written o) a = record { stands = f.stands; flushed = f.flushed }
flushed-next c h t r f (order_carried o) a = record { stands = f.stands; flushed = f.flushed }
flushed-next c h t r f (entry_written e) a = record { stands = f.stands; flushed = f.flushed }

pub flushed-stays : (c : Catalogue) (h : History) → HistoryInvariant c h → (r : Logged) → FlushedIn h r → {v : History} → Extends c h v → FlushedIn v r
flushed-stays c h t r f still = f
flushed-stays c h t r f (more {v} {e} g a) = flushed-next c v (extends-keeps c h t g) r (flushed-stays c h t r f g) e a

-- ---- kept

pub kept-stands : (c : Catalogue) (h : History) → HistoryInvariant c h → (r : Logged) → In r (records_of h) → record_numbered r.number h ≡ some r
kept-stands c h t r i = numbered-found (length h) (records_of h) t.numbered r i

pub kept_next : (c : Catalogue) (h : History) → HistoryInvariant c h → (r : Logged) → In r (records_of h) → is_prepare r.content.status ≡ true → IfFound (Completes r) (next_of r h)
kept_next c h t r i p = go (after-prepare c (length h) (records_of h) t.come t.ends t.numbered r i p)
  where
    go : After r (records_of h) → IfFound (Completes r) (next_of r h)
    go (latest n l) = rw n tt
    go (completed k) = found-with (Completes r) (next_of r h) k (λ x e g. rw e g)

-- of each flushed prepare
pub each-flushed-prepare : (h : History) (P : Logged → Type 0) → ((r : Logged) → FlushedIn h r → is_prepare r.content.status ≡ true → P r) → Each P (flushed_prepares h)
each-flushed-prepare h P f =
    each-filter P (is_flushed_prepare h) (records_of h)
    (in-each _ (records_of h) (λ r i e. f r (record { stands = i; flushed = leb-true r.end (flushed_of h) (and_right (is_prepare r.content.status) (is_flushed h r) e) })
    (and_left (is_prepare r.content.status) (is_flushed h r) e)))

-- of each that is not completed
pub each-pending : (h : History) (P : Logged → Type 0) → ((r : Logged) → In r (records_of h) → (is_flushed_prepare h r && not (is_completed h r)) ≡ true → P r) → Each P (pending_prepares h)
each-pending h P f = each-filter P (λ (r : Logged). is_flushed_prepare h r && not (is_completed h r)) (records_of h) (in-each _ (records_of h) f)
