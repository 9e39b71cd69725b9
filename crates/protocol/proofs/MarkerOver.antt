-- The marker over an entry as demand 3 states it (`marker_over`) and as the invariant counts it (`under_of`) are the same.
use Prim.Native.Nat.{ℕ, zero, suc, ◌+◌, ◌-◌, ◌≤◌}
use mathlib.Core.Path.{◌≡◌, refl, sym, ap, ◌∙◌}
use mathlib.Core.Bool.{Bool, true, cond, ◌&&◌}
use mathlib.Core.List.{[], ◌∷◌}
use mathlib.Core.Option.{Option, none, some}
use native.Mathlib.Omega.{arith}
use lib.Dec.{eqb, leb}
use lib.ListN.{length}
use borrow.Author.Tests.{ne_eqb, leb-true, leb-false}
use Rattle.numbers.specs.Signed.{to_nat}
use Rattle.numbers.proofs.Tests.{by_cases, either}
use Rattle.search.specs.Search.{is_found, found, find_last, or_else, Found}
use Rattle.runs.specs.History.{Order, Event, record_appended, log_flushed, log_cut, log_opened, order_given, marker_written, order_carried, entry_written, History, events_from, markers_in, collect, marker_over}
use Rattle.runs.specs.InEveryRun.{kind_of}
use Rattle.protocol.specs.Entries.{Entry, kind_in, first_of, marked_from, under_of}
use Rattle.protocol.proofs.Entries.{marked_next, marked-new, first-zero}

-- the kind of the first of two markers
kind-first : (a b : Option Order) → kind_of (or_else a b) ≡ first_of (kind_of a) (kind_of b)
kind-first none b = refl
kind-first (some m) b = let z : m.verdict + 1 ≡ suc m.verdict = omega arith in rw z refl

module _ (x pid : ℕ) where
  abbrev fits : Order → Bool
  fits m = eqb m.position x && eqb (to_nat m.pid) pid

  kind-marked : (e : Event) (h : History) → kind_of (find_last fits (collect markers_in (e ∷ h))) ≡ first_of (kind_of (find_last fits (collect markers_in h))) (kind_in x pid e)
  unfolding collect find_last
  kind-marked (record_appended r end) h = sym (first-zero _)
  kind-marked (log_flushed n) h = sym (first-zero _)
  kind-marked (log_cut n) h = sym (first-zero _)
  kind-marked (log_opened epoch) h = sym (first-zero _)
  kind-marked (order_given o) h = sym (first-zero _)
  kind-marked (marker_written o) h =
      kind-first (find_last fits (collect markers_in h)) (cond (fits o) (some o) none)
      ∙ ap (first_of (kind_of (find_last fits (collect markers_in h)))) (by_cases (λ (k : Option Order). kind_of k ≡ cond (fits o) (o.verdict + 1) 0) (fits o) (λ t. rw t refl) (λ t. rw t refl))
  kind-marked (order_carried o) h = sym (first-zero _)
  kind-marked (entry_written e) h = sym (first-zero _)

  none-open-marked : find_last fits (collect markers_in []) ≡ none
  unfolding collect find_last
  none-open-marked = refl

  marked-kind : (n : ℕ) (h : History) → marked_from x pid n h ≡ kind_of (find_last fits (collect markers_in (events_from n h)))
  marked-kind n [] = let z : 0 - n ≡ 0 = omega arith in rw (z, none-open-marked) (unfold marked_from in refl)
  marked-kind n (e ∷ h) =
      either (leb n (length h))
      (λ t.
      let low = leb-true n (length h) t in
      let z : suc (length h) - n ≡ suc (length h - n) = omega arith in
      marked_next x pid n e h low ∙ ap (λ (k : ℕ). first_of k (kind_in x pid e)) (marked-kind n h) ∙ sym (kind-marked e (events_from n h)) ∙ rw z refl)
      (λ t.
      let high = leb-false n (length h) t in
      let z : suc (length h) - n ≡ 0 = omega arith in
      marked-new x pid n e h high ∙ rw (z, none-open-marked) refl)

pub under-over : (h : History) (p : Entry) → under_of h p ≡ kind_of (marker_over h p)
under-over h p = marked-kind p.what.position (to_nat p.what.pid) (suc (length p.before)) h

-- a marker with a status's verdict
pub over-verdict : (code : ℕ) (o : Option Order) → 2 ≤ code → code ≡ kind_of o + 1 → Found (λ (m : Order). code ≡ m.verdict + 2) o
over-verdict code none b e = absurd (omega arith)
over-verdict code (some m) b e = omega arith

-- COMMIT is kind 1, of verdict 0
pub over-commit : (o : Option Order) → eqb (kind_of o) 1 ≡ found (λ (m : Order). eqb m.verdict 0) o
over-commit none = refl
over-commit (some m) = go m.verdict
  where
    go : (v : ℕ) → eqb (v + 1) 1 ≡ eqb v 0
    go zero = refl
    go (suc v) = ne_eqb (suc v + 1) 1 (λ z. omega arith) ∙ sym (ne_eqb (suc v) 0 (λ z. omega arith))

pub over-some : (o : Option Order) → (kind_of o ≡ 0 → ⊥) → is_found o ≡ true
over-some none n = absurd (n refl)
over-some (some m) n = refl
