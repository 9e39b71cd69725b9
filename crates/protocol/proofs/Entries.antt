-- The marker that an entry stands under, after one more event.
use Prim.Native.Nat.{ℕ, zero, suc, ◌≤◌, ◌<◌}
use mathlib.Core.Path.{◌≡◌, refl, sym, ap, subst, ◌∙◌}
use mathlib.Core.List.{◌∷◌}
use native.Mathlib.Omega.{arith}
use lib.ListN.{length}
use borrow.Author.Tests.{le-leb, lt-leb}
use Rattle.numbers.specs.Signed.{to_nat}
use Rattle.search.specs.Search.{Each}
use Rattle.search.proofs.Members.{In, each_in, in-each}
use Rattle.runs.specs.History.{Event, History}
use Rattle.protocol.specs.Entries.{Entry, entries_of, kind_in, first_of, marked_from, under_of}
use Rattle.protocol.proofs.Events.{entry-before}

module _ (position pid number : ℕ) where
  pub marked_next : (e : Event) (h : History) → number ≤ length h → marked_from position pid number (e ∷ h) ≡ first_of (marked_from position pid number h) (kind_in position pid e)
  unfolding marked_from
  marked_next e h b = rw (le-leb number (length h) b)

  pub marked-new : (e : Event) (h : History) → length h < number → marked_from position pid number (e ∷ h) ≡ 0
  unfolding marked_from
  marked-new e h b = rw (lt-leb number (length h) b)

pub first-zero : (n : ℕ) → first_of n 0 ≡ n
first-zero zero = refl
first-zero (suc n) = refl

pub first-open : (n k : ℕ) → first_of n k ≡ 0 → n ≡ 0
first-open zero k e = refl
first-open (suc n) k e = e

pub first-kept : (n k : ℕ) → (n ≡ 0 → ⊥) → first_of n k ≡ n
first-kept zero k h = absurd (h refl)
first-kept (suc n) k h = refl

pub under_next : (e : Event) (h : History) (p : Entry) → length p.before < length h → under_of (e ∷ h) p ≡ first_of (under_of h p) (kind_in p.what.position (to_nat p.what.pid) e)
under_next e h p b = marked_next p.what.position (to_nat p.what.pid) (suc (length p.before)) e h b

pub under_same : (e : Event) (h : History) (p : Entry) → length p.before < length h → kind_in p.what.position (to_nat p.what.pid) e ≡ 0 → under_of (e ∷ h) p ≡ under_of h p
under_same e h p b q = under_next e h p b ∙ ap (first_of (under_of h p)) q ∙ first-zero (under_of h p)

pub under-new : (e : Event) (h : History) (p : Entry) → length h ≤ length p.before → under_of (e ∷ h) p ≡ 0
under-new e h p b = marked-new p.what.position (to_nat p.what.pid) (suc (length p.before)) e h (omega arith)

-- ---- each entry, while no marker is written

-- an entry keeps what it stands under while no marker is written
pub under-each : (h : History) (e : Event) → ((position pid : ℕ) → kind_in position pid e ≡ 0) → (P : ℕ → Entry → Type 0) → Each (λ (p : Entry). P (under_of h p) p) (entries_of h)
    → Each (λ (p : Entry). P (under_of (e ∷ h) p) p) (entries_of h)
under-each h e q P i =
    in-each (λ (p : Entry). P (under_of (e ∷ h) p) p) (entries_of h)
    (λ p j. subst (λ (n : ℕ). P n p) (sym (under_same e h p (entry-before h p j) (q p.what.position (to_nat p.what.pid)))) (each_in (λ (p : Entry). P (under_of h p) p) (entries_of h) p i j))

pub under_back : (h : History) (e : Event) → ((p : Entry) → In p (entries_of h) → kind_in p.what.position (to_nat p.what.pid) e ≡ 0) → (P : ℕ → Entry → Type 0)
    → Each (λ (p : Entry). P (under_of (e ∷ h) p) p) (entries_of h)
    → Each (λ (p : Entry). P (under_of h p) p) (entries_of h)
under_back h e q P i =
    in-each (λ (p : Entry). P (under_of h p) p) (entries_of h)
    (λ p j. subst (λ (n : ℕ). P n p) (under_same e h p (entry-before h p j) (q p j)) (each_in (λ (p : Entry). P (under_of (e ∷ h) p) p) (entries_of h) p i j))
