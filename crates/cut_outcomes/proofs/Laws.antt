-- Laws of outcomes: a search among those seen, one place more of an outcome, and what is noted.
use Prim.Native.Nat.{ℕ, ◌+◌, ◌<◌}
use mathlib.Core.Path.{◌≡◌, refl, sym, ◌∙◌}
use mathlib.Core.Bool.{true, false}
use mathlib.Core.List.{List, [], ◌∷◌}
use native.Mathlib.Numerals.{add-one}
use native.Mathlib.Decide.{ℕ_discrete}
use native.Mathlib.Omega.{arith}
use lib.Dec.{eqb}
use lib.ListN.{length, take, set, length-append}
use lib.Seq.{take-suc-set, length-take-le}
use borrow.Author.Tests.{ne_eqb}
use Rattle.std.specs.List.{list_any}
use Rattle.answers.specs.Refusals.{among}
use Rattle.row.specs.declared.Row.{Row}
use Rattle.table.specs.Table.{row_at}
use Rattle.table.specs.declared.Table.{Table}
use Rattle.cut_outcomes.specs.Outcomes.{followed, with_ending, outcome_below, Noted}

-- ---- those seen

same_way : (n m : ℕ) → eqb m n ≡ eqb n m
same_way n m = go (ℕ_discrete m n)
  where
    go : Dec (m ≡ n) → eqb m n ≡ eqb n m
    go (yes e) = rw e refl
    go (no h) = rw (ne_eqb m n h, ne_eqb n m (λ e. h (sym e))) refl

-- the library's search among them
pub contains-is : (o : ℕ) (l : List ℕ) → list_any (λ (m : ℕ). eqb m o) l ≡ among o l
unfolding among
contains-is o [] = refl
contains-is o (m ∷ l) = rw (same_way o m, contains-is o l) refl

-- ---- an outcome at one place more

module _ (k flushed : ℕ) (before after : Table) (old : ℕ) (e : old ≡ outcome_below k flushed before after) (row : Row) (b : row ≡ row_at before k) where
  pub below-followed : (ended : Row) → ended ≡ row_at after k → followed flushed row ≡ true → (set : ℕ) → set ≡ with_ending old k ended.status → set ≡ outcome_below (k + 1) flushed before after
  unfolding outcome_below
  below-followed ended a t set h = rw (add-one k, ← b, t, ← e, ← a) h

  pub below_left : followed flushed row ≡ false → (set : ℕ) → set ≡ old → set ≡ outcome_below (k + 1) flushed before after
  unfolding outcome_below
  below_left t set h = rw (add-one k, ← b, t) (h ∙ e)

-- ---- what is noted

module _ (store : List ℕ) (count o : ℕ) (h : count < length store) where
  pub noted-known : among o (take count store) ≡ true → Noted store count o store count
  noted-known e = record { seen = rw e; counted = rw e (sym (length-take-le count store (omega arith))) }

  pub noted-new : among o (take count store) ≡ false → Noted store count o (set store count o) (count + 1)
  noted-new e =
      record {
        seen = rw (e, add-one count) (take-suc-set store count o h);
        counted = rw e (omega (arith, length-append (take count store) (o ∷ []), length-take-le count store (omega arith)));
      }
