-- Two searches whose tests agree place by place end at the same place: one of a list, and one of a longer list whose further elements all fail.
use Prim.Native.Nat.{ℕ, ◌≤◌, ◌<◌}
use mathlib.Core.Path.{◌≡◌, ◌∙◌}
use mathlib.Core.Bool.{Bool, true, false}
use mathlib.Core.List.{List}
use native.Mathlib.Omega.{arith}
use lib.Dec.{ltb}
use lib.ListN.{length, get_or}
use borrow.Author.Tests.{ltb-true, ltb-false}
use Rattle.numbers.proofs.Tests.{either, not-both}
use Rattle.search.specs.Search.{first_where}
use Rattle.search.proofs.Laws.{inside, first_found, first-before, first-nowhere}

module _ {A B : Type 0} (p : A → Bool) (q : B → Bool) (l : List A) (m : List B) (d : A) (e : B) (agree : (k : ℕ) → k < length l → q (get_or m k e) ≡ p (get_or l k d))
    (fail : (k : ℕ) → length l ≤ k → q (get_or m k e) ≡ false) (default-fails : q e ≡ false) where
  -- where the first search finds nothing, the second does not
  pub nowhere-either : length l ≤ first_where p l → length m ≤ first_where q m
  nowhere-either h =
      (first-nowhere q m e).1
      (λ k b. either (ltb k (length l))
      (λ t. let below : k < length l = ltb-true k (length l) t in agree k below ∙ first-before p l d k (omega arith))
      (λ t. fail k (ltb-false k (length l) t)))

  module _ (h : first_where p l < length l) where
    passes : q (get_or m (first_where p l) e) ≡ true
    passes = agree (first_where p l) h ∙ first_found p l d h

    no-later : first_where p l < first_where q m → ⊥
    no-later b = not-both (first-before q m e (first_where p l) b) passes

    -- where it finds something, the second finds it too
    pub found-either : first_where q m < length m
    found-either =
        let within : first_where p l < length m = inside (λ (x : B). q x ≡ true) m e (first_where p l) (λ t. not-both default-fails t) passes in
        omega (arith, no-later)

    no-earlier : first_where q m < first_where p l → ⊥
    no-earlier b = not-both (agree (first_where q m) (omega arith) ∙ first-before p l d (first_where q m) b) (first_found q m e found-either)

    -- at the same place
    pub same_first : first_where q m ≡ first_where p l
    same_first = omega (arith, no-later, no-earlier)
