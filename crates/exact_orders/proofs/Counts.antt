-- How many members of a set are not in another, counted one by one.
use Prim.Native.Nat.{ℕ, zero, suc, ◌+◌, ◌-◌, ◌^◌, ◌≤◌, ◌<◌}
use mathlib.Core.Path.{◌≡◌, refl, ◌∙◌}
use mathlib.Core.Bool.{Bool, true, false, cond, not}
use mathlib.Core.List.{List, [], ◌∷◌, ◌++◌}
use native.Mathlib.Omega.{arith}
use lib.Bits.{and_lt}
use lib.ListN.{length, length-append}
use lib.Pow.{ones_sub-lt}
use Rattle.numbers.proofs.Tests.{either}
use Rattle.bits.specs.Bits.{member, difference_of, count, members}
use Rattle.bits.proofs.Laws.{bit-difference, member-true, member-false, members-none, members-one, members-length}
use Rattle.search.specs.Search.{count_where}
use Rattle.search.proofs.Laws.{count-append}

module _ (n a b : ℕ) (ha : a < 2 ^ n) (hb : b < 2 ^ n) where
  abbrev is_outside : ℕ → Bool
  is_outside x = not (member b x)

  abbrev rest : ℕ
  rest = difference_of n a b

  -- one position more
  counted : (l : List ℕ) (x : ℕ) (t : Bool) → member b x ≡ t → count_where is_outside (l ++ (x ∷ [])) ≡ count_where is_outside l + cond t 0 1
  counted l x true e = count-append is_outside l (x ∷ []) ∙ (unfold count_where in rw e (omega arith))
  counted l x false e = count-append is_outside l (x ∷ []) ∙ (unfold count_where in rw e (omega arith))

  outside_below : (k : ℕ) → k ≤ n → count_where is_outside (members k a) ≡ length (members k rest)
  outside_below zero l = unfold members count_where in refl
  outside_below (suc k) l =
      let before = outside_below k (omega arith) in
      let digit = bit-difference n a b k hb (omega arith) in
      either (member a k)
      (λ e. let one = member-true a k e in
      either (member b k)
      (λ f. let taken = member-true b k f in
      rw (members-one k a one, members-none k rest (omega arith)) (counted (members k a) k true f ∙ omega arith))
      (λ f. let free = member-false b k f in
      rw (members-one k a one, members-one k rest (omega arith), length-append) (counted (members k a) k false f ∙ omega arith)))
      (λ e. let none = member-false a k e in
      rw (members-none k a none, members-none k rest (omega arith)) before)

  pub count-outside : count_where is_outside (members n a) ≡ count rest
  count-outside = outside_below n (omega arith) ∙ members-length n rest (and_lt n a (2 ^ n - 1 - b) ha (ones_sub-lt n b))
