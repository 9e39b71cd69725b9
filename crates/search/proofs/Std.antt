-- The searches of this crate are those of the library: the place of the first that passes, how many pass, and a sum.
use Prim.Native.Nat.{ℕ, suc, ◌+◌, ◌≤◌}
use native.Mathlib.Omega.{arith}
use mathlib.Core.Path.{◌≡◌, refl, sym, ◌∙◌}
use mathlib.Core.Bool.{Bool, true, false, cond, not}
use mathlib.Core.List.{List}
use lib.Dec.{ltb}
use lib.ListN.{length}
use Rattle.std.specs.List.{position_or_len, count_by, sum_by, filter}
use Rattle.std.specs.Option.{unwrap_or}
use Rattle.std.proofs.Common.{Option, None, Some}
use Rattle.std.proofs.lemmas.List.Sums.{length-filter, prefix_len-le-length}
use Rattle.std.proofs.lemmas.List.Recursion.{is_position_or_len, is_count_by, is_sum_by}
use Rattle.search.specs.Search.{first_where, count_where, sum_of}

place_next : (b : Bool) (n : ℕ) → cond b 0 (suc n) ≡ cond b 0 (1 + n)
place_next true n = refl
place_next false n = omega arith

-- the place of the first that passes
pub first_is : {A : Type 0} (p : A → Bool) (l : List A) → first_where p l ≡ position_or_len p l
unfolding first_where
first_is p l = is_position_or_len (first_where p) p refl (λ x xs. place_next (p x) (first_where p xs)) l

count_next : (b : Bool) (n : ℕ) → cond b 1 0 + n ≡ cond b (1 + n) n
count_next true n = refl
count_next false n = omega arith

-- how many pass
pub count_is : {A : Type 0} (p : A → Bool) (l : List A) → count_where p l ≡ count_by p l
unfolding count_where
count_is p l = is_count_by (count_where p) p refl (λ x xs. count_next (p x) (count_where p xs)) l

-- a sum
pub sum_is : {A : Type 0} (f : A → ℕ) (l : List A) → sum_of f l ≡ sum_by f l
unfolding sum_of
sum_is f l = is_sum_by (sum_of f) f refl (λ x xs. refl) l

pick : (b : Bool) (q n : ℕ) → b ≡ ltb q n → q ≤ n → unwrap_or (cond b (Some q) None) n ≡ q
pick true q n e h = refl
pick false q n e h = grind arith

-- what the library's `position` answers, with the length in place of none
pub found_is : {A : Type 0} (p : A → Bool) (l : List A) (r : Option ℕ) (n : ℕ) → length l ≡ n
    → r ≡ cond (ltb (position_or_len p l) (length l)) (Some (position_or_len p l)) None → unwrap_or r n ≡ first_where p l
found_is p l r n e h = rw (← e, h, first_is p l) (pick (ltb (position_or_len p l) (length l)) (position_or_len p l) (length l) refl (prefix_len-le-length (λ x. not (p x)) l))

-- how many the library's `filter` keeps
pub filtered_is : {A : Type 0} (p : A → Bool) (l : List A) → length (filter p l) ≡ count_where p l
filtered_is p l = length-filter p l ∙ sym (count_is p l)
