-- The number of partitions that are not served is all that matters of the set.
use Prim.Native.Nat.{ℕ, zero, suc, ◌+◌, ◌<◌}
use mathlib.Core.Path.{◌≡◌, refl}
use mathlib.Core.Bool.{Bool, true, false, not}
use mathlib.Core.List.{List, [], ◌∷◌}
use native.Mathlib.Omega.{arith}
use lib.ListN.{get_or, set, replicate}
use Rattle.numbers.proofs.Tests.{not-both}
use Rattle.search.specs.Search.{count_where, first_where, all}
use Rattle.search.proofs.Laws.{inside, count_set}

abbrev is_true : Bool → Bool
is_true x = x

abbrev pub left : List Bool → ℕ
left unserved = count_where is_true unserved

-- the first that is left
abbrev pub first : List Bool → ℕ
first unserved = first_where is_true unserved

pub all_left : (n : ℕ) → left (replicate n true) ≡ n
unfolding count_where
all_left zero = refl
all_left (suc n) = omega (arith, all_left n)

-- to serve one leaves one fewer
pub one_fewer : (l : List Bool) (q : ℕ) → get_or l q false ≡ true → left (set l q false) + 1 ≡ left l
one_fewer l q e =
    let within = inside (λ (x : Bool). x ≡ true) l false q (λ t. not-both refl t) e in
    let changed = rw e at (count_set is_true l false q false within) in
    omega arith

pub none_left : (l : List Bool) → left l ≡ 0 → all not l ≡ true
unfolding count_where all
none_left [] e = refl
none_left (true ∷ l) e = absurd (omega arith)
none_left (false ∷ l) e = none_left l (omega arith)

pub some_left : (l : List Bool) → 0 < left l → all not l ≡ false
unfolding count_where all
some_left [] h = absurd (omega arith)
some_left (true ∷ l) h = refl
some_left (false ∷ l) h = some_left l (omega arith)

pub first-left : (l : List Bool) → 0 < left l → get_or l (first l) false ≡ true
unfolding count_where first_where
first-left [] h = absurd (omega arith)
first-left (true ∷ l) h = refl
first-left (false ∷ l) h = first-left l (omega arith)
