-- A number as the set of the positions of its digits that are 1. A u64 is a set of the positions 0 to 63.
use Rattle.std.specs.Prelude.{ℕ, zero, suc, ◌-◌, ◌/◌, ◌%◌, ◌^◌, ◌≡◌, Bool, cond, List, [], ◌∷◌, ◌++◌, eqb, ltb}
use Rattle.std.specs.Int.Bits.{bit_and, bit_or}
use Rattle.std.specs.Int.Count.{ones, count_trailing_zeros}

-- the digit of x at position p: 1 where p is a member of x, else 0
abbrev pub bit : ℕ → ℕ → ℕ
bit x p = x / 2 ^ p % 2

-- p is a member of x
abbrev pub Member : ℕ → ℕ → Type 0
Member p x = bit x p ≡ 1

-- the same as a test
abbrev pub member : ℕ → ℕ → Bool
member x p = eqb (bit x p) 1

-- x with p; a position above 63 is in no set
abbrev pub insert : ℕ → ℕ → ℕ
insert x p = cond (ltb p 64) (bit_or x (2 ^ p)) x

-- the positions of either
abbrev pub union : ℕ → ℕ → ℕ
union a b = bit_or a b

-- the positions of both
abbrev pub intersection : ℕ → ℕ → ℕ
intersection a b = bit_and a b

-- the members of a that are not members of b, both of k digits
abbrev pub difference_of : ℕ → ℕ → ℕ → ℕ
difference_of k a b = bit_and a ((2 ^ k - 1) - b)

-- the same at 64 positions
abbrev pub difference : ℕ → ℕ → ℕ
difference a b = difference_of 64 a b

-- whether every member of a is one of b
abbrev pub subset : ℕ → ℕ → Bool
subset a b = eqb (bit_and a b) a

-- the lowest member, and 64 where there is none
abbrev pub lowest : ℕ → ℕ
lowest x = count_trailing_zeros 64 x

-- how many members
abbrev pub count : ℕ → ℕ
count x = ones x

-- a position, as often as its digit says
abbrev pub times : ℕ → ℕ → List ℕ
times zero p = []
times (suc d) p = p ∷ []

-- the members of x below k, in rising order
unfoldable pub members : ℕ → ℕ → List ℕ
members zero x = []
members (suc k) x = members k x ++ times (bit x k) k
