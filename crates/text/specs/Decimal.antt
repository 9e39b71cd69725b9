-- Numbers as shortest decimals.
use Rattle.std.specs.Prelude.{ℕ, zero, suc, ◌+◌, ◌-◌, ◌*◌, ◌/◌, ◌%◌, cond, List, [], ◌∷◌, ◌++◌, ltb, ℤ, pos, negsuc}
use Prim.Native.Char.{code}

-- the character of a digit
abbrev pub digit : ℕ → ℕ
digit n = code "0" + n

-- a number below ten is its digit, any other is its last digit behind the decimal of the rest; k is at least the number of digits of the rest
unfoldable pub decimal_within : ℕ → ℕ → List ℕ
decimal_within zero n = digit n ∷ []
decimal_within (suc k) n = cond (ltb n 10) (digit n ∷ []) (decimal_within k (n / 10) ++ (digit (n % 10) ∷ []))

-- the shortest decimal of a number
unfoldable pub decimal : ℕ → List ℕ
decimal n = decimal_within n n

-- the number that starts with a and goes on with these digits
unfoldable pub value_from : ℕ → List ℕ → ℕ
value_from a [] = a
value_from a (c ∷ cs) = value_from (a * 10 + (c - code "0")) cs

-- the number that digits write
abbrev pub value_of : List ℕ → ℕ
value_of cs = value_from 0 cs

-- the shortest decimal of an integer, with a sign if it is negative
unfoldable pub signed_decimal : ℤ → List ℕ
signed_decimal (pos n) = decimal n
signed_decimal (negsuc n) = code "-" ∷ decimal (suc n)
