-- Zigzag varints: integers near 0 in few bytes. Each byte has seven bits, the lowest first, and 128 more where another byte follows.
use Rattle.std.specs.Prelude.{ℕ, zero, suc, ◌+◌, ◌*◌, ◌/◌, ◌%◌, cond, ◌&&◌, List, [], ◌∷◌, eqb, ltb, ℤ, pos, negsuc, take}
use Rattle.std.specs.Int.{Width}
use Rattle.numbers.specs.Signed.{fits}
use Rattle.numbers.specs.Bytes.{same}

-- 0, −1, 1, −2, … as 0, 1, 2, 3, …
abbrev pub zigzag : ℤ → ℕ
zigzag (pos n) = 2 * n
zigzag (negsuc n) = 2 * n + 1

-- and back
abbrev pub unzigzag : ℕ → ℤ
unzigzag n = cond (eqb (n % 2) 0) (pos (n / 2)) (negsuc (n / 2))

-- a number to the base 128 in the fewest bytes; k is at least how many follow the first
unfoldable pub base128 : ℕ → ℕ → List ℕ
base128 zero n = n ∷ []
base128 (suc k) n = let rest = base128 k (n / 128) in cond (ltb n 128) (n ∷ []) ((128 + n % 128) ∷ rest)

-- the varint of an integer: no number has more than that number of bytes behind its first
unfoldable pub varint : ℤ → List ℕ
varint z = base128 (zigzag z) (zigzag z)

-- the number that bytes write to the base 128
unfoldable pub from_base128 : List ℕ → ℕ
from_base128 [] = 0
from_base128 (b ∷ bs) = b % 128 + 128 * from_base128 bs

-- how many bytes there are up to the first below 128
unfoldable pub base128_length : List ℕ → ℕ
base128_length [] = 0
base128_length (b ∷ bs) = cond (ltb b 128) 1 (suc (base128_length bs))

-- an integer and its length, or none
pub data Varint : Type 0 where
  is : ℤ → ℕ → Varint
  none : Varint

-- the integer that bytes write at their front
abbrev pub value_in : List ℕ → ℤ
value_in s = unzigzag (from_base128 (take (base128_length s) s))

-- the integer of a width whose varint the bytes begin with; a longer form of it is none
unfoldable pub varint_in : Width → List ℕ → Varint
varint_in w s = cond (fits w (value_in s) && same (take (base128_length s) s) (varint (value_in s))) (is (value_in s) (base128_length s)) none
