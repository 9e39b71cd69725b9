-- What a field writes as a number.
use Rattle.std.specs.Prelude.{ℕ, ◌-◌, ◌^◌, Bool, cond, ◌&&◌, List, [], ◌∷◌, eqb, ltb, leb, ℤ, pos, neg_ℤ, get_or, drop, Option, None, Some}
use Prim.Native.Char.{code}
use Rattle.std.specs.Int.{Width}
use mir.Val.{hbits}
use Rattle.numbers.specs.Signed.{in_range}
use Rattle.search.specs.Search.{all}
use Rattle.text.specs.Decimal.{value_of}

-- whether a byte is a digit
abbrev pub is_digit : ℕ → Bool
is_digit c = leb (code "0") c && leb c (code "9")

-- the number that one or more digits write; leading zeros are allowed
unfoldable pub natural_of : List ℕ → Option ℕ
natural_of [] = None
natural_of (c ∷ cs) = cond (all is_digit (c ∷ cs)) (Some (value_of (c ∷ cs))) None

-- a number with a sign before it; -0 is 0
abbrev pub negated : Option ℕ → Option ℤ
negated None = None
negated (Some n) = Some (neg_ℤ (pos n))

abbrev pub natural : Option ℕ → Option ℤ
natural None = None
natural (Some n) = Some (pos n)

-- whether a sign stands first
abbrev pub has_sign : List ℕ → Bool
has_sign s = eqb (get_or s 0 0) (code "-")

-- the integer that a run of bytes writes: one or more digits, which a `-` may stand before
unfoldable pub integer_of : List ℕ → Option ℤ
integer_of s = cond (has_sign s) (negated (natural_of (drop 1 s))) (natural (natural_of s))

-- an integer if it lies in a range
abbrev pub within : ℤ → ℤ → Option ℤ → Option ℤ
within low high None = None
within low high (Some z) = cond (in_range low high z) (Some z) None

-- "A number past its type makes the line no command": of i16, i32 and i64 by the width, and of u64
abbrev pub signed : Width → List ℕ → Option ℤ
signed w s = within (neg_ℤ (pos (2 ^ hbits w))) (pos (2 ^ hbits w - 1)) (integer_of s)

abbrev pub unsigned : List ℕ → Option ℤ
unsigned s = within (pos 0) (pos (2 ^ 64 - 1)) (integer_of s)

-- a number if 64 bits hold it
abbrev pub below_word : Option ℕ → Option ℕ
below_word None = None
below_word (Some n) = cond (ltb n (2 ^ 64)) (Some n) None
