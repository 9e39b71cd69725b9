-- Examples of varints: the first integers, the edges of one and two bytes, and the greatest and least of 32 and 64 bits.
use Rattle.std.specs.Prelude.{ℕ, List, [], ◌∷◌, ℤ, pos, negsuc}
use Rattle.std.specs.Int.{Width, w32, w64}
use Rattle.varints.specs.Varints.{Varint, is, none}

pub record Example : Type 0 where
  pub integer : ℤ
  pub bytes : List ℕ

abbrev pub example : ℤ → List ℕ → Example
example integer bytes = record { integer = integer; bytes = bytes }

abbrev pub examples : List Example
examples =
    example (pos 0) (0 ∷ []) ∷
    example (negsuc 0) (1 ∷ []) ∷
    example (pos 1) (2 ∷ []) ∷
    example (negsuc 1) (3 ∷ []) ∷
    example (pos 63) (126 ∷ []) ∷
    example (negsuc 63) (127 ∷ []) ∷
    example (pos 64) (128 ∷ 1 ∷ []) ∷
    example (pos 150) (172 ∷ 2 ∷ []) ∷
    example (pos 2147483647) (254 ∷ 255 ∷ 255 ∷ 255 ∷ 15 ∷ []) ∷
    example (negsuc 2147483647) (255 ∷ 255 ∷ 255 ∷ 255 ∷ 15 ∷ []) ∷
    example (pos 9223372036854775807) (254 ∷ 255 ∷ 255 ∷ 255 ∷ 255 ∷ 255 ∷ 255 ∷ 255 ∷ 255 ∷ 1 ∷ []) ∷
    example (negsuc 9223372036854775807) (255 ∷ 255 ∷ 255 ∷ 255 ∷ 255 ∷ 255 ∷ 255 ∷ 255 ∷ 255 ∷ 1 ∷ []) ∷
    []

-- what bytes write at a width: behind an integer may stand anything; a longer form, an integer past its width and bytes that break off are none
pub record Case : Type 0 where
  pub width : Width
  pub given : List ℕ
  pub found : Varint

abbrev pub case : Width → List ℕ → Varint → Case
case width given found = record { width = width; given = given; found = found }

abbrev pub cases : List Case
cases =
    case w32 (1 ∷ 7 ∷ []) (is (negsuc 0) 1) ∷
    case w32 (172 ∷ 2 ∷ 172 ∷ []) (is (pos 150) 2) ∷
    case w32 (255 ∷ 255 ∷ 255 ∷ 255 ∷ 15 ∷ []) (is (negsuc 2147483647) 5) ∷
    -- 0 and −1 in two bytes, 150 in three
    case w32 (128 ∷ 0 ∷ []) none ∷
    case w32 (129 ∷ 0 ∷ []) none ∷
    case w32 (172 ∷ 130 ∷ 0 ∷ []) none ∷
    -- 2147483648
    case w32 (128 ∷ 128 ∷ 128 ∷ 128 ∷ 16 ∷ []) none ∷
    case w64 (128 ∷ 128 ∷ 128 ∷ 128 ∷ 16 ∷ []) (is (pos 2147483648) 5) ∷
    case w64 [] none ∷
    case w64 (172 ∷ []) none ∷
    []
