-- The examples of varints hold, by computation.
use mathlib.Core.Path.{◌≡◌, refl}
use mathlib.Core.List.{map}
use Rattle.numbers.specs.Bytes.{same}
use Rattle.varints.specs.Varints.{base128, varint, from_base128, base128_length, varint_in}
use Rattle.varints.specs.Examples.{Example, example, examples, Case, case, cases}

pub examples-hold : map (λ (x : Example). example x.integer (varint x.integer)) examples ≡ examples
unfolding base128 varint
examples-hold = refl

pub cases-hold : map (λ (x : Case). case x.width x.given (varint_in x.width x.given)) cases ≡ cases
unfolding same base128 varint from_base128 base128_length varint_in
cases-hold = refl
