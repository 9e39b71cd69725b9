-- `fields::read_digits`: what its loops keep.
use Prim.Native.Nat.{◌<◌, ◌^◌}
use mathlib.Core.Path.{◌≡◌}
use lib.ListN.{drop}
use Rattle.search.specs.Search.{all}
use Rattle.text.specs.Decimal.{value_from, value_of}
use Rattle.fields.specs.Numbers.{is_digit}
use Rattle.fields.proofs.read_digits.Given as goal

abbrev pub invariant-loop-b : goal.invariant-loop-b
invariant-loop-b l = (l.value < 2 ^ 64) × (value_from l.value (drop l.b-index l.s) ≡ value_of l.s) × (all is_digit (drop l.b-index l.s) ≡ all is_digit l.s)
