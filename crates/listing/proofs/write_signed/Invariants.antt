-- `listing::write_signed`: what its loops keep.
use Prim.Native.Nat.{◌+◌, ◌*◌, ◌≤◌}
use mathlib.Core.Path.{◌≡◌}
use mathlib.Core.List.{map}
use lib.ListN.{length, take}
use Rattle.text.specs.Decimal.{signed_decimal}
use Rattle.text.specs.Lines.{fields, Wrote}
use Rattle.listing.specs.Limits.{field_max}
use Rattle.listing.proofs.write_signed.Given as goal

abbrev pub invariant-loop-number : goal.invariant-loop-number
invariant-loop-number l = Wrote (fields (map signed_decimal (take l.number-index l.numbers))) l.initial.out l.at l.next l.out × (l.next ≤ l.at + l.number-index * field_max) × (length l.out ≡ length l.initial.out)
