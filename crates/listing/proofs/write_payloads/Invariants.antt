-- `listing::write_payloads`: what its loops keep.
use Prim.Native.Nat.{◌+◌, ◌*◌, ◌≤◌}
use mathlib.Core.Path.{◌≡◌}
use mathlib.Core.List.{map}
use lib.ListN.{length, take}
use Rattle.text.specs.Decimal.{decimal}
use Rattle.text.specs.Lines.{fields, Wrote}
use Rattle.listing.specs.Limits.{field_max}
use Rattle.listing.proofs.write_payloads.Given as goal

abbrev pub invariant-loop-payload : goal.invariant-loop-payload
invariant-loop-payload l = Wrote (fields (map decimal (take l.payload-index l.payloads))) l.initial.out l.at l.next l.out × (l.next ≤ l.at + l.payload-index * field_max) × (length l.out ≡ length l.initial.out)
