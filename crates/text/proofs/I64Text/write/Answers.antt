-- `Text::write` of a signed number meets its contract.
use Prim.Native.Char.{code}
use Prim.Native.Nat.{ℕ, ◌+◌, ◌≤◌}
use mathlib.Core.Path.{◌≡◌, ◌∙◌, ap, sym}
use mathlib.Core.List.{[], ◌∷◌}
use native.Mathlib.Omega.{arith}
use lib.IntN.{nat_abs}
use lib.ListN.{length}
use mir.Facts.{to_z-of_z}
use Rattle.text.specs.Decimal.{decimal, signed_decimal}
use Rattle.text.proofs.Decimal.{signed-negative, signed-natural}
use Rattle.text.proofs.Lines.{then-fits, then-wrote}
use Rattle.text.proofs.I64Text.write.Goals as goal
use Rattle.text.proofs.I64Text.write.Goals.{After-magnitude-magnitude, Then-self-lt0, Else-self-lt0}

-- the decimal, by the test of the sign
measured : (c : After-magnitude-magnitude) → c.magnitude-magnitude.result ≡ nat_abs c.args.self
measured c = simp (to_z-of_z c.ranges.self) at c.magnitude-magnitude.ensures

negative : (c : Then-self-lt0) → signed_decimal c.args.self ≡ code "-" ∷ decimal c.magnitude-magnitude.result
negative c =
    let measured-here : c.magnitude-magnitude.result ≡ nat_abs c.args.self = simp (to_z-of_z c.ranges.self) at c.magnitude-magnitude.ensures in
    signed-negative c.args.self (simp (to_z-of_z c.ranges.self) at c.if-self-lt0.true) ∙ ap (λ (n : ℕ). code "-" ∷ decimal n) (sym measured-here)

natural : (c : Else-self-lt0) → signed_decimal c.args.self ≡ decimal c.magnitude-magnitude.result
natural c =
    let measured-here : c.magnitude-magnitude.result ≡ nat_abs c.args.self = simp (to_z-of_z c.ranges.self) at c.magnitude-magnitude.ensures in
    signed-natural c.args.self (simp (to_z-of_z c.ranges.self) at c.if-self-lt0.false) ∙ ap decimal (sym measured-here)

room : (c : Then-self-lt0) → c.args.at + length (code "-" ∷ decimal c.magnitude-magnitude.result) ≤ length c.args.out.now
room c = rw (negative c) at c.requires

pub write_bytes-next-requires : goal.write_bytes-next-requires
write_bytes-next-requires c = omega (arith, room (goal.at.write_bytes-next-requires c).Then-self-lt0)

pub write_decimal-requires : goal.write_decimal-requires
write_decimal-requires c =
    let a = c.args in
    then-fits a.out.now a.at (code "-" ∷ []) (decimal c.magnitude-magnitude.result) (room (goal.at.write_decimal-requires c).Then-self-lt0) c.write_bytes-next.ensures

pub returns-then-self-lt0 : goal.returns-then-self-lt0
returns-then-self-lt0 c =
    let a = c.args in
    rw (negative (goal.at.returns-then-self-lt0 c).Then-self-lt0) (then-wrote a.out.now a.at (code "-" ∷ []) (decimal c.magnitude-magnitude.result) (room (goal.at.returns-then-self-lt0 c).Then-self-lt0) c.write_bytes-next.ensures c.write_decimal.ensures)

pub write_decimal-requires-2 : goal.write_decimal-requires-2
write_decimal-requires-2 c = rw (natural (goal.at.write_decimal-requires-2 c).Else-self-lt0) at c.requires

pub returns : goal.returns
returns c = rw (natural (goal.at.returns c).Else-self-lt0) c.write_decimal-2.ensures
