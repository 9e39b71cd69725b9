-- What was read of a field: a signed number goes through its bits, an unsigned one through the integers.
use Prim.Native.Nat.{ℕ}
use mathlib.Core.Path.{◌≡◌, sym, ap, ◌∙◌}
use lib.IntN.{ℤ, pos}
use mir.Syntax.{Width}
use mir.Val.{to_z, of_z}
use Rattle.std.specs.Prelude.{Option, Some}
use Rattle.fields.specs.Numbers.{natural}

pub signed-is : (w : Width) {r o : Option ℤ} {z : ℤ} → r ≡ o → r ≡ Some z → to_z w (of_z w z) ≡ z → o ≡ Some (to_z w (of_z w z))
signed-is w e g q = sym e ∙ g ∙ ap Some (sym q)

pub unsigned-is : {r : Option ℕ} {o : Option ℤ} {n : ℕ} → natural r ≡ o → r ≡ Some n → o ≡ Some (pos n)
unsigned-is e g = sym e ∙ ap natural g
