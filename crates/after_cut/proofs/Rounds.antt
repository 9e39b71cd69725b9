-- Laws of carrying until nothing is left.
use Prim.Native.Nat.{ℕ, zero, suc}
use mathlib.Core.Path.{◌≡◌, refl}
use mathlib.Core.Bool.{true, false}
use Rattle.session.specs.Memory.{Memory}
use Rattle.after_cut.specs.AfterCut.{is_left, round, carried_all}

-- nothing is left
pub carried_none : (n : ℕ) (m : Memory) → is_left m ≡ false → carried_all n m ≡ m
unfolding carried_all
carried_none zero m e = refl
carried_none (suc n) m e = rw e

-- no round is left
pub carried-end : (n : ℕ) (m : Memory) → n ≡ 0 → carried_all n m ≡ m
unfolding carried_all
carried-end n m e = rw e

-- one round more
pub carried_on : (k : ℕ) {n : ℕ} (m next : Memory) → n ≡ suc k → is_left m ≡ true → next ≡ round m → carried_all k next ≡ carried_all n m
unfolding carried_all
carried_on k m next h e r = rw (h, e, r)
