-- Laws of the search: what a round of it says.
use Prim.Native.Nat.{ℕ, zero, suc, ◌-◌}
use mathlib.Core.Path.{◌≡◌, refl}
use mathlib.Core.Logic.{◌⊎◌, inl, inr}
use mathlib.Core.Bool.{true, false, ◌&&◌, ◌||◌}
use native.Mathlib.Omega.{arith}
use lib.Dec.{eqb}
use borrow.Author.Tests.{lt-ltb, le-ltb, eq-eqb, ne_eqb}
use Rattle.race.specs.Search.{left_after_block, can_serve, can_force}

down : (n : ℕ) → suc n - 1 ≡ n
down n = omega arith

pub serve-none : (rounds left blocks : ℕ) → left ≡ 0 → can_serve rounds left blocks ≡ true
unfolding can_serve
serve-none zero left blocks e = eq-eqb left 0 e
serve-none (suc rounds) left blocks e = rw (eq-eqb left 0 e)

pub serve-late : (rounds left blocks : ℕ) → (left ≡ 0 → ⊥) → rounds ≡ 0 → can_serve rounds left blocks ≡ false
unfolding can_serve
serve-late zero left blocks n e = ne_eqb left 0 n
serve-late (suc rounds) left blocks n e = absurd (omega arith)

pub serve-round : (rounds left blocks : ℕ) → (left ≡ 0 → ⊥) → (rounds ≡ 0 → ⊥)
    → can_serve rounds left blocks
    ≡ (can_serve (rounds - 1) (left - 1) blocks && (eqb blocks 0 || can_serve (rounds - 1) (left_after_block left) (blocks - 1)))
unfolding can_serve
serve-round zero left blocks n e = absurd (e refl)
serve-round (suc rounds) left blocks n e = rw (ne_eqb left 0 n, down rounds)

pub force-over : (rounds until left blocks : ℕ) → ((rounds ≡ 0 → ⊥) × (until ≡ 0)) ⊎ (rounds ≡ 0) → can_force rounds until left blocks ≡ false
unfolding can_force
force-over zero until left blocks e = refl
force-over (suc rounds) until left blocks (inl e) = rw (le-ltb 0 until (omega (arith, e.1)))
force-over (suc rounds) until left blocks (inr e) = absurd (omega arith)

pub force-round : (rounds until left blocks : ℕ) → (rounds ≡ 0 → ⊥) → (until ≡ 0 → ⊥)
    → can_force rounds until left blocks
    ≡ (can_serve (rounds - 1) left blocks && (eqb blocks 0 || can_force (rounds - 1) (until - 1) left (blocks - 1)))
unfolding can_force
force-round zero until left blocks n u = absurd (n refl)
force-round (suc rounds) until left blocks n u = rw (lt-ltb 0 until (omega arith), down rounds)
