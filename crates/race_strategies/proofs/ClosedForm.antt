-- What the search finds, without a search: a round for the end, one for each partition and one for each block.
use Prim.Native.Nat.{ℕ, zero, suc, ◌+◌, ◌-◌, ◌≤◌, ◌<◌}
use mathlib.Core.Path.{◌≡◌, refl}
use mathlib.Core.Bool.{true, ◌&&◌, ◌||◌}
use native.Mathlib.Omega.{arith}
use lib.Dec.{eqb, ltb, leb}
use borrow.Author.Tests.{leb-true, leb-false, ltb-true, lt-ltb, eqb-true, eqb-false, eq-eqb}
use Rattle.numbers.proofs.Tests.{by_cases, either, not-both, and_left, and_right, and_both, or-either}
use Rattle.race.specs.Search.{left_after_block, can_serve, can_force}

-- each partition takes a round, and each block takes one, while a partition is left
pub serve-enough : (rounds left blocks : ℕ) → left ≤ rounds - blocks → can_serve rounds left blocks ≡ true
unfolding can_serve
serve-enough zero left blocks h = eq-eqb left 0 (omega arith)
serve-enough (suc rounds) left blocks h =
    either (eqb left 0) (λ none. rw none) λ n.
    let some_left : left ≡ 0 → ⊥ = eqb-false left 0 n in
    rw n
    (and_both (can_serve rounds (left - 1) blocks) (eqb blocks 0 || can_serve rounds (left_after_block left) (blocks - 1))
    (serve-enough rounds (left - 1) blocks (omega arith))
    (either (eqb blocks 0) (λ none. rw none) λ m.
    let some-blocks : blocks ≡ 0 → ⊥ = eqb-false blocks 0 m in
    rw m
    (serve-enough rounds (left_after_block left) (blocks - 1)
    (by_cases (λ (n : ℕ). n ≤ rounds - (blocks - 1)) (leb left 1) (λ t. omega arith) (λ t. omega arith)))))

pub serve-needs : (rounds left blocks : ℕ) → can_serve rounds left blocks ≡ true → left ≤ rounds - blocks
unfolding can_serve
serve-needs zero left blocks e = omega (arith, eqb-true left 0 e)
serve-needs (suc rounds) left blocks e =
    or-either (eqb left 0) (can_serve rounds (left - 1) blocks && (eqb blocks 0 || can_serve rounds (left_after_block left) (blocks - 1))) e
    (λ z. omega (arith, eqb-true left 0 z)) λ both.
    let one = serve-needs rounds (left - 1) blocks (and_left (can_serve rounds (left - 1) blocks) (eqb blocks 0 || can_serve rounds (left_after_block left) (blocks - 1)) both) in
    or-either (eqb blocks 0) (can_serve rounds (left_after_block left) (blocks - 1))
    (and_right (can_serve rounds (left - 1) blocks) (eqb blocks 0 || can_serve rounds (left_after_block left) (blocks - 1)) both)
    (λ z. omega (arith, eqb-true blocks 0 z))
    λ two. beside (serve-needs rounds (left_after_block left) (blocks - 1) two) one
  where
    beside : left_after_block left ≤ rounds - (blocks - 1) → left - 1 ≤ rounds - blocks → left ≤ suc rounds - blocks
    beside =
        by_cases (λ (n : ℕ). n ≤ rounds - (blocks - 1) → left - 1 ≤ rounds - blocks → left ≤ suc rounds - blocks) (leb left 1)
        (λ t p q. omega (arith, leb-true left 1 t)) (λ t p q. omega (arith, leb-false left 1 t))

-- the line spends each block on the log, and the end comes one round later for each; it must come before the timeout
pub force-enough : (rounds until left blocks : ℕ) → blocks < until → 1 + left + blocks ≤ rounds → can_force rounds until left blocks ≡ true
unfolding can_force
force-enough zero until left blocks u h = absurd (omega arith)
force-enough (suc rounds) until left blocks u h =
    and_both (ltb 0 until) (can_serve rounds left blocks && (eqb blocks 0 || can_force rounds (until - 1) left (blocks - 1)))
    (lt-ltb 0 until (omega arith))
    (and_both (can_serve rounds left blocks) (eqb blocks 0 || can_force rounds (until - 1) left (blocks - 1))
    (serve-enough rounds left blocks (omega arith))
    (either (eqb blocks 0) (λ none. rw none) λ m.
    let some-blocks : blocks ≡ 0 → ⊥ = eqb-false blocks 0 m in
    rw m (force-enough rounds (until - 1) left (blocks - 1) (omega arith) (omega arith))))

pub force-needs : (rounds until left blocks : ℕ) → can_force rounds until left blocks ≡ true → (blocks < until) × (1 + left + blocks ≤ rounds)
unfolding can_force
force-needs zero until left blocks e = not-both refl e
force-needs (suc rounds) until left blocks e =
    let in-time = ltb-true 0 until (and_left (ltb 0 until) (can_serve rounds left blocks && (eqb blocks 0 || can_force rounds (until - 1) left (blocks - 1))) e) in
    let both = and_right (ltb 0 until) (can_serve rounds left blocks && (eqb blocks 0 || can_force rounds (until - 1) left (blocks - 1))) e in
    let served = serve-needs rounds left blocks (and_left (can_serve rounds left blocks) (eqb blocks 0 || can_force rounds (until - 1) left (blocks - 1)) both) in
    or-either (eqb blocks 0) (can_force rounds (until - 1) left (blocks - 1))
    (and_right (can_serve rounds left blocks) (eqb blocks 0 || can_force rounds (until - 1) left (blocks - 1)) both)
    (λ z. let none : blocks ≡ 0 = eqb-true blocks 0 z in omega arith)
    λ f. let h = force-needs rounds (until - 1) left (blocks - 1) f in omega arith
