-- Laws of sets of positions, eight for each topic.
use mathlib.Core.Path.{◌≡◌, ap, ◌∙◌}
use Prim.Native.Nat.{ℕ, suc, ◌+◌, ◌-◌, ◌*◌, ◌/◌, ◌%◌, ◌^◌, ◌≤◌, ◌<◌}
use native.Mathlib.Nat.{lt_of_lt_of_le, mod-lt, add-mul-div_right, add-mul-mod_self_right, div-eq_of_lt}
use native.Mathlib.Omega.{arith}
use lib.Arith.{digits_lt}
use lib.Pow.{pow_mono, pow-add, pow_pos, shl_exact, high}
use lib.Dec.{eqb}
use Rattle.bits.specs.Bits.{member}
use Rattle.bits.proofs.Laws.{bit-low, bit-shift}
use Rattle.catalogue.specs.Limits.{topics_max, partitions_max}
use Rattle.catalogue.specs.Catalogue.{position, partitions_in}

-- ---- bounds

pub next-positions : (t : ℕ) → 2 ^ (partitions_max * suc t) ≡ 2 ^ partitions_max * 2 ^ (partitions_max * t)
next-positions t =
    let e : partitions_max * suc t ≡ partitions_max + partitions_max * t = omega arith in
    rw e (pow-add 2 partitions_max (partitions_max * t))

-- the partitions of topic t, added to a set of positions of the topics below it
module _ (t joined set : ℕ) (h : joined < 2 ^ (partitions_max * t)) (l : set < 2 ^ partitions_max) where
  pub positions-below : joined + set * 2 ^ (partitions_max * t) < 2 ^ (partitions_max * suc t)
  positions-below = omega (arith, next-positions t, digits_lt l h)

  pub positions-fit : t < topics_max → joined + set * 2 ^ (partitions_max * t) < 2 ^ 64
  positions-fit k =
      let m : 2 ^ (partitions_max * suc t) ≤ 2 ^ 64 = pow_mono {j = 64} (omega arith) in
      lt_of_lt_of_le positions-below m

-- the code shifts within 64 bits, and loses none
pub positions-shifted : (t set : ℕ) → t < topics_max → set < 2 ^ partitions_max → set * 2 ^ (partitions_max * t) % 2 ^ 64 ≡ set * 2 ^ (partitions_max * t)
positions-shifted t set h l = shl_exact {a = set} partitions_max (partitions_max * t) 64 l (omega arith)

-- ---- the partitions of a topic in a set of positions

pub partitions-in-bound : (set t : ℕ) → partitions_in set t < 2 ^ partitions_max
partitions-in-bound set t = mod-lt (set / 2 ^ (partitions_max * t)) (omega arith)

-- "Partition p of the t-th topic … has position 8×t+p"
pub partition-position : (set t p : ℕ) → p < partitions_max → member (partitions_in set t) p ≡ member set (position t p)
partition-position set t p h =
    ap (λ (d : ℕ). eqb d 1) (bit-low (set / 2 ^ (partitions_max * t)) partitions_max p h ∙ bit-shift set (partitions_max * t) p)

-- none past the topics that the set has
pub partitions-past : (joined n t : ℕ) → joined < 2 ^ (partitions_max * n) → n ≤ t → partitions_in joined t ≡ 0
partitions-past joined n t h l =
    let m : 2 ^ (partitions_max * n) ≤ 2 ^ (partitions_max * t) = pow_mono {j = partitions_max * t} (omega arith) in
    ap (λ (x : ℕ). x % 2 ^ partitions_max) (div-eq_of_lt (lt_of_lt_of_le h m))

-- what is added from topic t on does not touch the topics below it
pub partitions-low : (joined set t u : ℕ) → u < t → partitions_in (joined + set * 2 ^ (partitions_max * t)) u ≡ partitions_in joined u
partitions-low joined set t u h =
    let k = t - suc u in
    let e : partitions_max * t ≡ partitions_max * k + partitions_max + partitions_max * u = omega arith in
    let x : set * 2 ^ (partitions_max * t) ≡ set * 2 ^ (partitions_max * k) * 256 * 2 ^ (partitions_max * u) =
    rw (e, pow-add 2 (partitions_max * k + partitions_max) (partitions_max * u), pow-add 2 (partitions_max * k) partitions_max) (omega arith) in
    rw (x, add-mul-div_right joined (set * 2 ^ (partitions_max * k) * 256) (pow_pos (partitions_max * u))) (add-mul-mod_self_right (joined / 2 ^ (partitions_max * u)) (set * 2 ^ (partitions_max * k)) 256)

-- topic t, above what has none from t on
pub partitions-high : (joined set t : ℕ) → joined < 2 ^ (partitions_max * t) → set < 2 ^ partitions_max → partitions_in (joined + set * 2 ^ (partitions_max * t)) t ≡ set
partitions-high joined set t h l =
    let e : joined + set * 2 ^ (partitions_max * t) ≡ set * 2 ^ (partitions_max * t) + joined = omega arith in
    rw (e, high set (partitions_max * t) h) (omega arith)
