-- The positions of the catalogue of a session, and the partitions that have them.
use Prim.Native.Nat.{ℕ, zero, suc, ◌<◌}
use mathlib.Core.Path.{◌≡◌, refl, sym, ap, subst, ◌∙◌}
use mathlib.Core.Bool.{Bool, true, false, cond}
use native.Mathlib.Omega.{arith}
use lib.Dec.{eqb}
use borrow.Author.Tests.{eqb-true, eqb-false}
use Rattle.numbers.specs.Bytes.{overwrite, same}
use Rattle.numbers.specs.Padded.{until_zero}
use Rattle.numbers.proofs.Tests.{not-both}
use Rattle.bits.specs.Bits.{member}
use Rattle.bits.proofs.Laws.{member_below}
use Rattle.catalogue.specs.Catalogue.{name_byte, name_run, is_line, line_at, is_new, lines as catalogue_lines, parse}
use Rattle.server.specs.Lines.{catalogue_text}
use Rattle.session.specs.Limits.{partitions}
use Rattle.session.specs.Memory.{index_of}

-- scan has the positions 0 and 1, cert has 8
pub all-positions : (parse catalogue_text).catalogue.all ≡ 259
unfolding overwrite same until_zero name_byte name_run is_line line_at is_new catalogue_lines parse
all-positions = refl

-- the position of a partition
abbrev pub position_of : ℕ → ℕ
position_of index = cond (eqb index 1) 1 (cond (eqb index 2) 8 0)

-- what holds of the three partitions holds of each
pub each-partition : (P : ℕ → Type 0) → P 0 → P 1 → P 2 → (index : ℕ) → index < partitions → P index
each-partition P a b c zero h = a
each-partition P a b c (suc zero) h = b
each-partition P a b c (suc (suc zero)) h = c
each-partition P a b c (suc (suc (suc n))) h = absurd (omega arith)

pub index_back : (index : ℕ) → index < partitions → index_of (position_of index) ≡ index
index_back = each-partition (λ (i : ℕ). index_of (position_of i) ≡ i) refl refl refl

pub position-low : (index : ℕ) → index < partitions → position_of index < 9
position-low = each-partition (λ (i : ℕ). position_of i < 9) (omega arith) (omega arith) (omega arith)

pub index-inside : (position : ℕ) → index_of position < partitions
index-inside position = go (eqb position 1) (eqb position 8)
  where
    go : (a b : Bool) → cond a 1 (cond b 2 0) < partitions
    go true b = omega arith
    go false true = omega arith
    go false false = omega arith

-- partitions with different indices have different positions
pub positions-differ : (i j : ℕ) → i < partitions → j < partitions → (i ≡ j → ⊥) → position_of i ≡ position_of j → ⊥
positions-differ i j a b h e = h (sym (index_back i a) ∙ ap index_of e ∙ index_back j b)

one_less : {p k : ℕ} → p < suc k → (p ≡ k → ⊥) → p < k
one_less h d = omega arith

zero-only : {p : ℕ} → p < 1 → p ≡ 0
zero-only h = omega arith

-- no other position is in the catalogue
other-member : (position : ℕ) → member 259 position ≡ true → (position ≡ 1 → ⊥) → (position ≡ 8 → ⊥) → position ≡ 0
other-member p m a b =
    zero-only (one_less (one_less (one_less (one_less (one_less (one_less (one_less (one_less (member_below 9 259 p (omega arith) m) b) (no 7 refl)) (no 6 refl)) (no 5 refl)) (no 4 refl)) (no 3 refl)) (no 2 refl)) a)
  where
    no : (k : ℕ) → member 259 k ≡ false → p ≡ k → ⊥
    no k f e = not-both f (subst (λ (x : ℕ). member 259 x ≡ true) e m)

-- "its own partition's, any one's for a position outside the catalogue"
pub lent-position : (position : ℕ) → cond (member 259 position) position 0 ≡ position_of (index_of position)
lent-position position = go (eqb position 1) refl (eqb position 8) refl (member 259 position) refl
  where
    go : (a : Bool) → eqb position 1 ≡ a → (b : Bool) → eqb position 8 ≡ b → (c : Bool) → member 259 position ≡ c
        → cond c position 0 ≡ position_of (cond a 1 (cond b 2 0))
    go true ea b eb true ec = eqb-true position 1 ea
    go true ea b eb false ec = not-both ec (rw (eqb-true position 1 ea))
    go false ea true eb true ec = eqb-true position 8 eb
    go false ea true eb false ec = not-both ec (rw (eqb-true position 8 eb))
    go false ea false eb true ec = other-member position ec (eqb-false position 1 ea) (eqb-false position 8 eb)
    go false ea false eb false ec = refl

pub member-position : (position : ℕ) → member 259 position ≡ true → position ≡ position_of (index_of position)
member-position position m = rw m at (lent-position position)
