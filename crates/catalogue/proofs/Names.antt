-- Laws of one topic more: two names compared, one compared with all before it, and the topic's positions.
use mathlib.Core.Path.{◌≡◌, refl, sym, ap, ◌∙◌}
use mathlib.Core.Bool.{Bool, true, false, not, ◌&&◌, and-false, true≢false}
use mathlib.Core.List.{List, [], ◌∷◌}
use Prim.Native.Nat.{ℕ, zero, suc, ◌+◌, ◌-◌, ◌*◌, ◌%◌, ◌^◌, ◌≤◌, ◌<◌}
use native.Mathlib.Nat.{one-mul, lt_of_lt_of_le}
use native.Mathlib.Numerals.{add-one}
use native.Mathlib.Decide.{ℕ_discrete}
use native.Mathlib.Omega.{arith}
use lib.Dec.{eqb}
use lib.ListN.{length, drop, get_or, length-drop}
use lib.Seq.{get_or-take, get_or-drop, length-take-le}
use lib.Pow.{pow_mono, ones_lt, shl_exact}
use lib.Pointwise.{pointwise}
use Rattle.numbers.specs.Bytes.{same}
use Rattle.catalogue.specs.Limits.{topic_name_max}
use Rattle.catalogue.specs.declared.Catalogue.{Catalogue}
use Rattle.catalogue.specs.Catalogue.{name_field, is_new}
use Rattle.catalogue.proofs.Positions.{positions-below, positions-shifted}

-- ---- two names compared

-- what the library's comparison of slices answers
pub slices-same : (a b : List ℕ) → pointwise eqb a b ≡ same a b
unfolding same
slices-same [] [] = refl
slices-same [] (y ∷ b) = refl
slices-same (x ∷ a) [] = refl
slices-same (x ∷ a) (y ∷ b) = ap (λ (e : Bool). eqb x y && e) (slices-same a b)

pub field-byte : (c : Catalogue) (t i : ℕ) → i < topic_name_max → get_or (name_field c t) i 0 ≡ get_or c.names (topic_name_max * t + i) 0
field-byte c t i h = get_or-take topic_name_max (drop (topic_name_max * t) c.names) i 0 h ∙ get_or-drop (topic_name_max * t) c.names i 0

module _ (c : Catalogue) (sized : length c.names ≡ 128) where
  pub field-length : (t : ℕ) → t < 8 → length (name_field c t) ≡ 16
  field-length t h = length-take-le 16 (drop (16 * t) c.names) (rw length-drop (omega arith))

-- ---- one name compared with all before it

module _ (c : Catalogue) (t : ℕ) where
  pub new_none : is_new c t 0 ≡ true
  unfolding is_new
  new_none = refl

  new-suc : (u : ℕ) → is_new c t (suc u) ≡ (is_new c t u && not (same (name_field c u) (name_field c t)))
  unfolding is_new
  new-suc u = refl

  pub new-more : (u : ℕ) → is_new c t u ≡ true → same (name_field c u) (name_field c t) ≡ false → is_new c t (u + 1) ≡ true
  new-more u e f = rw (add-one u, new-suc u, e, f)

  -- one name that is the same is enough
  pub new-never : (u n : ℕ) → u < n → same (name_field c u) (name_field c t) ≡ true → is_new c t n ≡ false
  new-never u zero h e = absurd (omega arith)
  new-never u (suc n) h e = go (ℕ_discrete u n) (λ l. new-never u n l e)
    where
      go : Dec (u ≡ n) → (u < n → is_new c t n ≡ false) → is_new c t (suc n) ≡ false
      go (yes q) f = rw (new-suc n, ← q, e) (and-false (is_new c t u))
      go (no q) f = rw (new-suc n, f (omega arith))

  -- as a statement about every name
  pub new-if : (n : ℕ) → ((u : ℕ) → u < n → same (name_field c u) (name_field c t) ≡ false) → is_new c t n ≡ true
  new-if zero f = new_none
  new-if (suc n) f = rw (new-suc n, new-if n (λ u h. f u (omega arith)), f n (omega arith))

  pub new_is : (n : ℕ) → is_new c t n ≡ true → (u : ℕ) → u < n → same (name_field c u) (name_field c t) ≡ false
  new_is n e u h = go (same (name_field c u) (name_field c t)) refl
    where
      go : (b : Bool) → same (name_field c u) (name_field c t) ≡ b → same (name_field c u) (name_field c t) ≡ false
      go true q = absurd (true≢false (sym e ∙ new-never u n h q))
      go false q = q

-- ---- the positions of one topic more

-- the code shifts within 64 bits, and loses none
pub shifted : (p : ℕ) → p ≤ 8 → 1 * 2 ^ p % 2 ^ 64 ≡ 2 ^ p
shifted p h = shl_exact {a = 1} 1 p 64 (omega arith) (omega arith) ∙ one-mul (2 ^ p)

pub ones-most : (p : ℕ) → p ≤ 8 → 2 ^ p - 1 ≤ 255
ones-most p h = omega (arith, lt_of_lt_of_le (ones_lt p) (pow_mono h))

pub placed : (t p : ℕ) → t < 8 → p ≤ 8 → (1 * 2 ^ p % 2 ^ 64 - 1) * 2 ^ (8 * t) % 2 ^ 64 ≡ (2 ^ p - 1) * 2 ^ (8 * t)
placed t p h l = rw (shifted p l) (positions-shifted t (2 ^ p - 1) h (omega (arith, ones-most p l)))

pub all-grows : (a t p : ℕ) → p ≤ 8 → a < 2 ^ (8 * t) → a + (2 ^ p - 1) * 2 ^ (8 * t) < 2 ^ (8 * (t + 1))
all-grows a t p h l = rw (add-one t) (positions-below t a (2 ^ p - 1) l (omega (arith, ones-most p h)))

-- a catalogue is its names and its positions
pub made : (n m : List ℕ) (a k j : ℕ) → n ≡ m → k ≡ j → ◌≡◌ {A = Catalogue} (record { names = n; all = a + k }) (record { names = m; all = a + j })
made n m a k j e f = rw (e, f)
