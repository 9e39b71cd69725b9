-- Laws of a number as a set of positions, over all numbers and positions.
use mathlib.Core.Path.{◌≡◌, refl, sym, ap, ap₂, subst, ◌∙◌}
use mathlib.Core.Bool.{Bool, true, false, cond, ◌||◌, true≢false}
use mathlib.Core.List.{[], ◌∷◌, ◌++◌, append-nil}
use Prim.Native.Nat.{ℕ, zero, suc, ◌+◌, ◌-◌, ◌*◌, ◌/◌, ◌%◌, ◌^◌, ◌≤◌, ◌<◌, min, max}
use native.Mathlib.Nat.{div-div-eq-div-mul, div-eq_of_lt, div-one, pow-succ', two-pow-succ, min-le_right, min-eq_left, max-eq_right, max-zero, min-zero, zero-mul, sub-zero, lt_of_le_of_lt, lt_of_lt_of_le, mod-lt, add-zero, one-mul, add-mul}
use native.Mathlib.Numerals.{one-add}
use native.Mathlib.Decide.{ℕ_discrete}
use native.Mathlib.Omega.{arith}
use lib.Bits.{bit_and, bit_or, and_shr, or_shr, and_step, or_step, and_block, or_disjoint, and_mask, and_zero_l, and_zero_r, and_comm, or_comm, and_le_l, and_le_r, and_lt, or_lt, or_add_and}
use lib.Dec.{eqb, ltb}
use lib.Count.{ones, ones_step, ones_cat, ones-le, count_trailing_zeros, under}
use lib.ListN.{length, length-append}
use lib.Pow.{pow_pos, pow-lt, pow_mono, ones_sub-lt, shr-shr, shr_lt, split}
use borrow.Author.Tests.{ltb-true, ltb-false, lt-ltb, le-ltb, eqb-true, eqb-false, eq-eqb, ne_eqb}
use Rattle.bits.specs.Bits.{bit, Member, member, insert, union, difference, difference_of, subset, lowest, count, times, members}

-- ---- a digit at a time

bit-zero : (x : ℕ) → bit x 0 ≡ x % 2
bit-zero x = ap (λ (y : ℕ). y % 2) (div-one x)

bit-suc : (x p : ℕ) → bit x (suc p) ≡ bit (x / 2) p
bit-suc x p = rw (pow-succ' 2 p, ← div-div-eq-div-mul x 2 (2 ^ p))

pub bit-of-none : (p : ℕ) → bit 0 p ≡ 0
bit-of-none zero = refl
bit-of-none (suc p) = bit-suc 0 p ∙ bit-of-none p

pub bit-bound : (x p : ℕ) → bit x p < 2
bit-bound x p = mod-lt (x / 2 ^ p) (omega arith)

-- a number of k digits has no member from k on
pub bit_high : (x k p : ℕ) → x < 2 ^ k → k ≤ p → bit x p ≡ 0
bit_high x k p h l = ap (λ (y : ℕ). y % 2) (div-eq_of_lt (lt_of_lt_of_le h (pow_mono l)))

-- the digits of x from s on
pub bit-shift : (x s p : ℕ) → bit (x / 2 ^ s) p ≡ bit x (s + p)
bit-shift x s p = ap (λ (y : ℕ). y % 2) (shr-shr x s p)

-- two numbers of k digits with the same members are equal
pub same-members : (k a b : ℕ) → a < 2 ^ k → b < 2 ^ k → ((p : ℕ) → p < k → bit a p ≡ bit b p) → a ≡ b
same-members zero a b ha hb e = omega arith
same-members (suc k) a b ha hb e =
    let h : a / 2 ≡ b / 2 = same-members k (a / 2) (b / 2) (omega (arith, two-pow-succ k)) (omega (arith, two-pow-succ k)) (λ p l. sym (bit-suc a p) ∙ e (suc p) (omega arith) ∙ bit-suc b p) in
    let l : a % 2 ≡ b % 2 = sym (bit-zero a) ∙ e 0 (omega arith) ∙ bit-zero b in
    omega arith

-- ---- the operations

low_and : (a b : ℕ) → bit_and a b % 2 ≡ min (a % 2) (b % 2)
low_and a b = omega (arith, and_step a b)

low_or : (a b : ℕ) → bit_or a b % 2 ≡ max (a % 2) (b % 2)
low_or a b = omega (arith, or_step a b)

pub bit-and : (a b p : ℕ) → bit (bit_and a b) p ≡ min (bit a p) (bit b p)
bit-and a b p = ap (λ (x : ℕ). x % 2) (and_shr a b p) ∙ low_and (a / 2 ^ p) (b / 2 ^ p)

pub bit-or : (a b p : ℕ) → bit (bit_or a b) p ≡ max (bit a p) (bit b p)
bit-or a b p = ap (λ (x : ℕ). x % 2) (or_shr a b p) ∙ low_or (a / 2 ^ p) (b / 2 ^ p)

bit_not : (k a p : ℕ) → a < 2 ^ k → p < k → bit ((2 ^ k - 1) - a) p ≡ 1 - bit a p
bit_not zero a p h l = absurd (omega arith)
bit_not (suc k) a zero h l = rw (bit-zero (2 ^ suc k - 1 - a), bit-zero a) (omega (arith, two-pow-succ k))
bit_not (suc k) a (suc p) h l =
    let e : ((2 ^ suc k - 1) - a) / 2 ≡ (2 ^ k - 1) - a / 2 = omega (arith, two-pow-succ k) in
    bit-suc ((2 ^ suc k - 1) - a) p ∙ ap (λ (x : ℕ). bit x p) e ∙ bit_not k (a / 2) p (omega (arith, two-pow-succ k)) (omega arith)
    ∙ ap (λ (x : ℕ). 1 - x) (sym (bit-suc a p))

pub bit-difference : (k a b q : ℕ) → b < 2 ^ k → q < k → bit (difference_of k a b) q ≡ min (bit a q) (1 - bit b q)
bit-difference k a b q h l = bit-and a ((2 ^ k - 1) - b) q ∙ ap (min (bit a q)) (bit_not k b q h l)

-- the k low digits of x
pub bit-low : (x k p : ℕ) → p < k → bit (x % 2 ^ k) p ≡ bit x p
bit-low x k p l =
    let e : x % 2 ^ k ≡ difference_of k x 0 = sym (and_mask x k) ∙ ap (bit_and x) (sym (sub-zero (2 ^ k - 1))) in
    ap (λ (y : ℕ). bit y p) e ∙ bit-difference k x 0 p (pow_pos k) l ∙ rw (bit-of-none p) (min-eq_left (omega (arith, bit-bound x p)))

-- ---- the first n positions

pub bit-first : (n p : ℕ) → p < n → bit (2 ^ n - 1) p ≡ 1
bit-first n p h = ap (λ (x : ℕ). bit x p) (sym (sub-zero (2 ^ n - 1))) ∙ bit_not n 0 p (pow_pos n) h ∙ ap (λ (d : ℕ). 1 - d) (bit-of-none p)

pub member-first : (n p : ℕ) → member (2 ^ n - 1) p ≡ ltb p n
member-first n p = go (ltb p n) refl
  where
    go : (t : Bool) → ltb p n ≡ t → member (2 ^ n - 1) p ≡ t
    go true e = eq-eqb (bit (2 ^ n - 1) p) 1 (bit-first n p (ltb-true p n e))
    go false e = ne_eqb (bit (2 ^ n - 1) p) 1 (omega (arith, bit_high (2 ^ n - 1) n p (omega (arith, pow_pos n)) (ltb-false p n e)))

-- ---- a set of one member

half_pow : (q : ℕ) → 2 ^ suc q / 2 ≡ 2 ^ q
half_pow q = omega (arith, two-pow-succ q)

pub bit-same : (p : ℕ) → bit (2 ^ p) p ≡ 1
bit-same zero = refl
bit-same (suc p) = bit-suc (2 ^ suc p) p ∙ ap (λ (x : ℕ). bit x p) (half_pow p) ∙ bit-same p

pub bit-other : (q p : ℕ) → (p ≡ q → ⊥) → bit (2 ^ q) p ≡ 0
bit-other zero zero n = absurd (n refl)
bit-other zero (suc p) n = bit-suc 1 p ∙ bit-of-none p
bit-other (suc q) zero n = bit-zero (2 ^ suc q) ∙ omega (arith, two-pow-succ q)
bit-other (suc q) (suc p) n = bit-suc (2 ^ suc q) p ∙ ap (λ (x : ℕ). bit x p) (half_pow q) ∙ bit-other q p (λ e. n (ap suc e))

-- ---- the test of a member

pub member-true : (x p : ℕ) → member x p ≡ true → Member p x
member-true x p e = eqb-true (bit x p) 1 e

pub member_is : (x p : ℕ) → Member p x → member x p ≡ true
member_is x p m = eq-eqb (bit x p) 1 m

pub member-false : (x p : ℕ) → member x p ≡ false → bit x p ≡ 0
member-false x p e =
    let n : bit x p ≡ 1 → ⊥ = eqb-false (bit x p) 1 e in
    omega (arith, bit-bound x p)

pub member-is-not : (x p : ℕ) → bit x p ≡ 0 → member x p ≡ false
member-is-not x p e = ne_eqb (bit x p) 1 (λ m. omega arith)

-- every member of a number of k digits is below k
pub member_below : (k x p : ℕ) → x < 2 ^ k → member x p ≡ true → p < k
member_below k x p h e =
    let n : k ≤ p → ⊥ = λ l. omega (arith, member-true x p e, bit_high x k p h l) in
    omega arith

-- every number n has at most n digits
digits-most : (n : ℕ) → n < 2 ^ n
digits-most zero = omega arith
digits-most (suc n) = omega (arith, two-pow-succ n, digits-most n)

-- a number without a member is 0
pub none-member : (x : ℕ) → ((p : ℕ) → member x p ≡ true → ⊥) → x ≡ 0
none-member x n = same-members x x 0 (digits-most x) (pow_pos x) digit
  where
    digit : (p : ℕ) → p < x → bit x p ≡ bit 0 p
    digit p l =
        let z : bit x p ≡ 1 → ⊥ = λ m. n p (member_is x p m) in
        omega (arith, bit-bound x p, bit-of-none p)

-- ---- a subset

pub subset-same : (a b : ℕ) → subset a b ≡ true → bit_and a b ≡ a
subset-same a b e = eqb-true (bit_and a b) a e

pub subset-from : (a b : ℕ) → subset a b ≡ true → (p : ℕ) → Member p a → Member p b
subset-from a b e p m =
    omega (arith, min-le_right (bit a p) (bit b p), sym (bit-and a b p) ∙ ap (λ (x : ℕ). bit x p) (subset-same a b e), bit-bound b p)

bit_le : (a b p : ℕ) → (Member p a → Member p b) → bit a p ≤ bit b p
bit_le a b p f = go (bit a p) refl
  where
    go : (d : ℕ) → bit a p ≡ d → bit a p ≤ bit b p
    go zero e = omega arith
    go (suc d) e = omega (arith, f (omega (arith, bit-bound a p)))

-- a set whose members are all of another
pub subset-is : (a b : ℕ) → ((p : ℕ) → Member p a → Member p b) → subset a b ≡ true
subset-is a b f =
    eq-eqb (bit_and a b) a (same-members a (bit_and a b) a (lt_of_le_of_lt (and_le_l a b) (digits-most a)) (digits-most a)
    (λ p l. bit-and a b p ∙ min-eq_left (bit_le a b p (f p))))

pub subset-and : (a b : ℕ) → subset (bit_and a b) b ≡ true
subset-and a b = subset-is (bit_and a b) b (λ p m. omega (arith, bit-and a b p, min-le_right (bit a p) (bit b p), bit-bound b p))

pub subset-trans : (a b c : ℕ) → subset a b ≡ true → subset b c ≡ true → subset a c ≡ true
subset-trans a b c e f = subset-is a c (λ p m. subset-from b c f p (subset-from a b e p m))

pub subset-none : (a : ℕ) → subset 0 a ≡ true
subset-none a = refl

-- two sets that contain each other are equal
pub subset-both : (a b : ℕ) → subset a b ≡ true → subset b a ≡ true → a ≡ b
subset-both a b e f = sym (subset-same a b e) ∙ and_comm a b ∙ subset-same b a f

-- ---- a union

pub union_left : (a b : ℕ) → subset a (union a b) ≡ true
union_left a b = subset-is a (union a b) (λ p m. omega (arith, bit-or a b p, bit-bound b p))

pub union_right : (a b : ℕ) → subset b (union a b) ≡ true
union_right a b = rw (or_comm a b) (union_left b a)

pub union-inside : (a b c : ℕ) → subset a c ≡ true → subset b c ≡ true → subset (union a b) c ≡ true
union-inside a b c e f =
    subset-is (union a b) c
    (λ p m. omega (arith, bit-or a b p, bit_le a c p (subset-from a c e p), bit_le b c p (subset-from b c f p), bit-bound c p))

pub union-least : (a b : ℕ) → a ≤ union a b
union-least a b = omega (arith, or_add_and a b, and_le_r a b)

-- with a subset
pub union-subset : (a b : ℕ) → subset a b ≡ true → union a b ≡ b
union-subset a b e = omega (arith, or_add_and a b, subset-same a b e)

-- with a set that is no subset
pub union_more : (a b : ℕ) → subset b a ≡ false → union a b ≡ a → ⊥
union_more a b e q = true≢false (sym (union_right a b) ∙ ap (subset b) q ∙ e)

-- ---- one member more

-- a position below 64 is taken in, any other changes nothing
pub insert-in : (x p : ℕ) → p < 64 → insert x p ≡ bit_or x (2 ^ p)
insert-in x p l = rw (lt-ltb p 64 l)

pub insert-past : (x p : ℕ) → 64 ≤ p → insert x p ≡ x
insert-past x p l = rw (le-ltb p 64 l)

insert-cases : (P : ℕ → Type 0) (x p : ℕ) → P (bit_or x (2 ^ p)) → P x → P (insert x p)
insert-cases P x p f g = go (ltb p 64)
  where
    go : (b : Bool) → P (cond b (bit_or x (2 ^ p)) x)
    go true = f
    go false = g

pub insert-same : (x p : ℕ) → p < 64 → bit (insert x p) p ≡ 1
insert-same x p l = rw (insert-in x p l) (bit-or x (2 ^ p) p ∙ rw bit-same (max-eq_right (omega (arith, bit-bound x p))))

pub insert-other : (x p q : ℕ) → (q ≡ p → ⊥) → bit (insert x p) q ≡ bit x q
insert-other x p q n = insert-cases (λ (y : ℕ). bit y q ≡ bit x q) x p (bit-or x (2 ^ p) q ∙ rw (bit-other p q n) (max-zero (bit x q))) refl

-- the test of a member then
pub member-insert : (x p q : ℕ) → p < 64 → member (insert x p) q ≡ (eqb p q || member x q)
member-insert x p q l = go (eqb p q) refl
  where
    go : (b : Bool) → eqb p q ≡ b → member (insert x p) q ≡ (b || member x q)
    go true e = member_is (insert x p) q (subst (λ (j : ℕ). bit (insert x p) j ≡ 1) (eqb-true p q e) (insert-same x p l))
    go false e = ap (λ (d : ℕ). eqb d 1) (insert-other x p q (λ z. eqb-false p q e (sym z)))

pub insert-below : (k x p : ℕ) → x < 2 ^ k → p < k → insert x p < 2 ^ k
insert-below k x p h l = insert-cases (λ (y : ℕ). y < 2 ^ k) x p (or_lt k x (2 ^ p) h (pow-lt l)) h

-- a member that is new is added
pub insert-new : (x p : ℕ) → p < 64 → bit x p ≡ 0 → insert x p ≡ x + 2 ^ p
insert-new x p l e = insert-in x p l ∙ or_disjoint x (2 ^ p) apart
  where
    apart : bit_and x (2 ^ p) ≡ 0
    apart =
        ap₂ bit_and (sym (split x p)) (sym (add-zero (1 * 2 ^ p) ∙ one-mul (2 ^ p)))
        ∙ and_block p (x / 2 ^ p) 1 (x % 2 ^ p) 0 (mod-lt x (pow_pos p)) (pow_pos p)
        ∙ rw (and_zero_r, and_mask (x / 2 ^ p) 1, e, zero-mul)

-- ---- the lowest member

-- t is below k and the lowest member of x
abbrev Lowest : ℕ → ℕ → ℕ → Type 0
Lowest k x t = (t < k) × Member t x × ((p : ℕ) → p < t → Member p x → ⊥)

-- from the number's half to the number, by its lowest digit d
lowest_step : (k x t d : ℕ) → x % 2 ≡ d → (d ≡ 0 → Lowest k (x / 2) t) → Lowest (suc k) x (under d t)
lowest_step k x t zero e f = (omega (arith, (f refl).0), bit-suc x t ∙ (f refl).1, rest)
  where
    rest : (p : ℕ) → p < suc t → Member p x → ⊥
    rest zero l m = omega (arith, bit-zero x)
    rest (suc p) l m = (f refl).2 p (omega arith) (sym (bit-suc x p) ∙ m)
lowest_step k x t (suc d) e f = (omega arith, omega (arith, bit-zero x), λ p l m. omega arith)

trailing-lowest : (k x : ℕ) → 0 < x → x < 2 ^ k → Lowest k x (count_trailing_zeros k x)
unfolding count_trailing_zeros
trailing-lowest zero x n h = absurd (omega arith)
trailing-lowest (suc k) x n h =
    lowest_step k x (count_trailing_zeros k (x / 2)) (x % 2) refl
    (λ e. trailing-lowest k (x / 2) (omega arith) (omega (arith, two-pow-succ k)))

pub lowest-member : (x : ℕ) → 0 < x → x < 2 ^ 64 → (lowest x < 64) × Member (lowest x) x × ((p : ℕ) → p < lowest x → Member p x → ⊥)
lowest-member x n h = trailing-lowest 64 x n h

-- ---- how many members

pub count_none : count 0 ≡ 0
unfolding ones
count_none = refl

pub count-zero : (k x : ℕ) → x < 2 ^ k → count x ≡ 0 → x ≡ 0
count-zero zero x h e = omega arith
count-zero (suc k) x h e =
    let z : x / 2 ≡ 0 = count-zero k (x / 2) (omega (arith, two-pow-succ k)) (omega (arith, ones_step x)) in
    omega (arith, ones_step x)

pub count_most : (k x : ℕ) → x < 2 ^ k → count x ≤ k
count_most = ones-le

-- the members of x from p on, and those below p
count-parts : (x p : ℕ) → count x ≡ count (x / 2 ^ p) + count (x % 2 ^ p)
count-parts x p = ap ones (sym (split x p)) ∙ ones_cat p (x / 2 ^ p) (x % 2 ^ p) (mod-lt x (pow_pos p))

sum-parts : (x p : ℕ) → x + 2 ^ p ≡ (x / 2 ^ p + 1) * 2 ^ p + x % 2 ^ p
sum-parts x p = rw (add-mul (x / 2 ^ p) 1 (2 ^ p), one-mul) (omega (arith, split x p))

pub count-insert : (x p : ℕ) → p < 64 → bit x p ≡ 0 → count (insert x p) ≡ count x + 1
count-insert x p l e =
    let h = x / 2 ^ p in
    let q : (h + 1) / 2 ≡ h / 2 = omega arith in
    let s : ones (h + 1) ≡ ones h + 1 = rw (ones_step (h + 1), ones_step h, q) (omega arith) in
    let a : ones (x + 2 ^ p) ≡ ones (h + 1) + ones (x % 2 ^ p) = ap ones (sum-parts x p) ∙ ones_cat p (h + 1) (x % 2 ^ p) (mod-lt x (pow_pos p)) in
    ap ones (insert-new x p l e) ∙ omega (arith, count-parts x p)

-- ---- the members of a that are not members of b

module _ (k a b : ℕ) (ha : a < 2 ^ k) (hb : b < 2 ^ k) (p : ℕ) where
  -- at every position
  bit-left : bit (difference_of k a b) p ≡ min (bit a p) (1 - bit b p)
  bit-left = go (ltb p k) refl
    where
      go : (t : Bool) → ltb p k ≡ t → bit (difference_of k a b) p ≡ min (bit a p) (1 - bit b p)
      go true e = bit-difference k a b p hb (ltb-true p k e)
      go false e =
          let l = ltb-false p k e in
          omega (arith, bit_high (difference_of k a b) k p (and_lt k a (2 ^ k - 1 - b) ha (ones_sub-lt k b)) l, bit_high a k p ha l)

  pub left-parts : member (difference_of k a b) p ≡ true → (member a p ≡ true) × (member b p ≡ false)
  left-parts e =
      let m = member-true (difference_of k a b) p e in
      (member_is a p (omega (arith, bit-left, bit-bound a p)), member-is-not b p (omega (arith, bit-left, bit-bound b p)))

  pub left_is : member a p ≡ true → member b p ≡ false → member (difference_of k a b) p ≡ true
  left_is e f = member_is (difference_of k a b) p (omega (arith, bit-left, member-true a p e, member-false b p f))

-- one that is left with p taken into b was left before, and is not p
pub left-without : (a b p q : ℕ) → a < 2 ^ 64 → b < 2 ^ 64 → p < 64 → member (difference a (insert b p)) q ≡ true
    → (member (difference a b) q ≡ true) × (q ≡ p → ⊥)
left-without a b p q ha hb l e =
    let (m, f) = left-parts 64 a (insert b p) ha (insert-below 64 b p hb l) q e in
    let z : bit (insert b p) q ≡ 0 = member-false (insert b p) q f in
    let n : q ≡ p → ⊥ = λ i. omega (arith, insert-same b p l, ap (bit (insert b p)) i) in
    (left_is 64 a b ha hb q m (member-is-not b q (sym (insert-other b p q n) ∙ z)), n)

-- p is a member of a and not of b: with p taken into b, the difference has one member less
module _ (a b p : ℕ) (ha : a < 2 ^ 64) (hb : b < 2 ^ 64) (l : p < 64) (m : Member p a) (e : bit b p ≡ 0) where
  gone : bit (difference a (insert b p)) p ≡ 0
  gone = bit-difference 64 a (insert b p) p (insert-below 64 b p hb l) l ∙ rw (insert-same b p l) (min-zero (bit a p))

  digit : (q : ℕ) → q < 64 → Dec (q ≡ p) → bit (difference a b) q ≡ bit (insert (difference a (insert b p)) p) q
  digit q lq (yes i) =
      let x : bit (difference a b) p ≡ 1 = bit-difference 64 a b p hb l ∙ rw (m, e) refl in
      rw i (x ∙ sym (insert-same (difference a (insert b p)) p l))
  digit q lq (no n) =
      bit-difference 64 a b q hb lq
      ∙ sym (insert-other (difference a (insert b p)) p q n ∙ bit-difference 64 a (insert b p) q (insert-below 64 b p hb l) lq ∙ rw (insert-other b p q n) refl)

  one_left : difference a b ≡ insert (difference a (insert b p)) p
  one_left =
      same-members 64 (difference a b) (insert (difference a (insert b p)) p) (and_lt 64 a (2 ^ 64 - 1 - b) ha (ones_sub-lt 64 b))
      (insert-below 64 (difference a (insert b p)) p (and_lt 64 a (2 ^ 64 - 1 - insert b p) ha (ones_sub-lt 64 (insert b p))) l)
      (λ q lq. digit q lq (ℕ_discrete q p))

  pub count_left : count (difference a b) ≡ count (difference a (insert b p)) + 1
  count_left = ap ones one_left ∙ count-insert (difference a (insert b p)) p l gone

-- ---- the members in rising order

pub members-suc : (k x : ℕ) → members (suc k) x ≡ members k x ++ times (bit x k) k
unfolding members
members-suc k x = refl

pub members-none : (k x : ℕ) → bit x k ≡ 0 → members (suc k) x ≡ members k x
members-none k x e = rw (members-suc, e) (append-nil (members k x))

pub members-one : (k x : ℕ) → bit x k ≡ 1 → members (suc k) x ≡ members k x ++ (k ∷ [])
members-one k x e = rw (members-suc, e)

pub members-same : (k x y : ℕ) → ((p : ℕ) → p < k → bit x p ≡ bit y p) → members k x ≡ members k y
members-same zero x y f = unfold members in refl
members-same (suc k) x y f =
    rw (members-suc k x, members-suc k y, f k (omega arith), members-same k x y (λ p l. f p (omega arith)))

pub members-empty : (k : ℕ) → members k 0 ≡ []
members-empty zero = unfold members in refl
members-empty (suc k) = members-none k 0 (bit-of-none k) ∙ members-empty k

length-times : (d p : ℕ) → d < 2 → length (times d p) ≡ d
length-times zero p h = refl
length-times (suc d) p h = omega arith

length-suc : (k x : ℕ) → length (members (suc k) x) ≡ length (members k x) + bit x k
length-suc k x = rw (members-suc, length-append, length-times (bit x k) k (bit-bound x k))

pub members-most : (k x : ℕ) → length (members k x) ≤ k
members-most zero x = unfold members in omega arith
members-most (suc k) x = omega (arith, length-suc k x, members-most k x, bit-bound x k)

count-digit : (d : ℕ) → d < 2 → count d ≡ d % 2
count-digit d h =
    let z : d / 2 ≡ 0 = omega arith in
    ones_step d ∙ rw (z, count_none) (add-zero (d % 2))

pub members-length : (k x : ℕ) → x < 2 ^ k → length (members k x) ≡ count x
members-length zero x h =
    let z : x ≡ 0 = omega arith in
    rw (z, members-empty, count_none)
members-length (suc k) x h =
    let e : length (members k x) ≡ length (members k (x % 2 ^ k)) = ap length (members-same k x (x % 2 ^ k) (λ p l. sym (bit-low x k p l))) in
    let t : x / 2 ^ k < 2 ^ 1 = shr_lt 1 k (rw (one-add k) h) in
    omega (arith, length-suc k x, members-length k (x % 2 ^ k) (mod-lt x (pow_pos k)), count-digit (x / 2 ^ k) t, count-parts x k)

pub members-some : (k x : ℕ) → 0 < x → x < 2 ^ k → 0 < length (members k x)
members-some k x n h =
    let z : length (members k x) ≡ 0 → ⊥ = λ e. omega (arith, count-zero k x h (sym (members-length k x h) ∙ e)) in
    omega arith

-- ---- what is left of a set

pub member-nothing : (x : ℕ) → member 0 x ≡ true → ⊥
member-nothing x m = true≢false (sym m ∙ member-is-not 0 x (bit-of-none x))

-- a part has no more members
pub count-part : (k a m : ℕ) → a < 2 ^ k → count (bit_and a m) ≤ count a
count-part zero a m h =
    let z : a ≡ 0 = omega arith in
    rw (z, and_zero_l m) (omega arith)
count-part (suc k) a m h =
    let i = count-part k (a / 2) (m / 2) (omega (arith, two-pow-succ k)) in
    let s = and_step a m in
    let half : bit_and a m / 2 ≡ bit_and (a / 2) (m / 2) = omega arith in
    let low : bit_and a m % 2 ≡ min (a % 2) (m % 2) = omega arith in
    let one = ones_step (bit_and a m) in
    let two = ones_step a in
    let same : ones (bit_and a m / 2) ≡ ones (bit_and (a / 2) (m / 2)) = ap ones half in
    omega arith

-- with nothing taken away it is the set
pub difference-none : (a : ℕ) → a < 2 ^ 64 → difference a 0 ≡ a
difference-none a h =
    let e : (2 ^ 64 - 1) - 0 ≡ 2 ^ 64 - 1 = omega arith in
    ap (bit_and a) e ∙ and_mask a 64 ∙ omega arith

-- where one is left of a set, every other one is taken away
pub last-left : (a b p : ℕ) → a < 2 ^ 64 → b < 2 ^ 64 → p < 64 → member a p ≡ true → member b p ≡ false → eqb (count (difference a b)) 1 ≡ true
    → (x : ℕ) → member a x ≡ true → (x ≡ p → ⊥) → member b x ≡ true
last-left a b p ha hb below joins new last x m n = go (member b x) refl
  where
    go : (t : Bool) → member b x ≡ t → t ≡ true
    go true e = refl
    go false e =
        let one = count_left a b p ha hb below (member-true a p joins) (member-false b p new) in
        let is : count (difference a b) ≡ 1 = eqb-true (count (difference a b)) 1 last in
        let small = insert-below 64 b p hb below in
        let none_left : difference a (insert b p) ≡ 0 = count-zero 64 (difference a (insert b p)) (let q = and_le_l a ((2 ^ 64 - 1) - insert b p) in omega arith) (omega arith) in
        let left : member (difference a (insert b p)) x ≡ true = left_is 64 a (insert b p) ha small x m (member-is-not (insert b p) x (insert-other b p x n ∙ member-false b x e)) in
        absurd (member-nothing x (subst (λ (y : ℕ). member y x ≡ true) none_left left))
