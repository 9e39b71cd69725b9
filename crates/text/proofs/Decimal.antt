-- Laws of shortest decimals: by which equations they are made, how long they are, and that they read back.
use Prim.Native.Nat.{ℕ, zero, suc, ◌+◌, ◌-◌, ◌*◌, ◌/◌, ◌%◌, ◌^◌, ◌≤◌, ◌<◌}
use Prim.Native.Char.{code}
use mathlib.Core.Path.{◌≡◌, refl, sym, ap, ◌∙◌}
use mathlib.Core.Bool.{Bool, true, false, false≢true}
use mathlib.Core.List.{List, [], ◌∷◌, ◌++◌}
use native.Mathlib.Nat.{pow-suc, div-lt_iff_lt-mul}
use native.Mathlib.Omega.{arith}
use lib.Dec.{ltb}
use lib.IntN.{ℤ, pos, negsuc, nat_abs}
use lib.ListN.{length, get_or, length-append, get_or-append}
use lib.Signed.{lt_z}
use mir.Syntax.{w64}
use mir.Val.{SFits}
use borrow.Author.Tests.{lt-ltb, le-ltb, ltb-true, ltb-false}
use Rattle.text.specs.Decimal.{digit, decimal_within, decimal, value_from, value_of, signed_decimal}
use Rattle.text.specs.Limits.{digits_max}

-- ---- the two equations

within-zero : (n : ℕ) → decimal_within 0 n ≡ digit n ∷ []
unfolding decimal_within
within-zero n = refl

within-short : (k n : ℕ) → n < 10 → decimal_within k n ≡ digit n ∷ []
unfolding decimal_within
within-short zero n h = refl
within-short (suc k) n h = rw (lt-ltb n 10 h)

within-long : (k n : ℕ) → 10 ≤ n → decimal_within (suc k) n ≡ decimal_within k (n / 10) ++ (digit (n % 10) ∷ [])
unfolding decimal_within
within-long k n h = rw (le-ltb n 10 h)

within-some : (k n : ℕ) → 0 < length (decimal_within k n)
within-some zero n = rw (within-zero n) (omega arith)
within-some (suc k) n = go (ltb n 10) refl
  where
    go : (b : Bool) → ltb n 10 ≡ b → 0 < length (decimal_within (suc k) n)
    go true e = rw (within-short (suc k) n (ltb-true n 10 e)) (omega arith)
    go false e = rw (within-long k n (ltb-false n 10 e), length-append) (omega arith)

-- a bound that is large enough does not matter
within_same : (j k n : ℕ) → n ≤ j → n ≤ k → decimal_within j n ≡ decimal_within k n
within_same zero k n h l = within-short zero n (omega arith) ∙ sym (within-short k n (omega arith))
within_same (suc j) zero n h l = within-short (suc j) n (omega arith) ∙ sym (within-short zero n (omega arith))
within_same (suc j) (suc k) n h l = go (ltb n 10) refl (within_same j k (n / 10))
  where
    go : (b : Bool) → ltb n 10 ≡ b → (n / 10 ≤ j → n / 10 ≤ k → decimal_within j (n / 10) ≡ decimal_within k (n / 10))
        → decimal_within (suc j) n ≡ decimal_within (suc k) n
    go true e f = let s : n < 10 = ltb-true n 10 e in within-short (suc j) n s ∙ sym (within-short (suc k) n s)
    go false e f =
        let s : 10 ≤ n = ltb-false n 10 e in
        within-long j n s ∙ ap (λ (l : List ℕ). l ++ (digit (n % 10) ∷ [])) (f (omega arith) (omega arith)) ∙ sym (within-long k n s)

pub decimal-short : (n : ℕ) → n < 10 → decimal n ≡ digit n ∷ []
unfolding decimal
decimal-short n h = within-short n n h

pub decimal-long : (n : ℕ) → 10 ≤ n → decimal n ≡ decimal (n / 10) ++ (digit (n % 10) ∷ [])
unfolding decimal
decimal-long zero h = absurd (omega arith)
decimal-long (suc k) h =
    within-long k (suc k) h
    ∙ ap (λ (l : List ℕ). l ++ (digit (suc k % 10) ∷ [])) (within_same k (suc k / 10) (suc k / 10) (omega arith) (omega arith))

-- ---- reading back

value-append : (a : ℕ) (cs : List ℕ) (c : ℕ) → value_from a (cs ++ (c ∷ [])) ≡ value_from a cs * 10 + (c - code "0")
unfolding value_from
value-append a [] c = refl
value-append a (d ∷ cs) c = value-append (a * 10 + (d - code "0")) cs c

value-one : (n : ℕ) → value_of (digit n ∷ []) ≡ n
unfolding value_from
value-one n = omega arith

within-back : (k n : ℕ) → n ≤ k → value_of (decimal_within k n) ≡ n
within-back zero n h = rw (within-short zero n (omega arith)) (value-one n)
within-back (suc k) n h = go (ltb n 10) refl (within-back k (n / 10))
  where
    go : (b : Bool) → ltb n 10 ≡ b → (n / 10 ≤ k → value_of (decimal_within k (n / 10)) ≡ n / 10) → value_of (decimal_within (suc k) n) ≡ n
    go true e f = rw (within-short (suc k) n (ltb-true n 10 e)) (value-one n)
    go false e f =
        let s : 10 ≤ n = ltb-false n 10 e in
        rw (within-long k n s, value-append 0 (decimal_within k (n / 10)) (digit (n % 10)), f (omega arith)) (omega arith)

-- a decimal reads back as its number
pub decimal-back : (n : ℕ) → value_of (decimal n) ≡ n
unfolding decimal
decimal-back n = within-back n n (omega arith)

-- and it is the shortest one: only that of 0 starts with a zero
within_first : (k n : ℕ) → n ≤ k → 0 < n → get_or (decimal_within k n) 0 0 ≡ code "0" → ⊥
within_first zero n h p e = omega arith
within_first (suc k) n h p e = go (ltb n 10) refl (within_first k (n / 10))
  where
    go : (b : Bool) → ltb n 10 ≡ b → (n / 10 ≤ k → 0 < n / 10 → get_or (decimal_within k (n / 10)) 0 0 ≡ code "0" → ⊥) → ⊥
    go true b f = let z : code "0" + n ≡ code "0" = rw (within-short (suc k) n (ltb-true n 10 b)) at e in omega arith
    go false b f =
        let s : 10 ≤ n = ltb-false n 10 b in
        f (omega arith) (omega arith)
        (sym (get_or-append (decimal_within k (n / 10)) (digit (n % 10) ∷ []) 0 0 (within-some k (n / 10))) ∙ rw (within-long k n s) at e)

pub no-leading-zero : (n : ℕ) → 0 < n → get_or (decimal n) 0 0 ≡ code "0" → ⊥
unfolding decimal
no-leading-zero n p = within_first n n (omega arith) p

-- ---- a signed number, by the test of its sign

pub signed-negative : (z : ℤ) → lt_z z (pos 0) ≡ true → signed_decimal z ≡ code "-" ∷ decimal (nat_abs z)
unfolding signed_decimal
signed-negative (pos n) e = absurd (omega (arith, ltb-true n 0 e))
signed-negative (negsuc n) e = refl

pub signed-natural : (z : ℤ) → lt_z z (pos 0) ≡ false → signed_decimal z ≡ decimal (nat_abs z)
unfolding signed_decimal
signed-natural (pos n) e = refl
signed-natural (negsuc n) e = absurd (false≢true (sym e))

-- ---- lengths

pub length-long : (n : ℕ) → 10 ≤ n → length (decimal n) ≡ length (decimal (n / 10)) + 1
length-long n h = rw (decimal-long n h, length-append) refl

-- every number has a digit
pub length_some : (n : ℕ) → 1 ≤ length (decimal n)
unfolding decimal
length_some n = within-some n n

-- a number below a power of ten has as many digits at most
pub decimal-most : (k n : ℕ) → n < 10 ^ suc k → length (decimal n) ≤ suc k
decimal-most zero n h = rw (decimal-short n h) (omega arith)
decimal-most (suc k) n h = go (ltb n 10) refl (decimal-most k (n / 10))
  where
    go : (b : Bool) → ltb n 10 ≡ b → (n / 10 < 10 ^ suc k → length (decimal (n / 10)) ≤ suc k) → length (decimal n) ≤ suc (suc k)
    go true e f = rw (decimal-short n (ltb-true n 10 e)) (omega arith)
    go false e f =
        let l : n / 10 < 10 ^ suc k = (div-lt_iff_lt-mul {k = 10} {x = n} {y = 10 ^ suc k} (omega arith)).1 (rw (← pow-suc 10 (suc k)) h) in
        rw (length-long n (ltb-false n 10 e)) (omega (arith, f l))

-- no number of 64 bits has more than 20 digits
pub digits-most : (n : ℕ) → n < 2 ^ 64 → length (decimal n) ≤ digits_max
digits-most n h = decimal-most 19 n (omega arith)

pub signed-most : (z : ℤ) → SFits w64 z → length (signed_decimal z) ≤ digits_max
unfolding signed_decimal
signed-most (pos n) f = digits-most n (omega arith)
signed-most (negsuc n) f = omega (arith, decimal-most 18 (suc n) (omega arith))
