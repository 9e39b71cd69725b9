-- Laws of what a field writes as a number: over the limits, and so for every width and for signed and unsigned numbers.
use Prim.Native.Nat.{ℕ, zero, suc, ◌^◌, ◌≤◌, ◌<◌}
use mathlib.Core.Path.{◌≡◌, refl, sym, ap, ◌∙◌}
use mathlib.Core.Bool.{Bool, true, false, cond, ◌&&◌}
use mathlib.Core.List.{List}
use Rattle.std.specs.Prelude.{Option, None, Some}
use native.Mathlib.Omega.{arith}
use borrow.Author.Tests.{ltb-false, le-leb, lt-leb}
use lib.Dec.{ltb, leb, leb-zero, leb-suc-zero, leb-suc-suc}
use lib.IntN.{ℤ, pos, neg_ℤ}
use lib.ListN.{drop}
use Rattle.numbers.specs.Signed.{in_range}
use Rattle.fields.specs.Numbers.{natural_of, negated, natural, has_sign, integer_of, within, below_word}

-- ---- a number that 64 bits hold, or none

word : (o : Option ℕ) {n : ℕ} → below_word o ≡ Some n → o ≡ Some n
word None e = cc
word (Some m) {n} e = go (ltb m (2 ^ 64)) e
  where
    go : (b : Bool) → cond b (Some m) None ≡ Some n → Some m ≡ Some n
    go true f = f
    go false f = cc

no-word : {C : Type 0} (o : Option ℕ) → below_word o ≡ None → (o ≡ None → C) → ((n : ℕ) → o ≡ Some n → 2 ^ 64 ≤ n → C) → C
no-word None e f g = f refl
no-word {C} (Some m) e f g = go (ltb m (2 ^ 64)) refl e
  where
    go : (b : Bool) → ltb m (2 ^ 64) ≡ b → cond b (Some m) None ≡ None → C
    go true h k = absurd (let z : ◌≡◌ {A = ℕ} 0 1 = cc in omega arith)
    go false h k = g m refl (ltb-false m (2 ^ 64) h)

-- ---- the limits: from −below to most

and-true : (b : Bool) → (b && true) ≡ b
and-true true = refl
and-true false = refl

range-negated : (below most n : ℕ) → in_range (neg_ℤ (pos below)) (pos most) (neg_ℤ (pos n)) ≡ leb n below
range-negated zero most zero = leb-zero most
range-negated zero most (suc n) = sym (leb-suc-zero n)
range-negated (suc below) most zero = leb-zero most ∙ sym (leb-zero (suc below))
range-negated (suc below) most (suc n) = and-true (leb n below) ∙ sym (leb-suc-suc n below)

range-natural : (below most n : ℕ) → in_range (neg_ℤ (pos below)) (pos most) (pos n) ≡ leb n most
range-natural zero most n = ap (λ (b : Bool). b && leb n most) (leb-zero n)
range-natural (suc below) most n = refl

module _ (below most : ℕ) where
  abbrev fit : Option ℤ → Option ℤ
  fit = within (neg_ℤ (pos below)) (pos most)

  pub negated_fits : (n : ℕ) → n ≤ below → fit (negated (Some n)) ≡ Some (neg_ℤ (pos n))
  negated_fits n h = rw (range-negated below most n, le-leb n below h)

  negated-past : (n : ℕ) → below < n → fit (negated (Some n)) ≡ None
  negated-past n h = rw (range-negated below most n, lt-leb n below h)

  natural-fits : (n : ℕ) → n ≤ most → fit (natural (Some n)) ≡ Some (pos n)
  natural-fits n h = rw (range-natural below most n, le-leb n most h)

  natural-past : (n : ℕ) → most < n → fit (natural (Some n)) ≡ None
  natural-past n h = rw (range-natural below most n, lt-leb n most h)

  -- ---- a number of 64 bits

  module _ (o : Option ℕ) where
    -- digits behind a sign
    pub sign_fits : {n : ℕ} → below_word o ≡ Some n → n ≤ below → Some (neg_ℤ (pos n)) ≡ fit (negated o)
    sign_fits {n} e h = rw (word o e, negated_fits n h)

    pub sign-past : {n : ℕ} → below_word o ≡ Some n → below < n → None ≡ fit (negated o)
    sign-past {n} e h = rw (word o e, negated-past n h)

    pub sign-bad : below < 2 ^ 64 → below_word o ≡ None → None ≡ fit (negated o)
    sign-bad l e = no-word o e (λ f. rw f) (λ n f h. rw (f, negated-past n (omega arith)))

    -- digits alone
    pub digits-fit : {n : ℕ} → below_word o ≡ Some n → n ≤ most → Some (pos n) ≡ fit (natural o)
    digits-fit {n} e h = rw (word o e, natural-fits n h)

    pub digits-past : {n : ℕ} → below_word o ≡ Some n → most < n → None ≡ fit (natural o)
    digits-past {n} e h = rw (word o e, natural-past n h)

    pub digits-bad : most < 2 ^ 64 → below_word o ≡ None → None ≡ fit (natural o)
    digits-bad l e = no-word o e (λ f. rw f) (λ n f h. rw (f, natural-past n (omega arith)))

-- ---- with a sign or without

pub integer-sign : (s : List ℕ) → has_sign s ≡ true → integer_of s ≡ negated (natural_of (drop 1 s))
unfolding integer_of
integer-sign s e = rw e

pub integer-natural : (s : List ℕ) → has_sign s ≡ false → integer_of s ≡ natural (natural_of s)
unfolding integer_of
integer-natural s e = rw e
