-- Laws of digits, as the loop that reads them needs them.
use Prim.Native.Nat.{ℕ, suc, ◌+◌, ◌-◌, ◌*◌, ◌^◌, ◌≤◌, ◌<◌}
use Prim.Native.Char.{code}
use mathlib.Core.Path.{◌≡◌, refl}
use mathlib.Core.Bool.{Bool, true, false, cond}
use mathlib.Core.List.{List, [], ◌∷◌}
use Rattle.std.specs.Prelude.{None, Some}
use native.Mathlib.Numerals.{add-one}
use native.Mathlib.Omega.{arith}
use borrow.Author.Tests.{lt-ltb, le-ltb, eqb-true, eqb-false}
use lib.Dec.{eqb}
use lib.ListN.{length, drop, get_or, drop_of_length-le}
use lib.Seq.{drop-cons}
use Rattle.search.specs.Search.{all}
use Rattle.text.specs.Decimal.{value_from, value_of}
use Rattle.fields.specs.Numbers.{is_digit, natural_of, below_word}

-- more digits do not make a number less
value-least : (a : ℕ) (cs : List ℕ) → a ≤ value_from a cs
unfolding value_from
value-least a [] = omega arith
value-least a (c ∷ cs) = omega (arith, value-least (a * 10 + (c - code "0")) cs)

-- ---- the digits from place i on

module _ (s : List ℕ) (i : ℕ) (h : i < length s) where
  split : drop i s ≡ get_or s i 0 ∷ drop (i + 1) s
  split = rw (add-one i) (drop-cons s i 0 h)

  pub value-more : (a : ℕ) → value_from a (drop i s) ≡ value_from (a * 10 + (get_or s i 0 - code "0")) (drop (i + 1) s)
  unfolding value_from
  value-more a = rw split

  pub value-above : (a : ℕ) → a * 10 + (get_or s i 0 - code "0") ≤ value_from a (drop i s)
  value-above a = rw (value-more a) (value-least (a * 10 + (get_or s i 0 - code "0")) (drop (i + 1) s))

  pub digit-more : is_digit (get_or s i 0) ≡ true → all is_digit (drop i s) ≡ all is_digit (drop (i + 1) s)
  unfolding all
  digit-more e = rw (split, e)

  pub digit-none : is_digit (get_or s i 0) ≡ false → all is_digit (drop i s) ≡ false
  unfolding all
  digit-none e = rw (split, e)

pub value-end : (s : List ℕ) (i a : ℕ) → length s ≤ i → value_from a (drop i s) ≡ a
unfolding value_from
value-end s i a h = rw (drop_of_length-le s h)

pub digits-end : (s : List ℕ) (i : ℕ) → length s ≤ i → all is_digit (drop i s) ≡ true
unfolding all
digits-end s i h = rw (drop_of_length-le s h)

-- ---- the answers

pub digits-none : (s : List ℕ) → eqb (length s) 0 ≡ true → None ≡ below_word (natural_of s)
unfolding natural_of
digits-none [] h = refl
digits-none (c ∷ s) h = absurd (omega (arith, eqb-true (suc (length s)) 0 h))

some-digits : (s : List ℕ) → eqb (length s) 0 ≡ false → natural_of s ≡ cond (all is_digit s) (Some (value_of s)) None
unfolding natural_of
some-digits [] h = absurd (omega (arith, eqb-false 0 0 h))
some-digits (c ∷ s) h = refl

module _ (s : List ℕ) (h : eqb (length s) 0 ≡ false) where
  pub digits-bad : all is_digit s ≡ false → None ≡ below_word (natural_of s)
  digits-bad e = rw (some-digits s h, e)

  pub digits-large : 2 ^ 64 ≤ value_of s → None ≡ below_word (natural_of s)
  digits-large l = rw (some-digits s h) (go (all is_digit s))
    where
      go : (b : Bool) → None ≡ below_word (cond b (Some (value_of s)) None)
      go true = rw (le-ltb (value_of s) (2 ^ 64) l)
      go false = refl

  pub digits_value : {n : ℕ} → all is_digit s ≡ true → n ≡ value_of s → n < 2 ^ 64 → Some n ≡ below_word (natural_of s)
  digits_value {n} e v l = rw (some-digits s h, e, ← v, lt-ltb n (2 ^ 64) l)
