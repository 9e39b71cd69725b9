-- A turn of the loop that spells a number, and its end.
use Prim.Native.Nat.{ℕ, ◌+◌, ◌-◌, ◌/◌, ◌%◌, ◌≤◌, ◌<◌}
use mathlib.Core.Path.{◌≡◌, refl, sym, ap, ◌∙◌}
use mathlib.Core.List.{List, ◌∷◌, ◌++◌, append_assoc, append-nil}
use native.Mathlib.Numerals.{add-one}
use native.Mathlib.Omega.{arith}
use lib.ListN.{length, take, drop, set, length-drop, length-set, drop_of_length-le}
use lib.Seq.{take_all}
use Rattle.numbers.proofs.Bytes.{drop-set-same}
use Rattle.text.specs.Decimal.{digit, decimal}
use Rattle.text.specs.Limits.{digits_max}
use Rattle.text.proofs.Decimal.{decimal-short, decimal-long, length_some, length-long}

-- what is left of a number, and what is spelled of it behind a place
abbrev pub Spelled : ℕ → ℕ → ℕ → List ℕ → Type 0
Spelled x rest start digits = decimal x ≡ decimal rest ++ drop (start + 1) digits

-- before the first turn all of it is left
pub whole : (x : ℕ) (digits : List ℕ) → length digits ≡ digits_max → Spelled x x (digits_max - 1) digits
whole x digits l = sym (ap (λ (s : List ℕ). decimal x ++ s) (drop_of_length-le digits {i = digits_max} (omega arith)) ∙ append-nil (decimal x))

-- while more than one digit is left, more than one place is
pub more_left : (rest start : ℕ) → 10 ≤ rest → length (decimal rest) ≤ start + 1 → 1 ≤ start
more_left rest start h l = omega (arith, length-long rest h, length_some (rest / 10))

module _ (x rest start : ℕ) (digits : List ℕ) (inside : start < length digits) (spelled : Spelled x rest start digits) where
  behind : (b : ℕ) → drop start (set digits start b) ≡ b ∷ drop (start + 1) digits
  behind b = rw (add-one start) (drop-set-same digits start b inside)

  -- one digit more, where more are left
  pub spelled-more : 10 ≤ rest → decimal x ≡ decimal (rest / 10) ++ drop start (set digits start (digit (rest % 10)))
  spelled-more h =
      spelled ∙ rw (decimal-long rest h, append_assoc, behind (digit (rest % 10))) refl

  -- the first digit, where no more are left
  pub spelled-last : rest < 10 → drop start (set digits start (digit rest)) ≡ decimal x
  spelled-last h = behind (digit rest) ∙ sym (spelled ∙ rw (decimal-short rest h) refl)

  -- so the part of the array that is lent is the decimal
  pub spelled_part : length digits ≡ digits_max → rest < 10 → take (digits_max - start) (drop start (set digits start (digit rest))) ≡ decimal x
  spelled_part l h =
      take_all (digits_max - start) (drop start (set digits start (digit rest))) (simp (length-drop, length-set) (omega arith)) ∙ spelled-last h
