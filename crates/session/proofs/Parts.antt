-- The words of one partition are put back, and those of the others are as they were.
use mathlib.Core.Path.{◌≡◌, refl, ap, ◌∙◌}
use mathlib.Core.Bool.{Bool, true, false}
use mathlib.Core.List.{List, ◌++◌, append_assoc}
use Prim.Native.Nat.{ℕ, ◌+◌, ◌-◌, ◌*◌, ◌≤◌, ◌<◌}
use native.Mathlib.Omega.{arith}
use native.Mathlib.Nat.{mul-le-mul_right}
use lib.Dec.{ltb}
use lib.ListN.{length, take, drop, length-append, length-take, length-drop}
use lib.Seq.{drop-drop, take-append-le, drop-append-le, drop-append-add, drop_at, take_at, length-take-le}
use borrow.Author.Tests.{ltb-true, ltb-false}
use Rattle.numbers.proofs.Bytes.{take-drop-take}
use Rattle.session.specs.Limits.{partitions}
use Rattle.session.specs.Memory.{share, words_at, with_words}

-- the words of a partition lie within all words
pub share-within : (words : List ℕ) (index : ℕ) → index < partitions → index * share words + share words ≤ length words
share-within words index h = let b : index * share words ≤ 2 * share words = mul-le-mul_right (share words) (omega arith) in omega (arith, b)

pub length-share : (words : List ℕ) (index : ℕ) → index < partitions → length (words_at words index) ≡ share words
length-share words index h = let b = share-within words index h in simp (length-take, length-drop) (omega (arith, b))

module _ (words : List ℕ) (index : ℕ) (inside : index < partitions) (own : List ℕ) (sized : length own ≡ share words) where
  pub with-length : length (with_words words index own) ≡ length words
  with-length = let b = share-within words index inside in simp (length-append, length-take, length-drop) (omega (arith, b))

  pub with-share : share (with_words words index own) ≡ share words
  with-share = rw with-length

  pub with-same : words_at (with_words words index own) index ≡ own
  with-same = let b = share-within words index inside in
      let l : length (take (index * share words) words) ≡ index * share words = length-take-le _ words (omega (arith, b)) in
      rw (with-share, drop_at (take (index * share words) words) _ (index * share words) l, take_at own _ (share words) sized)

  before : (j : ℕ) → j < index → words_at (with_words words index own) j ≡ words_at words j
  before j h =
      let b = share-within words index inside in
      let k : (j + 1) * share words ≤ index * share words = mul-le-mul_right (share words) (omega arith) in
      let low : j * share words + share words ≤ index * share words = omega (arith, k) in
      let l : length (take (index * share words) words) ≡ index * share words = length-take-le _ words (omega (arith, b)) in
      let d : length (drop (j * share words) (take (index * share words) words)) ≡ index * share words - j * share words = length-drop (j * share words) (take (index * share words) words) ∙ ap (λ (n : ℕ). n - j * share words) l in
      rw (with-share, drop-append-le (j * share words) (take (index * share words) words) _ (omega (arith, l, low)), take-append-le (share words) (drop (j * share words) (take (index * share words) words)) _ (omega (arith, d, low)))
      (take-drop-take (share words) (j * share words) (index * share words) words low)

  behind : (j : ℕ) → j < partitions → index < j → words_at (with_words words index own) j ≡ words_at words j
  behind j p h =
      let b = share-within words index inside in
      let k : (index + 1) * share words ≤ j * share words = mul-le-mul_right (share words) (omega arith) in
      let high : index * share words + share words ≤ j * share words = omega (arith, k) in
      let l : length (take (index * share words) words ++ own) ≡ index * share words + share words = simp (length-append, length-take) (omega (arith, b)) in
      let n : j * share words ≡ length (take (index * share words) words ++ own) + (j * share words - (index * share words + share words)) = omega (arith, l, high) in
      let m : index * share words + share words + (j * share words - (index * share words + share words)) ≡ j * share words = omega (arith, high) in
      rw with-share (ap (take (share words)) (rw (← append_assoc (take (index * share words) words) own _, n, drop-append-add, drop-drop, m) (ap (λ (i : ℕ). drop i words) n)))

  pub with-other : (j : ℕ) → j < partitions → (j ≡ index → ⊥) → words_at (with_words words index own) j ≡ words_at words j
  with-other j p h = go (ltb j index) refl
    where
      go : (t : Bool) → ltb j index ≡ t → words_at (with_words words index own) j ≡ words_at words j
      go true e = before j (ltb-true j index e)
      go false e = behind j p (omega (arith, ltb-false j index e, h))
