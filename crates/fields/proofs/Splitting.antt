-- Laws of the fields of a line, as the loop that finds them needs them.
use Prim.Native.Nat.{ℕ, ◌+◌, ◌-◌, ◌≤◌, ◌<◌}
use mathlib.Core.Path.{◌≡◌, refl, sym, ap, ◌∙◌}
use mathlib.Core.Bool.{true, false}
use mathlib.Core.List.{List, [], ◌∷◌, ◌++◌, append_assoc}
use native.Mathlib.Numerals.{add-one}
use native.Mathlib.Omega.{arith}
use lib.ListN.{length, take, drop, get_or, set, length-append, length-set, drop_of_length-le}
use lib.Seq.{drop-cons, take-suc-set, take_all, take_at, length-take-le}
use Rattle.numbers.proofs.Tests.{by_cases}
use Rattle.fields.specs.Limits.{fields_max}
use Rattle.fields.specs.Fields.{separates, part, fields_from, fields_of, SplitInto}
use Rattle.fields.specs.declared.Part.{Part}

-- a line has a field
from_some : (from len : ℕ) (s : List ℕ) → 0 < length (fields_from from len s)
unfolding fields_from
from_some from len [] = omega arith
from_some from len (b ∷ s) =
    by_cases (λ (l : List Part). 0 < length l) (separates b) (λ e. omega arith) (λ e. from_some from (len + 1) s)

from-parted : (from len b : ℕ) (s : List ℕ) → separates b ≡ true → fields_from from len (b ∷ s) ≡ part from len ∷ fields_from (from + len + 1) 0 s
unfolding fields_from
from-parted from len b s e = rw e

from_on : (from len b : ℕ) (s : List ℕ) → separates b ≡ false → fields_from from len (b ∷ s) ≡ fields_from from (len + 1) s
unfolding fields_from
from_on from len b s e = rw e

from_end : (from len : ℕ) → fields_from from len [] ≡ part from len ∷ []
unfolding fields_from
from_end from len = refl

-- what a loop at place i has done, where the field that it is in started at `from`
abbrev pub Passed : List ℕ → List Part → ℕ → ℕ → ℕ → Type 0
Passed line parts n from i = fields_of line ≡ take n parts ++ fields_from from (i - from) (drop i line)

pub passed_none : (line : List ℕ) (parts : List Part) → Passed line parts 0 0 0
unfolding fields_of
passed_none line parts = refl

module _ (line : List ℕ) (parts : List Part) (n from i : ℕ) (long : length parts ≡ fields_max) (few : n < fields_max) (start : from ≤ i) (passed : Passed line parts n from i) where
  -- the array with one field more
  abbrev more : List Part
  more = set parts n (part from (i - from))

  stored : take (n + 1) more ≡ take n parts ++ (part from (i - from) ∷ [])
  stored = rw (add-one n) (take-suc-set parts n (part from (i - from)) (omega arith))

  behind : (rest : List Part) → take n parts ++ part from (i - from) ∷ rest ≡ take (n + 1) more ++ rest
  behind rest = sym (ap (λ (l : List Part). l ++ rest) stored ∙ append_assoc (take n parts) (part from (i - from) ∷ []) rest)

  length_more : length (take (n + 1) more) ≡ n + 1
  length_more = length-take-le (n + 1) more (rw (length-set parts n (part from (i - from))) (omega arith))

  module _ (inside : i < length line) where
    split : drop i line ≡ get_or line i 0 ∷ drop (i + 1) line
    split = rw (add-one i) (drop-cons line i 0 inside)

    -- at a byte that parts two fields
    parted : separates (get_or line i 0) ≡ true → fields_of line ≡ take (n + 1) more ++ fields_from (i + 1) 0 (drop (i + 1) line)
    parted e =
        let next : from + (i - from) + 1 ≡ i + 1 = omega arith in
        let f : fields_from from (i - from) (drop i line) ≡ part from (i - from) ∷ fields_from (i + 1) 0 (drop (i + 1) line) =
        rw (split, from-parted from (i - from) (get_or line i 0) (drop (i + 1) line) e, next) refl in
        passed ∙ ap (λ (l : List Part). take n parts ++ l) f ∙ behind (fields_from (i + 1) 0 (drop (i + 1) line))

    pub passed-parted : separates (get_or line i 0) ≡ true → Passed line more (n + 1) (i + 1) (i + 1)
    passed-parted e = let none : i + 1 - (i + 1) ≡ 0 = omega arith in rw none (parted e)

    -- at any other byte
    pub passed_on : separates (get_or line i 0) ≡ false → Passed line parts n from (i + 1)
    passed_on e =
        let next : i - from + 1 ≡ i + 1 - from = omega arith in
        passed ∙ rw (split, from_on from (i - from) (get_or line i 0) (drop (i + 1) line) e, next) refl

    -- where that was the seventh field there is an eighth
    pub split-full : n + 1 ≡ fields_max → separates (get_or line i 0) ≡ true → SplitInto line more (fields_max + 1)
    split-full full e =
        let p = parted e in
        let rest = fields_from (i + 1) 0 (drop (i + 1) line) in
        let l : length more ≡ fields_max = length-set parts n (part from (i - from)) ∙ long in
        let whole : take (n + 1) more ≡ more = take_all (n + 1) more (omega arith) in
        let all : fields_of line ≡ more ++ rest = p ∙ ap (λ (t : List Part). t ++ rest) whole in (
          rw (all, length-append more rest) (omega (arith, from_some (i + 1) 0 (drop (i + 1) line))),
          take_all (fields_max + 1) more (omega arith) ∙ sym (ap (take fields_max) all ∙ take_at more rest fields_max l),
        )

  -- at the end of the line
  pub split-end : length line ≤ i → SplitInto line more (n + 1)
  split-end past =
      let f : fields_from from (i - from) (drop i line) ≡ part from (i - from) ∷ [] =
      rw (drop_of_length-le line past) (from_end from (i - from)) in
      let all : fields_of line ≡ take (n + 1) more =
      passed ∙ ap (λ (l : List Part). take n parts ++ l) f ∙ sym stored in (
        rw (all, length_more) (omega arith),
        sym (ap (take fields_max) all ∙ take_all fields_max (take (n + 1) more) (omega (arith, length_more))),
      )
