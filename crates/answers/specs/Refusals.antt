-- How a call is decided: its tests in order, the first that applies refuses; else its answer with what is to be done.
use Rattle.std.specs.Prelude.{ℕ, Bool, false, cond, ◌||◌, List, [], ◌∷◌, eqb}

-- a refusal of document 01 by its number, and whether it applies
pub data Test : Type 0 where
  refuse : ℕ → Bool → Test

-- the number of the first test that applies, and 0 where none does; the tests of a call stand in the order of document 01:
-- "8, then input numbers rising, then 10, 11, 12, 13, 14, 18, 20, 19, 15, 16, 17, 22; Marker 8, 4, 7, 21, 11"
unfoldable pub first_refusal : List Test → ℕ
first_refusal [] = 0
first_refusal (refuse number applies ∷ tests) = cond applies number (first_refusal tests)

-- the first refusal of some tests and one more, by that of those before it
unfoldable pub or_refuse : ℕ → ℕ → Bool → ℕ
or_refuse before number applies = cond (eqb before 0) (cond applies number 0) before

-- the numbers of a list of tests, in order
unfoldable pub numbers_of : List Test → List ℕ
numbers_of [] = []
numbers_of (refuse number applies ∷ tests) = number ∷ numbers_of tests

-- whether a number is one of a list
unfoldable pub among : ℕ → List ℕ → Bool
among n [] = false
among n (m ∷ l) = eqb n m || among n l

-- what a call answers and what it does
pub record Decision (Answer Action : Type 0) : Type 0 where
  pub answer : Answer
  pub action : Action

-- "Every refusal leaves all as it was": the refusal with nothing to do, or else the decision
abbrev pub unless : {Answer Action : Type 0} → ℕ → (ℕ → Answer) → Action → Decision Answer Action → Decision Answer Action
unless number refused nothing d = cond (eqb number 0) d (record { answer = refused number; action = nothing })
