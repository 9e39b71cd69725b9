-- Two values that a test tells apart are not equal.
use Prim.Native.Nat.{ℕ, ◌≤◌}
use mathlib.Core.Path.{◌≡◌, sym, ap, ◌∙◌}
use mathlib.Core.Bool.{Bool, true, false, true≢false}
use mathlib.Core.List.{List}
use lib.Dec.{eqb, leb}
use lib.IntN.{ℤ}
use borrow.Author.Tests.{le-leb}
use Rattle.numbers.specs.Signed.{eq_z}
use Rattle.numbers.specs.Bytes.{same}

pub apart : {A : Type 0} (t : A → Bool) (a b : A) → t a ≡ true → t b ≡ false → a ≡ b → ⊥
apart t a b p q e = true≢false (sym p ∙ ap t e ∙ q)

pub differ : (a b : ℕ) → eqb a a ≡ true → eqb a b ≡ false → a ≡ b → ⊥
differ a b = apart (eqb a) a b

pub differ-signed : (a b : ℤ) → eq_z a a ≡ true → eq_z a b ≡ false → a ≡ b → ⊥
differ-signed a b = apart (eq_z a) a b

pub differ-lists : (a b : List ℕ) → same a a ≡ true → same a b ≡ false → a ≡ b → ⊥
differ-lists a b = apart (same a) a b

-- a test that fails is not passed
pub fails : false ≡ true → ⊥
fails e = true≢false (sym e)

pub passes : true ≡ false → ⊥
passes e = true≢false e

-- a number is not at most a lower one
pub above : (a b : ℕ) → leb a b ≡ false → a ≤ b → ⊥
above a b f e = true≢false (sym (le-leb a b e) ∙ f)
