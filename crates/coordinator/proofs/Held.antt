-- A call by name: what refusal 10 leaves of it, the row that holds the name, and the place of a transaction that has begun.
use mathlib.Core.Path.{◌≡◌, refl, ap, ◌∙◌}
use mathlib.Core.Bool.{Bool, true, false, not}
use mathlib.Core.List.{List}
use Prim.Native.Nat.{ℕ}
use native.Mathlib.Omega.{arith}
use lib.Dec.{eqb}
use lib.IntN.{ℤ, pos}
use lib.ListN.{length, get_or}
use mir.Syntax.{Width}
use mir.Val.{SFits, to_z, of_z}
use mir.Facts.{to_z-of_z}
use borrow.Author.Tests.{ne_eqb, lt-ltb, ltb-true, not-false}
use Rattle.numbers.specs.Signed.{eq_z}
use Rattle.numbers.specs.Padded.{padded}
use Rattle.numbers.proofs.Signed.{eq_z-true, eq_z-is}
use Rattle.record.specs.Limits.{name_max}
use Rattle.record.specs.Record.{name_fits}
use Rattle.record.proofs.Bounds.{name-starts}
use Rattle.row.specs.Row.{free, is_begin}
use Rattle.answers.specs.Limits.{places}
use Rattle.answers.proofs.Laws.{or-false-left, or-false-right}
use Rattle.table.specs.Table.{place_for}
use Rattle.table.proofs.Laws.{place_found}
use Rattle.table.proofs.Reserve.{needs-begin, needs-place}
use Rattle.coordinator.specs.Coordinator.{place_of_name, row_of, holds_name, not_held}
use Rattle.coordinator.specs.declared.Coordinator.{Coordinator}

-- a signed number that the code passes on is compared as it is
pub compared : (w : Width) (z : ℤ) (n : ℕ) {b : Bool} → SFits w z → b ≡ eq_z (to_z w (of_z w z)) (pos n) → b ≡ eq_z z (pos n)
compared w z n f e = rw (to_z-of_z f) at e

-- and so is one that it widens first
pub compared-wide : (w v : Width) (z : ℤ) (n : ℕ) {y : ℤ} {b : Bool} → SFits w z → SFits v y → y ≡ to_z w (of_z w z) → b ≡ eq_z (to_z v (of_z v y)) (pos n) → b ≡ eq_z z (pos n)
compared-wide w v z n f g q e = compared v _ n g e ∙ ap (λ (x : ℤ). eq_z x (pos n)) (q ∙ to_z-of_z f)

module _ (s : Coordinator) (name : List ℕ) (pid : ℤ) (h : not_held s name pid ≡ false) where
  pub name-held : holds_name s name ≡ true
  unfolding not_held
  name-held = not-false _ (or-false-left _ _ h)

  pub pid-held : pid ≡ pos (row_of s name).pid
  unfolding not_held
  pid-held = eq_z-true pid _ (not-false _ (or-false-right (not (holds_name s name)) _ h))

-- a name that is held with that pid is not refused with 10
pub held-is : (s : Coordinator) (name : List ℕ) (pid : ℤ) → holds_name s name ≡ true → pid ≡ pos (row_of s name).pid → not_held s name pid ≡ false
unfolding not_held
held-is s name pid h e = rw (h, eq_z-is pid (pos (row_of s name).pid) e)

-- a row with a name that fits is not free
pub named-row : (name : List ℕ) → name_fits name ≡ true → eqb (get_or (padded name_max name) 0 0) 0 ≡ false
named-row name f = ne_eqb (get_or (padded name_max name) 0 0) 0 (name-starts name f)

module _ (s : Coordinator) (all : length s.table.rows ≡ places) (name : List ℕ) where
  -- the row of a name that is held has that name
  pub held-name : holds_name s name ≡ true → (row_of s name).name ≡ padded name_max name
  held-name h = place_found s.table (padded name_max name) (omega (arith, all, ltb-true (place_of_name s name) places h))

  pub held-row : name_fits name ≡ true → holds_name s name ≡ true → free (row_of s name) ≡ false
  held-row f h = rw (held-name h) (named-row name f)

  -- a name with a transaction that has begun is held, so its own place is the place for it
  pub begun-place : is_begin (row_of s name).status ≡ true → place_for s.table (padded name_max name) ≡ place_of_name s name
  begun-place b =
      let l = needs-place s.table (place_of_name s name) (omega (arith, needs-begin (row_of s name).status b)) in
      rw (lt-ltb (place_of_name s name) places (omega (arith, all, l))) refl
