-- What an array of parts holds, and what the parts that a line was split into say of the line.
use Prim.Native.Nat.{ℕ, ◌≤◌, ◌<◌, min}
use mathlib.Core.Path.{◌≡◌, sym, ap, ◌∙◌}
use mathlib.Core.List.{List}
use native.Mathlib.Omega.{arith}
use borrow.Author.Tests.{ltb-true, ltb-false}
use lib.Dec.{ltb}
use lib.ListN.{take, get_or, length-take, get_or-eq_default}
use lib.Seq.{get_or-take}
use Rattle.numbers.proofs.Tests.{by_cases}
use Rattle.fields.specs.Limits.{fields_max}
use Rattle.fields.specs.Fields.{blank, fields_of, count, part_at, bytes_of, field, SplitInto, part_in, field_in, part_by, field_by}
use Rattle.fields.specs.declared.Part.{Part}
use Rattle.fields.specs.declared.Parts.{Parts}

-- ---- a place of the array

module _ (f : Parts) (k : ℕ) where
  pub part-past : min fields_max f.count ≤ k → blank ≡ part_by f k
  part-past h = sym (get_or-eq_default (take fields_max (take f.count f.parts)) blank {n = k} (simp length-take (omega arith)))

  pub part_held : k < fields_max → k < f.count → get_or f.parts k blank ≡ part_by f k
  part_held l h = sym (get_or-take fields_max (take f.count f.parts) k blank l ∙ get_or-take f.count f.parts k blank h)

-- ---- the fields of a line

module _ (line : List ℕ) (f : Parts) (into : SplitInto line f.parts f.count) where
  -- as many as the line has, if that is not more than seven
  pub counts : (n : ℕ) → n ≤ fields_max → f.count ≡ n → count line ≡ n
  counts n h e = omega (arith, into.0)

  pub counts-not : (n : ℕ) → n ≤ fields_max → (f.count ≡ n → ⊥) → count line ≡ n → ⊥
  counts-not n h d e = d (omega (arith, into.0))

  module _ (k : ℕ) where
    abbrev kept : List Part
    kept = take fields_max (fields_of line)

    part_kept : part_by f k ≡ get_or (take fields_max kept) k blank
    part_kept = ap (λ (ps : List Part). get_or (take fields_max ps) k blank) into.1

    pub part_in_lem : k < fields_max → part_by f k ≡ part_at line k
    part_in_lem few = part_kept ∙ get_or-take fields_max kept k blank few ∙ get_or-take fields_max (fields_of line) k blank few

    pub field_in_lem : k < fields_max → field_by line f k ≡ field line k
    field_in_lem few = ap (bytes_of line) (part_in_lem few)

    part-kept-none : fields_max ≤ k → part_by f k ≡ blank
    part-kept-none past = part_kept ∙ get_or-eq_default (take fields_max kept) blank {n = k} (simp length-take (omega arith))

    -- the same at any place: what `Fields` answers of the line
    pub own_part : part_by f k ≡ part_in line k
    own_part =
        by_cases (λ (p : Part). part_by f k ≡ p) (ltb k fields_max) (λ e. part_in_lem (ltb-true k fields_max e)) (λ e. part-kept-none (ltb-false k fields_max e))

    pub own_field : field_by line f k ≡ field_in line k
    own_field = ap (bytes_of line) own_part
