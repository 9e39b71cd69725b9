-- Laws of the steps of a reader in its buffer: the next line, making room, and the end of the text.
use Prim.Native.Nat.{ℕ, ◌+◌, ◌-◌, ◌≤◌, ◌<◌, min}
use mathlib.Core.Path.{◌≡◌, refl, sym, ap, ◌∙◌}
use mathlib.Core.Bool.{Bool, true, false, cond}
use mathlib.Core.List.{List}
use native.Mathlib.Omega.{arith}
use borrow.Author.Tests.{ltb-true, eq-eqb, ne_eqb}
use lib.Dec.{ltb}
use lib.ListN.{length, take, drop, length-take, length-drop}
use Rattle.numbers.specs.Bytes.{overwrite}
use Rattle.numbers.proofs.Bytes.{overwrite-none}
use Rattle.search.specs.Search.{first_where}
use Rattle.lines.specs.Text.{is_line_feed}
use Rattle.lines.specs.Cursor.{found_in, line_end, pending_length, cursor, next_at, next_of, kept_cursor, kept_bytes, last_of}
use Rattle.std.specs.Prelude.{Option, Some, None}
use Rattle.lines.specs.declared.Cursor.{Cursor}
use Rattle.lines.specs.declared.Next.TheVariants.{Line, Long, More}
use Rattle.lines.specs.declared.Last.TheVariants.{Line as LastLine, Long as LastLong, Nothing as LastNothing}

-- two different cases are never equal
differ {ℓ} : {X : Type ℓ} → ◌≡◌ {A = ℕ} 0 1 → X
differ e = absurd (omega arith)

pub found_within : (from : ℕ) (part : List ℕ) {place : ℕ} → found_in from part ≡ Some place → (place ≡ from + first_where is_line_feed part) × (first_where is_line_feed part < length part)
found_within from part {place} = go (ltb (first_where is_line_feed part) (length part)) refl
  where
    go : (b : Bool) → ltb (first_where is_line_feed part) (length part) ≡ b → cond b (Some (from + first_where is_line_feed part)) None ≡ Some place
        → (place ≡ from + first_where is_line_feed part) × (first_where is_line_feed part < length part)
    go true h e = (cc, ltb-true (first_where is_line_feed part) (length part) h)
    go false h e = differ cc

-- a line feed lies in the bytes that were searched
pub end-within : (bytes : List ℕ) (from len : ℕ) {place : ℕ} → line_end bytes from len ≡ Some place → (from ≤ place) × (place < length bytes)
unfolding line_end
end-within bytes from len e =
    let w = found_within from (take len (drop from bytes)) e in
    let l : length (take len (drop from bytes)) ≡ min len (length bytes - from) = rw (length-take, length-drop) refl in
    (omega (arith, w.0), omega (arith, w.0, w.1))

module _ (buffer : List ℕ) (c : Cursor) {len : ℕ} (told : len ≡ pending_length (length buffer) c) where
  -- ---- the next line

  module _ {found : Option ℕ} (looked : found ≡ line_end buffer c.from len) where
    next-is : next_at c found ≡ next_of buffer c
    unfolding next_of
    next-is = ap (next_at c) (looked ∙ ap (line_end buffer c.from) told)

    pub next-long : {place : ℕ} → found ≡ Some place → c.skipping ≡ true → Long (cursor (place + 1) c.end false) ≡ next_of buffer c
    next-long {place} e s =
        let a : Long (cursor (place + 1) c.end false) ≡ next_at c (Some place) = rw s in
        a ∙ ap (next_at c) (sym e) ∙ next-is

    pub next-line : {place : ℕ} → found ≡ Some place → c.skipping ≡ false → Line c.from (place - c.from) (cursor (place + 1) c.end false) ≡ next_of buffer c
    next-line {place} e s =
        let a : Line c.from (place - c.from) (cursor (place + 1) c.end false) ≡ next_at c (Some place) = rw s in
        a ∙ ap (next_at c) (sym e) ∙ next-is

    pub next_more : found ≡ None → More ≡ next_of buffer c
    next_more e = ap (next_at c) (sym e) ∙ next-is

    pub place-within : {place : ℕ} → found ≡ Some place → (c.from ≤ place) × (place < length buffer)
    place-within e = end-within buffer c.from len (sym looked ∙ e)

  -- ---- making room

  pub drop-skipped : c.skipping ≡ true → (cursor 0 0 true ≡ kept_cursor buffer c) × (buffer ≡ kept_bytes buffer c)
  unfolding kept_cursor kept_bytes
  drop-skipped s = (rw s, rw s)

  module _ (s : c.skipping ≡ false) where
    pub drop-full : len ≡ length buffer → (cursor 0 0 true ≡ kept_cursor buffer c) × (buffer ≡ kept_bytes buffer c)
    unfolding kept_cursor kept_bytes
    drop-full e =
        let f = eq-eqb (pending_length (length buffer) c) (length buffer) (sym told ∙ e) in
        (rw (s, f), rw (s, f))

    module _ (d : len ≡ length buffer → ⊥) where
      pub keep-cursor : cursor 0 len false ≡ kept_cursor buffer c
      unfolding kept_cursor
      keep-cursor = rw (s, ne_eqb (pending_length (length buffer) c) (length buffer) (λ e. d (told ∙ e)), told)

      pub keep-bytes : overwrite buffer 0 (take len (drop c.from buffer)) ≡ kept_bytes buffer c
      unfolding kept_bytes
      keep-bytes = rw (s, ne_eqb (pending_length (length buffer) c) (length buffer) (λ e. d (told ∙ e)), told)

      -- where nothing is left nothing is moved
      pub keep-none : len ≤ 0 → buffer ≡ kept_bytes buffer c
      keep-none h = let z : len ≡ 0 = omega arith in sym (overwrite-none buffer 0) ∙ rw z at keep-bytes

  -- ---- the end of the text

  pub last-long : c.skipping ≡ true → LastLong ≡ last_of buffer c
  unfolding last_of
  last-long s = rw s

  pub last_none : c.skipping ≡ false → len ≡ 0 → LastNothing ≡ last_of buffer c
  unfolding last_of
  last_none s e = rw (s, eq-eqb (pending_length (length buffer) c) 0 (sym told ∙ e))

  pub last_line : c.skipping ≡ false → (len ≡ 0 → ⊥) → LastLine c.from len ≡ last_of buffer c
  unfolding last_of
  last_line s d = rw (s, ne_eqb (pending_length (length buffer) c) 0 (λ e. d (told ∙ e)), told)
