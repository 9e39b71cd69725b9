-- The first line feed by the library's search.
use Prim.Native.Nat.{ℕ, ◌+◌, ◌≤◌}
use mathlib.Core.Path.{◌≡◌, sym, ◌∙◌}
use mathlib.Core.Bool.{Bool, true, false, cond}
use mathlib.Core.List.{List}
use lib.Dec.{ltb}
use lib.ListN.{length, drop_of_length-le}
use lib.Seq.{take-nil}
use Rattle.std.specs.Prelude.{Option, Some, None}
use Rattle.std.specs.List.{position_or_len}
use Rattle.search.specs.Search.{first_where}
use Rattle.search.proofs.Std.{first_is}
use Rattle.lines.specs.Text.{is_line_feed}
use Rattle.lines.specs.Cursor.{found_in, line_end}

-- what the search of a part answers
abbrev pub Searched : List ℕ → Option ℕ → Type 0
Searched part r =
    r ≡ cond (ltb (position_or_len is_line_feed part) (length part)) (Some (position_or_len is_line_feed part)) None

module _ (from : ℕ) (part : List ℕ) {r : Option ℕ} (s : Searched part r) where
  told : r ≡ cond (ltb (first_where is_line_feed part) (length part)) (Some (first_where is_line_feed part)) None
  told = rw (first_is is_line_feed part) s

  pub found-none : r ≡ None → None ≡ found_in from part
  found-none e = go (ltb (first_where is_line_feed part) (length part)) (sym e ∙ told)
    where
      go : (b : Bool) → None ≡ cond b (Some (first_where is_line_feed part)) None → None ≡ cond b (Some (from + first_where is_line_feed part)) None
      go true h = cc
      go false h = cc

  pub found-some : {n : ℕ} → r ≡ Some n → Some (from + n) ≡ found_in from part
  found-some {n} e = go (ltb (first_where is_line_feed part) (length part)) (sym e ∙ told)
    where
      go : (b : Bool) → Some n ≡ cond b (Some (first_where is_line_feed part)) None → Some (from + n) ≡ cond b (Some (from + first_where is_line_feed part)) None
      go true h = cc
      go false h = cc

-- past the bytes there is none
pub end-past : (bytes : List ℕ) (from len : ℕ) → length bytes ≤ from → None ≡ line_end bytes from len
unfolding line_end first_where
end-past bytes from len h = rw (drop_of_length-le bytes h, take-nil len)
