-- The table of words: what holds of each row, and how long a word is.
use Prim.Native.Nat.{ℕ, zero, suc, ◌+◌, ◌≤◌, ◌<◌}
use mathlib.Core.Path.{◌≡◌, refl}
use mathlib.Core.List.{List, [], ◌∷◌}
use native.Mathlib.Nat.{add-zero}
use native.Mathlib.Omega.{arith}
use borrow.Author.Tests.{leb-true}
use lib.Dec.{leb}
use lib.ListN.{length, get_or}
use Rattle.search.specs.Search.{Each, EachAt, all}
use Rattle.search.proofs.Each.{each_at, each-true}
use Rattle.command.specs.Limits.{word_max}
use Rattle.command.specs.Words.{words, unknown, word_at}

-- what holds of each element and its place
pub each-place : {A : Type 0} (P : ℕ → A → Type 0) (n : ℕ) (l : List A) (d : A) (k : ℕ) → EachAt P n l → k < length l → P (n + k) (get_or l k d)
each-place P n [] d k e h = absurd (omega arith)
each-place P n (x ∷ l) d zero (e, es) h = rw (add-zero n) e
each-place P n (x ∷ l) d (suc k) (e, es) h = let s : n + suc k ≡ suc n + k = omega arith in rw s (each-place P (suc n) l d k es (omega arith))

-- no word is longer than five bytes
pub word-short : (row : ℕ) → length (word_at row) ≤ word_max
unfolding all
word-short row =
    let short : Each (λ (w : List ℕ). length w ≤ word_max) words =
    each-true (λ (w : List ℕ). length w ≤ word_max) (λ (w : List ℕ). leb (length w) word_max) (λ w e. leb-true (length w) word_max e) words refl in
    each_at (λ (w : List ℕ). length w ≤ word_max) words unknown row short (omega arith)
