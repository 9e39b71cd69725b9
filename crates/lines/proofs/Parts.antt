-- A text that is read by parts has the lines that it has as a whole.
use Prim.Native.Nat.{ℕ, ◌≤◌, ◌<◌}
use mathlib.Core.Path.{◌≡◌, refl, sym, ap, ap₂, ◌∙◌}
use mathlib.Core.Bool.{Bool, true, false, cond}
use mathlib.Core.List.{List, [], ◌∷◌, ◌++◌, map, append_assoc, append-nil}
use native.Mathlib.Omega.{arith}
use borrow.Author.Tests.{leb-true, le-ltb, ne_eqb}
use lib.Dec.{eqb, leb}
use lib.ListN.{length, length-append}
use Rattle.search.specs.Search.{Each}
use Rattle.lines.specs.Text.{is_line_feed, lines_from, lines_of, Line, shown, Pending, pending, ended, lines_in, rest_in, kept, last_lines, read_parts, joined, SameLines}

-- ---- one byte more

module _ (room : ℕ) (skipping : Bool) (line : List ℕ) (b : ℕ) (s : List ℕ) where
  pub in-line-feed : is_line_feed b ≡ true → lines_in room skipping line (b ∷ s) ≡ ended room skipping line ∷ lines_in room false [] s
  unfolding lines_in
  in-line-feed e = rw e

  in_on : is_line_feed b ≡ false → lines_in room skipping line (b ∷ s) ≡ lines_in room skipping (line ++ (b ∷ [])) s
  unfolding lines_in
  in_on e = rw e

  pub rest-line-feed : is_line_feed b ≡ true → rest_in skipping line (b ∷ s) ≡ rest_in false [] s
  unfolding rest_in
  rest-line-feed e = rw e

  rest-on : is_line_feed b ≡ false → rest_in skipping line (b ∷ s) ≡ rest_in skipping (line ++ (b ∷ [])) s
  unfolding rest_in
  rest-on e = rw e

from-line-feed : (line : List ℕ) (b : ℕ) (s : List ℕ) → is_line_feed b ≡ true → lines_from line (b ∷ s) ≡ line ∷ lines_from [] s
unfolding lines_from
from-line-feed line b s e = rw e

from_on : (line : List ℕ) (b : ℕ) (s : List ℕ) → is_line_feed b ≡ false → lines_from line (b ∷ s) ≡ lines_from (line ++ (b ∷ [])) s
unfolding lines_from
from_on line b s e = rw e

pub in-none : (room : ℕ) (skipping : Bool) (line : List ℕ) → lines_in room skipping line [] ≡ []
unfolding lines_in
in-none room skipping line = refl

pub rest-none : (skipping : Bool) (line : List ℕ) → rest_in skipping line [] ≡ pending line skipping
unfolding rest_in
rest-none skipping line = refl

-- ---- bytes without a line feed are part of the line

abbrev pub NoLineFeed : List ℕ → Type 0
NoLineFeed l = Each (λ (b : ℕ). is_line_feed b ≡ false) l

no-line-feed-more : (l : List ℕ) (b : ℕ) → NoLineFeed l → is_line_feed b ≡ false → NoLineFeed (l ++ (b ∷ []))
no-line-feed-more [] b n e = (e, tt)
no-line-feed-more (x ∷ l) b (h, n) e = (h, no-line-feed-more l b n e)

module _ (room : ℕ) (skipping : Bool) where
  pub in-passed : (line a s : List ℕ) → NoLineFeed a → lines_in room skipping line (a ++ s) ≡ lines_in room skipping (line ++ a) s
  in-passed line [] s n = ap (λ (l : List ℕ). lines_in room skipping l s) (sym (append-nil line))
  in-passed line (b ∷ a) s (e, n) =
      in_on room skipping line b (a ++ s) e
      ∙ in-passed (line ++ (b ∷ [])) a s n
      ∙ ap (λ (l : List ℕ). lines_in room skipping l s) (append_assoc line (b ∷ []) a)

  pub rest-passed : (line a s : List ℕ) → NoLineFeed a → rest_in skipping line (a ++ s) ≡ rest_in skipping (line ++ a) s
  rest-passed line [] s n = ap (λ (l : List ℕ). rest_in skipping l s) (sym (append-nil line))
  rest-passed line (b ∷ a) s (e, n) =
      rest-on room skipping line b (a ++ s) e
      ∙ rest-passed (line ++ (b ∷ [])) a s n
      ∙ ap (λ (l : List ℕ). rest_in skipping l s) (append_assoc line (b ∷ []) a)

-- ---- what a reader holds of the line t that it is in: all of it, or that it does not fit

abbrev Holds : ℕ → List ℕ → Bool → List ℕ → Type 0
Holds room t false bytes = bytes ≡ t
Holds room t true bytes = room ≤ length t

holds-ended : (room : ℕ) (t : List ℕ) (skipping : Bool) (bytes : List ℕ) → Holds room t skipping bytes → ended room skipping bytes ≡ shown room t
holds-ended room t false bytes h = ap (shown room) h
holds-ended room t true bytes h = sym (rw (le-ltb (length t) room h) refl)

holds_more : (room : ℕ) (t : List ℕ) (skipping : Bool) (bytes : List ℕ) (b : ℕ) → Holds room t skipping bytes → Holds room (t ++ (b ∷ [])) skipping (bytes ++ (b ∷ []))
holds_more room t false bytes b h = ap (λ (l : List ℕ). l ++ (b ∷ [])) h
holds_more room t true bytes b h = omega (arith, length-append t (b ∷ []))

holds_kept : (room : ℕ) (t : List ℕ) (skipping : Bool) (bytes : List ℕ) → Holds room t skipping bytes → NoLineFeed bytes
    → let q = kept room (pending bytes skipping) in Holds room t q.skipping q.bytes × NoLineFeed q.bytes
holds_kept room t true bytes h n = (h, tt)
holds_kept room t false bytes h n = go (leb room (length bytes)) refl
  where
    go : (b : Bool) → leb room (length bytes) ≡ b
        → let q = cond b (pending [] true) (pending bytes false) in Holds room t q.skipping q.bytes × NoLineFeed q.bytes
    go true e = (omega (arith, leb-true room (length bytes) e, ap length h), tt)
    go false e = (h, n)

-- at the end of the text
no_more : (t : List ℕ) → lines_from t [] ≡ cond (eqb (length t) 0) [] (t ∷ [])
unfolding lines_from
no_more t = refl

holds-last : (room : ℕ) → 0 < room → (t : List ℕ) (skipping : Bool) (bytes : List ℕ) → Holds room t skipping bytes
    → last_lines room (pending bytes skipping) ≡ map (shown room) (lines_from t [])
holds-last room some t true bytes h = sym (rw (no_more t, ne_eqb (length t) 0 (λ z. absurd (omega arith)), le-ltb (length t) room h) refl)
holds-last room some t false bytes h = rw (h, no_more t) (go (eqb (length t) 0))
  where
    go : (b : Bool) → cond b [] (shown room t ∷ []) ≡ map (shown room) (cond b [] (t ∷ []))
    go true = refl
    go false = refl

-- ---- the text behind it

module _ (room : ℕ) (some : 0 < room) where
  Claim : List (List ℕ) → Type 0
  Claim parts = (skipping : Bool) (bytes t : List ℕ) → Holds room t skipping bytes → NoLineFeed bytes
      → read_parts room (pending bytes skipping) parts ≡ map (shown room) (lines_from t (joined parts))

  -- through one part
  through : (parts : List (List ℕ)) → Claim parts → (s : List ℕ) (skipping : Bool) (line t : List ℕ) → Holds room t skipping line → NoLineFeed line
      → lines_in room skipping line s ++ read_parts room (rest_in skipping line s) parts ≡ map (shown room) (lines_from t (s ++ joined parts))
  unfolding Claim
  through parts claim [] skipping line t h n =
      rw (in-none room skipping line, rest-none skipping line) (claim skipping line t h n)
  through parts claim (b ∷ s) skipping line t h n = go (is_line_feed b) refl (through parts claim s)
    where
      go : (f : Bool) → is_line_feed b ≡ f
          → ((k : Bool) (l u : List ℕ) → Holds room u k l → NoLineFeed l
          → lines_in room k l s ++ read_parts room (rest_in k l s) parts ≡ map (shown room) (lines_from u (s ++ joined parts)))
          → lines_in room skipping line (b ∷ s) ++ read_parts room (rest_in skipping line (b ∷ s)) parts ≡ map (shown room) (lines_from t (b ∷ (s ++ joined parts)))
      go true e on =
          rw (in-line-feed room skipping line b s e, rest-line-feed room skipping line b s e, from-line-feed t b (s ++ joined parts) e)
          (ap₂ (λ (x : Line) (l : List Line). x ∷ l) (holds-ended room t skipping line h) (on false [] [] refl tt))
      go false e on =
          rw (in_on room skipping line b s e, rest-on room skipping line b s e, from_on t b (s ++ joined parts) e)
          (on skipping (line ++ (b ∷ [])) (t ++ (b ∷ [])) (holds_more room t skipping line b h) (no-line-feed-more line b n e))

  parts_none : (p : Pending) → read_parts room p [] ≡ last_lines room (kept room p)
  unfolding read_parts
  parts_none p = refl

  parts_more : (p : Pending) (part : List ℕ) (parts : List (List ℕ)) → let q = kept room p in
      read_parts room p (part ∷ parts) ≡ lines_in room q.skipping [] (q.bytes ++ part) ++ read_parts room (rest_in q.skipping [] (q.bytes ++ part)) parts
  unfolding read_parts
  parts_more p part parts = refl

  joined-more : (part : List ℕ) (parts : List (List ℕ)) → joined (part ∷ parts) ≡ part ++ joined parts
  unfolding joined
  joined-more part parts = refl

  joined-none : joined [] ≡ []
  unfolding joined
  joined-none = refl

  claimed : (parts : List (List ℕ)) → Claim parts
  unfolding Claim
  claimed [] skipping bytes t h n =
      let q = kept room (pending bytes skipping) in
      rw (parts_none (pending bytes skipping), joined-none)
      (holds-last room some t q.skipping q.bytes (holds_kept room t skipping bytes h n).0)
  claimed (part ∷ parts) skipping bytes t h n =
      let q = kept room (pending bytes skipping) in
      let k = holds_kept room t skipping bytes h n in
      parts_more (pending bytes skipping) part parts
      ∙ ap₂ (λ (a b : List Line). a ++ b)
      (in-passed room q.skipping [] q.bytes part k.1)
      (ap (λ (p : Pending). read_parts room p parts) (rest-passed room q.skipping [] q.bytes part k.1))
      ∙ through parts (claimed parts) part q.skipping q.bytes t k.0 k.1
      ∙ ap (λ (s : List ℕ). map (shown room) (lines_from t s)) (sym (joined-more part parts))

pub same_lines : SameLines
unfolding lines_of Claim
same_lines room parts some = claimed room some parts false [] [] refl tt
