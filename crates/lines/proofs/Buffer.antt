-- The steps of a reader in its buffer are those of `read_parts`: the next line is the next of `lines_in`, making room is `kept`,
-- what is read stands behind what was kept, and the end is `last_lines`.
use Prim.Native.Nat.{ℕ, zero, suc, ◌+◌, ◌-◌, ◌≤◌, ◌<◌, min}
use mathlib.Core.Path.{◌≡◌, refl, sym, ap, ap₂, ◌∙◌, subst}
use mathlib.Core.Bool.{Bool, true, false, cond, ◌||◌}
use mathlib.Core.List.{List, [], ◌∷◌, ◌++◌, append-nil}
use native.Mathlib.Omega.{arith}
use borrow.Author.Tests.{ltb-false, lt-ltb, eqb-true, eqb-false, le-leb, lt-leb}
use lib.Dec.{eqb, ltb, leb}
use lib.ListN.{length, take, drop, get_or, length-take, length-drop}
use lib.Seq.{split_at, take_all, take-take, length-take-le, drop-drop, take-nil}
use Rattle.numbers.specs.Bytes.{overwrite}
use Rattle.numbers.proofs.Bytes.{take-through, length-overwrite}
use Rattle.search.specs.Search.{first_where, Each}
use Rattle.search.proofs.Laws.{first_found, first-before}
use Rattle.lines.specs.Text.{is_line_feed, Line, whole, long, shown, pending, ended, lines_in, rest_in, kept}
use Rattle.lines.specs.Cursor.{found_in, line_end, pending_length, pending_bytes, cursor, next_at, next_of, drops, kept_cursor, kept_bytes}
use Rattle.std.specs.Prelude.{Option, Some, None}
use Rattle.lines.specs.declared.Cursor.{Cursor}
use Rattle.lines.specs.declared.Next.TheVariants.{Line as NextLine, Long, More}
use Rattle.lines.proofs.Steps.{found_within}
use Rattle.lines.proofs.Parts.{NoLineFeed, in-passed, rest-passed, in-line-feed, rest-line-feed, in-none, rest-none}

-- two different cases are never equal
differ {ℓ} : {X : Type ℓ} → ◌≡◌ {A = ℕ} 0 1 → X
differ e = absurd (omega arith)

drop-take : (k n : ℕ) (l : List ℕ) → drop k (take n l) ≡ take (n - k) (drop k l)
drop-take zero n l = let e : n - 0 ≡ n = omega arith in rw e
drop-take (suc k) zero [] = let e : 0 - suc k ≡ 0 = omega arith in rw e
drop-take (suc k) zero (x ∷ l) = let e : 0 - suc k ≡ 0 = omega arith in rw e
drop-take (suc k) (suc n) [] = sym (take-nil (suc n - suc k))
drop-take (suc k) (suc n) (x ∷ l) = let e : suc n - suc k ≡ n - k = omega arith in rw e (drop-take k n l)

each-front : (P : ℕ → Type 0) (l : List ℕ) (n : ℕ) → ((j : ℕ) → j < n → j < length l → P (get_or l j 0)) → Each P (take n l)
each-front P [] zero h = tt
each-front P [] (suc n) h = tt
each-front P (x ∷ l) zero h = tt
each-front P (x ∷ l) (suc n) h = (h 0 (omega arith) (omega arith), each-front P l n (λ j a b. h (suc j) (omega arith) (omega arith)))

or_left : (a b : Bool) → (a || b) ≡ false → a ≡ false
or_left true b e = e
or_left false b e = refl

-- ---- a part with a line feed in it

module _ (part : List ℕ) (inside : first_where is_line_feed part < length part) where
  abbrev n : ℕ
  n = first_where is_line_feed part

  before : NoLineFeed (take n part)
  before = each-front (λ (b : ℕ). is_line_feed b ≡ false) part n (λ j h k. first-before is_line_feed part 0 j h)

  parted : part ≡ take n part ++ get_or part n 0 ∷ drop (suc n) part
  parted = split_at part n 0 inside

  pub lines_next : (room : ℕ) (skipping : Bool) → lines_in room skipping [] part ≡ ended room skipping (take n part) ∷ lines_in room false [] (drop (suc n) part)
  lines_next room skipping =
      ap (lines_in room skipping []) parted
      ∙ in-passed room skipping [] (take n part) (get_or part n 0 ∷ drop (suc n) part) before
      ∙ in-line-feed room skipping (take n part) (get_or part n 0) (drop (suc n) part) (first_found is_line_feed part 0 inside)

  pub rest-next : (room : ℕ) (skipping : Bool) → rest_in skipping [] part ≡ rest_in false [] (drop (suc n) part)
  rest-next room skipping =
      ap (rest_in skipping []) parted
      ∙ rest-passed room skipping [] (take n part) (get_or part n 0 ∷ drop (suc n) part) before
      ∙ rest-line-feed room skipping (take n part) (get_or part n 0) (drop (suc n) part) (first_found is_line_feed part 0 inside)

-- ---- a part without one

module _ (part : List ℕ) (none : length part ≤ first_where is_line_feed part) where
  all-before : NoLineFeed part
  all-before =
      rw (take_all (length part) part (omega arith)) at (each-front (λ (b : ℕ). is_line_feed b ≡ false) part (length part) (λ j h k. first-before is_line_feed part 0 j (omega arith)))

  pub lines_none : (room : ℕ) (skipping : Bool) → lines_in room skipping [] part ≡ []
  lines_none room skipping =
      ap (lines_in room skipping []) (sym (append-nil part)) ∙ in-passed room skipping [] part [] all-before ∙ in-none room skipping part

  pub rest_all : (room : ℕ) (skipping : Bool) → rest_in skipping [] part ≡ pending part skipping
  rest_all room skipping =
      ap (rest_in skipping []) (sym (append-nil part)) ∙ rest-passed room skipping [] part [] all-before ∙ rest-none skipping part

-- ---- the next line in a buffer

line-fields : (b : Bool) {r rest : Cursor} {x y from len : ℕ} → cond b (Long r) (NextLine x y r) ≡ NextLine from len rest
    → (b ≡ false) × (x ≡ from) × (y ≡ len) × (r ≡ rest)
line-fields true e = differ cc
line-fields false e = (refl, cc, cc, cc)

long-fields : (b : Bool) (x y : ℕ) {r rest : Cursor} → cond b (Long r) (NextLine x y r) ≡ Long rest → (b ≡ true) × (r ≡ rest)
long-fields true x y e = (refl, cc)
long-fields false x y e = differ cc

not_more : {X : Type 0} (b : Bool) (r : Cursor) (x y : ℕ) → cond b (Long r) (NextLine x y r) ≡ More → X
not_more true r x y e = differ cc
not_more false r x y e = differ cc

module _ (buffer : List ℕ) (c : Cursor) where
  abbrev part : List ℕ
  part = pending_bytes buffer c

  abbrev feed : ℕ
  feed = first_where is_line_feed part

  part-most : length part ≤ length buffer - c.from
  part-most = rw (length-take, length-drop) (omega arith)

  part-long : length part ≡ pending_length (length buffer) c
  part-long = rw (length-take, length-drop) (omega arith)

  -- what is left behind the line feed
  behind : (place : ℕ) → place ≡ c.from + feed → drop (suc feed) part ≡ pending_bytes buffer (cursor (place + 1) c.end false)
  behind place e =
      let d : c.from + suc feed ≡ place + 1 = omega arith in
      let l : pending_length (length buffer) c - suc feed ≡ pending_length (length buffer) (cursor (place + 1) c.end false) = omega arith in
      drop-take (suc feed) (pending_length (length buffer) c) (drop c.from buffer)
      ∙ ap₂ (λ (k : ℕ) (b : List ℕ). take k b) l (drop-drop (suc feed) c.from buffer ∙ ap (λ (k : ℕ). drop k buffer) d)

  -- the line in the buffer
  front : feed < length part → take feed part ≡ take feed (drop c.from buffer)
  front h = take-take feed (pending_length (length buffer) c) (drop c.from buffer) (omega (arith, part-long))

  fits : feed < length part → shown (length buffer) (take feed part) ≡ whole (take feed part)
  fits h =
      let l : length (take feed part) ≡ feed = length-take-le feed part (omega arith) in
      rw (lt-ltb (length (take feed part)) (length buffer) (omega (arith, part-most)))

  abbrev Hands : Line → Cursor → Type 0
  Hands line rest =
      (lines_in (length buffer) c.skipping [] part ≡ line ∷ lines_in (length buffer) rest.skipping [] (pending_bytes buffer rest))
      × (rest_in c.skipping [] part ≡ rest_in rest.skipping [] (pending_bytes buffer rest))

  hands : (place : ℕ) → place ≡ c.from + feed → feed < length part → {line : Line} → ended (length buffer) c.skipping (take feed part) ≡ line
      → Hands line (cursor (place + 1) c.end false)
  hands place e h l = (
    lines_next part h (length buffer) c.skipping
        ∙ ap₂ (λ (x : Line) (s : List ℕ). x ∷ lines_in (length buffer) false [] s) l (behind place e),
    rest-next part h (length buffer) c.skipping ∙ ap (rest_in false []) (behind place e),
  )

  found_at : {place : ℕ} → found_in c.from part ≡ Some place → (place ≡ c.from + feed) × (feed < length part)
  found_at f = found_within c.from part f

  -- a line is handed on, and what is left is as if it had not been there
  pub next-hands-line : {from len : ℕ} {rest : Cursor} → next_of buffer c ≡ NextLine from len rest → Hands (whole (take len (drop from buffer))) rest
  unfolding next_of line_end
  next-hands-line {from} {len} {rest} e = go (found_in c.from part) refl e
    where
      go : (found : Option ℕ) → found_in c.from part ≡ found → next_at c found ≡ NextLine from len rest → Hands (whole (take len (drop from buffer))) rest
      go (Some place) f q =
          let p = found_at f in
          let k = line-fields c.skipping q in
          let w : ended (length buffer) c.skipping (take feed part) ≡ whole (take feed part) =
          ap (λ (b : Bool). ended (length buffer) b (take feed part)) k.0 ∙ fits p.1 in
          let m : feed ≡ len = omega (arith, p.0, k.2) in
          let l : take feed part ≡ take len (drop from buffer) = front p.1 ∙ ap₂ (λ (i j : ℕ). take i (drop j buffer)) m k.1 in
          subst (λ (s : Cursor). Hands (whole (take len (drop from buffer))) s) k.3 (hands place p.0 p.1 (w ∙ ap whole l))
      go None f q = differ cc

  -- a line that did not fit
  pub next-hands-long : {rest : Cursor} → next_of buffer c ≡ Long rest → Hands long rest
  unfolding next_of line_end
  next-hands-long {rest} e = go (found_in c.from part) refl e
    where
      go : (found : Option ℕ) → found_in c.from part ≡ found → next_at c found ≡ Long rest → Hands long rest
      go (Some place) f q =
          let p = found_at f in
          let k = long-fields c.skipping c.from (place - c.from) q in
          let w : ended (length buffer) c.skipping (take feed part) ≡ long = ap (λ (b : Bool). ended (length buffer) b (take feed part)) k.0 in
          subst (λ (s : Cursor). Hands long s) k.1 (hands place p.0 p.1 w)
      go None f q = differ cc

  -- no line ends in what is read
  pub next-hands-none : next_of buffer c ≡ More → (lines_in (length buffer) c.skipping [] part ≡ []) × (rest_in c.skipping [] part ≡ pending part c.skipping)
  unfolding next_of line_end
  next-hands-none e = go (ltb feed (length part)) refl e
    where
      go : (b : Bool) → ltb feed (length part) ≡ b → next_at c (cond b (Some (c.from + feed)) None) ≡ More
          → (lines_in (length buffer) c.skipping [] part ≡ []) × (rest_in c.skipping [] part ≡ pending part c.skipping)
      go true f q = not_more c.skipping (cursor (c.from + feed + 1) c.end false) c.from (c.from + feed - c.from) q
      go false f q =
          let h = ltb-false feed (length part) f in
          (lines_none part h (length buffer) c.skipping, rest_all part h (length buffer) c.skipping)

  -- ---- making room

  full : eqb (pending_length (length buffer) c) (length buffer) ≡ leb (length buffer) (length part)
  full = go (eqb (pending_length (length buffer) c) (length buffer)) refl
    where
      go : (b : Bool) → eqb (pending_length (length buffer) c) (length buffer) ≡ b → b ≡ leb (length buffer) (length part)
      go true e = sym (le-leb (length buffer) (length part) (omega (arith, part-long, eqb-true (pending_length (length buffer) c) (length buffer) e)))
      go false e =
          let d = eqb-false (pending_length (length buffer) c) (length buffer) e in
          sym (lt-leb (length buffer) (length part) (omega (arith, part-long, part-most, d)))

  -- what is kept stands at the front, and is what `kept` says
  pub keep-keeps : let q = kept (length buffer) (pending part c.skipping) in
      (pending_bytes (kept_bytes buffer c) (kept_cursor buffer c) ≡ q.bytes) × ((kept_cursor buffer c).skipping ≡ q.skipping)
  unfolding kept_bytes kept_cursor
  keep-keeps =
      let e : drops buffer c ≡ (c.skipping || leb (length buffer) (length part)) = ap (λ (b : Bool). c.skipping || b) full in
      let h = go (drops buffer c) refl in (
        h.0 ∙ ap (λ (b : Bool). (cond b (pending [] true) (pending part c.skipping)).bytes) e,
        h.1 ∙ ap (λ (b : Bool). (cond b (pending [] true) (pending part c.skipping)).skipping) e,
      )
    where
      go : (b : Bool) → drops buffer c ≡ b → let k = cond b (cursor 0 0 true) (cursor 0 (pending_length (length buffer) c) false) in
          let q = cond b (pending [] true) (pending part c.skipping) in
          (pending_bytes (cond b buffer (overwrite buffer 0 part)) k ≡ q.bytes) × (k.skipping ≡ q.skipping)
      go true e = let z : min (length buffer) 0 - 0 ≡ 0 = omega arith in (rw z, refl)
      go false e =
          let l : length (overwrite buffer 0 part) ≡ length buffer = length-overwrite buffer 0 part (omega (arith, part-most)) in
          let m : min (length (overwrite buffer 0 part)) (pending_length (length buffer) c) - 0 ≡ 0 + length part = omega (arith, part-long, part-most, l) in
          (ap (λ (k : ℕ). take k (overwrite buffer 0 part)) m ∙ take-through buffer 0 part (omega (arith, part-most)), sym (or_left c.skipping (eqb (pending_length (length buffer) c) (length buffer)) e))
