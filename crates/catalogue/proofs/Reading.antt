-- Laws of reading a text: the name bytes it starts with, the line it starts with, the lines that are left of it.
use mathlib.Core.Path.{◌≡◌, refl, sym, ap, ◌∙◌}
use mathlib.Core.Bool.{Bool, true, false, cond, ◌&&◌}
use mathlib.Core.List.{List, [], ◌∷◌, ◌++◌}
use Rattle.std.specs.Prelude.{Option, Some, None}
use Rattle.std.proofs.lemmas.Slice.{between_to_end}
use Prim.Native.Nat.{ℕ, zero, suc, ◌+◌, ◌-◌, ◌≤◌, ◌<◌}
use native.Mathlib.Nat.{add-zero}
use native.Mathlib.Numerals.{add-one}
use native.Mathlib.Decide.{dec_le}
use native.Mathlib.Omega.{arith}
use lib.ListN.{length, take, drop, get_or, length-take, drop_of_length-le, get_or-eq_default}
use lib.Dec.{eqb, leb}
use lib.Seq.{drop-cons, get_or-drop}
use borrow.Author.Tests.{leb-true, le-leb, eqb-true, eq-eqb}
use Rattle.numbers.proofs.Tests.{and_left, and_right}
use Rattle.catalogue.specs.declared.Catalogue.{Catalogue}
use Rattle.catalogue.specs.declared.Line.{Line}
use Rattle.catalogue.specs.Catalogue.{Parsed, between, name_byte, name_run, digit_at, is_line, line_at, is_new, with_topic, with_line, after_line, blank, refused, accepted, lines, parse}

-- ---- the name bytes that a list starts with

run-cons : (b : ℕ) (s : List ℕ) → name_byte b ≡ true → name_run (b ∷ s) ≡ b ∷ name_run s
unfolding name_run
run-cons b s e = rw e

run-stop : (b : ℕ) (s : List ℕ) → name_byte b ≡ false → name_run (b ∷ s) ≡ []
unfolding name_run
run-stop b s e = rw e

-- they are the first bytes of the list
pub run_take : (s : List ℕ) → take (length (name_run s)) s ≡ name_run s
unfolding name_run
run_take [] = refl
run_take (b ∷ s) = go (name_byte b) (run_take s)
  where
    go : (t : Bool) → take (length (name_run s)) s ≡ name_run s → take (length (cond t (b ∷ name_run s) [])) (b ∷ s) ≡ cond t (b ∷ name_run s) []
    go true e = ap (λ (r : List ℕ). b ∷ r) e
    go false e = refl

pub run-bytes : (s : List ℕ) (i : ℕ) → i < length (name_run s) → name_byte (get_or (name_run s) i 0) ≡ true
unfolding name_run
run-bytes [] i h = absurd (omega arith)
run-bytes (b ∷ s) i h = go (name_byte b) refl i h (run-bytes s)
  where
    go : (t : Bool) → name_byte b ≡ t → (j : ℕ) → j < length (cond t (b ∷ name_run s) []) → ((k : ℕ) → k < length (name_run s) → name_byte (get_or (name_run s) k 0) ≡ true)
        → name_byte (get_or (cond t (b ∷ name_run s) []) j 0) ≡ true
    go true e zero l f = e
    go true e (suc j) l f = f j (omega arith)
    go false e j l f = absurd (omega arith)

-- a name, and a byte behind it that is none of a name
pub run-name : (name : List ℕ) (b : ℕ) (rest : List ℕ) → ((i : ℕ) → i < length name → name_byte (get_or name i 0) ≡ true) → name_byte b ≡ false
    → name_run (name ++ b ∷ rest) ≡ name
run-name [] b rest f e = run-stop b rest e
run-name (x ∷ name) b rest f e =
    run-cons x (name ++ b ∷ rest) (f 0 (omega arith)) ∙ ap (λ (s : List ℕ). x ∷ s) (run-name name b rest (λ i h. f (suc i) (omega arith)) e)

-- counted from a place on, at a byte that is none of a name
pub run-here : (s : List ℕ) (i : ℕ) → i < length s → name_byte (get_or s i 0) ≡ false → i + length (name_run (drop i s)) ≡ i
run-here s i h e = rw (drop-cons s i 0 h, run-stop (get_or s i 0) (drop (suc i) s) e) (add-zero i)

-- at a name's byte
pub run_on : (s : List ℕ) (i : ℕ) → i < length s → name_byte (get_or s i 0) ≡ true → i + length (name_run (drop i s)) ≡ i + 1 + length (name_run (drop (i + 1) s))
run_on s i h e = rw (drop-cons s i 0 h, run-cons (get_or s i 0) (drop (suc i) s) e, add-one i) (omega arith)

-- past the end
pub run_end : (s : List ℕ) (i : ℕ) → length s ≤ i → i + length (name_run (drop i s)) ≡ i
unfolding name_run
run_end s i h = rw (drop_of_length-le s h) (add-zero i)

pub run-within : (s : List ℕ) → length (name_run s) ≤ length s
run-within s = omega (arith, ap length (run_take s), length-take (length (name_run s)) s)

-- a byte of what follows the first n bytes
pub behind : (s : List ℕ) (n k : ℕ) → get_or (take (length s - n) (drop n s)) k 0 ≡ get_or s (n + k) 0
behind s n k = rw (between_to_end s n (length s) (omega arith)) (get_or-drop n s k 0)

pub first-behind : (s : List ℕ) (n : ℕ) → get_or (take (length s - n) (drop n s)) 0 0 ≡ get_or s n 0
first-behind s n = behind s n 0 ∙ rw add-zero

-- ---- the line that a list starts with

-- a line with a name of so many bytes and so many partitions
abbrev pub topic : ℕ → ℕ → Option Line
topic n p = Some (record { name = n; partitions = p })

pub between-true : (low high b : ℕ) → between low high b ≡ true → (low ≤ b) × (b ≤ high)
between-true low high b e = (leb-true low b (and_left (leb low b) (leb b high) e), leb-true b high (and_right (leb low b) (leb b high) e))

-- s starts with a line whose name has n bytes
pub record LineParts (s : List ℕ) (n : ℕ) : Type 0 where
  pub run : n ≡ length (name_run s)
  pub named : 1 ≤ n
  pub short : n ≤ 16
  pub tab : get_or s n 0 ≡ 9
  pub digit : between 49 56 (get_or s (n + 1) 0) ≡ true
  pub feed : get_or s (n + 2) 0 ≡ 10

module _ (s : List ℕ) (n : ℕ) where
  pub line-parts : n ≡ length (name_run s) → is_line s ≡ true → LineParts s n
  unfolding is_line
  line-parts e h =
      let t : (between 1 16 n && eqb (get_or s n 0) 9 && between 49 56 (get_or s (n + 1) 0) && eqb (get_or s (n + 2) 0) 10) ≡ true = rw e h in
      let few : leb 1 n ≡ true = search (and_left, and_right) in
      let many : leb n 16 ≡ true = search (and_left, and_right) in
      let tab : eqb (get_or s n 0) 9 ≡ true = search (and_left, and_right) in
      let feed : eqb (get_or s (n + 2) 0) 10 ≡ true = search (and_left, and_right) in
      record {
        run = e;
        named = leb-true 1 n few;
        short = leb-true n 16 many;
        tab = eqb-true _ 9 tab;
        digit = search (and_left, and_right);
        feed = eqb-true _ 10 feed;
      }

  pub parts-line : LineParts s n → is_line s ≡ true
  unfolding is_line
  parts-line p = rw (← p.run, le-leb 1 n p.named, le-leb n 16 p.short, eq-eqb (get_or s n 0) 9 p.tab, p.digit, eq-eqb (get_or s (n + 2) 0) 10 p.feed)

  pub no_line_lem : n ≡ length (name_run s) → (LineParts s n → ⊥) → None ≡ line_at s
  unfolding line_at
  no_line_lem e f = go (is_line s) refl
    where
      go : (t : Bool) → is_line s ≡ t → None ≡ cond t (topic (length (name_run s)) (digit_at s - 48)) None
      go true h = absurd (f (line-parts e h))
      go false h = refl

  pub is-topic : LineParts s n → topic n (get_or s (n + 1) 0 - 48) ≡ line_at s
  unfolding line_at
  is-topic p = rw (parts-line p, ← p.run)

  -- the line feed is within the list
  pub line-fits : LineParts s n → n + 3 ≤ length s
  line-fits p = go (dec_le (n + 3) (length s))
    where
      go : Dec (n + 3 ≤ length s) → n + 3 ≤ length s
      go (yes h) = h
      go (no h) = absurd (omega (arith, sym p.feed ∙ get_or-eq_default s 0 {n = n + 2} (omega arith)))

  -- what is known of a line that was read
  pub topic-parts : (p : ℕ) → topic n p ≡ line_at s → LineParts s n × (p ≡ get_or s (n + 1) 0 - 48)
  unfolding line_at
  topic-parts p e = go (is_line s) refl e
    where
      go : (t : Bool) → is_line s ≡ t → topic n p ≡ cond t (topic (length (name_run s)) (digit_at s - 48)) None → LineParts s n × (p ≡ get_or s (n + 1) 0 - 48)
      go true h q =
          let name_of : Option Line → ℕ = λ (o : Option Line). elim o [ None ↦ 0 | Some l ↦ l.name ] in
          let count_of : Option Line → ℕ = λ (o : Option Line). elim o [ None ↦ 0 | Some l ↦ l.partitions ] in
          let r : n ≡ length (name_run s) = ap name_of q in
          let d : p ≡ digit_at s - 48 = ap count_of q in
          (line-parts r h, d ∙ rw r)
      go false h q = absurd (let z : ◌≡◌ {A = ℕ} 0 1 = cc in omega arith)

-- ---- the lines that are left

-- what is answered for a list of which t lines were read: no line at all is refused
unfoldable pub onward : ℕ → Catalogue → List ℕ → Parsed
onward zero c [] = refused
onward zero c (b ∷ s) = lines 8 0 c (b ∷ s)
onward (suc t) c s = lines (7 - t) (suc t) c s

pub parse-onward : (text : List ℕ) → parse text ≡ onward 0 blank text
unfolding parse onward
parse-onward [] = refl
parse-onward (b ∷ s) = refl

-- the end of the text, before any line and behind one
pub onward-none : (t : ℕ) (c : Catalogue) (s : List ℕ) → t ≡ 0 → length s ≡ 0 → onward t c s ≡ refused
unfolding onward
onward-none t c [] e h = rw e
onward-none t c (b ∷ s) e h = absurd (omega arith)

pub lines_none : (k t : ℕ) (c : Catalogue) → lines k t c [] ≡ accepted c
unfolding lines
lines_none zero t c = refl
lines_none (suc k) t c = refl

done : (t : ℕ) (c : Catalogue) → 0 < t → onward t c [] ≡ accepted c
unfolding onward
done zero c h = absurd (omega arith)
done (suc t) c h = lines_none (7 - t) (suc t) c

pub onward-done : (t : ℕ) (c : Catalogue) (s : List ℕ) → (t ≡ 0 → ⊥) → length s ≡ 0 → onward t c s ≡ accepted c
onward-done t c [] n h = done t c (omega arith)
onward-done t c (b ∷ s) n h = absurd (omega arith)

full : (c : Catalogue) (s : List ℕ) → 0 < length s → onward 8 c s ≡ refused
unfolding onward lines
full c [] h = absurd (omega arith)
full c (b ∷ s) h = refl

-- a ninth line
pub onward-full : (t : ℕ) (c : Catalogue) (s : List ℕ) → t ≡ 8 → 0 < length s → onward t c s ≡ refused
onward-full t c s e h = rw e (full c s h)

pub lines-suc : (k t : ℕ) (c : Catalogue) (s : List ℕ) → 0 < length s
    → lines (suc k) t c s ≡ cond (is_line s && is_new (with_line c t s) t t) (lines k (t + 1) (with_line c t s) (after_line s)) refused
unfolding lines
lines-suc k t c [] h = absurd (omega arith)
lines-suc k t c (b ∷ s) h = refl

onward-is : (t : ℕ) (c : Catalogue) (s : List ℕ) → 0 < length s → onward t c s ≡ lines (8 - t) t c s
unfolding onward
onward-is zero c [] h = absurd (omega arith)
onward-is zero c (b ∷ s) h = refl
onward-is (suc t) c s h = let e : 7 - t ≡ 8 - suc t = omega arith in rw e

onward-suc : (t : ℕ) (c : Catalogue) (s : List ℕ) → onward (t + 1) c s ≡ lines (7 - t) (t + 1) c s
unfolding onward
onward-suc t c s = rw add-one

-- one line
pub onward-step : (t : ℕ) (c : Catalogue) (s : List ℕ) → t < 8 → 0 < length s
    → onward t c s ≡ cond (is_line s && is_new (with_line c t s) t t) (onward (t + 1) (with_line c t s) (after_line s)) refused
onward-step t c s l h =
    let e : 8 - t ≡ suc (7 - t) = omega arith in
    onward-is t c s h ∙ rw (e, lines-suc (7 - t) t c s h, ← onward-suc t (with_line c t s) (after_line s))

-- no line, where there is more text
pub onward-bad : (t : ℕ) (c : Catalogue) (s : List ℕ) → t < 8 → 0 < length s → None ≡ line_at s → onward t c s ≡ refused
unfolding line_at
onward-bad t c s l h e = onward-step t c s l h ∙ go (is_line s) refl e
  where
    go : (b : Bool) → is_line s ≡ b → None ≡ cond b (topic (length (name_run s)) (digit_at s - 48)) None
        → cond (b && is_new (with_line c t s) t t) (onward (t + 1) (with_line c t s) (after_line s)) refused ≡ refused
    go true q r = absurd (let z : ◌≡◌ {A = ℕ} 0 1 = cc in omega arith)
    go false q r = refl

-- a line that was read
module _ (s : List ℕ) (n p : ℕ) (e : topic n p ≡ line_at s) where
  parts : LineParts s n
  parts = (topic-parts s n p e).0

  partitions : p ≡ get_or s (n + 1) 0 - 48
  partitions = (topic-parts s n p e).1

  pub line-within : n + 3 ≤ length s
  line-within = line-fits s n parts

  pub line-short : n ≤ 16
  line-short = parts.short

  pub line-partitions : (1 ≤ p) × (p ≤ 8)
  line-partitions = omega (arith, partitions, between-true 49 56 (get_or s (n + 1) 0) parts.digit)

  module _ (t : ℕ) (c d : Catalogue) (few : t < 8) (with : d ≡ with_topic c t (take n s) p) where
    line-with : d ≡ with_line c t s
    line-with = with ∙ rw (partitions, parts.run, run_take s)

    stepped : onward t c s ≡ cond (is_new d t t) (onward (t + 1) d (drop (n + 3) s)) refused
    stepped = onward-step t c s few (omega (arith, line-within)) ∙ rw (parts-line s n parts, ← line-with, ← parts.run)

    pub line-new : is_new d t t ≡ true → onward t c s ≡ onward (t + 1) d (drop (n + 3) s)
    line-new q = stepped ∙ rw q

    pub line-old : is_new d t t ≡ false → onward t c s ≡ refused
    line-old q = stepped ∙ rw q
