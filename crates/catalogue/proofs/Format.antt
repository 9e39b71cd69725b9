-- What `parse` accepts is what the format says: a text is accepted with a catalogue exactly where it is that catalogue's rendering.
use mathlib.Core.Path.{◌≡◌, refl, sym, ap, ap₂, subst, ◌∙◌}
use mathlib.Core.Logic.{◌↔◌}
use mathlib.Core.Bool.{Bool, true, false, cond, ◌&&◌}
use mathlib.Core.List.{List, [], ◌∷◌, ◌++◌, append_assoc, append-nil}
use Prim.Native.Nat.{ℕ, zero, suc, ◌+◌, ◌-◌, ◌^◌, ◌≤◌, ◌<◌}
use native.Mathlib.Numerals.{add-one, add-two, add-three}
use native.Mathlib.Decide.{dec_le, dec_lt}
use native.Mathlib.Omega.{arith}
use lib.ListN.{length, drop, get_or, length-append, take-append-drop, get_or-append}
use lib.Seq.{drop-cons, drop-append-add, append_snoc, get_or-append_seam, get_or-append-add, ext_get_or}
use lib.Pow.{pow_pos, pow_mono, pow-lt}
use borrow.Author.Tests.{le-leb}
use Rattle.numbers.specs.Padded.{padded}
use Rattle.numbers.proofs.Bytes.{same_false, differ}
use Rattle.numbers.proofs.Padded.{padded-same}
use Rattle.catalogue.specs.declared.Catalogue.{Catalogue}
use Rattle.catalogue.specs.Catalogue.{Parsed, between, name_byte, name_run, digit_at, is_line, name_field, partitions_in, is_new, with_topic, with_line, after_line, blank, refused, accepted, lines, parse}
use Rattle.catalogue.specs.Format.{TopicLine, no_line, line_text, text_of, GoodLine, Renders}
use Rattle.catalogue.proofs.Names.{new-if, new_is}
use Rattle.catalogue.proofs.Reading.{run_take, run-bytes, run-name, between-true, LineParts, line-parts, parts-line, line-fits, lines_none, lines-suc}
use Rattle.catalogue.proofs.Positions.{partitions-past}
use Rattle.catalogue.proofs.Topics.{sets_of, catalogue_of, Good, Different, no_zero, good_left, good-next, good-snoc, length-snoc, with-more, held-field, sets_below, set_at, catalogue-none, with-lines}

-- ---- a list that starts with a line is that line's text and what follows it

-- the line that a list starts with
abbrev line_of : List ℕ → TopicLine
line_of s = record { name = name_run s; partitions = digit_at s - 48 }

three : (s : List ℕ) (n : ℕ) → n + 3 ≤ length s → drop n s ≡ get_or s n 0 ∷ get_or s (n + 1) 0 ∷ get_or s (n + 2) 0 ∷ drop (n + 3) s
three s n h =
    rw (add-one n, add-two n, add-three n, drop-cons s n 0 (omega arith), drop-cons s (suc n) 0 (omega arith), drop-cons s (suc (suc n)) 0 (omega arith))

module _ (s : List ℕ) (p : LineParts s (length (name_run s))) where
  line-good : GoodLine (line_of s)
  line-good =
      let d = between-true 49 56 (digit_at s) p.digit in
      record { named = p.named; short = p.short; bytes = run-bytes s; some = omega arith; few = omega arith }

  line-split : s ≡ line_text (line_of s) ++ after_line s
  line-split =
      let n = length (name_run s) in
      let d : 48 + (digit_at s - 48) ≡ digit_at s = omega (arith, between-true 49 56 (digit_at s) p.digit) in
      let t : drop n s ≡ 9 ∷ (48 + (digit_at s - 48)) ∷ 10 ∷ after_line s = three s n (line-fits s n p) ∙ rw (p.tab, p.feed, d) in
      sym (take-append-drop n s) ∙ ap₂ (λ (a b : List ℕ). a ++ b) (run_take s) t
      ∙ sym (append_assoc (name_run s) (9 ∷ (48 + (digit_at s - 48)) ∷ 10 ∷ []) (after_line s))

-- ---- a line's text and what follows it starts with that line

module _ (l : TopicLine) (rest : List ℕ) (g : GoodLine l) where
  text-is : line_text l ++ rest ≡ l.name ++ 9 ∷ (48 + l.partitions) ∷ 10 ∷ rest
  text-is = append_assoc l.name (9 ∷ (48 + l.partitions) ∷ 10 ∷ []) rest

  text-run : name_run (line_text l ++ rest) ≡ l.name
  unfolding name_byte
  text-run = rw text-is (run-name l.name 9 ((48 + l.partitions) ∷ 10 ∷ rest) g.bytes refl)

  text-second : get_or (line_text l ++ rest) (length l.name + 1) 0 ≡ 48 + l.partitions
  text-second = rw text-is (get_or-append-add l.name (9 ∷ (48 + l.partitions) ∷ 10 ∷ rest) 1 0)

  text-digit : digit_at (line_text l ++ rest) - 48 ≡ l.partitions
  text-digit = rw (text-run, text-second) (omega arith)

  text-after : after_line (line_text l ++ rest) ≡ rest
  text-after = rw (text-run, text-is) (drop-append-add l.name (9 ∷ (48 + l.partitions) ∷ 10 ∷ rest) 3)

  text-line : is_line (line_text l ++ rest) ≡ true
  text-line =
      parts-line (line_text l ++ rest) (length l.name)
      (record {
        run = ap length (sym text-run);
        named = g.named;
        short = g.short;
        tab = rw text-is (get_or-append_seam l.name 9 ((48 + l.partitions) ∷ 10 ∷ rest) 0);
        digit = ap (between 49 56) text-second ∙ rw (le-leb 49 (48 + l.partitions) (omega (arith, g.some)), le-leb (48 + l.partitions) 56 (omega (arith, g.few)));
        feed = rw text-is (get_or-append-add l.name (9 ∷ (48 + l.partitions) ∷ 10 ∷ rest) 2 0);
      })

  text-with : (c : Catalogue) (t : ℕ) → with_line c t (line_text l ++ rest) ≡ with_topic c t l.name l.partitions
  text-with c t = ap₂ (with_topic c t) text-run text-digit

-- ---- different names

-- no line has this line's name
abbrev New : List TopicLine → TopicLine → Type 0
New ls l = (u : ℕ) → u < length ls → (get_or ls u no_line).name ≡ l.name → ⊥

module _ (ls : List TopicLine) (l : TopicLine) (g : Good ls) (k : GoodLine l) where
  abbrev more : Catalogue
  more = catalogue_of (ls ++ (l ∷ []))

  field-old : (u : ℕ) → u < length ls → name_field more u ≡ padded 16 (get_or ls u no_line).name
  field-old u h =
      held-field (ls ++ (l ∷ [])) u (good-snoc ls l g k) (omega (arith, length-snoc ls l))
      ∙ rw (get_or-append ls (l ∷ []) no_line u h)

  field-new : name_field more (length ls) ≡ padded 16 l.name
  field-new =
      held-field (ls ++ (l ∷ [])) (length ls) (good-snoc ls l g k) (omega (arith, length-snoc ls l))
      ∙ rw (get_or-append_seam ls l [] no_line)

  new-name : is_new more (length ls) (length ls) ≡ true → New ls l
  new-name e u h q =
      differ (name_field more u) (name_field more (length ls)) (new_is more (length ls) (length ls) e u h) (field-old u h ∙ ap (padded 16) q ∙ sym field-new)

  name_new : New ls l → is_new more (length ls) (length ls) ≡ true
  name_new f =
      new-if more (length ls) (length ls)
      (λ u h. same_false (name_field more u) (name_field more (length ls))
      (λ e. f u h (padded-same 16 (get_or ls u no_line).name l.name (no_zero (get_or ls u no_line) (g u h)) (no_zero l k) (sym (field-old u h) ∙ e ∙ field-new))))

  different-snoc : Different ls → New ls l → Different (ls ++ (l ∷ []))
  different-snoc d f i j h m e = go (dec_lt j (length ls))
    where
      old : i < length ls → get_or (ls ++ (l ∷ [])) i no_line ≡ get_or ls i no_line
      old = get_or-append ls (l ∷ []) no_line i

      go : Dec (j < length ls) → ⊥
      go (yes q) = d i j h q (rw (old (omega arith), get_or-append ls (l ∷ []) no_line j q) at e)
      go (no q) =
          let r : j ≡ length ls = omega (arith, length-snoc ls l) in
          f i (omega arith) (rw (old (omega arith), r, get_or-append_seam ls l [] no_line) at e)

different-next : (ls : List TopicLine) (l : TopicLine) (rest : List TopicLine) → Different (ls ++ l ∷ rest) → New ls l
different-next ls l rest d u h e =
    d u (length ls) h (omega (arith, length-append ls (l ∷ rest))) (rw (get_or-append ls (l ∷ rest) no_line u h, get_or-append_seam ls l rest no_line) e)

-- ---- an accepted text is a rendering

text-snoc : (ls : List TopicLine) (l : TopicLine) → text_of (ls ++ (l ∷ [])) ≡ text_of ls ++ line_text l
unfolding text_of
text-snoc [] l = append-nil (line_text l)
text-snoc (m ∷ ls) l = ap (λ (s : List ℕ). line_text m ++ s) (text-snoc ls l) ∙ sym (append_assoc (line_text m) (text_of ls) (line_text l))

not-refused : (c : Catalogue) → refused ≡ accepted c → ⊥
not-refused c e = let z : ◌≡◌ {A = ℕ} 5 0 = ap (λ (p : Parsed). p.refusal) e in omega arith

module _ (c : Catalogue) where
  -- the end of the text
  ends : (k : ℕ) (ls : List TopicLine) → Good ls → Different ls → 1 ≤ length ls → length ls ≤ 8
      → lines k (length ls) (catalogue_of ls) [] ≡ accepted c → Renders (text_of ls ++ []) c
  ends k ls g d h m e =
      let q : catalogue_of ls ≡ c = ap (λ (p : Parsed). p.catalogue) (sym (lines_none k (length ls) (catalogue_of ls)) ∙ e) in
      record {
        lines = ls;
        some = h;
        few = m;
        good = g;
        different = d;
        written = append-nil (text_of ls);
        held = sym q ∙ sym (with-lines ls g m);
      }

  -- one line, with what the rest gives
  module _ (k : ℕ) (ls : List TopicLine) (s : List ℕ) (g : Good ls) (d : Different ls) (m : length ls + suc k ≡ 8)
      (rest : (l : TopicLine) (r : List ℕ) → Good (ls ++ (l ∷ [])) → Different (ls ++ (l ∷ [])) → lines k (length (ls ++ (l ∷ []))) (catalogue_of (ls ++ (l ∷ []))) r ≡ accepted c → Renders (text_of (ls ++ (l ∷ [])) ++ r) c) where
    reads_on : is_line s ≡ true → is_new (with_line (catalogue_of ls) (length ls) s) (length ls) (length ls) ≡ true
        → lines k (length ls + 1) (with_line (catalogue_of ls) (length ls) s) (after_line s) ≡ accepted c → Renders (text_of ls ++ s) c
    reads_on p q e =
        let l = line_of s in
        let parts = line-parts s (length (name_run s)) refl p in
        let good = line-good s parts in
        let w : with_line (catalogue_of ls) (length ls) s ≡ catalogue_of (ls ++ (l ∷ [])) = with-more ls l g good (omega arith) in
        let new : is_new (catalogue_of (ls ++ (l ∷ []))) (length ls) (length ls) ≡ true = rw (← w) q in
        let more : lines k (length (ls ++ (l ∷ []))) (catalogue_of (ls ++ (l ∷ []))) (after_line s) ≡ accepted c = rw (← w, length-snoc ls l) e in
        let text : text_of (ls ++ (l ∷ [])) ++ after_line s ≡ text_of ls ++ s =
        rw (text-snoc ls l, append_assoc (text_of ls) (line_text l) (after_line s)) (ap (λ (x : List ℕ). text_of ls ++ x) (sym (line-split s parts))) in
        subst (λ (x : List ℕ). Renders x c) text (rest l (after_line s) (good-snoc ls l g good) (different-snoc ls l g good d (new-name ls l g good new)) more)

    reads-line : 0 < length s → lines (suc k) (length ls) (catalogue_of ls) s ≡ accepted c → Renders (text_of ls ++ s) c
    reads-line h e = go (is_line s) refl (is_new (with_line (catalogue_of ls) (length ls) s) (length ls) (length ls)) refl (sym (lines-suc k (length ls) (catalogue_of ls) s h) ∙ e)
      where
        go : (x : Bool) → is_line s ≡ x → (y : Bool) → is_new (with_line (catalogue_of ls) (length ls) s) (length ls) (length ls) ≡ y
            → cond (x && y) (lines k (length ls + 1) (with_line (catalogue_of ls) (length ls) s) (after_line s)) refused ≡ accepted c → Renders (text_of ls ++ s) c
        go true p true q r = reads_on p q r
        go true p false q r = absurd (not-refused c r)
        go false p y q r = absurd (not-refused c r)

  reads : (k : ℕ) (ls : List TopicLine) (s : List ℕ) → Good ls → Different ls → 1 ≤ length ls + length s → length ls + k ≡ 8
      → lines k (length ls) (catalogue_of ls) s ≡ accepted c → Renders (text_of ls ++ s) c
  reads zero ls [] g d h m e = ends zero ls g d (omega arith) (omega arith) e
  reads (suc k) ls [] g d h m e = ends (suc k) ls g d (omega arith) (omega arith) e
  reads zero ls (b ∷ s) g d h m e = unfold lines in absurd (not-refused c e)
  reads (suc k) ls (b ∷ s) g d h m e =
      reads-line k ls (b ∷ s) g d m (λ l r g' d' q. reads k (ls ++ (l ∷ [])) r g' d' (omega (arith, length-snoc ls l)) (omega (arith, length-snoc ls l)) q) (omega arith) e

good_none : Good []
good_none i h = absurd (omega arith)

different-none : Different []
different-none i j h m e = absurd (omega arith)

pub accepted-is : (text : List ℕ) (c : Catalogue) → parse text ≡ accepted c → Renders text c
unfolding parse text_of
accepted-is [] c e = absurd (not-refused c e)
accepted-is (b ∷ s) c e =
    reads c 8 [] (b ∷ s) good_none different-none (omega arith) refl (ap (λ (x : Catalogue). lines 8 0 x (b ∷ s)) catalogue-none ∙ e)

-- ---- a rendering is accepted

text-cons : (l : TopicLine) (ls : List TopicLine) → text_of (l ∷ ls) ≡ line_text l ++ text_of ls
unfolding text_of
text-cons l ls = refl

-- one line
answer : (l : TopicLine) (ls : List TopicLine) (rest : List ℕ) (k : ℕ) → Good ls → GoodLine l → New ls l → length ls < 8
    → lines (suc k) (length ls) (catalogue_of ls) (line_text l ++ rest) ≡ lines k (length (ls ++ (l ∷ []))) (catalogue_of (ls ++ (l ∷ []))) rest
answer l ls rest k g q f h =
    let s = line_text l ++ rest in
    let some : 0 < length s = omega (arith, length-append (line_text l) rest, length-append l.name (9 ∷ (48 + l.partitions) ∷ 10 ∷ []), q.named) in
    let w : with_line (catalogue_of ls) (length ls) s ≡ catalogue_of (ls ++ (l ∷ [])) = text-with l rest q (catalogue_of ls) (length ls) ∙ with-more ls l g q h in
    lines-suc k (length ls) (catalogue_of ls) s some ∙ rw (w, text-line l rest q, name_new ls l g q f, text-after l rest q, ← length-snoc ls l)

answers : (rest ls : List TopicLine) (k : ℕ) → Good (ls ++ rest) → Different (ls ++ rest) → length ls + k ≡ 8 → length rest ≤ k
    → lines k (length ls) (catalogue_of ls) (text_of rest) ≡ accepted (catalogue_of (ls ++ rest))
answers [] ls k g d m h =
    unfold text_of in lines_none k (length ls) (catalogue_of ls) ∙ ap (λ (x : List TopicLine). accepted (catalogue_of x)) (sym (append-nil ls))
answers (l ∷ rest) ls zero g d m h = absurd (omega arith)
answers (l ∷ rest) ls (suc k) g d m h =
    let step = answer l ls (text_of rest) k (good_left ls (l ∷ rest) g) (good-next ls l rest g) (different-next ls l rest d) (omega arith) in
    let more = answers rest (ls ++ (l ∷ [])) k (rw (append_snoc ls l rest) g) (rw (append_snoc ls l rest) d) (omega (arith, length-snoc ls l)) (omega arith) in
    rw (text-cons l rest, ← append_snoc ls l rest) (step ∙ more)

text-some : (ls : List TopicLine) → 1 ≤ length ls → 0 < length (text_of ls)
text-some [] h = absurd (omega arith)
text-some (l ∷ ls) h =
    omega (arith, ap length (text-cons l ls), length-append (line_text l) (text_of ls), length-append l.name (9 ∷ (48 + l.partitions) ∷ 10 ∷ []))

parse-some : (s : List ℕ) → 0 < length s → parse s ≡ lines 8 0 blank s
unfolding parse
parse-some [] h = absurd (omega arith)
parse-some (b ∷ s) h = refl

pub accepted-if : (text : List ℕ) (c : Catalogue) → Renders text c → parse text ≡ accepted c
accepted-if text c r =
    let ls = r.lines in
    ap parse r.written ∙ parse-some (text_of ls) (text-some ls r.some) ∙ ap (λ (x : Catalogue). lines 8 0 x (text_of ls)) (sym catalogue-none)
    ∙ answers ls [] 8 r.good r.different refl r.few
    ∙ ap accepted (sym (r.held ∙ with-lines ls r.good r.few))

pub accepted-iff : (text : List ℕ) (c : Catalogue) → (parse text ≡ accepted c) ↔ Renders text c
accepted-iff text c = (accepted-is text c, accepted-if text c)

-- ---- a catalogue has one rendering

partitions-same : (p q : ℕ) → 2 ^ p - 1 ≡ 2 ^ q - 1 → p ≡ q
partitions-same p q e = go (dec_lt p q) (dec_lt q p)
  where
    go : Dec (p < q) → Dec (q < p) → p ≡ q
    go (yes h) m = absurd (omega (arith, pow-lt h, pow_pos p))
    go (no h) (yes m) = absurd (omega (arith, pow-lt m, pow_pos q))
    go (no h) (no m) = omega arith

module _ (ls ms : List TopicLine) (g : Good ls) (k : Good ms) (e : catalogue_of ls ≡ catalogue_of ms) where
  sets : sets_of ls ≡ sets_of ms
  sets = ap (λ (c : Catalogue). c.all) e

  -- a line more would have partitions
  no_longer : length ls ≤ length ms
  no_longer = go (dec_le (length ls) (length ms))
    where
      go : Dec (length ls ≤ length ms) → length ls ≤ length ms
      go (yes h) = h
      go (no h) =
          let u = length ms in
          let z : partitions_in (sets_of ls) u ≡ 0 = ap (λ (x : ℕ). partitions_in x u) sets ∙ partitions-past (sets_of ms) u u (sets_below ms k) (omega arith) in
          let s : 2 ^ 1 ≤ 2 ^ (get_or ls u no_line).partitions = pow_mono {j = (get_or ls u no_line).partitions} (g u (omega arith)).some in
          absurd (omega (arith, z, set_at ls u g (omega arith)))

  line_same : (i : ℕ) → i < length ls → i < length ms → get_or ls i no_line ≡ get_or ms i no_line
  line_same i h m =
      ap₂ (λ (n : List ℕ) (p : ℕ). record { name = n; partitions = p }) names
      (partitions-same (get_or ls i no_line).partitions (get_or ms i no_line).partitions
      (sym (set_at ls i g h) ∙ ap (λ (x : ℕ). partitions_in x i) sets ∙ set_at ms i k m))
    where
      names : (get_or ls i no_line).name ≡ (get_or ms i no_line).name
      names =
          padded-same 16 (get_or ls i no_line).name (get_or ms i no_line).name (no_zero (get_or ls i no_line) (g i h)) (no_zero (get_or ms i no_line) (k i m))
          (sym (held-field ls i g h) ∙ ap (λ (c : Catalogue). name_field c i) e ∙ held-field ms i k m)

lines_same : (ls ms : List TopicLine) → Good ls → Good ms → catalogue_of ls ≡ catalogue_of ms → ls ≡ ms
lines_same ls ms g k e =
    let a = no_longer ls ms g k e in
    let b = no_longer ms ls k g (sym e) in
    ext_get_or no_line ls ms (omega arith) (λ i h. line_same ls ms g k e i h (omega arith))

pub rendering-unique : (a b : List ℕ) (c : Catalogue) → Renders a c → Renders b c → a ≡ b
rendering-unique a b c r q =
    let e : catalogue_of r.lines ≡ catalogue_of q.lines =
    sym (r.held ∙ with-lines r.lines r.good r.few) ∙ q.held ∙ with-lines q.lines q.good q.few in
    r.written ∙ ap text_of (lines_same r.lines q.lines r.good q.good e) ∙ sym q.written
