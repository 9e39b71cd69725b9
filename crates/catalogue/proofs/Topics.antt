-- The catalogue of lines in closed form, and what it holds of each line.
use mathlib.Core.Path.{◌≡◌, refl, sym, ap, ap₂, ◌∙◌}
use mathlib.Core.Bool.{true≢false}
use mathlib.Core.List.{List, [], ◌∷◌, ◌++◌, append_assoc, append-nil}
use Prim.Native.Nat.{ℕ, zero, suc, ◌+◌, ◌-◌, ◌*◌, ◌/◌, ◌^◌, ◌≤◌, ◌<◌}
use native.Mathlib.Nat.{mul_assoc, mul_comm, div-div-eq-div-mul}
use native.Mathlib.Decide.{dec_lt}
use native.Mathlib.Omega.{arith}
use lib.ListN.{length, take, drop, get_or, replicate, length-append, replicate-append-replicate, get_or-append}
use lib.Seq.{take_at, drop_at, drop-drop, append_snoc, get_or-append_seam}
use Rattle.numbers.specs.Bytes.{overwrite}
use Rattle.numbers.specs.Padded.{until_zero, padded}
use Rattle.numbers.proofs.Padded.{length-padded, until-padded, drop-zeros}
use Rattle.catalogue.specs.declared.Catalogue.{Catalogue}
use Rattle.catalogue.specs.Catalogue.{name_field, topic_name, partitions_in, name_byte, blank, with_topic}
use Rattle.catalogue.specs.Format.{TopicLine, no_line, GoodLine, with_lines}
use Rattle.catalogue.proofs.Positions.{next-positions}
use Rattle.catalogue.proofs.Names.{ones-most}

abbrev pub zeros : ℕ → List ℕ
zeros n = replicate n 0

-- the names' fields, one after another
unfoldable pub fields_of : List TopicLine → List ℕ
fields_of [] = []
fields_of (l ∷ ls) = padded 16 l.name ++ fields_of ls

-- the positions: each line's partitions are eight binary digits, the first line's the lowest
unfoldable pub sets_of : List TopicLine → ℕ
sets_of [] = 0
sets_of (l ∷ ls) = (2 ^ l.partitions - 1) + 256 * sets_of ls

abbrev pub catalogue_of : List TopicLine → Catalogue
catalogue_of ls = record { names = fields_of ls ++ zeros (128 - 16 * length ls); all = sets_of ls }

-- every line is as the format has it
abbrev pub Good : List TopicLine → Type 0
Good ls = (i : ℕ) → i < length ls → GoodLine (get_or ls i no_line)

-- no two lines have one name
abbrev pub Different : List TopicLine → Type 0
Different ls = (i j : ℕ) → i < j → j < length ls → (get_or ls i no_line).name ≡ (get_or ls j no_line).name → ⊥

-- no byte of a name is zero
pub no_zero : (l : TopicLine) → GoodLine l → (i : ℕ) → i < length l.name → get_or l.name i 0 ≡ 0 → ⊥
unfolding name_byte
no_zero l g i h e = true≢false (sym (g.bytes i h) ∙ ap name_byte e)

good-tail : (l : TopicLine) (ls : List TopicLine) → Good (l ∷ ls) → Good ls
good-tail l ls g i h = g (suc i) (omega arith)

-- ---- the names' fields

fields-cons : (l : TopicLine) (ls : List TopicLine) → fields_of (l ∷ ls) ≡ padded 16 l.name ++ fields_of ls
unfolding fields_of
fields-cons l ls = refl

fields-length : (ls : List TopicLine) → Good ls → length (fields_of ls) ≡ 16 * length ls
fields-length [] g = unfold fields_of in refl
fields-length (l ∷ ls) g =
    rw (fields-cons l ls, length-append, length-padded 16 l.name (g 0 (omega arith)).short, fields-length ls (good-tail l ls g)) (omega arith)

fields_snoc : (ls : List TopicLine) (l : TopicLine) → fields_of (ls ++ (l ∷ [])) ≡ fields_of ls ++ padded 16 l.name
fields_snoc [] l = unfold fields_of in append-nil (padded 16 l.name)
fields_snoc (m ∷ ls) l = rw (fields-cons m (ls ++ (l ∷ [])), fields-cons m ls, fields_snoc ls l) (sym (append_assoc (padded 16 m.name) (fields_of ls) (padded 16 l.name)))

field_at : (ls : List TopicLine) (rest : List ℕ) (u : ℕ) → Good ls → u < length ls
    → take 16 (drop (16 * u) (fields_of ls ++ rest)) ≡ padded 16 (get_or ls u no_line).name
field_at [] rest u g h = absurd (omega arith)
field_at (l ∷ ls) rest zero g h =
    rw (fields-cons l ls, append_assoc (padded 16 l.name) (fields_of ls) rest)
    (take_at (padded 16 l.name) (fields_of ls ++ rest) 16 (length-padded 16 l.name (g 0 (omega arith)).short))
field_at (l ∷ ls) rest (suc u) g h =
    let e : 16 * suc u ≡ 16 + 16 * u = omega arith in
    rw (e, fields-cons l ls, append_assoc (padded 16 l.name) (fields_of ls) rest, ← drop-drop (16 * u) 16 (padded 16 l.name ++ (fields_of ls ++ rest)), drop_at (padded 16 l.name) (fields_of ls ++ rest) 16 (length-padded 16 l.name (g 0 (omega arith)).short))
    (field_at ls rest u (good-tail l ls g) (omega arith))

-- ---- the positions

sets-cons : (l : TopicLine) (ls : List TopicLine) → sets_of (l ∷ ls) ≡ (2 ^ l.partitions - 1) + 256 * sets_of ls
unfolding sets_of
sets-cons l ls = refl

set-most : (l : TopicLine) → GoodLine l → 2 ^ l.partitions - 1 ≤ 255
set-most l g = ones-most l.partitions g.few

pub sets_below : (ls : List TopicLine) → Good ls → sets_of ls < 2 ^ (8 * length ls)
sets_below [] g = unfold sets_of in omega arith
sets_below (l ∷ ls) g =
    omega (arith, sets-cons l ls, set-most l (g 0 (omega arith)), next-positions (length ls), sets_below ls (good-tail l ls g))

sets-snoc : (ls : List TopicLine) (l : TopicLine) → sets_of (ls ++ (l ∷ [])) ≡ sets_of ls + (2 ^ l.partitions - 1) * 2 ^ (8 * length ls)
sets-snoc [] l = unfold sets_of in omega arith
sets-snoc (m ∷ ls) l =
    let d = 2 ^ l.partitions - 1 in
    let e : d * 2 ^ (8 * suc (length ls)) ≡ 256 * (d * 2 ^ (8 * length ls)) =
    rw (next-positions (length ls), ← mul_assoc d 256 (2 ^ (8 * length ls)), mul_comm d 256, mul_assoc) refl in
    omega (arith, sets-cons m (ls ++ (l ∷ [])), sets-cons m ls, sets-snoc ls l)

pub set_at : (ls : List TopicLine) (u : ℕ) → Good ls → u < length ls → partitions_in (sets_of ls) u ≡ 2 ^ (get_or ls u no_line).partitions - 1
set_at [] u g h = absurd (omega arith)
set_at (l ∷ ls) zero g h = omega (arith, sets-cons l ls, set-most l (g 0 (omega arith)))
set_at (l ∷ ls) (suc u) g h =
    let q : sets_of (l ∷ ls) / 256 ≡ sets_of ls = omega (arith, sets-cons l ls, set-most l (g 0 (omega arith))) in
    rw (next-positions u, ← div-div-eq-div-mul (sets_of (l ∷ ls)) 256 (2 ^ (8 * u)), q) (set_at ls u (good-tail l ls g) (omega arith))

-- ---- one line more

pub length-snoc : (ls : List TopicLine) (l : TopicLine) → length (ls ++ (l ∷ [])) ≡ length ls + 1
length-snoc ls l = length-append ls (l ∷ [])

-- a name that is written over zeros has zeros behind it
overwrite-zeros : (f name : List ℕ) (n : ℕ) → length f ≡ 16 * n → n < 8 → length name ≤ 16
    → overwrite (f ++ zeros (128 - 16 * n)) (16 * n) name ≡ f ++ padded 16 name ++ zeros (128 - 16 * (n + 1))
unfolding overwrite
overwrite-zeros f name n e h k =
    let z = zeros (128 - 16 * n) in
    let m : 128 - 16 * n - length name ≡ 16 - length name + (128 - 16 * (n + 1)) = omega arith in
    rw (
      take_at f z (16 * n) e,
      ← drop-drop (length name) (16 * n) (f ++ z),
      drop_at f z (16 * n) e,
      drop-zeros (length name) (128 - 16 * n),
      m,
      ← replicate-append-replicate {A = ℕ} (16 - length name) (128 - 16 * (n + 1)) 0,
    )
    (simp append_assoc)

pub with-more : (ls : List TopicLine) (l : TopicLine) → Good ls → GoodLine l → length ls < 8
    → with_topic (catalogue_of ls) (length ls) l.name l.partitions ≡ catalogue_of (ls ++ (l ∷ []))
with-more ls l g k h =
    ap₂ (λ (n : List ℕ) (a : ℕ). record { names = n; all = a }) names (sym (sets-snoc ls l))
  where
    names : overwrite (fields_of ls ++ zeros (128 - 16 * length ls)) (16 * length ls) l.name ≡ fields_of (ls ++ (l ∷ [])) ++ zeros (128 - 16 * length (ls ++ (l ∷ [])))
    names = overwrite-zeros (fields_of ls) l.name (length ls) (fields-length ls g) h k.short ∙ rw (fields_snoc ls l, length-snoc ls l)

-- ---- what the catalogue of good lines holds

pub held-field : (ls : List TopicLine) (u : ℕ) → Good ls → u < length ls → name_field (catalogue_of ls) u ≡ padded 16 (get_or ls u no_line).name
held-field ls u g h = field_at ls (zeros (128 - 16 * length ls)) u g h

pub held-name : (ls : List TopicLine) (u : ℕ) → Good ls → u < length ls → topic_name (catalogue_of ls) u ≡ (get_or ls u no_line).name
held-name ls u g h =
    let l = get_or ls u no_line in
    ap until_zero (held-field ls u g h) ∙ until-padded l.name (16 - length l.name) (no_zero l (g u h))

pub good_left : (ls rest : List TopicLine) → Good (ls ++ rest) → Good ls
good_left ls rest g i h = rw (get_or-append ls rest no_line i h) at (g i (omega (arith, length-append ls rest)))

pub good-next : (ls : List TopicLine) (l : TopicLine) (rest : List TopicLine) → Good (ls ++ l ∷ rest) → GoodLine l
good-next ls l rest g = rw (get_or-append_seam ls l rest no_line) at (g (length ls) (omega (arith, length-append ls (l ∷ rest))))

pub good-snoc : (ls : List TopicLine) (l : TopicLine) → Good ls → GoodLine l → Good (ls ++ (l ∷ []))
good-snoc ls l g k i h = go (dec_lt i (length ls))
  where
    go : Dec (i < length ls) → GoodLine (get_or (ls ++ (l ∷ [])) i no_line)
    go (yes q) = rw (get_or-append ls (l ∷ []) no_line i q) (g i q)
    go (no q) = let e : i ≡ length ls = omega (arith, length-snoc ls l) in rw (e, get_or-append_seam ls l [] no_line) k

lines_cons : (c : Catalogue) (t : ℕ) (l : TopicLine) (ls : List TopicLine) → with_lines c t (l ∷ ls) ≡ with_lines (with_topic c t l.name l.partitions) (t + 1) ls
unfolding with_lines
lines_cons c t l ls = refl

with_rest : (rest ls : List TopicLine) → Good (ls ++ rest) → length ls + length rest ≤ 8 → with_lines (catalogue_of ls) (length ls) rest ≡ catalogue_of (ls ++ rest)
with_rest [] ls g h = unfold with_lines in rw (append-nil ls)
with_rest (l ∷ rest) ls g h =
    rw (
      lines_cons (catalogue_of ls) (length ls) l rest,
      with-more ls l (good_left ls (l ∷ rest) g) (good-next ls l rest g) (omega arith),
      ← length-snoc ls l,
      ← append_snoc ls l rest,
    )
    (with_rest rest (ls ++ (l ∷ [])) (rw (append_snoc ls l rest) g) (omega (arith, length-snoc ls l)))

pub catalogue-none : catalogue_of [] ≡ blank
unfolding fields_of sets_of
catalogue-none = refl

-- the catalogue of lines is as the format has it
pub with-lines : (ls : List TopicLine) → Good ls → length ls ≤ 8 → with_lines blank 0 ls ≡ catalogue_of ls
with-lines ls g h = ap (λ (c : Catalogue). with_lines c 0 ls) (sym catalogue-none) ∙ with_rest ls [] g (omega arith)
